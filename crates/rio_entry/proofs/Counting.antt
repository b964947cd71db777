-- The numbers of leaves, by which later leaves are counted.
use Rattle.std.proofs.Common.{◌≡◌, ℕ, zero, suc, ◌+◌, ◌<◌, List, [], ◌∷◌, ◌++◌, length, take, drop, Bool, true, false, cond, Option, Some, refl, sym, ap, ◌∙◌, slice_index_or, arith}
use Rattle.std.proofs.{lemmas.List.{append_assoc, drop-drop, drop_more, take_more}, lemmas.Slice.Eq.{bytes_eq-Decides}}
use Rattle.std.specs.{Prelude.{ℤ, unwrap_or}, Map.{lookup}, Option.{option_map}, Str.{bytes_eq}}
use Rattle.rio_leaf.specs.declared.{leaf.Dim.{Dim, TheVariants.{One, Fixed, Counted}}, leaf.Leaf.{Leaf}}
use Rattle.rio_format.specs.{Bodies.{Counters}, Accessors.{number_in}, declared.value.Value.{Value, out-Value}}
use Rattle.rio_entry.specs.Counting.{Places, counter_among, counter_at, counters_from, places_after}
use Rattle.rio_machine.specs.Entries.{given_count, said_count}
use Rattle.rio_entry.specs.Leaves.{numbers_after, numbers_with}

pub same_name : (name : List ℕ) → bytes_eq name name ≡ true
same_name name = (bytes_eq-Decides name name).1 refl

-- what is left at a place begins with what stands there
pub left_begins : {X : Type 0} (xs : List X) (k : ℕ) (x : X) → k < length xs → x ≡ slice_index_or xs k x → drop k xs ≡ x ∷ drop (k + 1) xs
left_begins xs k x lt e = drop_more xs k x lt ∙ ap (λ y. y ∷ drop (k + 1) xs) (sym e)

-- ---- which leaf counts another

-- the next leaf's counter is found
module _ (ls : List Leaf) (k : ℕ) (before : Places) (front : List (Option ℕ)) (total : List (Option ℕ)) (l : Leaf) (lt : k < length ls) (e : l ≡ slice_index_or ls k l) where
  pub counters_go_on : front ++ counters_from (drop k ls) k before ≡ total → (front ++ counter_among l.dim before ∷ []) ++ counters_from (drop (k + 1) ls) (k + 1) ((l.name, k) ∷ before) ≡ total
  counters_go_on so_far =
      let leaf : drop k ls ≡ l ∷ drop (k + 1) ls = left_begins ls k l lt e in
      let one : counters_from (drop k ls) k before ≡ counter_among l.dim before ∷ counters_from (drop (k + 1) ls) (k + 1) ((l.name, k) ∷ before) = rw leaf refl in
      append_assoc front (counter_among l.dim before ∷ []) (counters_from (drop (k + 1) ls) (k + 1) ((l.name, k) ∷ before))
      ∙ ap (λ (cs : List (Option ℕ)). front ++ cs) (sym one)
      ∙ so_far

-- the counter of each leaf is that of its name among the leaves before
counter_there_from : (ls : List Leaf) (k j : ℕ) (before : Places) (l : Leaf) → k < length ls → l ≡ slice_index_or ls k l → counter_at (counters_from ls j before) k ≡ counter_among l.dim (places_after (take k ls) j before)
counter_there_from [] k j before l lt e = absurd (omega (arith, lt))
counter_there_from (x ∷ ls) zero j before l lt e = ap (λ (z : Leaf). counter_among z.dim before) (sym e)
counter_there_from (x ∷ ls) (suc k) j before l lt e = counter_there_from ls k (j + 1) ((x.name, j) ∷ before) l (omega (arith, lt)) e

pub counter_there : (ls : List Leaf) (k : ℕ) (l : Leaf) → k < length ls → l ≡ slice_index_or ls k l → counter_at (counters_from ls 0 []) k ≡ counter_among l.dim (places_after (take k ls) 0 [])
counter_there ls k l lt e = counter_there_from ls k 0 [] l lt e

-- ---- what it says

module _ (all : List Value) where
  abbrev pub number_there : ℕ → ℤ
  number_there i = given_count (drop i all)

  picked : (b : Bool) (n : ℤ) (j : ℕ) (o : Option ℤ) (p : Option ℕ) → n ≡ number_there j → o ≡ option_map number_there p → cond b (Some n) o ≡ option_map number_there (cond b (Some j) p)
  picked true n j o p e f = ap (λ (m : ℤ). let r : Option ℤ = Some m in r) e
  picked false n j o p e f = f

  numbered : (name : List ℕ) (ls : List Leaf) (vs : List Value) (j : ℕ) (own : Counters) (before : Places) → length ls ≡ length vs → vs ≡ drop j all → lookup (bytes_eq name) own ≡ option_map number_there (lookup (bytes_eq name) before)
      → lookup (bytes_eq name) (numbers_after ls vs own) ≡ option_map number_there (lookup (bytes_eq name) (places_after ls j before))
  numbered name [] vs j own before len e so_far = so_far
  numbered name (l ∷ ls) [] j own before len e so_far = absurd (omega (arith, len))
  numbered name (l ∷ ls) (v ∷ vs) j own before len e so_far =
      let n = number_in (out-Value v) in
      let rest : vs ≡ drop (j + 1) all = ap (λ (ws : List Value). drop 1 ws) e ∙ drop-drop 1 j all in
      let one = picked (bytes_eq name l.name) n j (lookup (bytes_eq name) own) (lookup (bytes_eq name) before) (ap given_count e) so_far in
      numbered name ls vs (j + 1) (numbers_with l v own) ((l.name, j) ∷ before) (omega (arith, len)) rest one

  -- the number of the leaf that counts, or the given count
  pub counted_is : (dim : Dim) (ls : List Leaf) (given : ℤ) → length ls ≡ length all → unwrap_or (option_map number_there (counter_among dim (places_after ls 0 []))) given ≡ said_count dim given (numbers_after ls all [])
  counted_is (Counted counter times) ls given len = ap (λ (o : Option ℤ). unwrap_or o given) (sym (numbered counter ls all 0 [] [] len refl refl))
  counted_is One ls given len = refl
  counted_is (Fixed n) ls given len = refl

-- ---- one leaf more

pub numbers_push : (ls : List Leaf) (vs : List Value) (l : Leaf) (v : Value) (own : Counters) → length ls ≡ length vs → numbers_after (ls ++ l ∷ []) (vs ++ v ∷ []) own ≡ numbers_with l v (numbers_after ls vs own)
numbers_push [] [] l v own e = refl
numbers_push [] (w ∷ vs) l v own e = absurd (omega (arith, e))
numbers_push (k ∷ ls) [] l v own e = absurd (omega (arith, e))
numbers_push (k ∷ ls) (w ∷ vs) l v own e = numbers_push ls vs l v (numbers_with k w own) (omega (arith, e))

pub numbers_more : (ls : List Leaf) (vs : List Value) (k : ℕ) (l : Leaf) (v : Value) → k < length ls → l ≡ slice_index_or ls k l → length (take k ls) ≡ length vs → numbers_after (take (k + 1) ls) (vs ++ v ∷ []) [] ≡ numbers_with l v (numbers_after (take k ls) vs [])
numbers_more ls vs k l v lt e same =
    let more : take (k + 1) ls ≡ take k ls ++ l ∷ [] = take_more ls k l lt ∙ ap (λ (z : Leaf). take k ls ++ z ∷ []) (sym e) in
    ap (λ (front : List Leaf). numbers_after front (vs ++ v ∷ []) []) more ∙ numbers_push (take k ls) vs l v [] same

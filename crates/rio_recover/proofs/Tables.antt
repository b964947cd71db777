-- Names and cycles in a key table.
use Rattle.std.proofs.Common.{◌≡◌, ◌∙◌, ℕ, List, [], ◌∷◌, ◌++◌, Bool, true, false, cond, not, ◌&&◌, ◌||◌, ◌==◌, ltb, max, Some, refl, sym, ap, arith}
use Rattle.std.proofs.{lemmas.Bool.{and_parts, eqb-true, Decides.{nat_tests}}, lemmas.Slice.Eq.{bytes_eq-Decides}}
use Rattle.std.proofs.lemmas.List.Sorted.{IsPermutation-cons, IsPermutation-middle, IsPermutation-refl, IsPermutation-trans}
use Rattle.std.specs.{List.{find, list_any, Sorted.{IsPermutation}}, Option.{is_some}, Str.{bytes_eq}}
use Rattle.rio_key.specs.declared.head.KeyHead.{KeyHead}
use Rattle.rio_dir.specs.Table.{greatest_cycle, is_at_cycle, is_before, is_of_name, with_head}
use Rattle.rio_machine.specs.State.{NameAndCycle}
use Rattle.rio_state.specs.KeyedRecords.{item_of_key}

-- ---- truth values

pub or_swapped : (a b c : Bool) → (a || (b || c)) ≡ (b || (a || c))
or_swapped true true c = refl
or_swapped true false c = refl
or_swapped false b c = refl

pub or_twice : (a c : Bool) → (a || (a || c)) ≡ (a || c)
or_twice true c = refl
or_twice false c = refl

pub any_same : {X : Type 0} (p q : X → Bool) → ((x : X) → p x ≡ q x) → (xs : List X) → list_any p xs ≡ list_any q xs
any_same p q e [] = refl
any_same p q e (x ∷ xs) = λ i. e x i || any_same p q e xs i

pub any-append : {X : Type 0} (p : X → Bool) (xs ys : List X) → list_any p (xs ++ ys) ≡ (list_any p xs || list_any p ys)
any-append p [] ys = refl
any-append p (x ∷ xs) ys = ap (λ (b : Bool). p x || b) (any-append p xs ys) ∙ or_in (p x) (list_any p xs) (list_any p ys)
  where
    or_in : (a b c : Bool) → (a || (b || c)) ≡ ((a || b) || c)
    or_in true b c = refl
    or_in false b c = refl

pub some_found : {X : Type 0} (p : X → Bool) (xs : List X) → is_some (find p xs) ≡ list_any p xs
some_found p [] = refl
some_found p (x ∷ xs) = by (p x) (some_found p xs)
  where
    by : (b : Bool) → is_some (find p xs) ≡ list_any p xs → is_some (cond b (Some x) (find p xs)) ≡ (b || list_any p xs)
    by true e = refl
    by false e = e

-- ---- one head more

any_with_by : (p : KeyHead → Bool) (h k : KeyHead) (ks more : List KeyHead) (b : Bool) → list_any p more ≡ (p h || list_any p ks)
    → list_any p (cond b (k ∷ more) (h ∷ k ∷ ks)) ≡ (p h || (p k || list_any p ks))
any_with_by p h k ks more true e = ap (λ (x : Bool). p k || x) e ∙ or_swapped (p k) (p h) (list_any p ks)
any_with_by p h k ks more false e = refl

pub any_with : (p : KeyHead → Bool) (h : KeyHead) (hs : List KeyHead) → list_any p (with_head h hs) ≡ (p h || list_any p hs)
any_with p h [] = refl
any_with p h (k ∷ ks) = any_with_by p h k ks (with_head h ks) (is_before h.name h.cycle k) (any_with p h ks)

with_moved_by : (h k : KeyHead) (ks more : List KeyHead) (b : Bool) → IsPermutation (h ∷ ks) more → IsPermutation (h ∷ k ∷ ks) (cond b (k ∷ more) (h ∷ k ∷ ks))
with_moved_by h k ks more true e =
    IsPermutation-trans (h ∷ k ∷ ks) (k ∷ h ∷ ks) (k ∷ more) (IsPermutation-middle (h ∷ []) k ks) (IsPermutation-cons k (h ∷ ks) more e)
with_moved_by h k ks more false e = IsPermutation-refl (h ∷ k ∷ ks)

pub with_moved : (h : KeyHead) (hs : List KeyHead) → IsPermutation (h ∷ hs) (with_head h hs)
with_moved h [] = IsPermutation-refl (h ∷ [])
with_moved h (k ∷ ks) = with_moved_by h k ks (with_head h ks) (is_before h.name h.cycle k) (with_moved h ks)

-- ---- names and cycles

same_item : (name : List ℕ) (cycle : ℕ) (k : KeyHead) → is_at_cycle name cycle k ≡ true → item_of_key k ≡ (name, cycle)
same_item name cycle k e =
    let x = and_parts (bytes_eq k.name name) (k.cycle == cycle) e in
    let n : k.name ≡ name = (bytes_eq-Decides k.name name).0 x.0 in
    let c : k.cycle ≡ cycle = eqb-true k.cycle cycle x.1 in
    λ i. (n i, c i)

module _ (test : NameAndCycle → Bool) (name : List ℕ) (cycle : ℕ) where
  abbrev pub tested : List KeyHead → Bool
  tested hs = list_any (λ h. test (item_of_key h)) hs

  there_by : (k : KeyHead) (ks : List KeyHead) (b : Bool) → is_at_cycle name cycle k ≡ b
      → (is_some (find (is_at_cycle name cycle) ks) ≡ true → tested ks ≡ (test (name, cycle) || tested ks))
      → is_some (cond b (Some k) (find (is_at_cycle name cycle) ks)) ≡ true → (test (item_of_key k) || tested ks) ≡ (test (name, cycle) || (test (item_of_key k) || tested ks))
  there_by k ks true is rest e =
      let same : test (item_of_key k) ≡ test (name, cycle) = ap test (same_item name cycle k is) in
      ap (λ (b : Bool). b || tested ks) same ∙ sym (or_twice (test (name, cycle)) (tested ks)) ∙ ap (λ (b : Bool). test (name, cycle) || (b || tested ks)) (sym same)
  there_by k ks false is rest e =
      ap (λ (b : Bool). test (item_of_key k) || b) (rest e) ∙ or_swapped (test (item_of_key k)) (test (name, cycle)) (tested ks)

  -- a test that holds of a name and cycle is met where they are there
  pub there : (hs : List KeyHead) → is_some (find (is_at_cycle name cycle) hs) ≡ true → tested hs ≡ (test (name, cycle) || tested hs)
  there [] e = absurd cc
  there (k ∷ ks) e = there_by k ks (is_at_cycle name cycle k) refl (there ks) e

put_by : (test : NameAndCycle → Bool) (h : KeyHead) (hs : List KeyHead) (found : Bool) → is_some (find (is_at_cycle h.name h.cycle) hs) ≡ found
    → list_any (λ k. test (item_of_key k)) (cond (not found) (with_head h hs) hs) ≡ (test (item_of_key h) || list_any (λ k. test (item_of_key k)) hs)
put_by test h hs true e = there test h.name h.cycle hs e
put_by test h hs false e = any_with (λ k. test (item_of_key k)) h hs

-- the table with one head more, unless its name and cycle are there
pub any_put : (test : NameAndCycle → Bool) (h : KeyHead) (old new : List KeyHead) (put : Bool) → put ≡ not (is_some (find (is_at_cycle h.name h.cycle) old))
    → new ≡ cond put (with_head h old) old → list_any (λ k. test (item_of_key k)) new ≡ (test (item_of_key h) || list_any (λ k. test (item_of_key k)) old)
any_put test h old new put told is =
    ap (list_any (λ k. test (item_of_key k))) (is ∙ ap (λ (b : Bool). cond b (with_head h old) old) told)
    ∙ put_by test h old (is_some (find (is_at_cycle h.name h.cycle) old)) refl

-- ---- the greatest cycle

greatest_by : (c k g : ℕ) (rest b : Bool) → ltb c g ≡ rest → ltb c (cond b (max k g) g) ≡ ((b && ltb c k) || rest)
greatest_by c k g rest true e = max_above c k g ∙ ap (λ (x : Bool). ltb c k || x) e
  where
    max_above : (c k g : ℕ) → ltb c (max k g) ≡ (ltb c k || ltb c g)
    max_above c k g = grind (arith, nat_tests)
greatest_by c k g rest false e = e

pub greatest_above : (name : List ℕ) (c : ℕ) (hs : List KeyHead) → ltb c (greatest_cycle name hs) ≡ list_any (λ h. bytes_eq h.name name && ltb c h.cycle) hs
greatest_above name c [] = grind (arith, nat_tests)
greatest_above name c (h ∷ hs) = greatest_by c h.cycle (greatest_cycle name hs) (list_any (λ k. bytes_eq k.name name && ltb c k.cycle) hs) (is_of_name name h) (greatest_above name c hs)

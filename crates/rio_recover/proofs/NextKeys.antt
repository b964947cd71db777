-- The key of an object or a tree that is checked next, among those of the file.
use Rattle.std.proofs.Common.{◌≡◌, ◌∙◌, inl, inr, ℕ, zero, suc, ◌+◌, ◌<◌, ◌≤◌, List, [], ◌∷◌, ◌++◌, append-nil, take, drop, Bool, true, false, cond, not, ◌&&◌, ltb, refl, sym, ap, subst, arith}
use Rattle.std.proofs.lemmas.{Bool.{and_from, and_parts, le-ltb, lt-ltb, not-true}, List.{take-append-drop, Elements.{All-contains_itself, All-weaker, Contains-append_left, filter-append}}}
use Rattle.std.specs.{List.{All, Contains, filter, list_all}}
use Rattle.rio_key.specs.declared.head.KeyHead.{KeyHead}
use Rattle.rio_state.specs.{KeyedRecords.{KeyedRecord, is_top_key, is_tree_record, top_keys, tree_records}, Reasons.{Beside}, Trees.{records_before}}
use Rattle.rio_state.proofs.Members.{In, contains_in, in_filter, in_right}
use Rattle.rio_recover.specs.{Checks.{IsNext, beside_of, header_records}, Keys.{HeadsRise, record_heads}, declared.classes.ListedClasses.{ListedClasses}}
use Rattle.rio_recover.proofs.Numbered.{RecordAtIndex}

-- ---- tests of filtered lists

all_filtered : {X : Type 0} (p q : X → Bool) (xs : List X) → list_all p xs ≡ true → list_all p (filter q xs) ≡ true
all_filtered p q [] all = refl
all_filtered p q (x ∷ xs) all = let parts = and_parts (p x) (list_all p xs) all in by (q x) parts.0 (all_filtered p q xs parts.1)
  where
    by : (b : Bool) → p x ≡ true → list_all p (filter q xs) ≡ true → list_all p (cond b (x ∷ filter q xs) (filter q xs)) ≡ true
    by true here rest = and_from _ _ here rest
    by false here rest = rest

all_kept : {X : Type 0} (p : X → Bool) (xs : List X) → list_all p xs ≡ true → filter p xs ≡ xs
all_kept p [] all = refl
all_kept p (x ∷ xs) all =
    let parts = and_parts (p x) (list_all p xs) all in
    λ i. cond (parts.0 i) (x ∷ all_kept p xs parts.1 i) (all_kept p xs parts.1 i)

none_kept : {X : Type 0} (p : X → Bool) (xs : List X) → list_all (λ x. not (p x)) xs ≡ true → filter p xs ≡ []
none_kept p [] all = refl
none_kept p (x ∷ xs) all =
    let parts = and_parts (not (p x)) (list_all (λ y. not (p y)) xs) all in
    ap (λ (b : Bool). cond b (x ∷ filter p xs) (filter p xs)) (not-true (p x) parts.0) ∙ none_kept p xs parts.1

-- ---- places that rise

abbrev is_lower : KeyedRecord → KeyedRecord → Bool
is_lower r s = ltb s.head.seek r.head.seek

later_place : (p k : ℕ) (rs rest : List KeyedRecord) (r : KeyedRecord) → HeadsRise p (record_heads rs) → drop k rs ≡ r ∷ rest → p ≤ r.head.seek
later_place p k [] rest r rise e = absurd (by k e)
  where
    by : (n : ℕ) → drop n [] ≡ r ∷ rest → ⊥
    by zero e = cc
    by (suc n) e = cc
later_place p zero (s ∷ rs) rest r rise e =
    let same : s ≡ r = cc in let at : s.head.seek ≡ r.head.seek = ap (λ (x : KeyedRecord). x.head.seek) same in omega (arith, at, rise.0)
later_place p (suc k) (s ∷ rs) rest r rise e = omega (arith, later_place (s.head.seek + 1) k rs rest r rise.1 e, rise.0)

none_lower : (p : ℕ) (rs : List KeyedRecord) (r : KeyedRecord) → r.head.seek ≤ p → HeadsRise p (record_heads rs) → list_all (λ s. not (is_lower r s)) rs ≡ true
none_lower p [] r le rise = refl
none_lower p (s ∷ rs) r le rise =
    and_from _ _ (ap not (le-ltb s.head.seek r.head.seek (omega (arith, le, rise.0)))) (none_lower (s.head.seek + 1) rs r (omega (arith, le, rise.0)) rise.1)

lower_before : (p k : ℕ) (rs rest : List KeyedRecord) (r : KeyedRecord) → HeadsRise p (record_heads rs) → drop k rs ≡ r ∷ rest
    → (list_all (is_lower r) (take k rs) ≡ true) × (list_all (λ s. not (is_lower r s)) (drop k rs) ≡ true)
lower_before p zero rs rest r rise e =
    (refl, subst (λ (ss : List KeyedRecord). list_all (λ s. not (is_lower r s)) ss ≡ true) (sym e) (first (subst (λ (ss : List KeyedRecord). HeadsRise p (record_heads ss)) e rise)))
  where
    first : HeadsRise p (record_heads (r ∷ rest)) → list_all (λ s. not (is_lower r s)) (r ∷ rest) ≡ true
    first up = and_from _ _ (ap not (le-ltb r.head.seek r.head.seek (omega arith))) (none_lower (r.head.seek + 1) rest r (omega arith) up.1)
lower_before p (suc k) [] rest r rise e = absurd cc
lower_before p (suc k) (s ∷ rs) rest r rise e =
    let far = later_place (s.head.seek + 1) k rs rest r rise.1 e in
    let more = lower_before (s.head.seek + 1) k rs rest r rise.1 e in
    (and_from _ _ (lt-ltb s.head.seek r.head.seek (omega (arith, far))) more.0, more.1)

-- ---- the next key

module _ (file : List ℕ) (classes : ListedClasses) (records : List KeyedRecord) (k : ℕ) (head : KeyHead) (r : RecordAtIndex file records k head) (rise : HeadsRise 0 (record_heads records)) where
  abbrev trees_in : List KeyedRecord → List KeyedRecord
  trees_in rs = header_records (top_keys records) (top_keys rs)

  parted : take k records ++ drop k records ≡ records
  parted = take-append-drop k records

  both : trees_in records ≡ trees_in (take k records) ++ trees_in (drop k records)
  both =
      ap trees_in (sym parted)
      ∙ ap (header_records (top_keys records)) (filter-append (λ s. is_top_key s.head) (take k records) (drop k records))
      ∙ filter-append (is_tree_record (top_keys records)) (top_keys (take k records)) (top_keys (drop k records))

  earlier : records_before (tree_records (top_keys records)) r.item ≡ trees_in (take k records)
  earlier =
      let low = lower_before 0 k records (drop (k + 1) records) r.item rise r.behind in
      let is_tree = is_tree_record (top_keys records) in
      let front = all_filtered (is_lower r.item) is_tree (top_keys (take k records)) (all_filtered (is_lower r.item) (λ s. is_top_key s.head) (take k records) low.0) in
      let back = all_filtered (λ s. not (is_lower r.item s)) is_tree (top_keys (drop k records)) (all_filtered (λ s. not (is_lower r.item s)) (λ s. is_top_key s.head) (drop k records) low.1) in
      ap (filter (is_lower r.item)) both
      ∙ filter-append (is_lower r.item) (trees_in (take k records)) (trees_in (drop k records))
      ∙ (λ i. all_kept (is_lower r.item) (trees_in (take k records)) front i ++ none_kept (is_lower r.item) (trees_in (drop k records)) back i)
      ∙ append-nil (trees_in (take k records))

  among : In r.item records
  among = subst (In r.item) parted (in_right r.item (take k records) (drop k records) (subst (In r.item) (sym r.behind) (inl refl)))

  pub next_key : is_top_key head ≡ true → IsNext (beside_of classes records) (top_keys (take k records)) r.item
  next_key top = record {
    top = contains_in r.item (top_keys records) (in_filter (λ s. is_top_key s.head) r.item records among (ap is_top_key r.head_is ∙ top));
    others =
        subst (λ (xs : List KeyedRecord). All (Contains xs) (top_keys (take k records)))
        (sym (filter-append (λ s. is_top_key s.head) (take k records) (drop k records)) ∙ ap top_keys parted)
        (All-weaker (Contains (top_keys (take k records))) (Contains (top_keys (take k records) ++ top_keys (drop k records)))
        (λ x c. Contains-append_left (top_keys (take k records)) (top_keys (drop k records)) x c) (top_keys (take k records)) (All-contains_itself (top_keys (take k records))));
    earlier = earlier;
  }

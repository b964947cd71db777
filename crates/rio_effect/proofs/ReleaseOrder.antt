-- The records that stand at some places are released in the order in which they stand.
use Rattle.std.proofs.Common.{◌≡◌, ◌⊎◌, ◌↔◌, inl, inr, ℕ, suc, ◌+◌, ◌<◌, ◌≤◌, ◌∙◌, List, [], ◌∷◌, map, Bool, true, ◌==◌, Option, refl, sym, ap, subst, arith}
use Rattle.std.proofs.lemmas.{Bool.{eq-eqb, eqb-true}, Simd.{map-map}}
use Rattle.std.specs.{Prelude.{slice_index}, List.{Contains, filter, list_any, Sorted.{IsStrictlyIncreasing}}, Option.{option_map_or}}
use Rattle.rio_chain.specs.Segments.{IsChain, Link}
use Rattle.rio_tree.specs.declared.head.TreeHead.{TreeHead}
use Rattle.rio_state.specs.KeyedRecords.{KeyedRecord, begins_at, keyed_records}
use Rattle.rio_state.proofs.Members.{In, any_from, contains_in, filter_in, in_contained, in_filter, in_map, map_in, passing}
use Rattle.rio_state.proofs.Places.{AreRising, records_rise, rising_filter}
use Rattle.rio_effect.specs.{Changes.{Change, released}, Garbage.{releases}, TreeChanges.{changes_without_tree, places_of_baskets, releases_at}}
use Rattle.rio_effect.specs.TreeDeletes.{TreeDeleteChanges}

-- ---- places that rise

-- each from this place on behind the one before
abbrev Rise : ℕ → List ℕ → Type 0
Rise p [] = Unit {0}
Rise p (q ∷ qs) = (p ≤ q) × Rise (q + 1) qs

places_rise : (p : ℕ) (rs : List KeyedRecord) → AreRising p rs → Rise p (map (λ r. r.head.seek) rs)
places_rise p [] rise = tt
places_rise p (r ∷ rs) rise = (rise.0, places_rise (r.head.seek + 1) rs rise.1)

rise_late : (p : ℕ) (qs : List ℕ) → Rise p qs → (q : ℕ) → In q qs → p ≤ q
rise_late p [] rise q i = absurd i
rise_late p (x ∷ xs) rise q (inl same) = omega (arith, rise.0, same)
rise_late p (x ∷ xs) rise q (inr i) = omega (arith, rise.0, rise_late (x + 1) xs rise.1 q i)

behind_first : (x : ℕ) (xs : List ℕ) → IsStrictlyIncreasing (x ∷ xs) → Rise (x + 1) xs
behind_first x [] rise = tt
behind_first x (y ∷ ys) rise = (
  omega (arith, rise 0 (omega arith)),
  behind_first y ys (λ k low.
      let one : suc k + 1 ≡ suc (k + 1) = omega arith in
      subst (λ (n : ℕ). slice_index (x ∷ y ∷ ys) (suc k) < slice_index (x ∷ y ∷ ys) n) one (rise (suc k) (omega (arith, low)))),
)

increasing_rise : (xs : List ℕ) → IsStrictlyIncreasing xs → Rise 0 xs
increasing_rise [] rise = tt
increasing_rise (x ∷ xs) rise = (omega arith, behind_first x xs rise)

-- two lists of the same places that rise are one
same_rise : (p : ℕ) (xs ys : List ℕ) → Rise p xs → Rise p ys → ((q : ℕ) → In q xs → In q ys) → ((q : ℕ) → In q ys → In q xs) → xs ≡ ys
same_rise p [] [] one two there back = refl
same_rise p [] (y ∷ ys) one two there back = absurd (back y (inl refl))
same_rise p (x ∷ xs) [] one two there back = absurd (there x (inl refl))
same_rise p (x ∷ xs) (y ∷ ys) one two there back =
    let first : x ≡ y = firsts (there x (inl refl)) (back y (inl refl)) in
    let rest = same_rise (x + 1) xs ys one.1 (subst (λ (n : ℕ). Rise (n + 1) ys) (sym first) two.1)
    (λ q i. behind q y ys (omega (arith, rise_late (x + 1) xs one.1 q i, first)) (there q (inr i)))
    (λ q i. behind q x xs (omega (arith, rise_late (y + 1) ys two.1 q i, first)) (back q (inr i))) in
    λ i. first i ∷ rest i
  where
    firsts : (y ≡ x) ⊎ In x ys → (x ≡ y) ⊎ In y xs → x ≡ y
    firsts (inl same) other = sym same
    firsts (inr i) (inl same) = same
    firsts (inr i) (inr j) = let one_late = rise_late (x + 1) xs one.1 y j in let two_late = rise_late (y + 1) ys two.1 x i in absurd (omega (arith, one_late, two_late))

    behind : (q z : ℕ) (zs : List ℕ) → z < q → (z ≡ q) ⊎ In q zs → In q zs
    behind q z zs late (inl same) = absurd (omega (arith, late, same))
    behind q z zs late (inr i) = i

-- ---- releases

module _ (file : List ℕ) (links : List Link) (wanted places : List ℕ) (chain : IsChain links file) (rise : IsStrictlyIncreasing places)
    (same : (p : ℕ) → Contains places p ↔ Contains wanted p) (there : (p : ℕ) → Contains places p → begins_at (keyed_records links) p ≡ true) where
  abbrev is_wanted : KeyedRecord → Bool
  is_wanted r = list_any (λ p. p == r.head.seek) wanted

  abbrev found : List KeyedRecord
  found = filter is_wanted (keyed_records links)

  abbrev seeks : List ℕ
  seeks = map (λ r. r.head.seek) found

  seeks_rise : Rise 0 seeks
  seeks_rise = earlier seeks (places_rise 100 found (rising_filter is_wanted 100 (keyed_records links) (records_rise file 100 links chain.links_are)))
    where
      earlier : (xs : List ℕ) → Rise 100 xs → Rise 0 xs
      earlier [] rise = tt
      earlier (x ∷ xs) rise = (omega arith, rise.1)

  to : (q : ℕ) → In q seeks → In q places
  to q i =
      let from = map_in (λ (r : KeyedRecord). r.head.seek) q found i in
      let is = passing (λ p. p == from.0.head.seek) wanted (filter_in is_wanted from.0 (keyed_records links) from.1).1 in
      in_contained q places ((same q).1 (contains_in q wanted (subst (λ (n : ℕ). In n wanted) (eqb-true is.x from.0.head.seek is.passes ∙ from.2) is.among)))

  back : (q : ℕ) → In q places → In q seeks
  back q i =
      let c = contains_in q places i in
      let r = passing (λ s. s.head.seek == q) (keyed_records links) (there q c) in
      let seek = eqb-true r.x.head.seek q r.passes in
      let want = any_from (λ p. p == r.x.head.seek) q wanted (in_contained q wanted ((same q).0 c)) (eq-eqb q r.x.head.seek (sym seek)) in
      subst (λ (n : ℕ). In n seeks) seek (in_map (λ (s : KeyedRecord). s.head.seek) r.x found (in_filter is_wanted r.x (keyed_records links) r.among want))

  releases_in_order : releases_at links wanted ≡ releases places
  releases_in_order = sym (map-map released (λ (r : KeyedRecord). r.head.seek) found) ∙ ap (map released) (same_rise 0 seeks places seeks_rise (increasing_rise places rise) to back)

pub tree_delete_changes : TreeDeleteChanges
tree_delete_changes file now heads name cycle places x rise same there =
    ap (λ (o : Option KeyedRecord). option_map_or (changes_without_tree now name) o []) x.counts
    ∙ ap (λ (o : Option TreeHead). released x.r.head.seek ∷ option_map_or (λ head. releases_at now.links (places_of_baskets now name head)) o []) x.has.header
    ∙ ap (λ (cs : List Change). released x.r.head.seek ∷ cs) (releases_in_order file now.links (places_of_baskets now name x.head) places x.has.record_is.chain rise same there)

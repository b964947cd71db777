-- The records that nothing refers to, by their keys and by the trees.
use Rattle.std.proofs.Common.{◌≡◌, ◌∙◌, ℕ, ◌+◌, ◌<◌, ◌≤◌, List, [], ◌∷◌, ◌++◌, append-nil, length, take, get_or, map, Bool, true, false, cond, not, ◌&&◌, ◌||◌, ◌==◌, ltb, Option, Some, None, refl, sym, ap}
use Rattle.std.proofs.lemmas.Bool.{ne_eqb}
use Rattle.std.proofs.lemmas.List.{map-append, take_all, take_more, Elements.{filter-append}, Sorted.{list_any-IsPermutation}}
use Rattle.std.specs.{List.{cons_option, filter, flat_map, list_any, Sorted.{IsPermutation}}, Option.{option_map, option_map_or}, Str.{bytes_eq}}
use Rattle.rio_key.specs.declared.head.KeyHead.{KeyHead}
use Rattle.rio_tree.specs.declared.head.TreeHead.{TreeHead}
use Rattle.rio_state.specs.{Contents.{FileClasses, file_classes}, KeyedRecords.{KeyedRecord, first_place, info_key, is_outdated, is_top_key, is_tree_key, is_tree_record, top_keys, tree_records}, Reads.{info_place}, Left.{info_head}}
use Rattle.rio_state.specs.{Referred.{is_item_record, is_referred}, Trees.{all_places_named, basket_places, header_in, places_named}}
use Rattle.rio_recover.specs.{Checks.{is_item_key}, Keys.{keyed, keyed_by, record_heads}, Recovered.{garbage_of, is_left_over, place_in, places_left}, Trees.{places_of, tree_at, trees_at}, declared.trees.TreeAt.{TreeAt}}
use Rattle.rio_recover.specs.{Baskets.{HasPlaces}, Names.{IndexesNames}, declared.judge.KeyCheck.{KeyCheck}}
use Rattle.rio_recover.proofs.{Keyed.{any_keyed, keyed_again, top_keyed}, TreesChecked.{any_flat}}

-- ---- baskets

-- the places that headers name are those of their trees' baskets
pub places_are : (classes : FileClasses) (headers : List KeyedRecord) → all_places_named classes headers ≡ places_of (trees_at classes headers)
unfolding places_named
places_are classes [] = refl
places_are classes (r ∷ rs) = by (header_in classes r) (places_are classes rs)
  where
    by : (o : Option TreeHead) → all_places_named classes rs ≡ places_of (trees_at classes rs)
        → option_map_or basket_places o [] ++ all_places_named classes rs ≡ places_of (cons_option (option_map (λ (head : TreeHead). let t : TreeAt = record { name = r.head.name; head = head } in t) o) (trees_at classes rs))
    by None e = e
    by (Some head) e = ap (λ (ps : List ℕ). basket_places head ++ ps) e

pub named_any : (classes : FileClasses) (headers : List KeyedRecord) (trees : List TreeAt) (place : ℕ) → IsPermutation (trees_at classes headers) trees
    → list_any (λ p. p == place) (all_places_named classes headers) ≡ list_any (λ p. p == place) (places_of trees)
named_any classes headers trees place moved =
    ap (list_any (λ p. p == place)) (places_are classes headers)
    ∙ any_flat (λ p. p == place) (λ (t : TreeAt). basket_places t.head) (trees_at classes headers)
    ∙ list_any-IsPermutation (λ (t : TreeAt). list_any (λ p. p == place) (basket_places t.head)) (trees_at classes headers) trees moved
    ∙ sym (any_flat (λ p. p == place) (λ (t : TreeAt). basket_places t.head) trees)

-- ---- items

pub outdated_keyed : (tops : List KeyedRecord) (r : KeyedRecord) → is_outdated (keyed_again tops) (keyed r.head) ≡ is_outdated tops r
outdated_keyed tops r = any_keyed (λ h. is_tree_key h && bytes_eq h.name r.head.name && ltb r.head.cycle h.cycle) tops

pub item_keyed : (tops : List KeyedRecord) (r : KeyedRecord) → is_item_record tops r ≡ (is_top_key r.head && is_item_key (keyed_again tops) r.head)
item_keyed tops r =
    ap (λ (b : Bool). is_top_key r.head && b) (tested (is_tree_key r.head) (is_outdated tops r) ∙ ap (λ (b : Bool). not (is_tree_key r.head) || not b) (sym (outdated_keyed tops r)))
  where
    tested : (tree out : Bool) → (not tree || (tree && not out)) ≡ (not tree || not out)
    tested true out = refl
    tested false out = refl

-- ---- what is left over

kept_by : (r : KeyedRecord) (xs : List KeyedRecord) (ys : List KeyHead) (b : Bool) → map (λ s. s.head.seek) xs ≡ map (λ k. k.seek) ys
    → map (λ s. s.head.seek) (cond b (r ∷ xs) xs) ≡ map (λ k. k.seek) (cond b (r.head ∷ ys) ys)
kept_by r xs ys true e = ap (λ (ps : List ℕ). r.head.seek ∷ ps) e
kept_by r xs ys false e = e

left_same : (p : KeyedRecord → Bool) (q : KeyHead → Bool) → ((r : KeyedRecord) → p r ≡ q r.head) → (rs : List KeyedRecord) → map (λ r. r.head.seek) (filter p rs) ≡ map (λ h. h.seek) (filter q (record_heads rs))
left_same p q same [] = refl
left_same p q same (r ∷ rs) =
    ap (λ (b : Bool). map (λ s. s.head.seek) (cond b (r ∷ filter p rs) (filter p rs))) (same r) ∙ kept_by r (filter p rs) (filter q (record_heads rs)) (q r.head) (left_same p q same rs)

pub garbage_is : (rs : List KeyedRecord) (trees : List TreeAt) → IsPermutation (trees_at (file_classes (info_key rs)) (tree_records (top_keys rs))) trees
    → places_left (top_keys (keyed_again rs)) (info_place (info_key rs)) (places_of trees) (record_heads rs) ≡ garbage_of rs
garbage_is rs trees moved =
    sym (left_same (λ r. not (is_referred rs r)) (is_left_over (top_keys (keyed_again rs)) (info_place (info_key rs)) (places_of trees)) each rs)
  where
    each : (r : KeyedRecord) → not (is_referred rs r) ≡ is_left_over (top_keys (keyed_again rs)) (info_place (info_key rs)) (places_of trees) r.head
    each r =
        let item : is_item_record (top_keys rs) r ≡ (is_top_key r.head && is_item_key (top_keys (keyed_again rs)) r.head) = item_keyed (top_keys rs) r ∙ ap (λ (ts : List KeyedRecord). is_top_key r.head && is_item_key ts r.head) (sym (top_keyed rs)) in
        let basket = named_any (file_classes (info_key rs)) (tree_records (top_keys rs)) trees r.head.seek moved in
        λ i. not ((r.head.seek == first_place) || (r.head.seek == info_place (info_key rs)) || item i || basket i)

pub info_place_is : (o : Option KeyedRecord) → place_in (info_head o) ≡ info_place o
info_place_is None = refl
info_place_is (Some r) = refl

-- a key that is neither the first nor the class list's, and no item's
pub left_tested : (tops : List KeyedRecord) (info : ℕ) (baskets : List ℕ) (head : KeyHead) (own stored : Bool) → (head.seek ≡ first_place → ⊥) → (head.seek ≡ info → ⊥) → own ≡ (is_top_key head && is_item_key tops head) → own ≡ false
    → stored ≡ list_any (λ p. p == head.seek) baskets → not stored ≡ is_left_over tops info baskets head
left_tested tops info baskets head own stored first list owns plain stores =
    let a : false ≡ (head.seek == first_place) = sym (ne_eqb head.seek first_place first) in
    let b : false ≡ (head.seek == info) = sym (ne_eqb head.seek info list) in
    let c : false ≡ (is_top_key head && is_item_key tops head) = sym plain ∙ owns in
    λ i. not (a i || b i || c i || stores i)

-- ---- one key after the other

-- the places that are left over of the keys up to an index
abbrev pub LeftSoFar : KeyCheck → ℕ → List KeyHead → ℕ → List ℕ → Type 0
LeftSoFar check info heads k places =
    (tops : List KeyedRecord) (baskets : List ℕ) → IndexesNames tops check.names → HasPlaces baskets check.named → places ≡ places_left tops info baskets (take k heads)

pub left_begins : (check : KeyCheck) (info : ℕ) (heads : List KeyHead) → LeftSoFar check info heads 0 []
left_begins check info heads tops baskets names named = refl

module _ (check : KeyCheck) (info : ℕ) (heads : List KeyHead) (k : ℕ) (places : List ℕ) (head : KeyHead) (lt : k < length heads) (is : head ≡ get_or heads k head) (so : LeftSoFar check info heads k places) (test : Bool)
    (tests : (tops : List KeyedRecord) (baskets : List ℕ) → IndexesNames tops check.names → HasPlaces baskets check.named → test ≡ is_left_over tops info baskets head) where
  next : (b : Bool) (tops : List KeyedRecord) (baskets : List ℕ) → is_left_over tops info baskets head ≡ b
      → places_left tops info baskets (take (k + 1) heads) ≡ places_left tops info baskets (take k heads) ++ cond b (head.seek ∷ []) []
  next b tops baskets e =
      ap (places_left tops info baskets) (take_more heads k head lt ∙ ap (λ (h : KeyHead). take k heads ++ h ∷ []) (sym is))
      ∙ ap (map (λ h. h.seek)) (filter-append (is_left_over tops info baskets) (take k heads) (head ∷ []) ∙ ap (λ (c : Bool). filter (is_left_over tops info baskets) (take k heads) ++ cond c (head ∷ []) []) e)
      ∙ map-append (λ h. h.seek) (filter (is_left_over tops info baskets) (take k heads)) (cond b (head ∷ []) [])
      ∙ ap (λ (ps : List ℕ). places_left tops info baskets (take k heads) ++ ps) (by b)
    where
      by : (c : Bool) → map (λ (h : KeyHead). h.seek) (cond c (head ∷ []) []) ≡ cond c (head.seek ∷ []) []
      by true = refl
      by false = refl

  pub left_passes : test ≡ true → LeftSoFar check info heads (k + 1) (places ++ head.seek ∷ [])
  left_passes e tops baskets names named = ap (λ (ps : List ℕ). ps ++ head.seek ∷ []) (so tops baskets names named) ∙ sym (next true tops baskets (sym (tests tops baskets names named) ∙ e))

  pub left_keeps : test ≡ false → LeftSoFar check info heads (k + 1) places
  left_keeps e tops baskets names named =
      so tops baskets names named ∙ sym (append-nil (places_left tops info baskets (take k heads))) ∙ sym (next false tops baskets (sym (tests tops baskets names named) ∙ e))

pub left_all : (check : KeyCheck) (info : ℕ) (heads : List KeyHead) (k : ℕ) (places : List ℕ) → length heads ≤ k → LeftSoFar check info heads k places
    → (tops : List KeyedRecord) (baskets : List ℕ) → IndexesNames tops check.names → HasPlaces baskets check.named → places ≡ places_left tops info baskets heads
left_all check info heads k places le so tops baskets names named = so tops baskets names named ∙ ap (places_left tops info baskets) (take_all k heads le)

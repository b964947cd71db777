-- The items of a state, by the keys that were checked.
use Rattle.std.proofs.Common.{◌≡◌, ◌∙◌, List, [], ◌∷◌, ◌++◌, Bool, true, false, cond, not, ◌&&◌, ◌||◌, refl, sym, ap, subst}
use Rattle.std.proofs.lemmas.List.Sorted.{IsPermutation-filter_both, IsPermutation-map, IsPermutation-sym, IsPermutation-trans}
use Rattle.std.specs.List.{filter, Sorted.{IsPermutation}}
use Rattle.rio_key.specs.declared.head.KeyHead.{KeyHead}
use Rattle.rio_state.specs.{Closing.{item_heads}, KeyedRecords.{KeyedRecord, is_outdated, is_tree_key, is_tree_record, object_records, top_keys, tree_records}}
use Rattle.rio_recover.specs.{Checks.{item_records}, Keys.{record_heads}}

-- one test behind another
pub filter_both : {X : Type 0} (p q s : X → Bool) → ((x : X) → (q x && p x) ≡ s x) → (xs : List X) → filter p (filter q xs) ≡ filter s xs
filter_both p q s same [] = refl
filter_both p q s same (x ∷ xs) = by (q x) (same x) (filter_both p q s same xs)
  where
    by : (a : Bool) → (a && p x) ≡ s x → filter p (filter q xs) ≡ filter s xs → filter p (cond a (x ∷ filter q xs) (filter q xs)) ≡ cond (s x) (x ∷ filter s xs) (filter s xs)
    by true e rest = (λ i. cond (e i) (x ∷ rest i) (rest i))
    by false e rest = rest ∙ ap (λ (c : Bool). cond c (x ∷ filter s xs) (filter s xs)) e

module _ (tops : List KeyedRecord) where
  object_test : (tree out : Bool) → ((not tree || not out) && not tree) ≡ not tree
  object_test true true = refl
  object_test true false = refl
  object_test false out = refl

  tree_test : (tree out : Bool) → ((not tree || not out) && not (not tree)) ≡ (tree && not out)
  tree_test true true = refl
  tree_test true false = refl
  tree_test false out = refl

  -- objects first, then trees
  parted : IsPermutation (item_records tops tops) (object_records tops ++ tree_records tops)
  parted =
      let objects : filter (λ r. not (is_tree_key r.head)) (item_records tops tops) ≡ object_records tops =
      filter_both (λ r. not (is_tree_key r.head)) (λ r. not (is_tree_key r.head) || not (is_outdated tops r)) (λ r. not (is_tree_key r.head)) (λ r. object_test (is_tree_key r.head) (is_outdated tops r)) tops in
      let trees : filter (λ r. not (not (is_tree_key r.head))) (item_records tops tops) ≡ tree_records tops =
      filter_both (λ r. not (not (is_tree_key r.head))) (λ r. not (is_tree_key r.head) || not (is_outdated tops r)) (is_tree_record tops) (λ r. tree_test (is_tree_key r.head) (is_outdated tops r)) tops in
      subst (IsPermutation (item_records tops tops)) (λ i. objects i ++ trees i)
      (IsPermutation-filter_both (λ r. not (is_tree_key r.head)) (λ r. not (not (is_tree_key r.head))) (λ r. refl) (item_records tops tops))

  -- the heads of items are those that were checked
  pub items_moved : (heads : List KeyHead) → IsPermutation (record_heads (item_records tops tops)) heads → IsPermutation (item_heads tops) heads
  items_moved heads moved =
      IsPermutation-trans (item_heads tops) (record_heads (item_records tops tops)) heads
      (IsPermutation-sym (record_heads (item_records tops tops)) (item_heads tops) (IsPermutation-map (λ (r : KeyedRecord). r.head) (item_records tops tops) (object_records tops ++ tree_records tops) parted)) moved

-- What is kept can be closed with a new tree among the others: it has no baskets, and no save of it is due.
use Rattle.std.proofs.Common.{◌≡◌, ◌∙◌, ℕ, ◌+◌, ◌≤◌, List, [], ◌∷◌, ◌++◌, length, map, Bool, true, false, Option, refl, sym, ap, subst, arith}
use Rattle.std.proofs.lemmas.List.Elements.{All-cons, All-nil}
use Rattle.std.specs.{Prelude.{if◌then◌else◌}, List.{All, flat_map}}
use Rattle.rio_leaf.specs.declared.branch.BranchDef.{BranchDef}
use Rattle.rio_format.specs.declared.class.ClassDef.{ClassDef}
use Rattle.rio_key.specs.declared.head.KeyHead.{KeyHead}
use Rattle.rio_dir.specs.Table.{heads_size}
use Rattle.rio_chain.specs.{Placing.{file_end, record_count}, declared.segment.Segment.{Segment}}
use Rattle.rio_tree.specs.declared.basket_at.BasketAt.{BasketAt}
use Rattle.rio_state.specs.{Closing.{end_limit}, Sizes.{close_size}}
use Rattle.rio_fill.specs.Fill.{BranchFill, branch_fill_of, fill_of}
use Rattle.rio_effect.specs.TreeRecords.{new_branch, new_branches, new_head}
use Rattle.rio_recover.specs.{Closable.{IsClosable}, TreeTable.{is_name_before}}
use Rattle.rio_session.specs.{Due.{AreApart, IsBranchSound, IsClosableWith, due_of, due_of_fill, key_place, need_with}, Fills.{FilledTree, places_of_fill, places_of_trees, with_filled}}
use Rattle.rio_session.proofs.{FillSums.{need_by_due, sum_with}, NewFills.{new_filled}, TreeEffects.{all_filled}, TreeRoom.{no_bytes, none_open}}

no_places : (classes : List ClassDef) (before branches : List BranchDef)
    → flat_map (λ (b : BranchFill). map (λ (at : BasketAt). at.seek) b.baskets) (map branch_fill_of (new_branches classes before branches)) ≡ []
no_places classes before [] = refl
no_places classes before (b ∷ bs) = no_places classes (before ++ b ∷ []) bs

new_sound : (classes : List ClassDef) (before branches : List BranchDef) → All (IsBranchSound 0 0) (map branch_fill_of (new_branches classes before branches))
new_sound classes before [] = All-nil (IsBranchSound 0 0)
new_sound classes before (b ∷ bs) =
    All-cons (IsBranchSound 0 0) (branch_fill_of (new_branch classes before b)) (map branch_fill_of (new_branches classes (before ++ b ∷ []) bs))
    (record { few = omega arith; begins = refl; order = refl; small = omega arith }) (new_sound classes (before ++ b ∷ []) bs)

-- a tree without places adds none
places_with : (t : FilledTree) → places_of_fill t.fill ≡ [] → (ts : List FilledTree) → places_of_trees (with_filled t ts) ≡ places_of_trees ts
places_with t none [] = ap (λ (l : List ℕ). l ++ []) none
places_with t none (u ∷ us) = by (is_name_before u.name t.name) (places_with t none us)
  where
    by : (b : Bool) → places_of_trees (with_filled t us) ≡ places_of_trees us → places_of_trees (if b then u ∷ with_filled t us else t ∷ u ∷ us) ≡ places_of_trees (u ∷ us)
    by true later = ap (λ (l : List ℕ). places_of_fill u.fill ++ l) later
    by false later = ap (λ (l : List ℕ). l ++ places_of_trees (u ∷ us)) none

module _ (name : List ℕ) (classes : List ClassDef) (branches : List BranchDef) where
  abbrev t : FilledTree
  t = new_filled name classes branches

  pub due_same : (trees : List FilledTree) → due_of (with_filled t trees) ≡ due_of trees
  due_same trees =
      let bytes = sum_with (λ (u : FilledTree). (due_of_fill u.name u.fill).bytes) t trees in
      let baskets = sum_with (λ (u : FilledTree). (due_of_fill u.name u.fill).baskets) t trees in
      let one : (due_of (with_filled t trees)).bytes ≡ (due_of trees).bytes = omega (arith, bytes, no_bytes name classes branches) in
      let two : (due_of (with_filled t trees)).baskets ≡ (due_of trees).baskets = omega (arith, baskets, none_open name classes [] branches) in
      λ i. record { bytes = one i; baskets = two i }

  pub need_same : (own : List ℕ) (heads : List KeyHead) (count : ℕ) (trees : List FilledTree) → need_with own heads count (with_filled (new_filled name classes branches) trees) ≡ need_with own heads count trees
  need_same own heads count trees =
      let same = due_same trees in
      need_by_due own heads count (with_filled t trees)
      ∙ (λ i. (same i).bytes + close_size own (heads_size heads) (count + (same i).baskets))
      ∙ sym (need_by_due own heads count trees)

  -- whatever the segments and the keys are
  pub closable_with_new : (segments : List Segment) (heads : List KeyHead) (trees : List FilledTree) (info : Option KeyHead) (own : List ℕ) → IsClosableWith segments heads trees info own
      → IsClosableWith segments heads (with_filled (new_filled name classes branches) trees) info own
  closable_with_new segments heads trees info own kept =
      let places = sym (places_with t (no_places classes [] branches) trees) in
      let need = sym (need_same own heads (record_count segments) trees) in
      record {
        closable = subst (λ (ps : List ℕ). IsClosable segments heads info ps own) places kept.closable;
        room = subst (λ (n : ℕ). file_end segments + n ≤ end_limit) need kept.room;
        sound = all_filled (λ (u : FilledTree). All (IsBranchSound u.fill.saved u.fill.pending) u.fill.branches) t (new_sound classes [] branches) trees kept.sound;
        apart = subst (λ (ps : List ℕ). AreApart (key_place info ++ map (λ h. h.seek) heads ++ ps)) places kept.apart;
      }

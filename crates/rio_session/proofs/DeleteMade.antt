-- What a session keeps once the records of a delete are released.
use Rattle.std.proofs.Common.{◌≡◌, ◌∙◌, ℕ, List, map, Some, sym, ap, subst}
use Rattle.rio_key.specs.declared.head.KeyHead.{KeyHead}
use Rattle.rio_dir.specs.Table.{head_of, without_head}
use Rattle.rio_tree_table.specs.{Table.{without_tree as without_kept}, declared.table.KeptTree.{KeptTree}}
use Rattle.rio_chain.specs.{Adjoining.{AreSegments}, declared.segment.Segment.{Segment}}
use Rattle.rio_recover.specs.{Cleaning.{without_segments}, Whole.{HoldsDirectory}}
use Rattle.rio_session.specs.{Due.{IsClosableWith}, Fills.{FilledTree, bare_tree, kept_tree_of, without_filled}, Kept.{released_by}, Releases.{deleting}, SessionState.{SessionState}}
use Rattle.rio_session.proofs.{Bare.{bare_without}, FillLists.{kept_without}, TreePlaces.{all_gone_with, directory_without}}

-- The trees that are kept for judgements are still those that are filled.
pub trees_left : (name : List ℕ) (trees now_filled : List FilledTree) (kept now : List KeptTree) → kept ≡ map kept_tree_of trees → now ≡ without_kept name kept → now_filled ≡ without_filled name trees → now ≡ map kept_tree_of now_filled
trees_left name trees now_filled kept now same now_is filled_are = now_is ∙ ap (without_kept name) same ∙ sym (kept_without name trees) ∙ ap (map kept_tree_of) (sym filled_are)

-- The session is one as which it is seen.
module _ (other s : SessionState) (view_is : s ≡ other) (h : KeyHead) (there : head_of h.name (Some h.cycle) s.heads ≡ Some h) (shape : AreSegments s.segments) (kept : IsClosableWith s.segments s.heads s.trees s.info s.name)
    (places : List ℕ) (places_are : places ≡ released_by s h.name h.cycle) (segments : List Segment) (segments_are : segments ≡ without_segments places s.segments) where
  segments_left : segments ≡ without_segments (released_by s h.name h.cycle) s.segments
  segments_left = segments_are ∙ ap (λ (ps : List ℕ). without_segments ps s.segments) places_are

  pub deleted_kept : (heads : List KeyHead) (trees : List FilledTree) → heads ≡ without_head h.name h.cycle s.heads → trees ≡ without_filled h.name s.trees → IsClosableWith segments heads trees s.info s.name
  deleted_kept heads trees heads_are trees_are =
      subst (λ (x : List Segment × List KeyHead × List FilledTree). IsClosableWith x.0 x.1 x.2 s.info s.name) (λ i. (sym segments_left i, sym heads_are i, sym trees_are i)) (all_gone_with s shape kept.closable h there kept)

  pub deleted_directory : HoldsDirectory s.nbytes_name s.segments → HoldsDirectory s.nbytes_name segments
  deleted_directory holds = subst (HoldsDirectory s.nbytes_name) (sym segments_left) (directory_without s shape kept.closable h there s.nbytes_name holds)

-- without the rooms it is what it is without the tree
pub bare_left : (name : List ℕ) (trees now : List FilledTree) → now ≡ without_filled name trees → map bare_tree now ≡ without_filled name (map bare_tree trees)
bare_left name trees now is = ap (map bare_tree) is ∙ bare_without name trees

-- it is what the delete is to keep
pub deleted_is : (s view : SessionState) (h : KeyHead) (text places : List ℕ) (segments : List Segment) (heads : List KeyHead) (trees : List FilledTree) → view ≡ s → places ≡ released_by s h.name h.cycle
    → segments ≡ without_segments places view.segments → heads ≡ without_head h.name h.cycle view.heads → trees ≡ without_filled h.name view.trees
    → record view { segments = segments; heads = heads; trees = trees } ≡ (deleting s h text).kept
deleted_is s view h text places segments heads trees same places_are segments_are heads_are trees_are = λ i. record (same i) {
  segments = (segments_are ∙ (λ j. without_segments (places_are j) (same j).segments)) i;
  heads = (heads_are ∙ (λ j. without_head h.name h.cycle (same j).heads)) i;
  trees = (trees_are ∙ (λ j. without_filled h.name (same j).trees)) i;
}

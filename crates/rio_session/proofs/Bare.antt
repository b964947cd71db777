-- The trees of a session without the rooms that were made: what is kept of them, what their headers say and what a close writes is the same.
use Rattle.std.proofs.Common.{◌≡◌, ◌∙◌, ℕ, List, [], ◌∷◌, ◌++◌, map, length, not, ◌==◌, ◌+◌, codes, refl, ap}
use Rattle.std.proofs.lemmas.List.Folds.{flat_map-map}
use Rattle.std.specs.{List.{find, sum_by}, Option.{option_map}}
use Rattle.rio_tree.specs.{HeaderLength.{header_length}, declared.basket_at.BasketAt.{BasketAt}}
use Rattle.rio_machine.specs.Limits.{head_length}
use Rattle.rio_key.specs.Cut.{basket_with}
use Rattle.rio_state.specs.TreeLengths.{TreeLengths, basket_lengths, save_lengths}
use Rattle.rio_state.specs.Closing.{padded_length}
use Rattle.rio_fill.specs.{Fill.{BranchFill, TreeFill, defs_of}, Room.{without_room}}
use Rattle.rio_session.specs.{Due.{due_of, due_of_fill, lengths_of, lengths_of_fill, open_lengths, written_count}, Fills.{FilledTree, bare, bare_tree, branch_in_header, header_of, is_tree_of, kept_tree_of, places_of_fill, places_of_trees, tree_at_of, without_filled}}
use Rattle.rio_session.specs.declared.open_tree.Due.{Due}
use Rattle.rio_session.proofs.{FillLists.{find_mapped, sum_mapped}, KeysWithout.{map_removed}}

-- what a function that doesn't see rooms gives of branches without them
map_bare : {B : Type 0} (f : BranchFill → B) → ((b : BranchFill) → f (without_room b) ≡ f b) → (bs : List BranchFill) → map f (map without_room bs) ≡ map f bs
map_bare f same [] = refl
map_bare f same (b ∷ bs) = λ i. same b i ∷ map_bare f same bs i

-- ---- one tree

pub defs_bare : (bs : List BranchFill) → defs_of (map without_room bs) ≡ defs_of bs
defs_bare bs = map_bare (λ b. b.def) (λ b. refl) bs

open_bare : (name : List ℕ) (bs : List BranchFill) → open_lengths name (map without_room bs) ≡ open_lengths name bs
open_bare name bs = flat_map-map (λ (b : BranchFill). map (basket_lengths name b.def) (basket_with b.entries)) without_room bs

written_bare : (bs : List BranchFill) → written_count (map without_room bs) ≡ written_count bs
written_bare bs = sum_mapped (λ (b : BranchFill). length b.baskets) without_room bs

pub lengths_bare : (name : List ℕ) (t : TreeFill) → lengths_of_fill name (bare t) ≡ lengths_of_fill name t
lengths_bare name t =
    let opened = open_bare name t.branches in
    let written = written_bare t.branches in
    let defs = defs_bare t.branches in
    λ i. record {
      pending = not (t.pending == 0);
      header = head_length (codes "TTree") name + header_length name (defs i) (written i + length (opened i));
      baskets = opened i;
    }

pub due_bare : (name : List ℕ) (t : TreeFill) → due_of_fill name (bare t) ≡ due_of_fill name t
due_bare name t = ap (λ (l : TreeLengths). let d : Due = record { bytes = sum_by padded_length (save_lengths l); baskets = length l.baskets } in d) (lengths_bare name t)

pub places_bare : (t : TreeFill) → places_of_fill (bare t) ≡ places_of_fill t
places_bare t = flat_map-map (λ (b : BranchFill). map (λ (at : BasketAt). at.seek) b.baskets) without_room t.branches

pub header_bare : (t : TreeFill) → header_of (bare t) ≡ header_of t
header_bare t = λ i. record { entries = t.saved; branches = map_bare (branch_in_header t.saved) (λ b. refl) t.branches i }

-- ---- each tree

pub bare_kept : (t : FilledTree) → kept_tree_of (bare_tree t) ≡ kept_tree_of t
bare_kept t = λ i. record { name = t.name; branches = defs_bare t.fill.branches i; saved = t.fill.saved; pending = t.fill.pending }

pub bare_at : (t : FilledTree) → tree_at_of (bare_tree t) ≡ tree_at_of t
bare_at t = λ i. record { name = t.name; head = header_bare t.fill i }

map_trees : {B : Type 0} (f : FilledTree → B) → ((t : FilledTree) → f (bare_tree t) ≡ f t) → (trees : List FilledTree) → map f (map bare_tree trees) ≡ map f trees
map_trees f same [] = refl
map_trees f same (t ∷ ts) = λ i. same t i ∷ map_trees f same ts i

pub all_kept : (trees : List FilledTree) → map kept_tree_of (map bare_tree trees) ≡ map kept_tree_of trees
all_kept trees = map_trees kept_tree_of bare_kept trees

pub all_at : (trees : List FilledTree) → map tree_at_of (map bare_tree trees) ≡ map tree_at_of trees
all_at trees = map_trees tree_at_of bare_at trees

pub all_lengths : (trees : List FilledTree) → lengths_of (map bare_tree trees) ≡ lengths_of trees
all_lengths trees = map_trees (λ t. lengths_of_fill t.name t.fill) (λ t. lengths_bare t.name t.fill) trees

pub all_places : (trees : List FilledTree) → places_of_trees (map bare_tree trees) ≡ places_of_trees trees
all_places [] = refl
all_places (t ∷ ts) = λ i. places_bare t.fill i ++ all_places ts i

pub all_due : (trees : List FilledTree) → due_of (map bare_tree trees) ≡ due_of trees
all_due trees =
    let bytes = sum_mapped (λ (t : FilledTree). (due_of_fill t.name t.fill).bytes) bare_tree trees in
    let baskets = sum_mapped (λ (t : FilledTree). (due_of_fill t.name t.fill).baskets) bare_tree trees in
    λ i. record {
      bytes = (bytes ∙ (λ j. sum_by (λ t. (due_bare t.name t.fill j).bytes) trees)) i;
      baskets = (baskets ∙ (λ j. sum_by (λ t. (due_bare t.name t.fill j).baskets) trees)) i;
    }

-- ---- by names

pub bare_found : (name : List ℕ) (trees : List FilledTree) → find (is_tree_of name) (map bare_tree trees) ≡ option_map bare_tree (find (is_tree_of name) trees)
bare_found name trees = find_mapped bare_tree (is_tree_of name) trees

pub bare_without : (name : List ℕ) (trees : List FilledTree) → map bare_tree (without_filled name trees) ≡ without_filled name (map bare_tree trees)
bare_without name trees = map_removed bare_tree (is_tree_of name) trees

-- The empty row fits no branches that a line of a script can state.
use Rattle.std.proofs.Common.{◌≡◌, ◌∷◌, ◌++◌, ◌&&◌, ◌==◌, not, [], List, length, true, false, refl}
use Rattle.std.proofs.lemmas.Bool.{and_parts}
use Rattle.rio_csv.specs.Laws.{BadRowsDontFit}
use Rattle.rio_leaf.specs.{Stated.{all_leaves, are_branches_behind, has_branch, is_stated_branch, is_stated_shape}, declared.branch.BranchDef.{BranchDef}}
use Rattle.rio_leaf.specs.declared.branch.Shape.{Shape, TheVariants.{Leaves, Class}}
use Rattle.rio_leaf.specs.declared.leaf.Leaf.{Leaf}
use Rattle.rio_machine.specs.Rows.{columns_fit, columns_of, shape_columns}
use Rattle.rio_num.specs.Word.{is_name_text}
use Rattle.rio_format.specs.declared.class.ClassDef.{ClassDef}

value_missing : (classes : List ClassDef) (before : List Leaf) (shape : Shape) (bs : List BranchDef) → is_stated_shape before shape ≡ true
    → columns_fit classes (shape_columns shape ++ columns_of bs) [] [] ≡ false
value_missing classes before (Class name) bs h = refl
value_missing classes before (Leaves []) bs h = absurd cc
value_missing classes before (Leaves (leaf ∷ leaves)) bs h = refl

pub bad_rows_do_not_fit : BadRowsDontFit
bad_rows_do_not_fit classes [] h = absurd cc
bad_rows_do_not_fit classes (b ∷ bs) h =
    let all = (and_parts (not (length (b ∷ bs) == 0)) (are_branches_behind [] (b ∷ bs)) h).1 in
    let own = (and_parts (is_stated_branch [] b) (are_branches_behind (b ∷ []) bs) all).0 in
    let parts = and_parts (is_name_text b.name && not (has_branch [] b.name)) (is_stated_shape (all_leaves []) b.shape) own in
    value_missing classes (all_leaves []) b.shape bs parts.1

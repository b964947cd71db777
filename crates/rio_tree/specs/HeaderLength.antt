-- How long the header is that is written for a tree.
use Rattle.std.specs.{Prelude.{◌≡◌, ℕ, ◌+◌, ◌*◌, pos, List, [], length, map, None}, List.{sum_by}}
use Rattle.rio_leaf.specs.declared.branch.BranchDef.{BranchDef}
use Rattle.rio_format.specs.{TreeClasses.{tree_classes}, Written.{written_form}}
use Rattle.rio_tree.specs.{declared.head.Branch.{Branch}, declared.head.TreeHead.{TreeHead}, Header.{has_offsets}, WrittenLaws.{stated_defs}, WrittenTree.{tree_value_of}}

-- a branch without entries and baskets, as far as the length of its header goes
abbrev pub bare_branch : BranchDef → Branch
bare_branch def = record { def = def; class_version = pos 0; entries = 0; offsets = has_offsets def.shape; baskets = []; counted_by = []; refused = None }

-- a tree without entries and baskets
abbrev pub bare_head : List BranchDef → TreeHead
bare_head branches = record { entries = 0; branches = map bare_branch branches }

-- how long its header is
unfoldable pub header_size : List ℕ → List BranchDef → ℕ
header_size name branches = length (written_form tree_classes 0 (tree_value_of name (bare_head branches)))

-- The header of a tree of this name, with these branches and so many baskets: three numbers for each basket.
abbrev pub header_length : List ℕ → List BranchDef → ℕ → ℕ
header_length name branches baskets = header_size name branches + 20 * baskets

-- how many baskets a header names
abbrev pub basket_count : TreeHead → ℕ
basket_count head = sum_by (λ b. length b.baskets) head.branches

-- So long is every header that is written, wherever it starts: its length hangs on no other number that it says.
abbrev pub HeaderLengthIsKnown : Type 0
HeaderLengthIsKnown =
    (start : ℕ) (name : List ℕ) (head : TreeHead)
    → length (written_form tree_classes start (tree_value_of name head)) ≡ header_length name (stated_defs head.branches) (basket_count head)

-- The header of a tree: what the value of its record says.
use Rattle.std.specs.Prelude.{ℕ, ℤ, pos, negsuc, List, [], ◌∷◌, ◌++◌, length, codes, Bool, true, false, ◌==◌, ◌||◌, Option, Some, None, option_and_then, Result, Ok, Err}
use Rattle.std.specs.{List.{list_any}, Option.{ok_or}, Result.{result_err, result_unwrap_or}}
use Rattle.rio_num.specs.Reading.{◌>>=◌}
use Rattle.rio_leaf.specs.{declared.branch.Shape.{Shape, TheVariants.{Leaves, Class}}, declared.leaf.Leaf.{Leaf}, Leaves.{is_counted_dim}, Stated.{leaves_of}}
use Rattle.rio_leaf.specs.Marks.{letter_of_texts}
use Rattle.rio_format.specs.declared.value.Value.{Value}
use Rattle.rio_tree.specs.{declared.basket_at.BasketAt.{BasketAt}, declared.fault.TreeFault.{TreeFault, TheVariants.{MissingMember}}}
use Rattle.rio_tree.specs.{declared.head.Branch.{Branch}, declared.head.TreeHead.{TreeHead}, declared.refusal.BranchRefusal.{BranchRefusal}}
use Rattle.rio_tree.specs.BranchMembers.{BranchSaid, class_version_said, leaf_items}
use Rattle.rio_tree.specs.{HeaderLeaves.{LeavesMet, LeavesSaid, leaves_met, name_said, no_leaves_met}, Labels.{ObjectLabels, labels_in, object_behind}}
use Rattle.rio_tree.specs.{Members.{integer_member, natural, pointers_member}, Refusals.{readable_branch, leaves_from, listed_baskets, no_leaves}}

-- ---- one branch

-- A branch that is refused before its leaves are known, with BranchClass to NoCounter: its name is told, and nothing else.
-- It has no leaves here, so no leaf of it is found by name.
abbrev pub branch_refused : List ℕ → BranchRefusal → Branch
branch_refused name why = record {
  def = record { name = name; shape = Leaves [] };
  class_version = pos 0;
  entries = 0;
  offsets = false;
  baskets = [];
  counted_by = [];
  refused = Some why;
}

-- whether a leaf may have values of different lengths
abbrev pub varies_in_length : Leaf → Bool
varies_in_length leaf = (leaf.letter == letter_of_texts) || is_counted_dim leaf.dim

-- whether entries may have different lengths, so that baskets have offsets
abbrev pub has_offsets : Shape → Bool
has_offsets (Leaves leaves) = list_any varies_in_length leaves
has_offsets (Class class) = true

-- what a branch holds: objects of the class, or else the leaves
abbrev pub shape_said : Option (List ℕ) → List Leaf → Shape
shape_said (Some class) leaves = Class class
shape_said None leaves = Leaves leaves

-- 0 where it is below 0
abbrev pub entries_said : ℤ → ℕ
entries_said (pos n) = n
entries_said (negsuc n) = 0

-- A branch whose leaves are known: where its baskets stand, or why that can't be told, with EntryCount or BadBasketList.
-- Then it has no baskets here, and all else as it is.
abbrev pub branch_known : List ℕ → ℤ → BranchSaid → LeavesSaid → Result (List BasketAt) BranchRefusal → Branch
branch_known name version said read stored = record {
  def = record { name = name; shape = shape_said said.class read.leaves };
  class_version = version;
  entries = entries_said said.entries;
  offsets = has_offsets (shape_said said.class read.leaves);
  baskets = result_unwrap_or stored [];
  counted_by = read.counted_by;
  refused = result_err stored;
}

-- a branch of a tree of so many entries, behind these branches and leaves, or why its leaves can't be known
unfoldable pub known_branch : ℕ → ObjectLabels → List Branch → LeavesMet → Value → Result Branch BranchRefusal
known_branch entries labels branches met item = do
  said ← readable_branch labels item
  read ← leaves_from labels branches (leaf_items (object_behind labels item)) met no_leaves
  Ok (branch_known (name_said (object_behind labels item)) (class_version_said (object_behind labels item)) said read (listed_baskets entries said))

-- the branch that is read, or else the one that is refused so
abbrev pub or_refused : List ℕ → Result Branch BranchRefusal → Branch
or_refused name (Ok branch) = branch
or_refused name (Err why) = branch_refused name why

-- the branch that this pointer leads to, in a tree of so many entries, after these branches and leaves; with its first refusal
-- where there is one
unfoldable pub branch_in : ℕ → ObjectLabels → List Branch → LeavesMet → Value → Branch
branch_in entries labels branches met item = or_refused (name_said (object_behind labels item)) (known_branch entries labels branches met item)

-- ---- all branches

-- the leaves before a branch, and behind them its own
abbrev pub met_behind : ObjectLabels → List Branch → LeavesMet → Value → LeavesMet
met_behind labels branches met item = leaves_met labels (length branches) (leaf_items (object_behind labels item)) met

-- the branches, one by one, behind these branches and their leaves
abbrev pub branches_from : ℕ → ObjectLabels → List Value → List Branch → LeavesMet → List Branch
branches_from entries labels [] branches met = branches
branches_from entries labels (item ∷ items) branches met =
    branches_from entries labels items (branches ++ branch_in entries labels branches met item ∷ []) (met_behind labels branches met item)

-- ---- the tree

-- how many entries a tree says it has
abbrev pub entries_member : Value → Option ℕ
entries_member v = option_and_then natural (integer_member 64 (codes "fEntries") v)

-- What the value of a tree's record says of the tree, or the first member that it lacks.
unfoldable pub tree_head_in : Value → Result TreeHead TreeFault
tree_head_in v = do
  entries ← ok_or (entries_member v) (MissingMember (codes "fEntries"))
  items ← ok_or (pointers_member (codes "fBranches") v) (MissingMember (codes "fBranches"))
  Ok (record { entries = entries; branches = branches_from entries (labels_in v) items [] no_leaves_met })

abbrev pub branch_leaves : Branch → List Leaf
branch_leaves b = leaves_of b.def.shape

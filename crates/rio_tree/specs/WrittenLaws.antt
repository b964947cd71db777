-- What holds of the header that is written for a tree.
use Rattle.std.specs.Prelude.{◌≡◌, ℕ, ◌+◌, ◌^◌, ℤ, pos, List, [], ◌∷◌, ◌++◌, length, map, codes, Bool, ◌&&◌, nat_lt, Option, None, IsTrue, Ok}
use Rattle.std.specs.{List.{list_all, position}, Option.{option_map_or}}
use Rattle.rio_leaf.specs.{Leaves.{has_leaf}, Stated.{are_stated_branches, leaves_of}, declared.branch.BranchDef.{BranchDef}}
use Rattle.rio_leaf.specs.{declared.branch.Shape.{Shape, TheVariants.{Leaves, Class}}, declared.leaf.Dim.{Dim, TheVariants.{Counted}}}
use Rattle.rio_leaf.specs.declared.leaf.Leaf.{Leaf}
use Rattle.rio_format.specs.{Fits.{Fits, fits_signed}, TreeClasses.{tree_classes}}
use Rattle.rio_tree.specs.{declared.basket_at.BasketAt.{BasketAt}, declared.head.Branch.{Branch}, declared.head.TreeHead.{TreeHead}}
use Rattle.rio_tree.specs.{Header.{branch_leaves, has_offsets, tree_head_in}, HeaderLeaves.{with_branch_number}, Refusals.{are_in_order}}
use Rattle.rio_tree.specs.WrittenTree.{tree_value_of}

-- ---- each number is one of those that its member may be

abbrev pub basket_fits_header : BasketAt → Bool
basket_fits_header basket = nat_lt basket.bytes (2 ^ 31) && nat_lt basket.first (2 ^ 63) && nat_lt basket.seek (2 ^ 63)

-- fMaxBaskets is one more than the number of baskets
abbrev pub branch_fits_header : Branch → Bool
branch_fits_header b =
    fits_signed 32 b.class_version && nat_lt b.entries (2 ^ 63) && nat_lt (length b.baskets + 1) (2 ^ 31) && list_all basket_fits_header b.baskets

pub record FitsTreeHeader (head : TreeHead) : Type 0 where
  pub entries : IsTrue (nat_lt head.entries (2 ^ 63))
  pub branches : IsTrue (list_all branch_fits_header head.branches)

-- the branches as a line of the script declares them
abbrev pub stated_defs : List Branch → List BranchDef
stated_defs branches = map (λ b. b.def) branches

-- The header of a tree that can be declared is an object of the class TTree, and has the parts of the classes of trees.
abbrev pub WrittenTreeFits : Type 0
WrittenTreeFits =
    (name : List ℕ) (head : TreeHead) → IsTrue (are_stated_branches (stated_defs head.branches)) → FitsTreeHeader head → Fits tree_classes (codes "TTree") (tree_value_of name head)

-- ---- what is written is read

-- the number of the branch that has a leaf of the name, if one does
abbrev pub branch_of_leaf : List BranchDef → List ℕ → Option ℕ
branch_of_leaf branches name = position (λ b. has_leaf (leaves_of b.shape) name) branches

-- one more number: that of the branch that has the counter
abbrev pub with_counting_branch : List BranchDef → Dim → List ℕ → List ℕ
with_counting_branch before (Counted counter times) numbers = option_map_or (λ n. with_branch_number n numbers) (branch_of_leaf before counter) numbers
with_counting_branch before other numbers = numbers

abbrev pub counting_branches_behind : List BranchDef → List ℕ → List Leaf → List ℕ
counting_branches_behind before numbers [] = numbers
counting_branches_behind before numbers (leaf ∷ leaves) = counting_branches_behind before (with_counting_branch before leaf.dim numbers) leaves

-- the numbers of the branches before whose leaves count these, rising
abbrev pub counting_branches : List BranchDef → List Leaf → List ℕ
counting_branches before leaves = counting_branches_behind before [] leaves

-- only a branch of objects has the version of a class
abbrev pub IsVersionFor : Shape → ℤ → Type 0
IsVersionFor (Leaves leaves) version = version ≡ pos 0
IsVersionFor (Class class) version = Unit {0}

-- A branch behind others that can be read, in a tree of so many entries. All that isn't declared with it follows from that,
-- but for its baskets and the version of its class.
pub record IsReadableBranch (entries : ℕ) (before : List BranchDef) (b : Branch) : Type 0 where
  pub refused : b.refused ≡ None
  pub entries_as_tree : b.entries ≡ entries
  pub offsets_as_shape : b.offsets ≡ has_offsets b.def.shape
  pub version_as_shape : IsVersionFor b.def.shape b.class_version
  pub counted : b.counted_by ≡ counting_branches before (branch_leaves b)
  pub in_order : IsTrue (are_in_order entries b.baskets)

abbrev pub AreReadableBranches : ℕ → List BranchDef → List Branch → Type 0
AreReadableBranches entries before [] = Unit {0}
AreReadableBranches entries before (b ∷ bs) = IsReadableBranch entries before b × AreReadableBranches entries (before ++ b.def ∷ []) bs

-- The header of a tree that can be declared, and of which no branch is refused, is read as it.
abbrev pub WrittenTreeIsRead : Type 0
WrittenTreeIsRead =
    (name : List ℕ) (head : TreeHead) → IsTrue (are_stated_branches (stated_defs head.branches)) → FitsTreeHeader head → AreReadableBranches head.entries [] head.branches → tree_head_in (tree_value_of name head) ≡ Ok head

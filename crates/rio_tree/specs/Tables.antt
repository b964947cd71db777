-- What the tables of the reader say.
use Rattle.std.specs.{Prelude.{nat_eq, option_map}, Map.{lookup}, Option.{option_copied}, Str.{bytes_eq}}
use Rattle.rio_tree.specs.{declared.branch_members.BranchSaid.{BranchSaid as Read}, declared.labels.LabelTable.{LabelTable}}
use Rattle.rio_tree.specs.{declared.leaves.BranchLeaves.{BranchLeaves}, declared.leaves.LeavesRead.{LeavesRead}, declared.met.MetLeaf.{MetLeaf}}
use Rattle.rio_tree.specs.{declared.met.MetTable.{MetTable}, BranchMembers.{BranchSaid}, HeaderLeaves.{LeafMet, LeavesMet, LeavesSaid}}
use Rattle.rio_tree.specs.Labels.{ObjectLabels}

-- the object of each label
abbrev pub labels_of : LabelTable → ObjectLabels
labels_of table = λ label. option_map (λ object. object.now) (lookup (nat_eq label) table.objects.entries)

-- ---- the leaves before another one

-- a leaf in the table
abbrev pub leaf_of : MetLeaf → LeafMet
leaf_of leaf = record { branch = leaf.branch; label = leaf.label; name = leaf.name.now; counts = leaf.counts }

-- the nearest leaves of each label and name
abbrev pub met_of : MetTable → LeavesMet
met_of table = record {
  of_label = λ label. option_map leaf_of (lookup (nat_eq label) table.by_label.entries);
  of_name = λ name. option_map leaf_of (lookup (λ known. bytes_eq name known.now) table.by_name.entries);
}

-- ---- a branch

-- what a branch says
abbrev pub branch_of : Read → BranchSaid
branch_of branch = record {
  class = option_copied branch.class;
  write_basket = branch.write_basket;
  entries = branch.entries;
  branches = branch.branches.now;
  leaves = branch.leaves.now;
  baskets = branch.baskets.now;
  bytes = branch.bytes.now;
  firsts = branch.firsts.now;
  seeks = branch.seeks.now;
}

-- ---- the leaves of a branch

-- what is read of them so far, and what is read in the end
abbrev pub leaves_of_branch : LeavesRead → LeavesSaid
leaves_of_branch read = record { leaves = read.leaves; counted_by = read.numbers.keys }

abbrev pub leaves_said : BranchLeaves → LeavesSaid
leaves_said read = record { leaves = read.leaves; counted_by = read.counted_by }

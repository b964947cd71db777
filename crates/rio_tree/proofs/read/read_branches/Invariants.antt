use Rattle.std.proofs.Common.{◌≡◌, [], drop}
use Rattle.rio_tree.specs.{Header.{branches_from}, HeaderLeaves.{no_leaves_met}, Tables.{labels_of, met_of}}
use Rattle.rio_tree.proofs.read.read_branches.Given as goal

abbrev pub invariant-loop-item : goal.invariant-loop-item
invariant-loop-item l = branches_from l.entries (labels_of l.labels) (drop l.item-index l.items) l.branches (met_of l.met) ≡ branches_from l.entries (labels_of l.fn.labels) l.items [] no_leaves_met

use Rattle.std.proofs.Common.{◌≡◌, drop}
use Rattle.rio_tree.specs.{HeaderLeaves.{leaves_met}, Tables.{labels_of, met_of}}
use Rattle.rio_tree.proofs.met.MetTable.note_leaves.Given as goal

abbrev pub invariant-loop-item : goal.invariant-loop-item
invariant-loop-item l = leaves_met (labels_of l.labels) l.branch (drop l.item-index l.items) (met_of l.self) ≡ leaves_met (labels_of l.fn.labels) l.fn.branch l.items (met_of l.fn.self)

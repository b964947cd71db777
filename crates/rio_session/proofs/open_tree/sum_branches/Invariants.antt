use Rattle.std.specs.Option.{option_copied}
use Rattle.rio_session.proofs.Summed.{Summing}
use Rattle.rio_session.proofs.open_tree.sum_branches.Given as goal

abbrev pub invariant-loop-k : goal.invariant-loop-k
invariant-loop-k l = Summing l.tree l.filler.branches (option_copied l.row) l.flags l.k l.sums

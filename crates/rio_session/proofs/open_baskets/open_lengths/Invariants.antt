use Rattle.rio_session.proofs.Planned.{Measuring}
use Rattle.rio_session.proofs.open_baskets.open_lengths.Given as goal

abbrev pub invariant-loop-k : goal.invariant-loop-k
invariant-loop-k l = Measuring l.tree.name l.tree.fill.branches l.flags l.k l.lengths

use Rattle.std.proofs.Common.{arith}
use Rattle.rio_entry.proofs.CounterLaws.{counters_for_all, counters_there}
use Rattle.rio_index.proofs.next.row_parts.Goals as goal

pub at-requires : goal.at-requires
at-requires c = counters_for_all c.args.branches.now c.args.counters.now c.loop-k.k c.requires.counted (omega arith)

pub invariant_of-part-clause-counted : goal.invariant_of-part-clause-counted
invariant_of-part-clause-counted c =
    counters_there c.args.branches.now c.args.counters.now c.loop-k.k c.index-branches-k.result c.at.result.now c.requires.counted (omega arith) c.index-branches-k.is c.at.ensures

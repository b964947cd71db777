use Rattle.std.proofs.Common.{◌<◌, length, arith}
use Rattle.rio_session.proofs.RowCosts.{costing_begins, costing_ends, costing_goes_on}
use Rattle.rio_session.proofs.fill.fill_cost.Goals as goal

pub loop-k-init : goal.loop-k-init
loop-k-init c = costing_begins c.args.row.now c.args.pending

pub overflow_add-cost : goal.overflow_add-cost
overflow_add-cost c =
    let i = c.loop-k.invariant in
    omega (arith, i.low, i.within, c.requires.few, c.entry_cost-cost.ensures.low)

pub loop-k-preserved : goal.loop-k-preserved
loop-k-preserved c =
    let lt : c.loop-k.k < length c.args.row.now = omega (arith, c.loop-k-test.true, c.count-k-end.ensures) in
    costing_goes_on c.args.row.now c.args.pending c.loop-k.k c.loop-k.cost c.loop-k.invariant lt c.entry_cost-cost.result c.entry_cost-cost.ensures.exact c.entry_cost-cost.ensures.low

pub returns : goal.returns
returns c = costing_ends c.args.row.now c.args.pending c.loop-k.k c.loop-k.cost c.loop-k.invariant (omega (arith, c.loop-k-test.false, c.count-k-end.ensures))

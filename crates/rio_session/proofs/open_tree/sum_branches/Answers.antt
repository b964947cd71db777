use Rattle.std.proofs.Common.{◌<◌, length, arith}
use Rattle.std.specs.Option.{option_copied}
use Rattle.rio_session.specs.Measures.{IsBoundedBranch}
use Rattle.rio_session.proofs.Summed.{all_at, all_written_low, filled_low, found, summing_begins, summing_ends, summing_goes_on}
use Rattle.rio_session.proofs.open_tree.sum_branches.Goals as goal

pub loop-k-init : goal.loop-k-init
loop-k-init c = summing_begins c.args.tree.now c.args.filler.now.branches (option_copied c.args.row) c.args.flags

pub with_branch_at-sums-requires-clause-written : goal.with_branch_at-sums-requires-clause-written
with_branch_at-sums-requires-clause-written c = all_written_low c.args.filler.now.branches c.requires.written

pub with_branch_at-sums-requires-clause-low : goal.with_branch_at-sums-requires-clause-low
with_branch_at-sums-requires-clause-low c =
    let i = c.loop-k.invariant in
    (omega (arith, i.bytes, i.within, c.requires.few), omega (arith, i.baskets, i.within, c.requires.few), omega (arith, i.named, i.within, c.requires.few, c.requires.written))

pub loop-k-preserved : goal.loop-k-preserved
loop-k-preserved c =
    let bs = c.args.filler.now.branches in
    let row = option_copied c.args.row in
    let k = c.loop-k.k in
    let lt : k < length bs = omega (arith, c.loop-k-test.true) in
    let f = found bs k lt in
    summing_goes_on c.args.tree.now bs row c.args.flags k c.loop-k.sums c.loop-k.invariant f.0 f.1 c.with_branch_at-sums.result (c.with_branch_at-sums.ensures.exact f.0 f.1) c.with_branch_at-sums.ensures.low
    (filled_low row c.args.flags k f.0 c.requires.small (all_at IsBoundedBranch bs c.requires.bounded k f.0 f.1))

pub returns-clause-exact : goal.returns-clause-exact
returns-clause-exact c = summing_ends c.args.tree.now c.args.filler.now.branches (option_copied c.args.row) c.args.flags c.loop-k.k c.loop-k.sums c.loop-k.invariant (omega (arith, c.loop-k-test.false))

pub returns-clause-low : goal.returns-clause-low
returns-clause-low c =
    let i = c.loop-k.invariant in
    (omega (arith, i.bytes, i.within, c.requires.few), omega (arith, i.baskets, i.within, c.requires.few))

pub returns-clause-few : goal.returns-clause-few
returns-clause-few c = let i = c.loop-k.invariant in omega (arith, i.named, i.within, c.requires.few, c.requires.written)

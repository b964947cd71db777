use Rattle.std.proofs.Common.{arith}
use Rattle.std.specs.Option.{option_copied}
use Rattle.rio_session.proofs.Summed.{by_row_low}
use Rattle.rio_session.proofs.open_tree.with_branch_at.Goals as goal

pub with_branch-requires-clause-count : goal.with_branch-requires-clause-count
with_branch-requires-clause-count c =
    let low = by_row_low c.args.filler.now.branches (option_copied c.args.row) c.args.flags c.args.k c.requires.there c.requires.bounded c.requires.written c.requires.small c.filled_by.result c.filled_by.ensures in
    omega (arith, low.count)

pub with_branch-requires-clause-bytes : goal.with_branch-requires-clause-bytes
with_branch-requires-clause-bytes c =
    let low = by_row_low c.args.filler.now.branches (option_copied c.args.row) c.args.flags c.args.k c.requires.there c.requires.bounded c.requires.written c.requires.small c.filled_by.result c.filled_by.ensures in
    omega (arith, low.bytes)

pub with_branch-requires-clause-written : goal.with_branch-requires-clause-written
with_branch-requires-clause-written c =
    let low = by_row_low c.args.filler.now.branches (option_copied c.args.row) c.args.flags c.args.k c.requires.there c.requires.bounded c.requires.written c.requires.small c.filled_by.result c.filled_by.ensures in
    omega (arith, low.written_low)

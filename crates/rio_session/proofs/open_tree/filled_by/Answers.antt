use Rattle.std.proofs.Common.{IfSome, subst, arith}
use Rattle.std.specs.Option.{option_copied}
use Rattle.rio_session.specs.Measures.{IsSmallRow}
use Rattle.rio_session.proofs.Summed.{entry_low, read_low}
use Rattle.rio_session.proofs.open_tree.filled_by.Goals as goal

pub filled_with-requires-clause-written : goal.filled_with-requires-clause-written
filled_with-requires-clause-written c =
    let low = read_low c.args.filler.now.branches c.args.k c.requires.there c.requires.bounded c.requires.written c.filled_at-now.result c.filled_at-now.ensures in
    omega (arith, low.written)

pub filled_with-requires-clause-count : goal.filled_with-requires-clause-count
filled_with-requires-clause-count c =
    let low = read_low c.args.filler.now.branches c.args.k c.requires.there c.requires.bounded c.requires.written c.filled_at-now.result c.filled_at-now.ensures in
    omega (arith, low.count)

pub filled_with-requires-clause-bytes : goal.filled_with-requires-clause-bytes
filled_with-requires-clause-bytes c =
    let low = read_low c.args.filler.now.branches c.args.k c.requires.there c.requires.bounded c.requires.written c.filled_at-now.result c.filled_at-now.ensures in
    let small : IsSmallRow c.in-Some.row.now = subst (λ o. IfSome (option_copied o) IsSmallRow) c.in-Some.is c.requires.small in
    omega (arith, low.bytes, c.entry_length.ensures, entry_low c.in-Some.row.now small c.args.k)

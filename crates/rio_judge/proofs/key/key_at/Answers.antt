use Rattle.std.proofs.Common.{◌<◌, arith}
use Rattle.rio_judge.proofs.KeysOfState.{none_above_first}
use Rattle.rio_judge.proofs.key.key_at.Goals as goal

pub returns-then-cycle-from-clause-none : goal.returns-then-cycle-from-clause-none
returns-then-cycle-from-clause-none c none ordered =
    let h = c.args.newest.now in
    let above : h.cycle < c.args.cycle = omega (arith, c.from.ensures, c.if-cycle-from.true) in
    none_above_first c.args.table.now.heads c.args.name.now h c.args.cycle ordered c.requires above

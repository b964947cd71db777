use Rattle.std.proofs.Common.{arith, subst}
use Rattle.rio_chain.proofs.Words.{whole_long}
use Rattle.rio_session.specs.Steps.{CanStep}
use Rattle.rio_session.proofs.closing.note_step.Goals as goal

pub note_put-requires-clause-some : goal.note_put-requires-clause-some
note_put-requires-clause-some c =
    let can = subst (CanStep c.args.chain.now.segments) c.in-Put.is c.requires.can in
    omega (arith, whole_long _ _ can.whole, c.len.ensures)

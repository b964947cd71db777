use Rattle.std.proofs.Common.{refl}
use Rattle.rio_host.proofs.PiecesLaws.{part_front}
use Rattle.rio_report.proofs.Gather.{cut_behind, cut_unsaid}
use Rattle.rio_report.proofs.pieces.say_before.Goals as goal

pub returns-in-Ok-clause-says : goal.returns-in-Ok-clause-says
returns-in-Ok-clause-says g c = λ text_of. cut_behind c.args.held.now.bytes text_of c.in-Ok.ensures.says

pub returns-in-Err-clause-says : goal.returns-in-Err-clause-says
returns-in-Err-clause-says g c = λ text_of.
    cut_unsaid c.args.held.now.bytes text_of (part_front (λ file. c.args.held.now.bytes) text_of c.in-Err.ensures.says.part) (c.say_held.ensures.unsaid (rw c.in-Err.is refl))

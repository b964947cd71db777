use Rattle.std.proofs.Common.{[], refl}
use Rattle.rio_host.proofs.PiecesLaws.{piece_cut}
use Rattle.rio_report.proofs.Gather.{cut_unsaid}
use Rattle.rio_report.proofs.pieces.say_piece.Goals as goal

pub returns-in-Err-clause-says : goal.returns-in-Err-clause-says
returns-in-Err-clause-says g c =
    cut_unsaid [] (λ file. c.args.text.now)
    (piece_cut c.args.text.now c.say.ensures.time c.say.ensures.holds c.say.ensures.reads c.say.ensures.disk_faults c.in-Err.ensures.failed c.say.ensures.say_faults)
    (c.say.ensures.cause (rw c.in-Err.is refl))

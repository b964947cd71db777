use Rattle.std.proofs.lemmas.Result.{err_from_is_err_and}
use Rattle.rio_host.proofs.ReadsLaws.{reads_none}
use Rattle.rio_machine.specs.RefusalText.{refusal_text}
use Rattle.rio_report.proofs.Gather.{cut_reads}
use Rattle.rio_report.proofs.pieces.say_refusal.Goals as goal

pub returns-in_err-print_refusal-clause-says : goal.returns-in_err-print_refusal-clause-says
returns-in_err-print_refusal-clause-says g c =
    let p = err_from_is_err_and c.from_residual.result c.from_residual.ensures.1 in
    rw p.1 (cut_reads (λ file. refusal_text c.args.refusal.now) (reads_none (g.H.Host.view c.args.host.now)))

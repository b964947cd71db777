use Rattle.std.proofs.lemmas.Result.{err_from_is_err_and}
use Rattle.rio_host.proofs.ReadsLaws.{reads_none}
use Rattle.rio_report.specs.Scan.{unread_line}
use Rattle.rio_report.proofs.Gather.{cut_reads}
use Rattle.rio_report.proofs.scan.say_unread.Goals as goal

pub returns-in_err-text-clause-says : goal.returns-in_err-text-clause-says
returns-in_err-text-clause-says g c =
    let p = err_from_is_err_and c.from_residual.result c.from_residual.ensures.1 in
    rw p.1 (cut_reads (λ file. unread_line c.args.key.now c.args.instead.now) (reads_none (g.H.Host.view c.args.host.now)))

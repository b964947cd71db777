use Rattle.std.proofs.{Common.{◌++◌, ap}, lemmas.Result.{err_from_is_err_and}}
use Rattle.rio_host.proofs.ReadsLaws.{reads_none}
use Rattle.rio_num.specs.Room.{Room}
use Rattle.rio_machine.specs.RefusalText.{refusal_text}
use Rattle.rio_report.proofs.Gather.{cut_reads, says_as}
use Rattle.rio_report.proofs.scan.say_rows_refusal.Goals as goal

pub returns-clause-says : goal.returns-clause-says
returns-clause-says g c =
    says_as (g.H.Host.view c.args.host.now) (g.H.Host.view c.say_held.new.host) (λ file. c.print_refusal.new.into.bytes) (λ file. c.args.held.now.bytes ++ refusal_text c.args.refusal.now)
    (λ file told. ap (λ (r : Room). r.bytes) c.in_ok-print_refusal.ensures.ok) c.say_held.result c.say_held.ensures.says

pub returns-in_err-print_refusal-clause-says : goal.returns-in_err-print_refusal-clause-says
returns-in_err-print_refusal-clause-says g c =
    let p = err_from_is_err_and c.from_residual.result c.from_residual.ensures.1 in
    rw p.1 (cut_reads (λ file. c.args.held.now.bytes ++ refusal_text c.args.refusal.now) (reads_none (g.H.Host.view c.args.host.now)))

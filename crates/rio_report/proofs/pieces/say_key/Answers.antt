use Rattle.std.proofs.{Common.{List, ℕ}, lemmas.Result.{err_from_is_err_and}}
use Rattle.rio_report.specs.Dump.{stored_line}
use Rattle.rio_report.proofs.Gather.{cut_reads, gathered_reads, says_held}
use Rattle.rio_report.proofs.pieces.say_key.Goals as goal

pub returns-clause-says : goal.returns-clause-says
returns-clause-says g c =
    let text_of : List ℕ → List ℕ = λ file. stored_line file c.args.classes.now c.args.key.now in
    let held = c.put_stored_line.new.text.bytes in
    says_held (g.H.Host.view c.args.host.now) (g.H.Host.view c.put_stored_line.new.host) (g.H.Host.view c.say_held.new.host)
    (g.met.H.Host.lawful c.args.host.now) (g.met.H.Host.lawful c.put_stored_line.new.host) text_of held
    (gathered_reads text_of held c.put_stored_line.ensures.calls (λ file told. rw c.new-line.ensures at (c.in_ok-put_stored_line.ensures.line file told))) c.say_held.result c.say_held.ensures.says c.say_held.ensures.unsaid

pub returns-in_err-put_stored_line-clause-says : goal.returns-in_err-put_stored_line-clause-says
returns-in_err-put_stored_line-clause-says g c =
    let p = err_from_is_err_and c.from_residual.result c.from_residual.ensures.1 in
    rw p.1 (cut_reads (λ file. stored_line file c.args.classes.now c.args.key.now) c.put_stored_line.ensures.calls)

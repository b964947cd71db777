use Rattle.std.proofs.{Common.{◌∙◌, ap, arith}, lemmas.Result.{err_from_is_err_and}}
use Rattle.rio_host.proofs.ReadsLaws.{reads_then_says, said_all}
use Rattle.rio_dir.specs.{declared.closed.Closed.{Closed}, Closed.{closed_file}, Listing.{key_lines, listed_file, said_listing}}
use Rattle.rio_close.specs.Causes.{IsTested}
use Rattle.rio_report.proofs.{Dumps.{read_refuses}, Lines.{listed_bad, listed_ok, listed_said, listed_text}}
use Rattle.rio_report.proofs.ls.say_listing.Goals as goal

pub returns-in_err-closed-clause-refused : goal.returns-in_err-closed-clause-refused
returns-in_err-closed-clause-refused g c file told =
    let p = err_from_is_err_and c.from_residual.result c.from_residual.ensures.1 in
    rw (p.1, p.2) (read_refuses {X = Closed} IsTested (g.H.Host.view c.args.host.now) (g.H.Host.view c.open_closed.new.host) (listed_file file) (closed_file file) (listed_bad file) c.in_err-closed.field-0.0 (c.in_err-closed.ensures.exact file told) c.in_err-closed.ensures.cause)

pub returns-in-Ok-clause-done : goal.returns-in-Ok-clause-done
returns-in-Ok-clause-done g c file told =
    listed_said file c.in_ok-closed.closed _ _ _ c.as_slice-2.result.now (c.in_ok-closed.ensures.exact file told) c.open_closed.ensures.calls.said
    (c.as_slice-2.ensures ∙ c.in_ok-text.ensures ∙ ap key_lines c.as_slice.ensures) c.in-Ok.ensures.said

pub returns-in-Ok-clause-refused : goal.returns-in-Ok-clause-refused
returns-in-Ok-clause-refused g c file told = listed_ok file c.in_ok-closed.closed (c.in_ok-closed.ensures.exact file told)

pub returns-clause-refused : goal.returns-clause-refused
returns-clause-refused g c file told = listed_ok file c.in_ok-closed.closed (c.in_ok-closed.ensures.exact file told)

pub returns-in-Ok-clause-calls : goal.returns-in-Ok-clause-calls
returns-in-Ok-clause-calls g c =
    reads_then_says (λ file. said_listing (listed_file file)) c.as_slice-2.result.now (g.met.H.Host.lawful c.open_closed.new.host) c.open_closed.ensures.calls
    (λ file told. c.as_slice-2.ensures ∙ c.in_ok-text.ensures ∙ ap key_lines c.as_slice.ensures ∙ listed_text file c.in_ok-closed.closed (c.in_ok-closed.ensures.exact file told))
    (said_all c.as_slice-2.result.now _ _ c.in-Ok.ensures.said) c.say.ensures.time c.say.ensures.holds (omega (arith, c.say.ensures.reads)) (omega (arith, c.say.ensures.disk_faults)) c.say.ensures.say_faults

pub returns-clause-calls : goal.returns-clause-calls
returns-clause-calls g c =
    reads_then_says (λ file. said_listing (listed_file file)) c.as_slice-2.result.now (g.met.H.Host.lawful c.open_closed.new.host) c.open_closed.ensures.calls
    (λ file told. c.as_slice-2.ensures ∙ c.in_ok-text.ensures ∙ ap key_lines c.as_slice.ensures ∙ listed_text file c.in_ok-closed.closed (c.in_ok-closed.ensures.exact file told))
    c.in-Err.ensures.failed c.say.ensures.time c.say.ensures.holds (omega (arith, c.say.ensures.reads)) (omega (arith, c.say.ensures.disk_faults)) c.say.ensures.say_faults

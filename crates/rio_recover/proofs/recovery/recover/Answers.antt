use Rattle.std.proofs.{Common.{◌∙◌}, lemmas.Result.{err_from_is_err_and}}
use Rattle.rio_host.proofs.ReadsLaws.{reads_join}
use Rattle.rio_recover.proofs.{Answering.{tells_all, walk_refused}, Recovering.{answered}}
use Rattle.rio_recover.proofs.recovery.recover.Goals as goal

pub returns-in_err-walked-clause-answer : goal.returns-in_err-walked-clause-answer
returns-in_err-walked-clause-answer g c file told =
    let p = err_from_is_err_and c.from_residual.result c.from_residual.ensures.1 in
    rw (p.1, p.2) (walk_refused file c.in_err-walked.field-0.0 (c.requires file told) (c.in_err-walked.ensures.told file told))

pub returns-in_err-walked-clause-told : goal.returns-in_err-walked-clause-told
returns-in_err-walked-clause-told g c file told =
    let p = err_from_is_err_and c.from_residual.result c.from_residual.ensures.1 in
    rw (p.1, p.2) (tells_all file _ (walk_refused file c.in_err-walked.field-0.0 (c.requires file told) (c.in_err-walked.ensures.told file told)))

pub returns-clause-answer : goal.returns-clause-answer
returns-clause-answer g c file told =
    let is = c.in_ok-walked.ensures.told file told in
    let told1 = c.walk_file.ensures.calls.holds ∙ told in
    answered file (c.requires file told) c.in_ok-walked.walked is c.recover_walked.result c.recover_walked.ensures.kept c.recover_walked.ensures.ordered c.recover_walked.ensures.named
    (c.recover_walked.ensures.told file is.links told1 is.chain is.heads)

pub returns-clause-told : goal.returns-clause-told
returns-clause-told g c file told =
    let is = c.in_ok-walked.ensures.told file told in
    let told1 = c.walk_file.ensures.calls.holds ∙ told in
    tells_all file c.recover_walked.result
    (answered file (c.requires file told) c.in_ok-walked.walked is c.recover_walked.result c.recover_walked.ensures.kept c.recover_walked.ensures.ordered c.recover_walked.ensures.named
    (c.recover_walked.ensures.told file is.links told1 is.chain is.heads))

pub returns-clause-calls : goal.returns-clause-calls
returns-clause-calls g c = reads_join (g.met.H.Host.lawful c.walk_file.new.host) c.walk_file.ensures.calls c.recover_walked.ensures.calls

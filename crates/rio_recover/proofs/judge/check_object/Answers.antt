use Rattle.std.proofs.lemmas.Result.{err_from_is_err_and}
use Rattle.rio_recover.proofs.Judging.{obtains_judged}
use Rattle.rio_recover.proofs.judge.check_object.Goals as goal

pub returns-in_err-is_object-clause-told : goal.returns-in_err-is_object-clause-told
returns-in_err-is_object-clause-told g c file r beside told stands same classes kind =
    let p = err_from_is_err_and c.from_residual.result c.from_residual.ensures.1 in
    rw (p.1, p.2) (obtains_judged c.in_err-is_object.field-0.0 _ _ _ (c.in_err-is_object.ensures.object file r told stands same))

use Rattle.std.proofs.{Common.{◌∙◌, ap}, lemmas.Result.{err_from_is_err_and}}
use Rattle.std.specs.Option.{option_copied}
use Rattle.rio_recover.proofs.{BytesRead.{stands_with}, Judging.{obtains_on}}
use Rattle.rio_recover.proofs.classes.read_classes.Goals as goal

pub returns-in_err-bytes-in-Some-clause-classes : goal.returns-in_err-bytes-in-Some-clause-classes
returns-in_err-bytes-in-Some-clause-classes g c file found told stands same =
    let p = err_from_is_err_and c.from_residual.result c.from_residual.ensures.1 in
    let r = stands_with file found c.in-Some.head.now (same ∙ ap option_copied c.in-Some.is) stands in
    rw (p.1, p.2) (obtains_on c.in_err-bytes-in-Some.field-0.0 _ _ (c.in_err-bytes-in-Some.ensures.bytes file r.item told r.stands r.head_is))

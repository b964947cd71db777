use Rattle.std.proofs.{Common.{◌∙◌, List, ℕ, drop, ap}, lemmas.Result.{err_from_is_err_and}}
use Rattle.std.specs.Option.{is_some}
use Rattle.rio_format.specs.Objects.{first_at}
use Rattle.rio_state.specs.Contents.{stored_in}
use Rattle.rio_recover.specs.Keys.{keyed}
use Rattle.rio_recover.proofs.{Judging.{obtains_on}, Objects.{object_same}}
use Rattle.rio_recover.proofs.object.is_object.Goals as goal

pub returns-in_err-bytes-clause-object : goal.returns-in_err-bytes-clause-object
returns-in_err-bytes-clause-object g c file r told stands same =
    let p = err_from_is_err_and c.from_residual.result c.from_residual.ensures.1 in
    rw (p.1, p.2) (obtains_on c.in_err-bytes.field-0.0 _ _ (c.in_err-bytes.ensures.bytes file r told stands same))

pub returns-clause-object : goal.returns-clause-object
returns-clause-object g c file r told stands same =
    let classes = c.args.classes.now in
    let head = c.args.head.now in
    let bytes = c.in_ok-bytes.ensures.bytes file r told stands same in
    c.in_ok-spells_object.ensures
    ∙ ap (λ (contents : List ℕ). is_some (stored_in classes (keyed head) (first_at classes head.class head.keylen contents))) (c.data_of.ensures ∙ ap (drop head.keylen) c.deref.ensures.value)
    ∙ ap is_some (object_same classes r head c.in_ok-bytes.bytes.items same bytes)

use Rattle.std.proofs.{Common.{◌∙◌, List, ℕ, drop, ap, subst, sym}, lemmas.Result.{err_from_is_err_and}}
use Rattle.rio_num.specs.At.{AreBytes}
use Rattle.rio_format.specs.Objects.{first_at}
use Rattle.rio_state.specs.Trees.{header_by}
use Rattle.rio_recover.specs.Classes.{classes_in}
use Rattle.rio_recover.proofs.{Headers.{header_same, read_found}, Judging.{obtains_on}}
use Rattle.rio_recover.proofs.header.read_header.Goals as goal

pub returns-in_err-bytes-clause-header : goal.returns-in_err-bytes-clause-header
returns-in_err-bytes-clause-header g c file r told stands same =
    let p = err_from_is_err_and c.from_residual.result c.from_residual.ensures.1 in
    rw (p.1, p.2) (obtains_on c.in_err-bytes.field-0.0 _ _ (c.in_err-bytes.ensures.bytes file r told stands same))

pub returns-clause-plain : goal.returns-clause-plain
returns-clause-plain g c file r told stands same =
    let bytes = c.in_ok-bytes.ensures.bytes file r told stands same in
    let whole = c.data_of.ensures ∙ (λ i. drop (sym same i).keylen ((c.deref.ensures.value ∙ bytes) i)) in
    subst AreBytes whole c.header_in_data.ensures.plain

pub returns-clause-header : goal.returns-clause-header
returns-clause-header g c file r told stands same =
    let classes = c.args.classes.now in
    let head = c.args.head.now in
    let bytes = c.in_ok-bytes.ensures.bytes file r told stands same in
    c.in_ok-header_in_data.ensures.header
    ∙ ap (λ (contents : List ℕ). header_by classes.registry head.name (first_at classes.described head.class head.keylen contents)) (c.data_of.ensures ∙ ap (drop head.keylen) c.deref.ensures.value)
    ∙ header_same (classes_in classes) r head c.in_ok-bytes.bytes.items same bytes

pub returns-clause-read : goal.returns-clause-read
returns-clause-read g c =
    let classes = c.args.classes.now in
    let head = c.args.head.now in
    read_found classes.registry head.name (first_at classes.described head.class head.keylen c.data_of.result.now) c.in_ok-header_in_data.field-0 c.in_ok-header_in_data.ensures.header

use Rattle.std.proofs.Common.{◌≡◌, ◌∙◌, Option, None, ap, sym, subst}
use Rattle.std.specs.Result.{IfOk}
use Rattle.rio_format.specs.Objects.{first_at}
use Rattle.rio_tree.specs.declared.head.TreeHead.{TreeHead}
use Rattle.rio_recover.specs.Trees.{written_head}
use Rattle.rio_recover.proofs.Headers.{header_none, header_some}
use Rattle.rio_recover.proofs.header.header_in_data.Goals as goal

pub returns-in-Some-clause-header : goal.returns-in-Some-clause-header
returns-in-Some-clause-header c =
    let head = c.args.head.now in
    let classes = c.args.classes.now in
    let s = first_at classes.described head.class head.keylen c.args.contents.now in
    let is = rw c.in-Some.is at c.in_ok-padded.ensures in
    let same = (λ i. written_head (c.classes-declared.ensures i) (c.as_slice.ensures i) c.in-Some.value) ∙ header_some classes.registry head.name s c.in-Some.value is in
    subst (λ (o : Option TreeHead). IfOk c.written_head.result (λ found. found ≡ o)) same c.written_head.ensures

pub returns-in-None-clause-header : goal.returns-in-None-clause-header
returns-in-None-clause-header c =
    let head = c.args.head.now in
    let classes = c.args.classes.now in
    header_none classes.registry head.name (first_at classes.described head.class head.keylen c.args.contents.now) (rw c.in-None.is at c.in_ok-padded.ensures)

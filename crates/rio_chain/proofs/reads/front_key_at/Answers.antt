use Rattle.std.proofs.Common.{◌∙◌, sym, subst}
use Rattle.rio_chain.specs.Found.{FindsKey}
use Rattle.rio_chain.proofs.Words.{has_same}
use Rattle.rio_chain.proofs.reads.front_key_at.Goals as goal

pub returns-clause-key : goal.returns-clause-key
returns-clause-key g c file told bytes long has =
    let same = has_same file c.args.place c.in_ok-bytes.bytes.items bytes (c.in_ok-bytes.ensures.count ∙ sym long) (c.in_ok-bytes.ensures.bytes file told) has in
    subst (λ l. FindsKey l c.in_ok-key_in.field-0) (c.deref.ensures.value ∙ same) c.in_ok-key_in.ensures.key

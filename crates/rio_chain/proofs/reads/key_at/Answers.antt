use Rattle.std.proofs.Common.{◌∙◌, subst, rules}
use Rattle.rio_chain.specs.Found.{FindsKeyAt}
use Rattle.rio_chain.proofs.Keys.{finds_some, finds_all}
use Rattle.rio_chain.proofs.reads.key_at.Goals as goal

pub returns-in-Some-clause-key : goal.returns-in-Some-clause-key
returns-in-Some-clause-key g c file told =
    finds_some file c.args.place c.args.n c.min.result 256 c.in-Some.head (search rules)
    (subst (λ o. FindsKeyAt c.args.place c.min.result o file) c.in-Some.is (c.in_ok-head.ensures.key file told))

pub returns-in_ok-front_key_at-in-None-clause-key : goal.returns-in_ok-front_key_at-in-None-clause-key
returns-in_ok-front_key_at-in-None-clause-key g c file told =
    finds_all file c.args.place c.args.n c.min-in-None.result c.in_ok-front_key_at-in-None.field-0 (search rules)
    (c.in_ok-front_key_at-in-None.ensures.key file (c.in_ok-head.ensures.calls.holds ∙ told))

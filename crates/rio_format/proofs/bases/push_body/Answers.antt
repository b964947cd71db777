use Rattle.std.proofs.Common.{◌≡◌, ap, sym, ◌∙◌}
use Rattle.rio_format.specs.{Bodies.{described, t_named}, BodyKinds.{body_of_kind}}
use Rattle.rio_format.proofs.bases.push_body.Goals as goal

pub returns-in-Named-clause-pushed : goal.returns-in-Named-clause-pushed
returns-in-Named-clause-pushed c =
    let named : c.in-Some.body ≡ described t_named = sym c.body.view_is ∙ ap body_of_kind c.in-Named.is in
    rw (c.in-Some.is, named) c.push_base.ensures.pushed

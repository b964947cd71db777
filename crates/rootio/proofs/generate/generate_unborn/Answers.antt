use Rattle.std.proofs.Common.{◌∙◌, sym}
use Rattle.rootio.proofs.NewFiles.{made_refused}
use Rattle.rootio.proofs.generate.generate_unborn.Goals as goal

pub generate_new-requires-clause-unborn : goal.generate_new-requires-clause-unborn
generate_new-requires-clause-unborn g c file told = sym (c.requires.told file told) ∙ c.if-unborn.true

pub returns-else-unborn : goal.returns-else-unborn
returns-else-unborn g c =
    made_refused c.args.target.now c.args.entries (g.H.Host.view c.args.host.now) (g.H.Host.view c.refuse_made.new.host) c.refuse_made.ensures.calls (g.met.H.Host.lawful c.args.host.now)
    (λ file told. sym (c.requires.told file told) ∙ c.if-unborn.false) c.refuse_made.result c.refuse_made.ensures.refused

use Rattle.std.proofs.Common.{◌∙◌, [], refl, sym}
use Rattle.rootio.specs.declared.words.Work.TheVariants.{Generate}
use Rattle.rootio.proofs.NewFiles.{look_failed, looked_and_ran}
use Rattle.rootio.proofs.generate.generate_file.Goals as goal

pub generate_unborn-requires-clause-told : goal.generate_unborn-requires-clause-told
generate_unborn-requires-clause-told g c file told = c.in-Ok.ensures.exact file (sym c.in-Ok.ensures.calls.holds ∙ told)

pub returns-in-Ok : goal.returns-in-Ok
returns-in-Ok g c =
    looked_and_ran (Generate c.args.target.now c.args.entries) [] (g.H.Host.view c.args.host.now) (g.H.Host.view c.is_unborn.new.host) (g.H.Host.view c.generate_unborn.new.host) c.generate_unborn.result
    c.in-Ok.ensures.calls (g.met.H.Host.lawful c.args.host.now) (g.met.H.Host.lawful c.is_unborn.new.host) (c.in-Ok.ensures.cause.counted refl) c.generate_unborn.ensures

pub returns-in-Err : goal.returns-in-Err
returns-in-Err g c =
    look_failed c.args.target.now c.args.entries (g.H.Host.view c.args.host.now) (g.H.Host.view c.is_unborn.new.host)
    c.in-Err.ensures.calls (g.met.H.Host.lawful c.args.host.now) (c.in-Err.ensures.cause.rose refl)

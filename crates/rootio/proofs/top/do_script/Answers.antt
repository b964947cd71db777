use Rattle.std.proofs.Common.{refl}
use Rattle.rootio.specs.declared.words.Work.TheVariants.{Run}
use Rattle.rootio.proofs.Works.{no_input, with_input}
use Rattle.rootio.proofs.top.do_script.Goals as goal

pub returns-in-Ok-clause-work : goal.returns-in-Ok-clause-work
returns-in-Ok-clause-work g c =
    with_input (Run c.args.target.now) refl (g.H.Host.view c.args.host.now) (g.H.Host.view c.run_script.new.host) (g.S.Source.view c.args.input.now) (g.S.Source.view c.read_input.new.input)
    c.in-Ok.script c.run_script.result c.in-Ok.ensures (rw c.as_slice.ensures at c.run_script.ensures)

pub returns-in-Err-clause-work : goal.returns-in-Err-clause-work
returns-in-Err-clause-work g c =
    rw c.status_of_input.ensures
    (no_input (Run c.args.target.now) refl (g.H.Host.view c.args.host.now) (g.S.Source.view c.args.input.now) (g.S.Source.view c.read_input.new.input) c.in-Err.error c.in-Err.ensures)

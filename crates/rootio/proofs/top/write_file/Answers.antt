use Rattle.std.proofs.Common.{refl}
use Rattle.rootio.specs.declared.words.Work.TheVariants.{Recover, Generate}
use Rattle.rootio.proofs.Works.{not_with_input, with_none}
use Rattle.rootio.proofs.top.write_file.Goals as goal

pub returns-in-Recover-clause-work : goal.returns-in-Recover-clause-work
returns-in-Recover-clause-work g c =
    rw c.in-Recover.is
    (with_none (Recover c.in-Recover.target) refl (g.H.Host.view c.args.host.now) (g.H.Host.view c.recover_file.new.host) (g.S.Source.view c.args.input.now)
    c.recover_file.result c.recover_file.ensures)

pub returns-in-Recover-clause-input_alone : goal.returns-in-Recover-clause-input_alone
returns-in-Recover-clause-input_alone g c ends =
    absurd (not_with_input (g.H.Host.view c.args.host.now) (g.H.Host.view c.recover_file.new.host) c.recover_file.result c.recover_file.ensures.cause ends)

pub returns-in-Generate-clause-work : goal.returns-in-Generate-clause-work
returns-in-Generate-clause-work g c =
    rw c.in-Generate.is
    (with_none (Generate c.in-Generate.target c.in-Generate.entries) refl (g.H.Host.view c.args.host.now) (g.H.Host.view c.generate_file.new.host) (g.S.Source.view c.args.input.now)
    c.generate_file.result c.generate_file.ensures)

pub returns-in-Generate-clause-input_alone : goal.returns-in-Generate-clause-input_alone
returns-in-Generate-clause-input_alone g c ends =
    absurd (not_with_input (g.H.Host.view c.args.host.now) (g.H.Host.view c.generate_file.new.host) c.generate_file.result c.generate_file.ensures.cause ends)

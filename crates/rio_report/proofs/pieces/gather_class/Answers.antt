use Rattle.std.proofs.Common.{List, ℕ, subst}
use Rattle.rio_report.specs.{Dump.{class_line}, Gathered.{Gathers}}
use Rattle.rio_report.proofs.pieces.gather_class.Goals as goal

pub returns-in-Ok-clause-says : goal.returns-in-Ok-clause-says
returns-in-Ok-clause-says g c =
    subst (λ (line : List ℕ). Gathers c.args.held.now.bytes (λ file. line) c.hold_line.new.held.bytes (g.H.Host.view c.args.host.now) (g.H.Host.view c.hold_line.new.host) c.hold_line.result)
    (rw c.new-line.ensures at c.in-Ok.ensures) c.hold_line.ensures.says

pub returns-clause-says : goal.returns-clause-says
returns-clause-says g c = rw c.say_before.ensures.fault (c.say_before.ensures.says (λ file. class_line c.args.class.now))

pub returns-clause-cause : goal.returns-clause-cause
returns-clause-cause g c = rw c.say_before.ensures.fault c.say_before.ensures.calm

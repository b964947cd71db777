use Rattle.std.proofs.Common.{◌++◌, List, ℕ, ap, subst, ◌∙◌}
use Rattle.rio_num.specs.Room.{Room}
use Rattle.rio_report.specs.Gathered.{CutShort}
use Rattle.rio_report.proofs.Gather.{line_held}
use Rattle.rio_report.proofs.pieces.hold_line.Goals as goal

pub returns-in-Ok-clause-says : goal.returns-in-Ok-clause-says
returns-in-Ok-clause-says g c =
    line_held (g.H.Host.view c.args.host.now) (g.H.Host.view c.say_long.new.host) c.args.held.now.bytes c.args.line.now.bytes c.put.new.self.bytes c.say_long.new.held.bytes
    (ap (λ (r : Room). r.bytes) c.in-Ok.ensures ∙ ap (λ (l : List ℕ). c.args.held.now.bytes ++ l) c.as_slice.ensures) c.say_long.result c.say_long.ensures.says c.say_long.ensures.unsaid

pub returns-in-Err-clause-says : goal.returns-in-Err-clause-says
returns-in-Err-clause-says g c =
    rw c.say_before.ensures.fault
    (subst (λ (held : List ℕ). CutShort held (λ file. c.args.line.now.bytes) (g.H.Host.view c.args.host.now) (g.H.Host.view c.say_before.new.host))
    (ap (λ (r : Room). r.bytes) c.in-Err.ensures.0) (c.say_before.ensures.says (λ file. c.args.line.now.bytes)))

pub returns-in-Err-clause-cause : goal.returns-in-Err-clause-cause
returns-in-Err-clause-cause g c = rw c.say_before.ensures.fault c.say_before.ensures.calm

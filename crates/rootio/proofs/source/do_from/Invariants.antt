use Rattle.std.proofs.Common.{length}
use Rattle.rootio.specs.Script.{commands_in}
use Rattle.rootio.proofs.Feeding.{DoingFrom}
use Rattle.rootio.proofs.source.do_from.Given as goal

abbrev pub invariant-each : goal.invariant-each
invariant-each g l =
    DoingFrom l.fn.replies (g.H.Host.view l.fn.host) (g.H.Host.view l.host) l.fn.session l.session (commands_in (g.C.CommandSource.left l.fn.commands))
    (g.C.CommandSource.left l.commands)

abbrev pub decreases-each : goal.decreases-each
decreases-each g l = length (commands_in (g.C.CommandSource.left l.commands))

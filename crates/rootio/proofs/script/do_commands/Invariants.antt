use Rattle.rio_session.specs.declared.replies.Replies.TheVariants.{Printed}
use Rattle.rootio.proofs.Doing.{Doing}
use Rattle.rootio.proofs.script.do_commands.Given as goal

abbrev pub invariant-loop-command : goal.invariant-loop-command
invariant-loop-command g l = Doing Printed (g.H.Host.view l.fn.host) (g.H.Host.view l.host) l.fn.session l.session l.commands l.command-index

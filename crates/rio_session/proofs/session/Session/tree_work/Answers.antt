use Rattle.std.proofs.Common.{inr, subst}
use Rattle.rio_judge.specs.declared.work.AnyWork.TheVariants.{Tree}
use Rattle.rio_judge.specs.declared.work.TreeWork.{TreeWork}
use Rattle.rio_session.specs.Doable.{AnyCanBeDone, IsToDo}
use Rattle.rio_session.proofs.ScanDoes.{scan_is_done}
use Rattle.rio_session.proofs.session.Session.tree_work.Goals as goal

pub returns-in-Make-clause-does : goal.returns-in-Make-clause-does
returns-in-Make-clause-does g c command todo = c.tree.ensures.does command (subst (λ (w : TreeWork). IsToDo c.args.self.now command (Tree w)) c.in-Make.is todo)

pub returns-in-Fill-clause-does : goal.returns-in-Fill-clause-does
returns-in-Fill-clause-does g c command todo = c.fill.ensures.does command (subst (λ (w : TreeWork). IsToDo c.args.self.now command (Tree w)) c.in-Fill.is todo)

pub returns-in-Save-clause-does : goal.returns-in-Save-clause-does
returns-in-Save-clause-does g c command todo = c.save.ensures.does command (subst (λ (w : TreeWork). IsToDo c.args.self.now command (Tree w)) c.in-Save.is todo)

pub returns-in-Delete-clause-does : goal.returns-in-Delete-clause-does
returns-in-Delete-clause-does g c command todo = c.delete.ensures.does command (inr (subst (λ (w : TreeWork). IsToDo c.args.self.now command (Tree w)) c.in-Delete.is todo))

pub returns-in-Scan-clause-does : goal.returns-in-Scan-clause-does
returns-in-Scan-clause-does g c command todo =
    scan_is_done c.args.replies (g.H.Host.view c.args.host.now) (g.H.Host.view c.scan.new.host) c.args.self.now c.scan.new.self (g.met.H.Host.lawful c.args.host.now) (g.met.H.Host.lawful c.scan.new.host) c.requires.ready c.requires.fresh c.scan.result
    command c.in-Scan.head c.in-Scan.class (subst (λ (w : TreeWork). IsToDo c.args.self.now command (Tree w)) c.in-Scan.is todo) (subst (λ (w : TreeWork). AnyCanBeDone c.args.self.now (Tree w)) c.in-Scan.is c.requires.can).1 c.scan.ensures.sound c.scan.ensures.tells

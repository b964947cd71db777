use Rattle.std.proofs.Common.{subst}
use Rattle.rio_session.specs.Doable.{IsToDo}
use Rattle.rio_session.proofs.session.Session.work.Goals as goal

pub returns-in-Item-clause-does : goal.returns-in-Item-clause-does
returns-in-Item-clause-does g c command todo = c.item_work.ensures.does command (subst (IsToDo c.args.self.now command) c.in-Item.is todo)

pub returns-in-Tree-clause-does : goal.returns-in-Tree-clause-does
returns-in-Tree-clause-does g c command todo = c.tree_work.ensures.does command (subst (IsToDo c.args.self.now command) c.in-Tree.is todo)

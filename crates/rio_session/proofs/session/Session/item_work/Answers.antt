use Rattle.std.proofs.Common.{◌∙◌, inl, ap, subst, sym}
use Rattle.rio_judge.specs.declared.work.AnyWork.TheVariants.{Item}
use Rattle.rio_judge.specs.declared.work.Work.{Work, TheVariants.{Batch as StoringAll}}
use Rattle.rio_session.specs.Doable.{CanBeDone, IsToDo}
use Rattle.rio_session.proofs.CommandDoes.{get_is_done, ls_is_done}
use Rattle.rio_session.proofs.session.Session.item_work.Goals as goal

pub returns-in-Class-clause-does : goal.returns-in-Class-clause-does
returns-in-Class-clause-does g c command todo = c.class.ensures.does command (subst (λ (w : Work). IsToDo c.args.self.now command (Item w)) c.in-Class.is todo)

pub returns-in-Put-clause-does : goal.returns-in-Put-clause-does
returns-in-Put-clause-does g c command todo = c.put.ensures.does command (subst (λ (w : Work). IsToDo c.args.self.now command (Item w)) c.in-Put.is todo)

pub put_all-requires-clause-can : goal.put_all-requires-clause-can
put_all-requires-clause-can g c = subst (CanBeDone c.args.self.now) (c.in-Batch.is ∙ ap StoringAll (sym c.as_slice.ensures)) c.requires.can

pub returns-in-Batch-clause-does : goal.returns-in-Batch-clause-does
returns-in-Batch-clause-does g c command todo =
    c.put_all.ensures.does command (subst (λ (w : Work). IsToDo c.args.self.now command (Item w)) (c.in-Batch.is ∙ ap StoringAll (sym c.as_slice.ensures)) todo)

pub returns-in-Delete-clause-does : goal.returns-in-Delete-clause-does
returns-in-Delete-clause-does g c command todo = c.delete.ensures.does command (inl (subst (λ (w : Work). IsToDo c.args.self.now command (Item w)) c.in-Delete.is todo))

pub returns-in-Get-clause-does : goal.returns-in-Get-clause-does
returns-in-Get-clause-does g c command todo =
    get_is_done c.args.replies (g.H.Host.view c.args.host.now) (g.H.Host.view c.get.new.host) c.args.self.now c.get.new.self (g.met.H.Host.lawful c.args.host.now) (g.met.H.Host.lawful c.get.new.host) c.requires.ready c.requires.fresh c.get.result
    command c.in-Get.head c.in-Get.version (subst (λ (w : Work). IsToDo c.args.self.now command (Item w)) c.in-Get.is todo) c.get.ensures.sound c.get.ensures.tells

pub returns-in-Ls-clause-does : goal.returns-in-Ls-clause-does
returns-in-Ls-clause-does g c command todo =
    ls_is_done c.args.replies (g.H.Host.view c.args.host.now) (g.H.Host.view c.list.new.host) c.args.self.now c.list.new.self (g.met.H.Host.lawful c.args.host.now) (g.met.H.Host.lawful c.list.new.host) c.requires.ready c.requires.fresh c.list.result
    command (subst (λ (w : Work). IsToDo c.args.self.now command (Item w)) c.in-Ls.is todo) c.list.ensures.sound c.list.ensures.says c.list.ensures.outcome

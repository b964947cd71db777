use Rattle.std.proofs.Common.{Option, subst, arith}
use Rattle.rio_key.specs.declared.head.KeyHead.{KeyHead}
use Rattle.rio_recover.specs.Classes.{HasListCycle}
use Rattle.rio_session.proofs.ListCalls.{few_classes}
use Rattle.rio_session.proofs.session.Session.next_list_cycle.Goals as goal

pub overflow_add-result : goal.overflow_add-result
overflow_add-result c =
    let few = few_classes c.self.inside.registry c.self.invariant.classes in
    let low = subst (λ (o : Option KeyHead). HasListCycle o c.self.inside.registry) c.in-Some.is c.self.invariant.listed in
    omega (arith, few, low)

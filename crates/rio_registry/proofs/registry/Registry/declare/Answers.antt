use Rattle.std.proofs.Common.{◌≡◌, List, [], ◌∷◌, ◌++◌, subst, sym, ap, ◌∙◌}
use Rattle.rio_model.specs.Declaring.{declared}
use Rattle.rio_format.specs.declared.class.ClassDef.{ClassDef}
use Rattle.rio_registry.specs.Fronts.{AreClosed}
use Rattle.rio_registry.proofs.ClosedLaws.{all_closed, closed_push, no_fault_known}
use Rattle.rio_registry.proofs.registry.Registry.declare.Goals as goal

pub declare_fault-requires : goal.declare_fault-requires
declare_fault-requires c = all_closed c.self.inside.classes c.self.invariant

pub invariant_of-self-2 : goal.invariant_of-self-2
invariant_of-self-2 c =
    let cs = c.self.inside.classes in
    let class = c.args.class in
    let known = no_fault_known cs class (sym c.in_ok-fault.ensures ∙ c.in_default.is) in
    let is : c.push.new.self ≡ cs ++ declared cs class ∷ [] = c.in_ok-push.ensures.ok ∙ ap (λ (d : ClassDef). cs ++ d ∷ []) c.in_ok-class.ensures in
    subst (λ (xs : List ClassDef). AreClosed xs) (sym is) (closed_push cs class c.self.invariant known)

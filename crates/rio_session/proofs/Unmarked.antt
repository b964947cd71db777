-- A command that isn't refused with a mark isn't without one.
use Rattle.std.proofs.Common.{◌≡◌, Option, Some, None, refl, sym, ◌∙◌}
use Rattle.rio_machine.specs.{State.{State}, declared.command.Command.{Command}, declared.refusal.Refusal.{Refusal}}
use Rattle.rio_step.specs.Refusing.{FullMark, refusal_of}
use Rattle.rio_session.proofs.Refused.{refused_anyway}

pub unmarked : (m : State) (c : Command) (mark : Option FullMark) → refusal_of m c mark ≡ None → refusal_of m c None ≡ None
unmarked m c mark is = by (refusal_of m c None) refl
  where
    by : (o : Option Refusal) → refusal_of m c None ≡ o → refusal_of m c None ≡ None
    by None own = own
    by (Some refusal) own = let never : Some refusal ≡ None = sym (refused_anyway m c mark refusal own) ∙ is in absurd cc

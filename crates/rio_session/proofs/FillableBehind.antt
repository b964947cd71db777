-- The trees of the state behind a command that isn't refused can be filled.
use Rattle.std.proofs.Common.{◌≡◌, None, true, sym, ap, subst}
use Rattle.rio_machine.specs.{State.{State}, declared.command.Command.{Command}}
use Rattle.rio_step.proofs.FillableLaws.{stays_fillable}
use Rattle.rio_step.specs.{Refusing.{refusal_of}, Statable.{is_statable}, Step.{by_refusal, state_behind, step}, Storable.{IsFillable}}

pub fillable_behind : (m : State) (c : Command) → is_statable c ≡ true → refusal_of m c None ≡ None → IsFillable m → IsFillable (state_behind m c)
unfolding step
fillable_behind m c statable free fillable = subst IsFillable (ap (λ o. (by_refusal m c o).state) free) (stays_fillable.stays m c None statable fillable)

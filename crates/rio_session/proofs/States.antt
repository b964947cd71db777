-- The states that a session stands for: what of them its file reads as.
use Rattle.std.proofs.Common.{◌≡◌, ℕ, List, refl}
use Rattle.rio_machine.specs.State.{State}
use Rattle.rio_step.specs.Runs.{saved_of}
use Rattle.rio_session.specs.{Items.{IsOfKeys}, Session.{HoldsState, SessionState}}

-- pending rows are of trees alone
pub saved_classes : (m : State) → (saved_of m).classes ≡ m.classes
unfolding saved_of
saved_classes m = refl

pub saved_objects : (m : State) → (saved_of m).objects ≡ m.objects
unfolding saved_of
saved_objects m = refl

-- the state that a session stands for is one of its keys
abbrev pub of_keys : (s : SessionState) (m : State) (file : List ℕ) → HoldsState s m file → IsOfKeys s m
of_keys s m file h = h.stands

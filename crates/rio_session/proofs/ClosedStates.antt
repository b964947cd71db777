-- A close of trees with pending rows: meanwhile each crash image reads as one of the states of its saves, and then the file is that of the last.
use Rattle.std.proofs.Common.{◌≡◌, ℕ, ◌==◌, ◌<◌, ◌^◌, List, [], length, false, Some, refl}
use Rattle.std.specs.FinMap.{get}
use Rattle.rio_host.specs.Host.{Elapses, View}
use Rattle.rio_chain.specs.declared.segment.Segment.{Segment}
use Rattle.rio_machine.specs.{Limits.{cycle_limit}, State.{State, Tree}}
use Rattle.rio_step.specs.Runs.{closed_of}
use Rattle.rio_effect.specs.HeaderRecords.{HeadersHaveRecords}
use Rattle.rio_session.specs.{Changing.{ChangesInTime, Changing, IsUnderway}, Due.{IsClosableWith}, Fillings.{closing, pending_names}, Kept.{all_done}, Session.{ClosesAs, StandsFor}, SessionState.{SessionState}}
use Rattle.rio_session.proofs.{ClosingStages.{EndsOn}, ClosingSteps.{CanBeClosing, closing_step}, ClosingTime.{ends, file_then, saves_in_time}}

-- no tree with pending rows is at its last cycle
abbrev pub HaveCycles : State → Type 0
HaveCycles m = (name : List ℕ) (t : Tree) → get m.trees name ≡ Some t → (length t.pending == 0) ≡ false → t.cycle < cycle_limit

module _ (headers : HeadersHaveRecords) (v : View) (s : SessionState) (m : State) (text : List ℕ) (stands : StandsFor v s m text) (closable : IsClosableWith s.segments s.heads s.trees s.info s.name) (soon : s.datime < 2 ^ 32) (low : HaveCycles m)
    (p : Changing) (changes : p.changes ≡ (closing s).changes) (silent : p.text ≡ []) where
  pub good : CanBeClosing s m (pending_names s)
  good = record { due = refl; closable = closable; soon = soon; low = low }

  pub closing_in_time : (new : View) → ChangesInTime p v new s → Elapses v new (ClosesAs m text)
  closing_in_time new time = saves_in_time CanBeClosing (closing_step headers) v s m text stands good p changes silent new time

  module _ (mid : View) (segments : List Segment) (u : IsUnderway p (length p.changes) v mid s segments) where
    pub closing_ends : EndsOn (closing s).kept (closed_of m) (file_then CanBeClosing (closing_step headers) v s m text stands good p changes silent mid segments u) (all_done (closing s).changes stands.state.links)
    closing_ends = ends CanBeClosing (closing_step headers) v s m text stands good p changes silent mid segments u

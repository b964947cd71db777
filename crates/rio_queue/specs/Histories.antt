-- Lists of steps, from the first one on: the units that were handed over, how many of them were taken, and the open units.
use Rattle.std.specs.{Prelude.{◌≡◌, ◌≤◌, ◌<◌, ℕ, ◌+◌, ◌^◌, List, [], ◌∷◌, ◌++◌, length, drop, replicate}, List.{fold}}
use Rattle.rio_queue.specs.Steps.{CanStep, CoreState, Effect, effect_of, empty_unit}
use Rattle.rio_queue.specs.declared.fillers.OpenUnit.{OpenUnit}
use Rattle.rio_queue.specs.declared.steps.Step.{Step}
use Rattle.rio_queue.specs.declared.steps.StepReply.{StepReply, TheVariants.{Added, Handed, Taken, Refused}}
use Rattle.rio_queue.specs.declared.steps.Unit.{Unit as RowUnit}

pub record History : Type 0 where
  -- the units of the accepted hands, in order
  pub handed : List RowUnit
  -- how many takes were accepted
  pub taken : ℕ
  -- of each filler the rows that it added since its last accepted hand, and how many hands were accepted
  pub fillers : List OpenUnit

-- the queue: the units that were handed over, without the first ones, which were taken
abbrev pub queue_of : History → List RowUnit
queue_of h = drop h.taken h.handed

abbrev pub effect_in : ℕ → History → Step → Effect
effect_in cap h step = effect_of cap (queue_of h) h.fillers step

-- the history with one step more
abbrev pub history_with : ℕ → History → Step → History
history_with cap h step =
    let d = effect_in cap h step in record { handed = h.handed ++ d.put; taken = h.taken + d.taken; fillers = d.fillers }

-- so many fillers, before the first step
abbrev pub initial_history : ℕ → History
initial_history fillers = record { handed = []; taken = 0; fillers = replicate fillers empty_unit }

-- the history of a list of steps, with at most so many units in the queue and so many fillers
unfoldable pub history_of : ℕ → ℕ → List Step → History
history_of cap fillers steps = fold (history_with cap) (initial_history fillers) steps

abbrev pub handed_of : ℕ → ℕ → List Step → List RowUnit
handed_of cap fillers steps = (history_of cap fillers steps).handed

abbrev pub taken_of : ℕ → ℕ → List Step → ℕ
taken_of cap fillers steps = (history_of cap fillers steps).taken

-- the reply to a step after a list of them
abbrev pub reply_after : ℕ → ℕ → List Step → Step → StepReply
reply_after cap fillers steps step = (effect_in cap (history_of cap fillers steps) step).reply

-- ---- what a core keeps of a history

-- its queue and its open units
pub record KeepsHistory (h : History) (core : CoreState) : Type 0 where
  pub queue : core.queue ≡ queue_of h
  pub fillers : core.fillers ≡ h.fillers
  pub within : h.taken ≤ length h.handed

-- the core keeps those of these steps
abbrev pub IsAfter : ℕ → List Step → CoreState → Type 0
IsAfter fillers steps core = KeepsHistory (history_of core.cap fillers steps) core

-- after fewer than 2^32 steps any step can be done
abbrev pub NumbersSuffice : Type 0
NumbersSuffice = (fillers : ℕ) (steps : List Step) (step : Step) (core : CoreState)
    → length steps < 2 ^ 32 → IsAfter fillers steps core → CanStep core step

-- ---- replies

-- the unit that a reply gives
abbrev pub unit_in : StepReply → List RowUnit
unit_in (Taken unit) = unit ∷ []
unit_in (Added rows) = []
unit_in (Handed unit) = []
unit_in (Refused number) = []

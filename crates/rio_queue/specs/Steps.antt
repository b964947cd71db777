-- What one step does to the queue and to the open units.
use Rattle.std.specs.Prelude.{◌≡◌, ◌<◌, ℕ, ◌+◌, ◌^◌, List, [], ◌∷◌, ◌++◌, ◌==◌, length, drop, slice_get, slice_set, nat_le, Option, Some, None, if◌then◌else◌}
use Rattle.rio_format.specs.declared.value.Value.{Value}
use Rattle.rio_queue.specs.declared.fillers.OpenUnit.{OpenUnit}
use Rattle.rio_queue.specs.declared.steps.Step.{Step, TheVariants.{Add, Hand, Take}}
use Rattle.rio_queue.specs.declared.steps.StepReply.{StepReply, TheVariants.{Added, Handed, Taken, Refused}}
use Rattle.rio_queue.specs.declared.steps.Unit.{Unit as RowUnit}

abbrev pub Row : Type 0
Row = List Value

-- how many units the queue holds at most, the units in it, the oldest first, and the open unit of each filler
pub record CoreState : Type 0 where
  pub cap : ℕ
  pub queue : List RowUnit
  pub fillers : List OpenUnit

-- how many rows a unit holds at most
abbrev pub unit_limit : ℕ
unit_limit = 10000

-- ---- the open unit of one filler

-- before its first row
abbrev pub empty_unit : OpenUnit
empty_unit = record { rows = []; handed = 0 }

abbrev pub with_row : Row → OpenUnit → OpenUnit
with_row row o = record o { rows = o.rows ++ row ∷ [] }

-- the unit that is put into the queue when it is handed over: all its rows, under the next number of the filler, from 0
abbrev pub unit_of : ℕ → OpenUnit → RowUnit
unit_of filler o = record { filler = filler; number = o.handed; rows = o.rows }

-- what is open then
abbrev pub unit_after_hand : OpenUnit → OpenUnit
unit_after_hand o = record { rows = []; handed = o.handed + 1 }

-- ---- steps

-- what a step does: the reply, the open units then, the units that are put at the end of the queue, and how many leave it at its front
pub record Effect : Type 0 where
  pub reply : StepReply
  pub fillers : List OpenUnit
  pub put : List RowUnit
  pub taken : ℕ

-- a refused step changes nothing
abbrev pub refusal_effect : List OpenUnit → ℕ → Effect
refusal_effect fillers number = record { reply = Refused number; fillers = fillers; put = []; taken = 0 }

-- a row is added: 22 without such a filler, 26 where its open unit is full
abbrev pub add_effect : List OpenUnit → ℕ → Row → Option OpenUnit → Effect
add_effect fillers filler row None = refusal_effect fillers 22
add_effect fillers filler row (Some o) =
    if nat_le unit_limit (length o.rows) then refusal_effect fillers 26
    else record { reply = Added (length o.rows + 1); fillers = slice_set fillers filler (with_row row o); put = []; taken = 0 }

-- the open unit is handed over: 22 without such a filler, 23 where the queue is full, 25 where the unit has no rows
abbrev pub hand_effect : ℕ → List RowUnit → List OpenUnit → ℕ → Option OpenUnit → Effect
hand_effect cap queue fillers filler None = refusal_effect fillers 22
hand_effect cap queue fillers filler (Some o) =
    if nat_le cap (length queue) then refusal_effect fillers 23
    else if length o.rows == 0 then refusal_effect fillers 25
    else record { reply = Handed o.handed; fillers = slice_set fillers filler (unit_after_hand o); put = unit_of filler o ∷ []; taken = 0 }

-- the oldest unit is taken: 24 where the queue is empty
abbrev pub take_effect : List OpenUnit → List RowUnit → Effect
take_effect fillers [] = refusal_effect fillers 24
take_effect fillers (unit ∷ queue) = record { reply = Taken unit; fillers = fillers; put = []; taken = 1 }

abbrev pub effect_of : ℕ → List RowUnit → List OpenUnit → Step → Effect
effect_of cap queue fillers (Add filler row) = add_effect fillers filler row (slice_get fillers filler)
effect_of cap queue fillers (Hand filler) = hand_effect cap queue fillers filler (slice_get fillers filler)
effect_of cap queue fillers Take = take_effect fillers queue

-- ---- the core

abbrev pub core_after : CoreState → Effect → CoreState
core_after core d = record { cap = core.cap; queue = drop d.taken core.queue ++ d.put; fillers = d.fillers }

abbrev pub core_effect : CoreState → Step → Effect
core_effect core step = effect_of core.cap core.queue core.fillers step

-- the step is done, with this reply
pub record IsStep (old : CoreState) (step : Step) (reply : StepReply) (new : CoreState) : Type 0 where
  pub reply_is : reply ≡ (core_effect old step).reply
  pub core_is : new ≡ core_after old (core_effect old step)

-- a number of 32 bits is left for the next unit of the filler
abbrev pub HasNumber : Option OpenUnit → Type 0
HasNumber None = Unit {0}
HasNumber (Some o) = o.handed < 2 ^ 32

abbrev pub CanStep : CoreState → Step → Type 0
CanStep core (Add filler row) = Unit {0}
CanStep core (Hand filler) = HasNumber (slice_get core.fillers filler)
CanStep core Take = Unit {0}

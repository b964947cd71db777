-- Logs: steps with their replies. What was handed over and taken, the queue, the open units and the next reply, by a log alone.
use Rattle.std.specs.{Prelude.{◌≡◌, ℕ, ◌+◌, List, [], ◌∷◌, ◌++◌, ◌==◌, length, drop, take, nat_le, slice_get, Option, Some, None, if◌then◌else◌}, List.{filter, flat_map}}
use Rattle.rio_queue.specs.Steps.{Row, unit_limit}
use Rattle.rio_queue.specs.Histories.{History, effect_in, history_of, history_with, initial_history, reply_after, unit_in}
use Rattle.rio_queue.specs.declared.fillers.OpenUnit.{OpenUnit}
use Rattle.rio_queue.specs.declared.steps.Step.{Step, TheVariants.{Add, Hand, Take}}
use Rattle.rio_queue.specs.declared.steps.StepReply.{StepReply, TheVariants.{Added, Handed, Taken, Refused}}
use Rattle.rio_queue.specs.declared.steps.Unit.{Unit as RowUnit}

pub record Logged : Type 0 where
  pub step : Step
  pub reply : StepReply

-- a log has the latest step first
abbrev pub Log : Type 0
Log = List Logged

-- the log of these steps too, the first of which comes after a history and its log
abbrev pub log_with : ℕ → History → Log → List Step → Log
log_with cap h log [] = log
log_with cap h log (step ∷ steps) =
    log_with cap (history_with cap h step) (record { step = step; reply = (effect_in cap h step).reply } ∷ log) steps

abbrev pub log_of : ℕ → ℕ → List Step → Log
log_of cap fillers steps = log_with cap (initial_history fillers) [] steps

-- ---- one filler

abbrev pub rows_with : ℕ → Step → StepReply → List Row → List Row
rows_with filler (Add other row) (Added n) rows = if other == filler then rows ++ row ∷ [] else rows
rows_with filler (Hand other) (Handed n) rows = if other == filler then [] else rows
rows_with filler step reply rows = rows

-- the rows that it added since its last accepted hand
abbrev pub rows_since : ℕ → Log → List Row
rows_since filler [] = []
rows_since filler (l ∷ earlier) = rows_with filler l.step l.reply (rows_since filler earlier)

abbrev pub hands_with : ℕ → Step → StepReply → ℕ → ℕ
hands_with filler (Hand other) (Handed n) hands = if other == filler then hands + 1 else hands
hands_with filler step reply hands = hands

-- how many of its hands were accepted
abbrev pub hands_in : ℕ → Log → ℕ
hands_in filler [] = 0
hands_in filler (l ∷ earlier) = hands_with filler l.step l.reply (hands_in filler earlier)

-- ---- all fillers

-- the unit of an accepted hand
abbrev pub unit_handed : Step → StepReply → Log → List RowUnit
unit_handed (Hand filler) (Handed n) earlier =
    record { filler = filler; number = hands_in filler earlier; rows = rows_since filler earlier } ∷ []
unit_handed step reply earlier = []

-- the units of the accepted hands, in order
abbrev pub handed_in : Log → List RowUnit
handed_in [] = []
handed_in (l ∷ earlier) = handed_in earlier ++ unit_handed l.step l.reply earlier

-- the units that were taken, in order
abbrev pub units_taken : Log → List RowUnit
units_taken [] = []
units_taken (l ∷ earlier) = units_taken earlier ++ unit_in l.reply

-- how many takes were accepted
abbrev pub takes_in : Log → ℕ
takes_in [] = 0
takes_in (l ∷ earlier) = takes_in earlier + length (unit_in l.reply)

abbrev pub queue_in : Log → List RowUnit
queue_in log = drop (takes_in log) (handed_in log)

-- ---- the rows of a filler

-- the row that a filler adds by a step with this reply, if it adds one
abbrev pub row_in : ℕ → Step → StepReply → List Row
row_in filler (Add other row) (Added n) = if other == filler then row ∷ [] else []
row_in filler step reply = []

-- the rows that it added, in order
abbrev pub rows_added : ℕ → Log → List Row
rows_added filler [] = []
rows_added filler (l ∷ earlier) = rows_added filler earlier ++ row_in filler l.step l.reply

-- the rows of its units, joined
abbrev pub rows_of_units : ℕ → List RowUnit → List Row
rows_of_units filler units = flat_map (λ u. u.rows) (filter (λ u. u.filler == filler) units)

-- ---- the next reply

abbrev pub taken_reply : List RowUnit → StepReply
taken_reply [] = Refused 24
taken_reply (unit ∷ queue) = Taken unit

-- by the lowest number whose condition holds, or what is accepted
abbrev pub reply_in : ℕ → ℕ → Log → Step → StepReply
reply_in cap fillers log (Add filler row) =
    if nat_le fillers filler then Refused 22
    else if nat_le unit_limit (length (rows_since filler log)) then Refused 26
    else Added (length (rows_since filler log) + 1)
reply_in cap fillers log (Hand filler) =
    if nat_le fillers filler then Refused 22
    else if nat_le cap (length (queue_in log)) then Refused 23
    else if length (rows_since filler log) == 0 then Refused 25
    else Handed (hands_in filler log)
reply_in cap fillers log Take = taken_reply (queue_in log)

-- ---- laws

-- a step more is logged with its reply
abbrev pub LogGrows : Type 0
LogGrows = (cap fillers : ℕ) (steps : List Step) (step : Step)
    → log_of cap fillers (steps ++ step ∷ []) ≡ record { step = step; reply = reply_after cap fillers steps step } ∷ log_of cap fillers steps

-- the open unit of a filler, if there is such a filler
abbrev pub open_in : ℕ → Log → ℕ → Option OpenUnit
open_in fillers log filler =
    if nat_le fillers filler then None else Some (record { rows = rows_since filler log; handed = hands_in filler log })

-- a history is that of a log
pub record IsLogged (fillers : ℕ) (log : Log) (h : History) : Type 0 where
  pub handed : h.handed ≡ handed_in log
  pub taken : h.taken ≡ takes_in log
  pub open_units : (filler : ℕ) → slice_get h.fillers filler ≡ open_in fillers log filler

abbrev pub HistoryIsLogged : Type 0
HistoryIsLogged = (cap fillers : ℕ) (steps : List Step) → IsLogged fillers (log_of cap fillers steps) (history_of cap fillers steps)

abbrev pub RepliesByLog : Type 0
RepliesByLog = (cap fillers : ℕ) (steps : List Step) (step : Step)
    → reply_after cap fillers steps step ≡ reply_in cap fillers (log_of cap fillers steps) step

-- the rows of a filler's units, joined, and those of its open unit are the rows that it added
abbrev pub UnitsKeepRows : Type 0
UnitsKeepRows = (filler : ℕ) (log : Log) → rows_of_units filler (handed_in log) ++ rows_since filler log ≡ rows_added filler log

-- the units that were taken are the first of those that were handed over
abbrev pub TakenInOrder : Type 0
TakenInOrder = (cap fillers : ℕ) (steps : List Step)
    → let log = log_of cap fillers steps in units_taken log ≡ take (takes_in log) (handed_in log)

-- The states of a run and what it says.
use Rattle.std.specs.{Prelude.{ℕ, List, [], ◌∷◌, ◌++◌, drop, length, map, Bool, not, ◌==◌, Option, None}, declared.cmp.Ordering.{Ordering}}
use Rattle.std.specs.{FinMap.{FinMap, entries, from_entries}, List.{filter, fold}}
use Rattle.rio_machine.specs.{State.{State, Tree}, declared.command.Command.{Command, TheVariants.{Save}}}
use Rattle.rio_step.specs.{Refusing.{FullMark}, ReplyText.{text_of}, Step.{Stepped, state_behind, step}}

-- the marks of commands, in order; commands behind the last of them have none
abbrev pub Marks : Type 0
Marks = List (Option FullMark)

abbrev pub first_mark : Marks → Option FullMark
first_mark [] = None
first_mark (mark ∷ marks) = mark

abbrev pub later_marks : Marks → Marks
later_marks marks = drop 1 marks

-- the first command of a run, done
abbrev pub first_step : State → Command → Marks → Stepped
first_step m c marks = step m c (first_mark marks)

-- the state behind all commands
unfoldable pub state_after : State → List Command → Marks → State
state_after m [] marks = m
state_after m (c ∷ cs) marks = state_after (first_step m c marks).state cs (later_marks marks)

-- ---- the close

abbrev pub has_pending : Tree → Bool
has_pending t = not (length t.pending == 0)

-- a save for each tree with pending rows, in the order of their names
unfoldable pub closing_saves : State → List Command
closing_saves m = map (λ e. Save e.0) (filter (λ e. has_pending e.1) (entries m.trees))

-- the states behind saves that nothing refuses
unfoldable pub states_behind : State → List Command → List State
states_behind m [] = []
states_behind m (c ∷ cs) = let next = state_behind m c in next ∷ states_behind next cs

-- the state in which all pending rows are saved
unfoldable pub closed_of : State → State
closed_of m = fold state_behind m (closing_saves m)

-- ---- runs

-- the state at the start, behind each command, and behind each closing save
unfoldable pub states_of_run : State → List Command → Marks → List State
states_of_run m [] marks = m ∷ states_behind m (closing_saves m)
states_of_run m (c ∷ cs) marks = m ∷ states_of_run (first_step m c marks).state cs (later_marks marks)

-- the texts of all replies, in order
unfoldable pub said_of : State → List Command → Marks → List ℕ
said_of m [] marks = []
said_of m (c ∷ cs) marks = let next = first_step m c marks in text_of next.reply ++ said_of next.state cs (later_marks marks)

-- ---- without pending rows

-- a map with each of its values changed
abbrev pub values_changed : {K X : Type 0} {R : K → K → Ordering} → (X → X) → FinMap R X → FinMap R X
values_changed {R = R} change xs = from_entries {R = R} (map (λ e. (e.0, change e.1)) (entries xs))

abbrev pub saved_tree : Tree → Tree
saved_tree t = record t { pending = [] }

-- the state without its pending rows: what a stop leaves of it
unfoldable pub saved_of : State → State
saved_of m = record m { trees = values_changed saved_tree m.trees }

-- What a sink does. It stands for states of writing, and goes on as what is written grows.
use Rattle.std.specs.Prelude.{◌≡◌, ◌<◌, ◌≤◌, ℕ, ◌+◌, ◌-◌, ◌^◌, List, Bool, IsTrue, length, Some, Result, Ok, Err}
use Rattle.rio_num.specs.declared.no_memory.NoMemory.{NoMemory}
use Rattle.rio_format.specs.{Writer.{Writer, WriterState, counted_from, ended, innermost, next_place}, Written.{just}}
use Rattle.rio_write.specs.Writing.{HasRoom, with_written}

-- this is written behind each state that it stood for
unfoldable pub Accepted : {X : Type 0} → (X → WriterState → Type 0) → Writer → X → X → Type 0
Accepted stands write old new = (s : WriterState) → stands old s → stands new (with_written write s)

-- It was written so, or memory ran out.
abbrev pub Accepts : {X : Type 0} → (X → WriterState → Type 0) → Writer → Result (Unit {0}) NoMemory → X → X → Type 0
Accepts stands write (Ok x) old new = Accepted stands write old new
Accepts stands write (Err e) old new = Unit {0}

-- where its places are bounded, it stands for a state of which this holds
unfoldable pub StandsWithin : {X : Type 0} → (X → WriterState → Type 0) → Bool → (WriterState → Type 0) → X → Type 0
StandsWithin stands bounded holds x = IsTrue bounded → (s : WriterState) × stands x s × holds s

-- where its places are bounded, all places of what is written can be referred to
abbrev pub RoomFor : {X : Type 0} → (X → WriterState → Type 0) → Bool → Writer → X → Type 0
RoomFor stands bounded write x = StandsWithin stands bounded (HasRoom write) x

-- ---- bytes, whatever names of classes are spelled out

-- These bytes were taken, or memory ran out.
abbrev pub SinkTakes : {S : Type 0} → (S × List (List ℕ) → WriterState → Type 0) → List ℕ → Result (Unit {0}) NoMemory → S → S → Type 0
SinkTakes stands bytes result old new = (names : List (List ℕ)) → Accepts stands (just bytes) result (old, names) (new, names)

-- ---- objects

-- an object can be pointed to whose count word stands here
abbrev pub CanPoint : WriterState → Type 0
CanPoint s = next_place s < 2 ^ 30 - 2

-- behind each state that it stood for an object is begun by the state that is given, with its count word at the place
unfoldable pub Opened : {X : Type 0} → (X → WriterState → Type 0) → Bool → (WriterState → WriterState) → ℕ → X → X → Type 0
Opened stands bounded begin place old new = (s : WriterState) → stands old s → stands new (begin s) × (IsTrue bounded → place ≡ length s.bytes)

-- An object was begun so, or memory ran out.
abbrev pub OpensIn : {X B : Type 0} → (X → WriterState → Type 0) → Bool → (B → ℕ) → (WriterState → WriterState) → Result B NoMemory → X → X → Type 0
OpensIn stands bounded place begin (Ok b) old new = Opened stands bounded begin (place b) old new
OpensIn stands bounded place begin (Err e) old new = Unit {0}

-- the innermost object has its count word at the place, and a count that a word can tell
abbrev pub CanClose : ℕ → WriterState → Type 0
CanClose place s = (innermost s.opened ≡ Some place) × (counted_from place s.bytes < 2 ^ 30)

-- the innermost object is closed in each state that it stood for
unfoldable pub Closes : {X : Type 0} → (X → WriterState → Type 0) → X → X → Type 0
Closes stands old new = (s : WriterState) (place : ℕ) → stands old s → innermost s.opened ≡ Some place → place + 4 ≤ length s.bytes → stands new (ended place s)

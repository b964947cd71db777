-- The input: all of it is read before anything else is looked at, up to its limit.
use Rattle.std.specs.Prelude.{◌≡◌, ◌<◌, ◌≤◌, ℕ, ◌+◌, List, [], ◌++◌, length, Some, Bool, true, false, Option, Result, Ok, Err}
use Rattle.rio_num.specs.Room.{Room}
use Rattle.rio_host.specs.{Host.{Becomes, Rose}, Source.{Input}}
use Rattle.rootio.specs.{Causes.{NoInputFault}, Reading.{reads_input}}
use Rattle.rootio.specs.declared.input.InputError.{InputError, TheVariants.{Fault, NoMemory as OutOfMemory, TooLong}}
use Rattle.rootio.specs.declared.status.Status.{Status, TheVariants.{Done, Usage, BadFile, DiskFault, InputFault, NoMemory, InputTooLong, ReadOnly, SayFault}}
use Rattle.rootio.specs.declared.words.Form.{Form}

-- how many bytes an input may have
abbrev pub input_limit : ℕ
input_limit = 67108864

-- ---- reading

-- these bytes were taken from the front of what remained
abbrev pub Taken : List ℕ → List ℕ → List ℕ → Type 0
Taken bytes old new = old ≡ bytes ++ new

-- all of what remained was these bytes
abbrev pub TakenAll : List ℕ → List ℕ → List ℕ → Type 0
TakenAll bytes old new = (old ≡ bytes) × (new ≡ [])

-- A piece was taken of what remained and put behind what was taken before.
pub record TakesMore (before after : Input) (old new : List ℕ) : Type 0 where
  pub piece : List ℕ
  pub some : 0 < length piece
  pub grown : new ≡ old ++ piece
  pub within : length new ≤ input_limit
  pub taken : Becomes (Taken piece) before.remaining after.remaining

-- Behind what was taken before: a piece more, or nothing where nothing remained; or the whole is longer than an input may be, a
-- read failed, or there was no memory.
abbrev pub TakesPiece : Input → Input → List ℕ → List ℕ → Result Bool InputError → Type 0
TakesPiece before after old new (Ok true) = TakesMore before after old new × NoInputFault before after
TakesPiece before after old new (Ok false) = Becomes (TakenAll []) before.remaining after.remaining × (new ≡ old) × NoInputFault before after
TakesPiece before after old new (Err Fault) = Rose before.faults after.faults
TakesPiece before after old new (Err OutOfMemory) = NoInputFault before after
TakesPiece before after old new (Err TooLong) =
    ((rest : List ℕ) → before.remaining ≡ Some rest → input_limit < length old + length rest) × NoInputFault before after

-- what remains is more than an input may have
abbrev pub IsTooLong : Input → Type 0
IsTooLong before = (bytes : List ℕ) → before.remaining ≡ Some bytes → input_limit < length bytes

-- all of the input was read, which is no longer than it may be; or it is longer, a read failed, or there was no memory
abbrev pub ReadsAll : Input → Input → Result Room InputError → Type 0
ReadsAll before after (Ok text) =
    Becomes (TakenAll text.bytes) before.remaining after.remaining × (length text.bytes ≤ input_limit) × NoInputFault before after
ReadsAll before after (Err Fault) = Rose before.faults after.faults
ReadsAll before after (Err OutOfMemory) = NoInputFault before after
ReadsAll before after (Err TooLong) = IsTooLong before × NoInputFault before after

-- ---- what it makes of a run

-- how a run ends whose input isn't read whole
abbrev pub status_of_input : InputError → Status
status_of_input Fault = InputFault
status_of_input OutOfMemory = NoMemory
status_of_input TooLong = InputTooLong

-- an input that is told to be too long is so
abbrev pub TellsTooLong : Input → Status → Type 0
TellsTooLong before status = status ≡ InputTooLong → IsTooLong before

-- the input is too long, unless memory ran out or a read failed before
abbrev pub IsTooLongUnlessCut : Status → Type 0
IsTooLongUnlessCut Done = ⊥
IsTooLongUnlessCut Usage = ⊥
IsTooLongUnlessCut (BadFile place kind) = ⊥
IsTooLongUnlessCut DiskFault = ⊥
IsTooLongUnlessCut InputFault = Unit {0}
IsTooLongUnlessCut NoMemory = Unit {0}
IsTooLongUnlessCut InputTooLong = Unit {0}
IsTooLongUnlessCut (ReadOnly place reason) = ⊥
IsTooLongUnlessCut SayFault = ⊥

-- a verb that reads the input tells one that is too long
abbrev pub RefusesTooLong : Option Form → Input → Status → Type 0
RefusesTooLong form before status =
    reads_input form ≡ true → (bytes : List ℕ) → before.remaining ≡ Some bytes → input_limit < length bytes → IsTooLongUnlessCut status

-- answers that come only where all of the input was read
abbrev pub IsPastInput : Status → Type 0
IsPastInput Done = Unit {0}
IsPastInput Usage = ⊥
IsPastInput (BadFile place kind) = Unit {0}
IsPastInput DiskFault = Unit {0}
IsPastInput InputFault = ⊥
IsPastInput NoMemory = ⊥
IsPastInput InputTooLong = ⊥
IsPastInput (ReadOnly place reason) = Unit {0}
IsPastInput SayFault = Unit {0}

-- a run that ended with its input
abbrev pub EndsWithInput : Status → Type 0
EndsWithInput Done = ⊥
EndsWithInput Usage = ⊥
EndsWithInput (BadFile place kind) = ⊥
EndsWithInput DiskFault = ⊥
EndsWithInput InputFault = Unit {0}
EndsWithInput NoMemory = ⊥
EndsWithInput InputTooLong = Unit {0}
EndsWithInput (ReadOnly place reason) = ⊥
EndsWithInput SayFault = ⊥

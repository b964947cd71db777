-- What a call returns is what reading gives, unless memory ran out. Each word is told the fault of memory of its caller, and
-- those that compare with what is read how what was returned is seen so.
use Rattle.std.specs.Prelude.{◌≡◌, ◌≢◌, Result, Ok, Err, IfErr}

-- the fault is the one that reading gives, unless it is this one
abbrev pub FailsUnless : {Y E : Type 0} → E → E → Result Y E → Type 0
FailsUnless lack e read = e ≢ lack → read ≡ Err e

-- of a call that answers
abbrev pub GivesUnless : {X Y E : Type 0} → E → (X → Y) → Result X E → Result Y E → Type 0
GivesUnless lack view (Ok x) read = read ≡ Ok (view x)
GivesUnless lack view (Err e) read = FailsUnless lack e read

-- of a reader that goes on: it stands at new then
abbrev pub ReadsUnless : {X Y S E : Type 0} → E → (X → Y) → Result X E → Result (Y × S) E → S → Type 0
ReadsUnless lack view (Ok x) read new = read ≡ Ok (view x, new)
ReadsUnless lack view (Err e) read new = FailsUnless lack e read

-- of a reader that stays where it refuses: it stood at old
abbrev pub TakesUnless : {X Y S E : Type 0} → E → (X → Y) → Result X E → Result (Y × S) E → S → S → Type 0
TakesUnless lack view (Ok x) read old new = read ≡ Ok (view x, new)
TakesUnless lack view (Err e) read old new = FailsUnless lack e read × (new ≡ old)

-- of a call that tells a fault: the bytes break with it
abbrev pub TellsUnless : {X E : Type 0} → E → (E → Type 0) → Result X E → Type 0
TellsUnless lack breaks result = IfErr result (λ fault. fault ≢ lack → breaks fault)

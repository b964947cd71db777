-- Calls that look at a host's file and say a text, and write nothing.
use Rattle.std.specs.Prelude.{◌≡◌, ℕ, ◌≤◌, List, ◌++◌, Some, Result, Ok, Err}
use Rattle.rio_host.specs.Host.{View, Becomes, Elapses, Leaves, Longer, LongerByPart, Speaking, Unwritten}

-- The file and the text are as before, and a stop leaves what it might have left before.
pub record OnlyReads (old new : View) : Type 0 where
  pub time : Elapses old new (Leaves old)
  pub holds : new.holds ≡ old.holds
  pub said : new.said ≡ old.said
  pub reads : old.reads ≤ new.reads
  pub disk_faults : old.disk_faults ≤ new.disk_faults
  pub say_faults : new.say_faults ≡ old.say_faults

-- more may stand behind it
abbrev pub Grown : List ℕ → List ℕ → Type 0
Grown old new = (more : List ℕ) × (new ≡ old ++ more)

-- The file is as before. At most a front of the text that belongs to it was said, and a stop leaves an image that it might
-- have left before, with such a front.
pub record OnlySays (text_of : List ℕ → List ℕ) (old new : View) : Type 0 where
  pub holds : new.holds ≡ old.holds
  pub images : Unwritten old new
  pub text : Becomes Grown old.said new.said
  pub part : (file : List ℕ) → old.holds ≡ Some file → Becomes (LongerByPart (text_of file)) old.said new.said
  pub time : (file : List ℕ) → old.holds ≡ Some file → Elapses old new (Speaking (text_of file) old)
  pub reads : old.reads ≤ new.reads
  pub disk_faults : old.disk_faults ≤ new.disk_faults
  pub say_faults : old.say_faults ≤ new.say_faults

-- The same of a text that is said piece by piece: how much of it was said, and how many calls on the text failed, is left open.
-- Between two pieces a stop is known to leave whole pieces only where the text is told that was said; so there it leaves a front
-- of the text that belongs to the file.
pub record Pieces (extent : List ℕ → List ℕ → List ℕ → Type 0) (faults : ℕ → ℕ → Type 0) (text_of : List ℕ → List ℕ) (old new : View)
    : Type 0 where
  pub holds : new.holds ≡ old.holds
  pub images : Unwritten old new
  pub text : Becomes Grown old.said new.said
  pub extent_said : (file : List ℕ) → old.holds ≡ Some file → Becomes (extent (text_of file)) old.said new.said
  pub time : (file said : List ℕ) → old.holds ≡ Some file → old.said ≡ Some said → Elapses old new (Speaking (text_of file) old)
  pub reads : old.reads ≤ new.reads
  pub disk_faults : old.disk_faults ≤ new.disk_faults
  pub say_faults : faults old.say_faults new.say_faults

-- at most a front was said
abbrev pub OnlySaysPieces : (List ℕ → List ℕ) → View → View → Type 0
OnlySaysPieces text_of old new = Pieces LongerByPart (λ before after. before ≤ after) text_of old new

-- all of the text was said, and no call on the text failed
abbrev pub SaysPieces : (List ℕ → List ℕ) → View → View → Type 0
SaysPieces text_of old new = Pieces Longer (λ before after. after ≡ before) text_of old new

-- A call that says a text: all of it, or a front where it fails.
abbrev pub Says : {X E : Type 0} → (List ℕ → List ℕ) → View → View → Result X E → Type 0
Says text_of old new (Ok x) = SaysPieces text_of old new
Says text_of old new (Err e) = OnlySaysPieces text_of old new

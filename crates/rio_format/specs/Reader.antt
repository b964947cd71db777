-- What a call of a reader of objects did.
use Rattle.std.specs.Prelude.{◌≡◌, ◌≤◌, ◌<◌, ◌^◌, ℕ, ◌+◌, List, Result, Ok, Err}
use Rattle.rio_num.specs.{Answers.{TakesUnless}, Meanings.{Breaks, HasTaken}}
use Rattle.rio_format.specs.{Frames.{ObjLayout, ReadsAs, Step, data_end}, ReaderState.{ReaderState, with_name}, declared.fault.ObjFault.{ObjFault, TheVariants.{NoMemory}}}
use Rattle.rio_format.specs.{declared.words.PointerWord.{PointerWord, TheVariants.{Null, New, Back}}, declared.reader.ClassWord.{ClassWord, TheVariants.{Spelled, Earlier}}}

-- It took what reading gives, or the reading fails so and nothing changed.
abbrev pub TakesStep : {X Y : Type 0} → (X → Y) → Result X ObjFault → Step Y → ReaderState → ReaderState → Type 0
TakesStep view (Ok x) read old new = read ≡ Ok (view x, new)
TakesStep view (Err e) read old new = (read ≡ Err e) × (new ≡ old)

-- The same, and memory may have run out: nothing changed then either.
abbrev pub MayTake : {X Y : Type 0} → (X → Y) → Result X ObjFault → Step Y → ReaderState → ReaderState → Type 0
MayTake view = TakesUnless NoMemory view

-- What the bytes spell from there on is taken.
pub record TakesSpelled {X : Type 0} (l : ObjLayout X) (result : Result X ObjFault) (old new : ReaderState) : Type 0 where
  pub takes : (x : X) (behind : ReaderState) → HasTaken l old x behind → TakesStep (λ y. y) result (Ok (x, behind)) old new

-- The same, unless memory runs out.
pub record MayTakeSpelled {X : Type 0} (l : ObjLayout X) (result : Result X ObjFault) (old new : ReaderState) : Type 0 where
  pub takes : (x : X) (behind : ReaderState) → HasTaken l old x behind → ReadsAs (λ y. y) result (Ok (x, behind)) new

-- The bytes break it from there on with this fault: what stands before is spelled, and this is the first fault.
pub record IsFirstFault {X : Type 0} (l : ObjLayout X) (s : ReaderState) (fault : ObjFault) : Type 0 where
  pub breaks : Breaks l s.at.place s.words s.at.rest fault

-- The bytes that a count word at the place counts end within the data, reading stands behind the word, and the data are as
-- short as a reader's are.
pub record IsCounted (place end : ℕ) (s : ReaderState) : Type 0 where
  pub begins : place + 4 ≤ end
  pub ends : end ≤ data_end s
  pub behind : place + 4 ≤ s.at.place
  pub near : data_end s < place + 2 ^ 32

abbrev pub IsPointerWithin : PointerWord → ReaderState → Type 0
IsPointerWithin Null s = Unit {0}
IsPointerWithin (New label place end class) s = IsCounted place end s
IsPointerWithin (Back label) s = Unit {0}

-- ---- class words

abbrev pub name_of : ClassWord → List ℕ
name_of (Spelled name) = name.now
name_of (Earlier name) = name.now

-- behind the class word at the place: a name that it spells out is known from then on
abbrev pub noted : ℕ → ClassWord → ReaderState → ReaderState
noted place (Spelled name) s = record s { words = with_name s.words place name.now }
noted place (Earlier name) s = s

-- What the readers of objects answer.
use Rattle.std.specs.Prelude.{◌≡◌, ℕ, ◌+◌, List, ◌++◌, length, Result, Ok}
use Rattle.rio_format.specs.{declared.class.ClassDef.{ClassDef}, declared.value.Value.{Value}, Frames.{ReadsAs}, ReaderState.{ReaderState, WordsMet, standing}, declared.fault.ObjFault.{ObjFault, TheVariants.{NoMemory}}}
use Rattle.rio_num.specs.{Answers.{GivesUnless}, Meanings.{HasTaken, Spells, read}}
use Rattle.rio_format.specs.Objects.{SpellsObject, depth_limit, object_of}

-- The answer is this one, unless memory ran out.
abbrev pub Answers : {Y : Type 0} → Result Y ObjFault → Result Y ObjFault → Type 0
Answers = GivesUnless NoMemory (λ v. v)

-- A front of the bytes, whose first one has the place, spells the object.
abbrev pub HasFront : List ClassDef → ℕ → List ℕ → Value → List ℕ → Type 0
HasFront classes start class v bytes =
    (front : List ℕ) × (rest : List ℕ) × (bytes ≡ front ++ rest) × SpellsObject classes start class v front

-- What the front of the bytes spells is answered, unless memory ran out.
abbrev pub AnswersFront : List ClassDef → ℕ → List ℕ → List ℕ → Result Value ObjFault → Type 0
AnswersFront classes start class bytes result =
    (v : Value) (front rest : List ℕ) → bytes ≡ front ++ rest → SpellsObject classes start class v front → Answers result (Ok v)

-- The bytes that reading passed spell the object, behind what was met before.
abbrev pub IsSpelled : List ClassDef → List ℕ → Value → ReaderState → ReaderState → Type 0
IsSpelled classes class v old new = HasTaken (object_of depth_limit classes class) old v new

-- What the front of the bytes spells is read, and reading stands behind it.
abbrev pub IsRead : List ClassDef → List ℕ → Result Value ObjFault → ReaderState → ReaderState → Type 0
IsRead classes class result old new = (v : Value) (front rest : List ℕ) (words : WordsMet) → old.at.rest ≡ front ++ rest
    → Spells (object_of depth_limit classes class) (old.at.place + length front) old.at.place old.words v front words
    → ReadsAs (λ (x : Value). x) result (Ok (v, standing (old.at.place + length front) rest words)) new

-- What was returned is what reading gives there, unless memory ran out, and the reader stands behind it.
abbrev pub ReadsNext : List ClassDef → List ℕ → Result Value ObjFault → ReaderState → ReaderState → Type 0
ReadsNext classes class result old new = ReadsAs (λ (x : Value). x) result (read (object_of depth_limit classes class) old) new

-- How reading, spelling and writing of objects belong together.
use Rattle.std.specs.{Prelude.{◌≡◌, ◌⊎◌, ◌≤◌, ℕ, ◌+◌, ◌-◌, ◌^◌, ℤ, pos, int_le, Bool, true, ◌&&◌, List, ◌++◌, length, Ok, Err, IsTrue}, List.{list_all}}
use Rattle.rio_num.specs.At.{AreBytes}
use Rattle.rio_format.specs.{declared.class.ClassDef.{ClassDef}, Depth.{depth_of}}
use Rattle.rio_format.specs.declared.value.Value.{Value, TheOpen.{Value-F, Int, Bits32, Bits64, Bool as Truth, Text, List as Items, Object, Pointed, Null, Back, Opaque}, TheFolds.{fold-Value}}
use Rattle.rio_format.specs.{Fits.{Fits}, Objects.{first_at, value_at, depth_limit, SpellsObject, BreaksObject}, Slots.{has_base}, Written.{written_form}, ReaderState.{ReaderState}, declared.fault.ObjFault.{ObjFault}}

-- what is read is spelled by the bytes before the place where reading stands
abbrev pub ReadIsSpelled : Type 0
ReadIsSpelled = (classes : List ClassDef) (class : List ℕ) (start : ℕ) (bytes : List ℕ) (v : Value) (s : ReaderState) → AreBytes bytes → first_at classes class start bytes ≡ Ok (v, s)
    → (front : List ℕ) × (bytes ≡ front ++ s.at.rest) × SpellsObject classes start class v front

-- what is spelled is read, whatever follows, and reading stands behind it
abbrev pub SpelledIsRead : Type 0
SpelledIsRead = (classes : List ClassDef) (class : List ℕ) (start : ℕ) (v : Value) (front more : List ℕ) → SpellsObject classes start class v front
    → (s : ReaderState) × (first_at classes class start (front ++ more) ≡ Ok (v, s)) × (s.at.rest ≡ more) × (s.at.place ≡ start + length front)

-- one prefix of the bytes spells one value
abbrev pub IsSpelledOnce : Type 0
IsSpelledOnce = (classes : List ClassDef) (class : List ℕ) (start : ℕ) (v w : Value) (front more other rest : List ℕ) → front ++ more ≡ other ++ rest → SpellsObject classes start class v front → SpellsObject classes start class w other
    → (v ≡ w) × (front ≡ other)

-- a prefix of the bytes spells no value where there is a fault
abbrev pub FaultIsNotSpelled : Type 0
FaultIsNotSpelled = (classes : List ClassDef) (class : List ℕ) (start : ℕ) (v : Value) (front more : List ℕ) (fault : ObjFault) → first_at classes class start (front ++ more) ≡ Err fault → SpellsObject classes start class v front → ⊥

-- where reading gives a fault, the bytes break with it
abbrev pub FaultIsBroken : Type 0
FaultIsBroken = (classes : List ClassDef) (class : List ℕ) (start : ℕ) (bytes : List ℕ) (fault : ObjFault) → AreBytes bytes → value_at classes class start bytes ≡ Err fault → BreaksObject classes start class bytes fault

-- where bytes break with a fault, reading gives it
abbrev pub BrokenIsFault : Type 0
BrokenIsFault = (classes : List ClassDef) (class : List ℕ) (start : ℕ) (bytes : List ℕ) (fault : ObjFault) → BreaksObject classes start class bytes fault → value_at classes class start bytes ≡ Err fault

-- a front of the bytes spells a value, or they break with a fault
abbrev pub SpelledOrBroken : Type 0
SpelledOrBroken = (classes : List ClassDef) (class : List ℕ) (start : ℕ) (bytes : List ℕ) → AreBytes bytes
    → ((v : Value) × (front : List ℕ) × (rest : List ℕ) × (bytes ≡ front ++ rest) × SpellsObject classes start class v front) ⊎ ((fault : ObjFault) × BreaksObject classes start class bytes fault)

-- never both
abbrev pub BrokenIsNotSpelled : Type 0
BrokenIsNotSpelled = (classes : List ClassDef) (class : List ℕ) (start : ℕ) (v : Value) (front more : List ℕ) (fault : ObjFault) → BreaksObject classes start class (front ++ more) fault → SpellsObject classes start class v front → ⊥

-- and with one fault
abbrev pub IsBrokenOnce : Type 0
IsBrokenOnce = (classes : List ClassDef) (class : List ℕ) (start : ℕ) (bytes : List ℕ) (fault other : ObjFault) → BreaksObject classes start class bytes fault → BreaksObject classes start class bytes other → fault ≡ other

-- one layer of a value: the version of an object can be written
abbrev pub versions_step : Value-F Bool Bool → Bool
versions_step (Int z) = true
versions_step (Bits32 n) = true
versions_step (Bits64 n) = true
versions_step (Truth b) = true
versions_step (Text t) = true
versions_step (Items items) = list_all (λ b. b) items
versions_step (Object class version parts) = int_le (pos 1) version && int_le version (pos 65535) && list_all (λ b. b) parts
versions_step (Pointed label object) = object
versions_step Null = true
versions_step (Back label) = true
versions_step (Opaque class len) = true

-- the versions of all objects are from 1 to 65535
abbrev pub has_versions : Value → Bool
has_versions = fold-Value Bool Bool versions_step (λ p. p.value)

-- What is written for a value that fits spells it, where it isn't too deep, its versions can be written and its places are
-- below 2^30 - 2.
abbrev pub WrittenIsSpelled : Type 0
WrittenIsSpelled = (classes : List ClassDef) (class : List ℕ) (start : ℕ) (v : Value) → Fits classes class v → depth_of v ≤ depth_limit → IsTrue (has_versions v) → start + length (written_form classes start v) ≤ 2 ^ 30 - 2
    → SpellsObject classes start class v (written_form classes start v)

-- more levels than there are classes and one more find no further base
abbrev pub NoBaseIsDeeper : Type 0
NoBaseIsDeeper = (classes : List ClassDef) (target class : List ℕ) (version : ℤ) (levels : ℕ) → length classes + 1 ≤ levels
    → has_base levels classes target class version ≡ has_base (length classes + 1) classes target class version

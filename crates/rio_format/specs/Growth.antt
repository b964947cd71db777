-- Reading of objects with more classes.
use Rattle.std.specs.{Prelude.{◌≡◌, ℕ, ℤ, Bool, true, false, List, [], ◌∷◌, ◌++◌, Some, Ok}, List.{list_all}}
use Rattle.rio_format.specs.{Classes.{find_in, find_sum_in}, declared.class.ClassDef.{ClassDef}}
use Rattle.rio_format.specs.declared.value.Value.{Value, TheOpen.{Value-F, Int, Bits32, Bits64, Bool as Truth, Text, List as Items, Object, Pointed, Null, Back, Opaque}, TheFolds.{fold-Value}}
use Rattle.rio_format.specs.{Fits.{fits}, Objects.{first_at, SpellsObject}, ReaderState.{ReaderState}}

-- one layer of a value: nothing in it is opaque
abbrev pub all_read_step : Value-F Bool Bool → Bool
all_read_step (Int z) = true
all_read_step (Bits32 n) = true
all_read_step (Bits64 n) = true
all_read_step (Truth b) = true
all_read_step (Text t) = true
all_read_step (Items items) = list_all (λ b. b) items
all_read_step (Object class version parts) = list_all (λ b. b) parts
all_read_step (Pointed label object) = object
all_read_step Null = true
all_read_step (Back label) = true
all_read_step (Opaque class len) = false

-- all of it is read: no object in it is opaque
abbrev pub is_all_read : Value → Bool
is_all_read = fold-Value Bool Bool all_read_step (λ p. p.value)

-- What a header picks of the first classes, by version or by checksum, it picks of the second ones too.
pub record PicksStay (old new : List ClassDef) : Type 0 where
  pub versions : (name : List ℕ) (version : ℤ) (c : ClassDef) → find_in old name version ≡ Some c → find_in new name version ≡ Some c
  pub sums : (name : List ℕ) (sum : ℕ) (c : ClassDef) → find_sum_in old name sum ≡ Some c → find_sum_in new name sum ≡ Some c

-- ---- laws

-- classes after the others leave what is picked of those
abbrev pub LaterLeavePicks : Type 0
LaterLeavePicks = (classes more : List ClassDef) → PicksStay classes (classes ++ more)

-- What is read of an object, if all of it is, is the same wherever the same classes are picked, and reading stands at the same place then.
abbrev pub ReadStays : Type 0
ReadStays = (old new : List ClassDef) → PicksStay old new → (own : List ℕ) (start : ℕ) (bytes : List ℕ) (v : Value) (s : ReaderState) → is_all_read v ≡ true
    → first_at old own start bytes ≡ Ok (v, s) → first_at new own start bytes ≡ Ok (v, s)

-- and bytes that spell such an object spell it there too
abbrev pub SpelledStays : Type 0
SpelledStays = (old new : List ClassDef) → PicksStay old new → (own : List ℕ) (start : ℕ) (v : Value) (bytes : List ℕ) → is_all_read v ≡ true
    → SpellsObject old start own v bytes → SpellsObject new start own v bytes

-- all is read of a value that fits its class
abbrev pub FittingIsAllRead : Type 0
FittingIsAllRead = (classes : List ClassDef) (own : List ℕ) (v : Value) → fits classes own v ≡ true → is_all_read v ≡ true

-- With one class more a value that fits its class is read as it was, from whatever bytes.
abbrev pub FittingReadStays : Type 0
FittingReadStays = (classes : List ClassDef) (class : ClassDef) (own : List ℕ) (start : ℕ) (bytes : List ℕ) (v : Value) (s : ReaderState) → fits classes own v ≡ true
    → first_at classes own start bytes ≡ Ok (v, s) → first_at (classes ++ class ∷ []) own start bytes ≡ Ok (v, s)

abbrev pub FittingSpelledStays : Type 0
FittingSpelledStays = (classes : List ClassDef) (class : ClassDef) (own : List ℕ) (start : ℕ) (v : Value) (bytes : List ℕ) → fits classes own v ≡ true
    → SpellsObject classes start own v bytes → SpellsObject (classes ++ class ∷ []) start own v bytes

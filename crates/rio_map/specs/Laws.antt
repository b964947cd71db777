-- Laws of objects in another version.
use Rattle.std.specs.Prelude.{◌≡◌, ℕ, ℤ, List, Bool, true, ◌&&◌, ◌||◌, not, IsTrue, Ok}
use Rattle.std.specs.{List.{list_all}, Ordering.{int_eq}, Str.{bytes_eq}}
use Rattle.rio_format.specs.declared.class.ClassDef.{ClassDef}
use Rattle.rio_format.specs.{declared.value.Value.{Value, TheOpen.{Value-F, Int, Bits32, Bits64, Bool as Truth, Text, List as Items, Object, Pointed, Null, Back, Opaque}, TheFolds.{fold-Value}}, Fits.{Fits}}
use Rattle.rio_model.specs.{Mapping.{as_version}, Resolving.{is_known_version}, StateClasses.{StateClasses}}

-- one layer of a value, with what is known of each child in its place
abbrev pub is_in_version_step : List ℕ → ℤ → Value-F Bool Bool → Bool
is_in_version_step class version (Int z) = true
is_in_version_step class version (Bits32 n) = true
is_in_version_step class version (Bits64 n) = true
is_in_version_step class version (Truth b) = true
is_in_version_step class version (Text text) = true
is_in_version_step class version (Items items) = list_all (λ b. b) items
is_in_version_step class version (Object own stated parts) = (not (bytes_eq own class) || int_eq stated version) && list_all (λ b. b) parts
is_in_version_step class version (Pointed label object) = object
is_in_version_step class version Null = true
is_in_version_step class version (Back label) = true
is_in_version_step class version (Opaque own len) = true

-- each object of the class in the value, at any depth, is of the version
abbrev pub is_in_version : List ℕ → ℤ → Value → Bool
is_in_version class version = fold-Value Bool Bool (is_in_version_step class version) (λ p. p.value)

-- A value that fits a class of a state stays as it is in the version that each object of a class in it has.
abbrev pub SameVersionStays : Type 0
SameVersionStays = (classes : List ClassDef) (own class : List ℕ) (version : ℤ) (v : Value)
    → StateClasses classes → Fits classes own v → IsTrue (is_known_version classes class version) → IsTrue (is_in_version class version v)
    → as_version classes class version v ≡ Ok v

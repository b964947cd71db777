-- Values that fit a class of a list: what a file stores. The text of each says everything of it, and is read as it.
use Rattle.std.specs.{Prelude.{◌≡◌, ℕ, ◌+◌, ◌≤◌, ◌^◌, List, ◌++◌, length, nat_lt, Ok, Bool, true, ◌&&◌, IsTrue}, List.{list_all}}
use Rattle.rio_num.specs.Word.{is_name_text}
use Rattle.rio_format.specs.{declared.class.ClassDef.{ClassDef}, Depth.{depth_of}}
use Rattle.rio_format.specs.declared.value.Value.{Value, TheOpen.{Value-F, Int, Bits32, Bits64, Bool as Truth, Text, List as Items, Object, Pointed, Null, Back, Opaque}, TheFolds.{fold-Value}}
use Rattle.rio_format.specs.{Fits.{Fits}, Objects.{depth_limit}}
use Rattle.rio_model.specs.{Readable.{Follows, is_readable_value}, Stated.{has_stated_parts, is_class_version}, ValueGrammar.{value_in}}
use Rattle.rio_model.specs.ValueText.{text_of_value}

-- the class's name and those of its members are names, and its version is one that a text can state
abbrev pub has_names : ClassDef → Bool
has_names c = is_name_text c.name && is_class_version c.version && list_all (λ m. is_name_text m.name) c.members

-- one layer of a value, with what is known of each child in its place
abbrev pub held_step : Value-F Bool Bool → Bool
held_step (Int z) = true
held_step (Bits32 n) = true
held_step (Bits64 n) = true
held_step (Truth b) = true
held_step (Text text) = list_all (λ b. nat_lt b 256) text
held_step (Items items) = list_all (λ b. b) items
held_step (Object class version parts) = list_all (λ b. b) parts
held_step (Pointed label object) = nat_lt label (2 ^ 32) && object
held_step Null = true
held_step (Back label) = nat_lt label (2 ^ 32)
held_step (Opaque class len) = true

-- each label in it is below 2^32, and each byte of a text below 256: what their types hold
abbrev pub is_held : Value → Bool
is_held = fold-Value Bool Bool held_step (λ p. p.value)

-- the text of a value that fits a class, and goes as deep as a file's values may, says everything of the value
abbrev pub StoredIsReadable : Type 0
StoredIsReadable = (classes : List ClassDef) (class : List ℕ) (v : Value) → IsTrue (list_all has_names classes)
    → Fits classes class v → depth_of v ≤ depth_limit → IsTrue (is_held v)
    → is_readable_value v ≡ true

-- and so it is read as the value, wherever it stands
abbrev pub StoredIsRead : Type 0
StoredIsRead = (front rest : List ℕ) (classes : List ClassDef) (class : List ℕ) (v : Value)
    → IsTrue (list_all has_names classes) → Fits classes class v → depth_of v ≤ depth_limit → IsTrue (is_held v) → Follows rest
    → value_in (front ++ (text_of_value v ++ rest)) (length front)
    ≡ Ok (v, record { place = length front + length (text_of_value v); rest = rest })

-- classes that a declaration can give have such names and versions
abbrev pub StatedHasNames : Type 0
StatedHasNames = (classes : List ClassDef) → IsTrue (list_all has_stated_parts classes)
    → IsTrue (list_all has_names classes)

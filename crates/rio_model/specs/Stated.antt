-- The classes that a declaration can give, whatever versions their bases have got since.
use Rattle.std.specs.Prelude.{◌≡◌, Ok, map, ℕ, ℤ, pos, int_le, List, [], ◌∷◌, ◌++◌, codes, length, nat_le, Option, Some, None, Bool, true, false, ◌==◌, ◌&&◌, not}
use Rattle.std.specs.{List.{list_any}, Str.{bytes_eq}}
use Rattle.rio_num.specs.Word.{is_name_text}
use Rattle.rio_format.specs.{declared.class.Base.{Base}, declared.class.ClassDef.{ClassDef}, declared.class.Member.{Member}}
use Rattle.rio_format.specs.{declared.kind.Kind.{Kind, TheVariants.{Plain, Counter, Fixed, Counted, Text, Inline, Pointer, Other}}, declared.kind.Primitive.{Primitive}, Members.{is_counter}}
use Rattle.rio_model.specs.ClassText.{text_of_class}
use Rattle.rio_model.specs.ClassGrammar.{base, checksum_of, class_in, has_base_named, has_member, is_counted_by, is_i32_of, primitive_of}

-- whether one of the members is a counter of the name
abbrev pub has_counter : List Member → List ℕ → Bool
has_counter members name = list_any (λ m. bytes_eq m.name name && is_counter m.kind) members

abbrev pub is_none : Option Primitive → Bool
is_none None = true
is_none (Some prim) = false

-- a word that is no kind of its own, and so the class of an object
abbrev pub is_class_word : List ℕ → Bool
is_class_word word = is_name_text word && is_none (primitive_of word) && not (bytes_eq word (codes "text"))

-- The kind of a member of the name, between the members before and those after: an i32 is a counter where one after counts by it, and only there.
abbrev pub is_stated_kind : List Member → List ℕ → List Member → Kind → Bool
is_stated_kind before name after (Plain prim) = not (is_i32_of prim && is_counted_by after name)
is_stated_kind before name after Counter = is_counted_by after name
is_stated_kind before name after (Fixed prim count) = nat_le 1 count && nat_le count 100000
is_stated_kind before name after (Counted prim counter) = has_counter before counter
is_stated_kind before name after Text = true
is_stated_kind before name after (Inline class) = is_class_word class
is_stated_kind before name after (Pointer class) = is_name_text class
is_stated_kind before name after (Other code) = false

-- a member that none before has the name of, and that has no title
abbrev pub is_stated_member : List Member → Member → List Member → Bool
is_stated_member before m after =
    is_name_text m.name && not (has_member before m.name) && is_stated_kind before m.name after m.kind && (length m.title == 0)

abbrev pub are_stated_members : List Member → List Member → Bool
are_stated_members before [] = true
are_stated_members before (m ∷ after) = is_stated_member before m after && are_stated_members (before ++ m ∷ []) after

-- a base that none before has the name of
abbrev pub is_stated_base : List Base → Base → Bool
is_stated_base before b = is_name_text b.name && not (has_base_named before b.name)

abbrev pub are_stated_bases : List Base → List Base → Bool
are_stated_bases before [] = true
are_stated_bases before (b ∷ after) = is_stated_base before b && are_stated_bases (before ++ b ∷ []) after

abbrev pub is_class_version : ℤ → Bool
is_class_version version = int_le (pos 1) version && int_le version (pos 32767)

-- its words and numbers
abbrev pub has_stated_parts : ClassDef → Bool
has_stated_parts class =
    is_name_text class.name && is_class_version class.version && are_stated_bases [] class.bases && are_stated_members [] class.members

-- its checksum is that of its declaration
unfoldable pub is_stated_class : ClassDef → Bool
is_stated_class class = has_stated_parts class && (class.sum == checksum_of class)

-- with version 0 in its bases, as a declaration gives it
abbrev pub with_plain_bases : ClassDef → ClassDef
with_plain_bases class = record class { bases = map (λ b. base b.name) class.bases }

-- the declaration of such a class is read as the class, wherever it stands
abbrev pub ClassesAreRead : Type 0
ClassesAreRead = (front : List ℕ) (class : ClassDef) → is_stated_class class ≡ true → class_in (front ++ text_of_class class) (length front) ≡ Ok (with_plain_bases class)

-- what a text declares, wherever it stands, is such a class, with version 0 in its bases
abbrev pub ReadClassesAreStated : Type 0
ReadClassesAreStated = (text : List ℕ) (place : ℕ) (class : ClassDef) → class_in text place ≡ Ok class → (is_stated_class class ≡ true) × (with_plain_bases class ≡ class)

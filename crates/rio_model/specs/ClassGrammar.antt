-- Declarations of classes as texts are read: the class, or the first token that can't stand.
--
--   class = "class" NAME NUM [":" NAME {"," NAME}] "{" [NAME ":" kind {"," NAME ":" kind}] "}"
--   kind  = prim | prim "[" (NUM | NAME) "]" | "text" | NAME | NAME "*"
--   prim  = i8 i16 i32 i64 u8 u16 u32 u64 bool f32 f64 (one of)
use Rattle.std.specs.Prelude.{ℕ, ◌+◌, ◌*◌, ◌%◌, ◌^◌, pos, List, [], codes, map, Option, Some, None, option_and_then, Result, Ok, Err, Bool, true, false, ◌&&◌, not, if◌then◌else◌}
use Rattle.std.specs.{List.{fold, list_any}, Str.{bytes_eq}}
use Rattle.rio_num.specs.{At.{At}, Reading.{◌>>=◌}, Word.{is_name_text}}
use Rattle.rio_format.specs.{declared.class.Base.{Base}, declared.class.ClassDef.{ClassDef}, declared.class.Member.{Member}, declared.kind.Kind.{Kind, TheVariants.{Plain, Counter, Fixed, Counted, Text, Inline, Pointer}}}
use Rattle.rio_format.specs.{declared.kind.Primitive.{Primitive, TheVariants.{I8, I16, I32, I64, U8, U16, U32, U64, Bool as Truth, F32, F64}}, Bodies.{member}}
use Rattle.rio_token.specs.{declared.fault.TextFault.{TextFault}, Further.{EndsFurther}}
use Rattle.rio_token.specs.{Marks.{asterisk, closing_brace, closing_bracket, colon, opening_brace, opening_bracket}, Tokens.{behind, standing_in}}
use Rattle.rio_token.specs.Words.{num_between_of}
use Rattle.rio_token.specs.Reading.{Read, taken_at, some_if, next_word, marked, mark_at, name_at, word_that_at, keyword_at, version_at, end_at, list_at, some_at}
use Rattle.rio_model.specs.ClassText.{text_of_class}

-- ---- kinds

-- the kind of single values that a word names
unfoldable pub primitive_of : List ℕ → Option Primitive
primitive_of word =
    if bytes_eq word (codes "i8") then Some I8
    else if bytes_eq word (codes "i16") then Some I16
    else if bytes_eq word (codes "i32") then Some I32
    else if bytes_eq word (codes "i64") then Some I64
    else if bytes_eq word (codes "u8") then Some U8
    else if bytes_eq word (codes "u16") then Some U16
    else if bytes_eq word (codes "u32") then Some U32
    else if bytes_eq word (codes "u64") then Some U64
    else if bytes_eq word (codes "bool") then Some Truth
    else if bytes_eq word (codes "f32") then Some F32
    else if bytes_eq word (codes "f64") then Some F64
    else None

abbrev pub is_i32_of : Primitive → Bool
is_i32_of I32 = true
is_i32_of other = false

-- an i32 that may count
abbrev pub is_i32 : Kind → Bool
is_i32 (Plain prim) = is_i32_of prim
is_i32 other = false

-- whether one of the members has the name, and is an i32
abbrev pub has_i32 : List Member → List ℕ → Bool
has_i32 members name = list_any (λ m. bytes_eq m.name name && is_i32 m.kind) members

-- what a word in square brackets says: how many values there are, or which member before counts them
abbrev pub counted_by : List Member → Primitive → List ℕ → Option Kind
counted_by before prim word = some_if (has_i32 before word) (Counted prim word)

abbrev pub fixed_or : Primitive → Option ℕ → Option Kind → Option Kind
fixed_or prim (Some count) other = Some (Fixed prim count)
fixed_or prim None other = other

unfoldable pub dimension_of : List Member → Primitive → List ℕ → Option Kind
dimension_of before prim word = fixed_or prim (num_between_of 1 100000 word) (counted_by before prim word)

-- what stands in square brackets
abbrev pub dimension_at : List Member → Primitive → At → Read Kind
dimension_at before prim s = taken_at (option_and_then (dimension_of before prim) (next_word s)) s

-- a list of values, behind its opening bracket
unfoldable pub sized_at : List Member → Primitive → At → Read Kind
sized_at before prim s = do
  kind ← dimension_at before prim s
  close ← mark_at closing_bracket kind.1
  Ok (kind.0, close.1)

-- a kind that begins with a primitive one
abbrev pub primitive_at : List Member → Primitive → At → Read Kind
primitive_at before prim s = if marked opening_bracket s then sized_at before prim (behind s) else Ok (Plain prim, s)

-- a kind behind its first word, which is no pointer's
abbrev pub plain_at : List Member → List ℕ → Option Primitive → At → Read Kind
plain_at before word (Some prim) s = primitive_at before prim s
plain_at before word None s = if bytes_eq word (codes "text") then Ok (Text, s) else Ok (Inline word, s)

-- the kind of a member, in knowledge of the members before
unfoldable pub kind_at : List Member → At → Read Kind
kind_at before s = do
  word ← name_at s
  if marked asterisk word.1
      then Ok (Pointer word.0, behind word.1)
      else plain_at before word.0 (primitive_of word.0) word.1

-- ---- members and bases

abbrev pub has_member : List Member → List ℕ → Bool
has_member members name = list_any (λ m. bytes_eq m.name name) members

-- the name of a member, which none before has
abbrev pub is_new_member : List Member → List ℕ → Bool
is_new_member before word = is_name_text word && not (has_member before word)

-- a member
unfoldable pub member_at : List Member → At → Read Member
member_at before s = do
  name ← word_that_at (is_new_member before) s
  passed ← mark_at colon name.1
  kind ← kind_at before passed.1
  Ok (member name.0 kind.0, kind.1)

abbrev pub has_base_named : List Base → List ℕ → Bool
has_base_named bases name = list_any (λ b. bytes_eq b.name name) bases

abbrev pub base : List ℕ → Base
base name = record { name = name; version = pos 0 }

-- the name of a base, which none before has
abbrev pub is_new_base : List Base → List ℕ → Bool
is_new_base before word = is_name_text word && not (has_base_named before word)

-- a base, in no version yet
unfoldable pub base_at : List Base → At → Read Base
base_at before s = do
  name ← word_that_at (is_new_base before) s
  Ok (base name.0, name.1)

-- the bases, if there are any, and the opening brace
unfoldable pub bases_at : At → Read (List Base)
bases_at s =
    if marked colon s then some_at opening_brace base_at (behind s)
    else (mark_at opening_brace s >>= λ opening. Ok ([], opening.1))

-- ---- counters

abbrev pub counts_by : Kind → List ℕ → Bool
counts_by (Counted prim counter) name = bytes_eq counter name
counts_by other name = false

-- whether one of the members is counted by the name
abbrev pub is_counted_by : List Member → List ℕ → Bool
is_counted_by members name = list_any (λ m. counts_by m.kind name) members

-- an i32 that counts is a counter
abbrev pub counting_kind : List Member → Member → Kind
counting_kind members m = if is_i32 m.kind && is_counted_by members m.name then Counter else m.kind

abbrev pub counting : List Member → Member → Member
counting members m = record m { kind = counting_kind members m }

unfoldable pub with_counters : List Member → List Member
with_counters members = map (counting members) members

-- ---- classes

-- a checksum, with one more byte of the text
abbrev pub summed : ℕ → ℕ → ℕ
summed sum b = (3 * sum + b) % 2 ^ 32

-- the checksum of a class: of its declaration as it is printed
unfoldable pub checksum_of : ClassDef → ℕ
checksum_of class = fold summed 0 (text_of_class class)

-- the class with its checksum
abbrev pub with_sum : ClassDef → ClassDef
with_sum class = record class { sum = checksum_of class }

abbrev pub class_of : List ℕ → ℕ → List Base → List Member → ClassDef
class_of name version bases members =
    with_sum (record { name = name; version = pos version; sum = 0; bases = bases; members = with_counters members })

unfoldable pub class_at : At → Read ClassDef
class_at s = do
  keyword ← keyword_at (codes "class") s
  name ← name_at keyword.1
  version ← version_at name.1
  bases ← bases_at version.1
  members ← list_at closing_brace member_at bases.1
  done ← end_at members.1
  Ok (class_of name.0 version.0 bases.0 members.0, done.1)

abbrev pub only_class : Read ClassDef → Result ClassDef TextFault
only_class (Ok x) = Ok x.0
only_class (Err e) = Err e

-- the class that a text declares from the place on, up to its end
abbrev pub class_in : List ℕ → ℕ → Result ClassDef TextFault
class_in text place = only_class (class_at (standing_in place text))

-- where a class was read, reading stands further on in the same text
abbrev pub ClassesEndFurther : Type 0
ClassesEndFurther = (s : At) → EndsFurther s (class_at s)

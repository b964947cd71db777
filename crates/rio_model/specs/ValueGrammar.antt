-- Values as texts are read: the value, or the first token that can't stand.
--
--   value  = number | bits | "true" | "false" | string | list | object | "null" | "@" NUM ["=" object]
--   object = NAME ["#" NUM] "{" [part {"," part}] "}"
--   part   = object | NAME ":" value
--   list   = "[" [value {"," value}] "]"
use Rattle.std.specs.Prelude.{ℕ, zero, suc, ◌-◌, ℤ, pos, List, [], codes, Option, Some, None, Result, Ok, Err, Bool, true, false, ◌==◌, ◌&&◌, ◌||◌, if◌then◌else◌}
use Rattle.std.specs.Str.{bytes_eq}
use Rattle.rio_num.specs.{At.{At}, Reading.{◌>>=◌}, Word.{is_name_text}}
use Rattle.rio_format.specs.{declared.value.Value.{Value, Int, Bits32, Bits64, Bool as Truth, Text as Chars, List as Items, Object, Pointed, Null, Back}, declared.value.Part.{Part}, Bodies.{part}}
use Rattle.rio_token.specs.{declared.token.Token.{Token, TheVariants.{Word, Mark}}, declared.fault.TextFault.{TextFault}}
use Rattle.rio_token.specs.{declared.words.Bits.{Bits, TheVariants.{Four, Eight}}, Further.{EndsFurther}}
use Rattle.rio_token.specs.Marks.{at_sign, closing_brace, closing_bracket, colon, equals_sign, number_sign, opening_brace, opening_bracket}
use Rattle.rio_token.specs.{Tokens.{next_at, behind, standing_in}, Words.{number_of, bits_of}}
use Rattle.rio_token.specs.Reading.{Read, bad_at, marked, mark_at, word_at, name_at, num_at, version_at, string_at, list_at}

-- ---- words

abbrev pub value_of_bits : Bits → Value
value_of_bits (Four n) = Bits32 n
value_of_bits (Eight n) = Bits64 n

abbrev pub bits_value : Option Bits → Option Value
bits_value (Some bits) = Some (value_of_bits bits)
bits_value None = None

abbrev pub number_or : Option ℤ → Option Value → Option Value
number_or (Some n) other = Some (Int n)
number_or None other = other

-- the value that a word is by itself
unfoldable pub word_value : List ℕ → Option Value
word_value word =
    if bytes_eq word (codes "true") then Some (Truth true)
    else if bytes_eq word (codes "false") then Some (Truth false)
    else if bytes_eq word (codes "null") then Some Null
    else number_or (number_of word) (bits_value (bits_of word))

-- ---- what stands in brackets

-- what begins with a bracket: a list, or an object, of which the class and the version stand before
pub data Enclosed : Type 0 where
  listed : Enclosed
  object_of : List ℕ → ℤ → Enclosed

-- how it is read, from its opening bracket on
abbrev pub Reader : Type 0
Reader = Enclosed → At → Read Value

-- ---- values, by what is read in brackets

-- the version behind a class, or 0 where none stands there
unfoldable pub class_version_at : At → Read ℤ
class_version_at s =
    if marked number_sign s then (version_at (behind s) >>= λ version. Ok (pos version.0, version.1))
    else Ok (pos 0, s)

-- an object, behind its class
unfoldable pub object_at : Reader → List ℕ → At → Read Value
object_at enclosed class s = do
  version ← class_version_at s
  enclosed (object_of class version.0) version.1

-- an object's class and the object
unfoldable pub named_object_at : Reader → At → Read Value
named_object_at enclosed s = do
  class ← name_at s
  object_at enclosed class.0 class.1

-- a pointer, behind its @: the label of an object, and the object if it begins here
unfoldable pub pointer_at : Reader → At → Read Value
pointer_at enclosed s = do
  label ← num_at s
  if marked equals_sign label.1
      then (named_object_at enclosed (behind label.1) >>= λ object. Ok (Pointed label.0 object.0, object.1))
      else Ok (Back label.0, label.1)

-- whether an object goes on behind its class
abbrev pub opens_object : At → Bool
opens_object s = marked opening_brace s || marked number_sign s

-- A word that is no value by itself: a name wants an object to go on behind it.
abbrev pub worded : Option Value → Bool → At → At → Read Value
worded (Some value) name s next = Ok (value, next)
worded None name s next = if name then bad_at next else bad_at s

-- a value that begins with a word: an object, if its class stands before a brace or a version
unfoldable pub word_value_at : Reader → At → Read Value
word_value_at enclosed s = do
  word ← word_at s
  if is_name_text word.0 && opens_object word.1
      then object_at enclosed word.0 word.1
      else worded (word_value word.0) (is_name_text word.0) s word.1

unfoldable pub text_value_at : At → Read Value
text_value_at s = do
  text ← string_at s
  Ok (Chars text.0, text.1)

abbrev pub marked_value_at : Reader → ℕ → At → Read Value
marked_value_at enclosed mark s =
    if mark == opening_bracket then enclosed listed s
    else if mark == at_sign then pointer_at enclosed (behind s)
    else bad_at s

-- where no word, list or pointer begins, only a string may stand
abbrev pub value_by : Reader → Token → At → Read Value
value_by enclosed Word s = word_value_at enclosed s
value_by enclosed (Mark mark) s = marked_value_at enclosed mark s
value_by enclosed other s = text_value_at s

-- a value
unfoldable pub value_in_text : Reader → At → Read Value
value_in_text enclosed s = value_by enclosed (next_at s).token s

-- A part: a member, or a base without a name. Both begin with a name.
unfoldable pub part_at : Reader → At → Read Part
part_at enclosed s = do
  name ← name_at s
  if marked colon name.1
      then (value_in_text enclosed (behind name.1) >>= λ value. Ok (part name.0 value.0, value.1))
      else (object_at enclosed name.0 name.1 >>= λ object. Ok (part [] object.0, object.1))

-- ---- brackets

-- values in square brackets
unfoldable pub values_at : Reader → At → Read (List Value)
values_at inner s = do
  opening ← mark_at opening_bracket s
  list_at closing_bracket (λ before. value_in_text inner) opening.1

-- what stands in brackets, by what stands in those inside
unfoldable pub enclosed_by : Reader → Reader
enclosed_by inner listed s = do
  items ← values_at inner s
  Ok (Items items.0, items.1)
enclosed_by inner (object_of class version) s = do
  opening ← mark_at opening_brace s
  parts ← list_at closing_brace (λ before. part_at inner) opening.1
  Ok (Object class version parts.0, parts.1)

-- What stands in brackets, with at most so many of them within one another. Where none may be opened, an opening one
-- can't stand.
unfoldable pub enclosed_at : ℕ → Reader
enclosed_at zero what s = bad_at s
enclosed_at (suc levels) what s = enclosed_by (enclosed_at levels) what s

-- how many brackets may stand within one another
abbrev pub bracket_limit : ℕ
bracket_limit = 1024

-- a row: a list of values, whose own brackets are among those that stand within one another
abbrev pub row_at : At → Read (List Value)
row_at = values_at (enclosed_at (bracket_limit - 1))

-- the value that a text spells from the place on, and where it ends; behind it anything may stand
abbrev pub value_in : List ℕ → ℕ → Read Value
value_in text place = value_in_text (enclosed_at bracket_limit) (standing_in place text)

-- a value and the place behind it
abbrev pub value_and_end : Read Value → Result (Value × ℕ) TextFault
value_and_end (Ok x) = Ok (x.0, x.1.place)
value_and_end (Err e) = Err e

-- where a value or a row was read, reading stands further on in the same text
pub record ValuesEndFurther : Type 0 where
  pub value : (s : At) → EndsFurther s (value_in_text (enclosed_at bracket_limit) s)
  pub row : (s : At) → EndsFurther s (row_at s)

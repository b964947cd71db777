-- What stands around objects: byte counts, headers and the words of pointers. Each rule stands here once; the meanings of
-- descriptions say how it is read, spelled and broken.
use Rattle.std.specs.Prelude.{◌==◌, ◌&&◌, ℕ, ◌+◌, ◌-◌, ◌*◌, ◌^◌, pos, List, length, Option, Some, None, Result, nat_eq, nat_lt, nat_le, Bool, if◌then◌else◌, position}
use Rattle.std.specs.Map.{lookup}
use Rattle.rio_num.specs.{Answers.{ReadsUnless}, At.{end_place}}
use Rattle.rio_num.specs.{Layout.{Layout, done, broken, number, name, here, reaches, met, note, must, known, ◌>>=◌, when◌then◌else◌}, Meanings.{Reading}}
use Rattle.rio_format.specs.{ReaderState.{ReaderState, WordsMet, with_label, with_name}, declared.words.Header.{Header}, declared.words.PointerWord.{PointerWord, TheVariants.{Null, New, Back}}}
use Rattle.rio_format.specs.declared.fault.ObjFault.{ObjFault, TheVariants.{Short, BadCount, UnknownClassWord, UnknownRef, NoCount, CountMismatch, NoMemory}}

-- a description of a part of the data of objects
abbrev pub ObjLayout : Type 0 → Type 1
ObjLayout A = Layout WordsMet ObjFault A

-- what is read, and where reading stands behind it, or the first fault
abbrev pub Step : Type 0 → Type 0
Step A = Reading WordsMet ObjFault A

-- where the data end
abbrev pub data_end : ReaderState → ℕ
data_end s = end_place s.at

-- ---- byte counts

-- whether a word is a byte count, and no class word, reference or null: it has bit 30 alone of the two upper bits
abbrev pub is_count : ℕ → Bool
is_count w = nat_le (2 ^ 30) w && nat_lt w (2 ^ 31)

-- where the bytes end that the count word at the place counts: they stand behind its own four
abbrev pub counted_end : ℕ → ℕ → ℕ
counted_end place w = place + 4 + (w - 2 ^ 30)

-- this end, which the data must reach
abbrev pub end_of : ℕ → ℕ → ObjLayout ℕ
end_of place w = do
  _ ← reaches (counted_end place w) (BadCount place)
  done (counted_end place w)

-- Reading stands at the end that the count word at the place gives. The fault tells how many bytes it counts, and how many
-- were used.
abbrev pub finish : ℕ → ℕ → ObjLayout (Unit {0})
finish place end = do
  q ← here
  must (q == end) (CountMismatch place (end - place - 4) (q - place - 4))

-- The end that a header's word gives. Without bit 30 it is no count; with bit 31 too it is a count that can't be right, since a
-- count word has bit 31 clear.
abbrev pub header_end : ℕ → ℕ → ObjLayout ℕ
header_end place w =
    when is_count w
    then end_of place w
    else when nat_le (3 * 2 ^ 30) w then broken (BadCount place) else broken (NoCount place)

-- the checksum that stands behind version 0
abbrev pub checksum_behind : ℕ → ObjLayout (Option ℕ)
checksum_behind version =
    when version == 0
    then (do sum ← number Short 4; done (Some sum))
    else done None

-- A byte count, a version, and behind version 0 a checksum. What the word counts is the version, the checksum and all parts of
-- the object; they aren't cut off there, but where they end is compared (`finish`).
unfoldable pub header : ObjLayout Header
header = do
  place ← here
  w ← number Short 4
  end ← header_end place w
  version ← number Short 2
  sum ← checksum_behind version
  done (record { place = place; end = end; version = pos version; sum = sum })

-- ---- pointers

-- a class word that spells the name out
unfoldable pub new_class : ℕ → ObjLayout (List ℕ)
new_class place = do
  class ← name Short
  t ← met
  _ ← note (with_name t place class)
  done class

-- a class word that names an earlier one: the place of that class word, plus 2, plus 2^31
abbrev pub known_class : ℕ → ℕ → ObjLayout (List ℕ)
known_class place w = do
  t ← met
  known (UnknownClassWord place w) (if nat_lt w (2 ^ 31 + 2) then None else lookup (nat_eq (w - (2 ^ 31 + 2))) t.names)

unfoldable pub class_word : ObjLayout (List ℕ)
class_word = do
  place ← here
  w ← number Short 4
  when w == 2 ^ 32 - 1 then new_class place else known_class place w

-- an object behind its count word and its class word, with the next label: how many were given before
unfoldable pub new_word : ℕ → ℕ → ObjLayout PointerWord
new_word place w = do
  end ← end_of place w
  class ← class_word
  t ← met
  _ ← note (with_label t place)
  done (New (length t.labels) place end class)

-- a reference to an earlier object: the place of its count word, plus 2
abbrev pub reference : ℕ → ℕ → ObjLayout PointerWord
reference place w = do
  t ← met
  label ← known (UnknownRef place w) (if nat_lt w 2 then None else position (nat_eq (w - 2)) t.labels)
  done (Back label)

-- the word 0, a byte count with a new object, or else a reference
unfoldable pub pointer_word : ObjLayout PointerWord
pointer_word = do
  place ← here
  w ← number Short 4
  when w == 0 then done Null else when is_count w then new_word place w else reference place w

-- ---- what a reader does

-- what was returned is what reading gives, and the reader stands at new then
abbrev pub ReadsAs : {X Y : Type 0} → (X → Y) → Result X ObjFault → Step Y → ReaderState → Type 0
ReadsAs view = ReadsUnless NoMemory view

-- Lists of leaves as texts are read: the leaves, or the place of the first token that can't stand.
-- A token is a word, a longest run of letters, digits and _ . - +, or another single byte. No blanks stand in the list.
use Rattle.std.specs.Prelude.{ℕ, ◌+◌, List, [], ◌∷◌, ◌++◌, length, take, slice_index, Result, Ok, Err, Option, Some, None, Bool, false, ◌==◌, ◌&&◌, not, if◌then◌else◌}
use Rattle.std.specs.{List.{prefix_len, slice_split}, Str.{all_ascii_digits, Parse.{digits_value}}}
use Rattle.rio_num.specs.{At.{At}, Reading.{◌>>=◌, skip, some_if}, Word.{is_blank_byte, is_word_byte, is_name_text}}
use Rattle.rio_leaf.specs.{declared.fault.LeafFault.{LeafFault, TheVariants.{BadLeaf}}, declared.leaf.Dim.{Dim, TheVariants.{One, Fixed, Counted}}}
use Rattle.rio_leaf.specs.{declared.leaf.Leaf.{Leaf}, Leaves.{counts_for, is_leaf_count, is_letter_of, is_taken}}
use Rattle.rio_leaf.specs.Marks.{before_dimension, before_letter, behind_dimension, between_leaves}

-- what was read and where reading stands, or the first token that can't stand
abbrev pub ReadLeaf : Type 0 → Type 0
ReadLeaf A = Result (A × At) LeafFault

-- The next token can't stand. A blank is none: the token behind it can't.
abbrev pub bad_leaf_at : {A : Type 0} → At → ReadLeaf A
bad_leaf_at s = Err (BadLeaf (s.place + prefix_len is_blank_byte s.rest))

-- what was found, with so many bytes behind it passed over
abbrev pub found_at : {A : Type 0} → Option A → ℕ → At → ReadLeaf A
found_at None n s = bad_leaf_at s
found_at (Some x) n s = Ok (x, skip n s)

abbrev pub word_length : List ℕ → ℕ
word_length bytes = prefix_len is_word_byte bytes

-- the next word, if it says something
unfoldable pub said_at : {A : Type 0} → (List ℕ → Option A) → At → ReadLeaf A
said_at says s = found_at (says (take (word_length s.rest) s.rest)) (word_length s.rest) s

abbrev pub begins_with : ℕ → List ℕ → Bool
begins_with b [] = false
begins_with b (c ∷ cs) = c == b

-- this byte
unfoldable pub byte_at : ℕ → At → ReadLeaf (Unit {0})
byte_at b s = found_at (some_if (begins_with b s.rest) tt) 1 s

-- the end of what is read
unfoldable pub no_more_at : At → ReadLeaf (Unit {0})
no_more_at s = found_at (some_if (length s.rest == 0) tt) 0 s

-- ---- what words say

-- the name of a leaf, which isn't taken yet
abbrev pub leaf_name_of : List Leaf → List ℕ → Option (List ℕ)
leaf_name_of before word = some_if (is_name_text word && not (is_taken before word)) word

-- digits of which the first isn't 0, with the value of a dimension
abbrev pub is_dimension : List ℕ → Bool
is_dimension word = not (slice_index word 0 == 48) && all_ascii_digits word && is_leaf_count (digits_value 10 word)

-- how many values there are, or which leaf counts them
unfoldable pub dim_of : List Leaf → List ℕ → List ℕ → Option Dim
dim_of before own word =
    if is_dimension word then Some (Fixed (digits_value 10 word))
    else some_if (is_name_text word && counts_for before own word) (Counted word 1)

-- a letter, which the dimension allows
abbrev pub letter_in : Dim → List ℕ → Option ℕ
letter_in dim [] = None
letter_in dim (letter ∷ []) = some_if (is_letter_of dim letter) letter
letter_in dim (letter ∷ other ∷ more) = None

-- ---- leaves

-- what stands in square brackets, behind the opening one
abbrev pub bracketed_at : List Leaf → List ℕ → At → ReadLeaf Dim
bracketed_at before own s = do
  dim ← said_at (dim_of before own) s
  closed ← byte_at behind_dimension dim.1
  Ok (dim.0, closed.1)

-- the same, if an opening one comes
unfoldable pub dim_at : List Leaf → List ℕ → At → ReadLeaf Dim
dim_at before own s = if begins_with before_dimension s.rest then bracketed_at before own (skip 1 s) else Ok (One, s)

-- a leaf behind others, which is all there is
unfoldable pub leaf_at : List Leaf → At → ReadLeaf Leaf
leaf_at before s = do
  name ← said_at (leaf_name_of before) s
  dim ← dim_at before name.0 name.1
  passed ← byte_at before_letter dim.1
  letter ← said_at (letter_in dim.0) passed.1
  ended ← no_more_at letter.1
  Ok (record { name = name.0; letter = letter.0; dim = dim.0 }, ended.1)

abbrev pub from_place : ℕ → List ℕ → At
from_place place bytes = record { place = place; rest = bytes }

-- leaves behind others, from a place on, each of them one of these texts
unfoldable pub leaves_at : List Leaf → ℕ → List (List ℕ) → Result (List Leaf) LeafFault
leaves_at before place [] = Ok before
leaves_at before place (text ∷ texts) = do
  leaf ← leaf_at before (from_place place text)
  leaves_at (before ++ leaf.0 ∷ []) (place + length text + 1) texts

-- what stands between the colons of a text
abbrev pub pieces : List ℕ → List (List ℕ)
pieces text = slice_split (λ b. b == between_leaves) text

-- the leaves that a text lists, with colons between them
abbrev pub leaves_in : List ℕ → Result (List Leaf) LeafFault
leaves_in text = leaves_at [] 0 (pieces text)

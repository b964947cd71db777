-- Words of scripts and of command lines: names and items, which have at most 100 bytes, and the blanks before them.
use Rattle.std.specs.{Prelude.{ℕ, List, [], ◌∷◌, Bool, false, length, nat_le, ◌==◌, ◌&&◌, ◌||◌, not}, Char.{is_ascii_alphabetic, is_ascii_alphanumeric}, Str.{bytes_eq}, Cmp.Lexicographic.{slice_cmp}, Ordering.{nat_cmp}, declared.cmp.Ordering.{Ordering}}
use Rattle.std.specs.List.{list_all, list_any}

-- a letter or _
abbrev pub begins_name : ℕ → Bool
begins_name b = is_ascii_alphabetic b || (b == 95)

-- a letter, a digit or _
abbrev pub goes_on_name : ℕ → Bool
goes_on_name b = is_ascii_alphanumeric b || (b == 95)

-- the name of a class, a member or a leaf
abbrev pub is_name_text : List ℕ → Bool
is_name_text [] = false
is_name_text (b ∷ bs) = begins_name b && list_all goes_on_name bs && nat_le (length (b ∷ bs)) 100

-- a byte of a word: a letter, a digit, or one of _ . - +
abbrev pub is_word_byte : ℕ → Bool
is_word_byte b = is_ascii_alphanumeric b || (b == 95) || (b == 46) || (b == 45) || (b == 43)

-- a space or a tab
abbrev pub is_blank_byte : ℕ → Bool
is_blank_byte b = (b == 32) || (b == 9)

-- the name of an object or a tree
abbrev pub is_item_text : List ℕ → Bool
is_item_text text = not (length text == 0) && list_all is_word_byte text && nat_le (length text) 100

-- whether the name is among these
abbrev pub is_among : List (List ℕ) → List ℕ → Bool
is_among names name = list_any (bytes_eq name) names

-- names by their bytes, ascending
abbrev pub name_order : List ℕ → List ℕ → Ordering
name_order = slice_cmp nat_cmp

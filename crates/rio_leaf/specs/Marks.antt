-- The bytes that stand for something in a list of leaves, by their names.
use Rattle.std.specs.{Prelude.{ℕ, codes, Bool, ◌==◌}, List.{list_any}}

-- a colon
abbrev pub between_leaves : ℕ
between_leaves = 58

-- a slash
abbrev pub before_letter : ℕ
before_letter = 47

-- square brackets
abbrev pub before_dimension : ℕ
before_dimension = 91

abbrev pub behind_dimension : ℕ
behind_dimension = 93

-- the letter of texts, and that of leaves that may count
abbrev pub letter_of_texts : ℕ
letter_of_texts = 67

abbrev pub letter_of_counters : ℕ
letter_of_counters = 73

-- the letters of leaves
abbrev pub is_leaf_letter : ℕ → Bool
is_leaf_letter b = list_any (λ letter. b == letter) (codes "BbSsIiLlFDOC")

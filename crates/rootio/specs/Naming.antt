-- The file that the words name.
use Rattle.std.specs.Prelude.{ℕ, List, [], ◌∷◌, Bool, if◌then◌else◌}

-- the second word
abbrev pub second_word : List (List ℕ) → List ℕ
second_word (verb ∷ file ∷ args) = file
second_word _ = []

-- the same; nothing where the words aren't split
abbrev pub file_word : List (List ℕ) → Bool → List ℕ
file_word words split = if split then second_word words else []

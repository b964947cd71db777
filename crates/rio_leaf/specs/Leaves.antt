-- Which leaves may stand in a branch: names, dimensions, counters.
use Rattle.std.specs.{Prelude.{ℕ, List, Bool, true, false, nat_le, ◌==◌, ◌&&◌, ◌||◌, not}, List.{list_any}, Str.{bytes_eq}}
use Rattle.rio_num.specs.Word.{is_name_text}
use Rattle.rio_leaf.specs.{declared.leaf.Dim.{Dim, TheVariants.{One, Fixed, Counted}}, declared.leaf.Leaf.{Leaf}}
use Rattle.rio_leaf.specs.Marks.{is_leaf_letter, letter_of_counters, letter_of_texts}

abbrev pub is_one : Dim → Bool
is_one One = true
is_one other = false

-- a list that a counter counts
abbrev pub is_counted_dim : Dim → Bool
is_counted_dim (Counted counter times) = true
is_counted_dim other = false

-- a leaf by which others may be counted: a signed integer of 4 bytes, without a dimension
abbrev pub can_count : Leaf → Bool
can_count leaf = (leaf.letter == letter_of_counters) && is_one leaf.dim

-- whether one of the leaves has the name
abbrev pub has_leaf : List Leaf → List ℕ → Bool
has_leaf leaves name = list_any (λ l. bytes_eq l.name name) leaves

-- whether one that may count has it
abbrev pub has_counting_leaf : List Leaf → List ℕ → Bool
has_counting_leaf leaves name = list_any (λ l. bytes_eq l.name name && can_count l) leaves

abbrev pub is_dim_by : Dim → List ℕ → Bool
is_dim_by (Counted counter times) name = bytes_eq counter name
is_dim_by other name = false

-- whether one of the leaves is counted by a leaf of the name
abbrev pub has_counted_leaf : List Leaf → List ℕ → Bool
has_counted_leaf leaves name = list_any (λ l. is_dim_by l.dim name) leaves

-- how many values a dimension may give a leaf
abbrev pub is_leaf_count : ℕ → Bool
is_leaf_count n = nat_le 2 n && nat_le n 100000

-- a dimension, where leaves of these names may count
abbrev pub is_dim : (List ℕ → Bool) → Dim → Bool
is_dim counts One = true
is_dim counts (Fixed n) = is_leaf_count n
is_dim counts (Counted counter times) = is_name_text counter && counts counter && (times == 1)

-- a text has no dimension
abbrev pub is_letter_of : Dim → ℕ → Bool
is_letter_of dim letter = is_leaf_letter letter && (is_one dim || not (letter == letter_of_texts))

-- a leaf, where these names are taken and leaves of these names may count
abbrev pub is_leaf : (List ℕ → Bool) → (List ℕ → Bool) → Leaf → Bool
is_leaf taken counts leaf =
    is_name_text leaf.name && not (taken leaf.name) && is_dim counts leaf.dim && is_letter_of leaf.dim leaf.letter

-- ---- the leaves of one branch, whatever branches stand before it

-- No leaf may have the name: one before has it, or is counted by a leaf of this name that isn't among those before.
abbrev pub is_taken : List Leaf → List ℕ → Bool
is_taken before name = has_leaf before name || has_counted_leaf before name

-- Leaves of the name may count the leaf behind those before: one of these does, or none is of this branch.
abbrev pub counts_for : List Leaf → List ℕ → List ℕ → Bool
counts_for before own name = has_counting_leaf before name || not (bytes_eq own name || has_leaf before name)

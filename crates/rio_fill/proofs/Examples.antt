-- Entries that are cut into baskets.
use Rattle.std.proofs.{Common.{◌≡◌, ℕ, List, [], ◌∷◌, ◌++◌, refl}, Math.ListN.{replicate}}
use Rattle.rio_key.specs.Cut.{Cut, cut_into_baskets, cut_more, firsts_from}

abbrev so_far : List (List (List ℕ)) → List (List ℕ) → Cut
so_far put rest = record { put = put; rest = rest }

-- ---- 32,000 bytes

abbrev number : List ℕ
number = 0 ∷ 0 ∷ 0 ∷ 1 ∷ []

-- the 8,000th entry of four bytes goes into the first basket
last_number : cut_more (so_far [] (replicate 7999 number)) number ≡ so_far [] (replicate 7999 number ++ number ∷ [])
last_number = refl

-- the 8,001st doesn't
number_behind : cut_more (so_far [] (replicate 8000 number)) number ≡ so_far (replicate 8000 number ∷ []) (number ∷ [])
number_behind = refl

-- ---- 8,192 entries

last_empty : cut_more (so_far [] (replicate 8191 [])) [] ≡ so_far [] (replicate 8191 [] ++ [] ∷ [])
last_empty = refl

empty_behind : cut_more (so_far [] (replicate 8192 [])) [] ≡ so_far (replicate 8192 [] ∷ []) ([] ∷ [])
empty_behind = refl

-- ---- one long entry

abbrev long : List ℕ
long = replicate 32001 0

-- it is alone in its basket, and the entries beside it are in others
long_alone : cut_into_baskets (number ∷ long ∷ [] ∷ []) ≡ (number ∷ []) ∷ (long ∷ []) ∷ ([] ∷ []) ∷ []
long_alone = refl

firsts : firsts_from 7 (cut_into_baskets (number ∷ long ∷ [] ∷ [])) ≡ 7 ∷ 8 ∷ 9 ∷ []
firsts = refl

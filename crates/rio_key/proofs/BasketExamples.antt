-- The records of two baskets, byte for byte, and when a basket takes an entry.
use Rattle.std.proofs.{Common.{◌≡◌, ℕ, List, [], ◌∷◌, ◌++◌, Bool, true, false, refl}, Math.ListN.{replicate}}
use Rattle.std.specs.Prelude.{codes}
use Rattle.rio_key.specs.{BasketHead.{integer_bytes, sizes_bytes}, OpenBasket.{OpenBasket, takes_entry}, BasketRecord.{basket_record}}

abbrev example_basket : Bool → List (List ℕ) → OpenBasket
example_basket offsets entries = record { offsets = offsets; entries = entries; rooms = 0; spare = 0 }

-- tree T, branch x: the entries 1, 2 and 3, of four bytes each
abbrev three_numbers : List (List ℕ)
three_numbers = (0 ∷ 0 ∷ 0 ∷ 1 ∷ []) ∷ (0 ∷ 0 ∷ 0 ∷ 2 ∷ []) ∷ (0 ∷ 0 ∷ 0 ∷ 3 ∷ []) ∷ []

abbrev key_of_x : List ℕ
key_of_x = 0 ∷ 0 ∷ 0 ∷ 72 ∷ 0 ∷ 4 ∷ 0 ∷ 0 ∷ 0 ∷ 15 ∷ 0 ∷ 0 ∷ 0 ∷ 1 ∷ 0 ∷ 57 ∷ 0 ∷ 0 ∷ 0 ∷ 0 ∷ 0 ∷ 208 ∷ 0 ∷ 0 ∷ 0 ∷ 100 ∷ 7 ∷ codes "TBasket" ++ (1 ∷ codes "x" ++ (1 ∷ codes "T"))

abbrev head_of_x : List ℕ
head_of_x = 0 ∷ 3 ∷ 0 ∷ 0 ∷ 125 ∷ 0 ∷ 0 ∷ 0 ∷ 0 ∷ 4 ∷ 0 ∷ 0 ∷ 0 ∷ 3 ∷ 0 ∷ 0 ∷ 0 ∷ 69 ∷ 0 ∷ []

abbrev body_of_x : List ℕ
body_of_x = 0 ∷ 0 ∷ 0 ∷ 1 ∷ 0 ∷ 0 ∷ 0 ∷ 2 ∷ 0 ∷ 0 ∷ 0 ∷ 3 ∷ 0 ∷ 0 ∷ 0 ∷ []

numbers_written : basket_record 208 (codes "T") (codes "x") 1 (example_basket false three_numbers) ≡ key_of_x ++ (head_of_x ++ body_of_x)
unfolding basket_record integer_bytes sizes_bytes
numbers_written = refl

-- tree V, branch v: no number, three and none, behind offsets
abbrev counted : List (List ℕ)
counted = [] ∷ (63 ∷ 128 ∷ 0 ∷ 0 ∷ 64 ∷ 0 ∷ 0 ∷ 0 ∷ 64 ∷ 64 ∷ 0 ∷ 0 ∷ []) ∷ [] ∷ []

abbrev key_of_v : List ℕ
key_of_v = 0 ∷ 0 ∷ 0 ∷ 92 ∷ 0 ∷ 4 ∷ 0 ∷ 0 ∷ 0 ∷ 35 ∷ 0 ∷ 0 ∷ 0 ∷ 1 ∷ 0 ∷ 57 ∷ 0 ∷ 0 ∷ 0 ∷ 0 ∷ 0 ∷ 208 ∷ 0 ∷ 0 ∷ 0 ∷ 100 ∷ 7 ∷ codes "TBasket" ++ (1 ∷ codes "v" ++ (1 ∷ codes "V"))

abbrev head_of_v : List ℕ
head_of_v = 0 ∷ 3 ∷ 0 ∷ 0 ∷ 125 ∷ 0 ∷ 0 ∷ 0 ∷ 0 ∷ 3 ∷ 0 ∷ 0 ∷ 0 ∷ 3 ∷ 0 ∷ 0 ∷ 0 ∷ 69 ∷ 0 ∷ []

abbrev body_of_v : List ℕ
body_of_v = 63 ∷ 128 ∷ 0 ∷ 0 ∷ 64 ∷ 0 ∷ 0 ∷ 0 ∷ 64 ∷ 64 ∷ 0 ∷ 0 ∷ 0 ∷ 0 ∷ 0 ∷ 4 ∷ 0 ∷ 0 ∷ 0 ∷ 57 ∷ 0 ∷ 0 ∷ 0 ∷ 57 ∷ 0 ∷ 0 ∷ 0 ∷ 69 ∷ 0 ∷ 0 ∷ 0 ∷ 69 ∷ 0 ∷ 0 ∷ 0 ∷ []

counted_written : basket_record 208 (codes "V") (codes "v") 1 (example_basket true counted) ≡ key_of_v ++ (head_of_v ++ body_of_v)
unfolding basket_record integer_bytes sizes_bytes
counted_written = refl

-- ---- 8,192 entries

abbrev entries_without_bytes : ℕ → List (List ℕ)
entries_without_bytes n = replicate n []

takes_the_last : takes_entry (entries_without_bytes 8191) 0 ≡ true
takes_the_last = refl

takes_no_more : takes_entry (entries_without_bytes 8192) 0 ≡ false
takes_no_more = refl

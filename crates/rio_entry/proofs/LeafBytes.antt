-- Entries of leaves: what fits, and the bytes, by the leaves alone; and the loops that go over them.
use Rattle.std.proofs.{Common.{◌≡◌, ◌&&◌, ℕ, zero, suc, ◌+◌, ◌<◌, ◌≤◌, List, [], ◌∷◌, ◌++◌, length, map, take, drop, Bool, true, false, refl, sym, ap, ◌∙◌, slice_index_or, arith}, lemmas.Bool.{and_parts}}
use Rattle.std.proofs.lemmas.List.{drop-drop, drop_all, length-append, length-take, take_more}
use Rattle.rio_leaf.specs.declared.leaf.Leaf.{Leaf}
use Rattle.rio_format.specs.{ReaderState.{WordsMet, no_words}, Bodies.{Counters}, Slots.{kinded}, Written.{writing_of}, declared.class.ClassDef.{ClassDef}, declared.value.Value.{Value}}
use Rattle.rio_machine.specs.Rows.{leaf_column, letter_kind}
use Rattle.rio_entry.specs.Entries.{values_bytes, values_fit}
use Rattle.rio_machine.specs.Entries.{counter_saying, given_count, said_count}
use Rattle.rio_entry.specs.Leaves.{entry_kind, kind_fits, leaves_bytes, leaves_fit, numbers_after, numbers_with, value_bytes}
use Rattle.rio_entry.proofs.{Counting.{left_begins, numbers_more}, LeafKinds.{kind_leafy}, Singles.{leaf_written, stands_is}}

-- ---- leaves as columns

module _ (classes : List ClassDef) where
  pub fits_is : (ls : List Leaf) (counts row : List Value) (own : Counters) → values_fit classes (map leaf_column ls) counts row own ≡ leaves_fit ls counts row own
  fits_is [] counts [] own = refl
  fits_is [] counts (v ∷ vs) own = refl
  fits_is (l ∷ ls) counts [] own = refl
  fits_is (l ∷ ls) counts (v ∷ vs) own =
      let counters = counter_saying l.dim (said_count l.dim (given_count counts) own) in
      ap (λ (b : Bool). b && values_fit classes (map leaf_column ls) (drop 1 counts) vs (numbers_with l v own)) (stands_is classes (entry_kind l counts own) v (kind_leafy counters l))
      ∙ ap (λ (b : Bool). kind_fits (entry_kind l counts own) v && b) (fits_is ls (drop 1 counts) vs (numbers_with l v own))

  pub bytes_is : (ls : List Leaf) (counts row : List Value) (own : Counters) → leaves_fit ls counts row own ≡ true → values_bytes classes (map leaf_column ls) counts row own ≡ leaves_bytes ls row
  bytes_is [] counts row own fit = refl
  bytes_is (l ∷ ls) counts [] own fit = refl
  bytes_is (l ∷ ls) counts (v ∷ vs) own fit =
      let counters = counter_saying l.dim (said_count l.dim (given_count counts) own) in
      let parts = and_parts (kind_fits (entry_kind l counts own) v) (leaves_fit ls (drop 1 counts) vs (numbers_with l v own)) fit in
      let one = leaf_written classes counters l v 0 no_words parts.0 in
      let own_bytes : ((writing_of classes v).bytes (kinded (entry_kind l counts own)) 0 no_words).0 ≡ value_bytes (letter_kind l.letter) v = ap (λ (b : List ℕ × WordsMet). b.0) one in
      ap (λ (b : List ℕ). b ++ values_bytes classes (map leaf_column ls) (drop 1 counts) vs (numbers_with l v own)) own_bytes
      ∙ ap (λ (b : List ℕ). value_bytes (letter_kind l.letter) v ++ b) (bytes_is ls (drop 1 counts) vs (numbers_with l v own) parts.1)

-- ---- a loop that looks whether they fit

pub drop_next : {X : Type 0} (xs : List X) (k : ℕ) → drop 1 (drop k xs) ≡ drop (k + 1) xs
drop_next xs k = drop-drop 1 k xs

abbrev pub fits_from : List Leaf → List Value → List Value → ℕ → Bool
fits_from ls counts row k = leaves_fit (drop k ls) (drop k counts) (drop k row) (numbers_after (take k ls) (take k row) [])

module _ (ls : List Leaf) (counts row : List Value) (k : ℕ) (l : Leaf) (v : Value) (lt : k < length ls) (low : k < length row) (e : l ≡ slice_index_or ls k l) (f : v ≡ slice_index_or row k v) where
  abbrev pub own : Counters
  own = numbers_after (take k ls) (take k row) []

  step : fits_from ls counts row k ≡ (kind_fits (entry_kind l (drop k counts) own) v && fits_from ls counts row (k + 1))
  step =
      let leaf : drop k ls ≡ l ∷ drop (k + 1) ls = left_begins ls k l lt e in
      let value : drop k row ≡ v ∷ drop (k + 1) row = left_begins row k v low f in
      let taken : take (k + 1) row ≡ take k row ++ v ∷ [] = take_more row k v low ∙ ap (λ (z : Value). take k row ++ z ∷ []) (sym f) in
      let same : length (take k ls) ≡ length (take k row) = omega (arith, length-take k ls, length-take k row, lt, low) in
      let numbers : numbers_after (take (k + 1) ls) (take (k + 1) row) [] ≡ numbers_with l v own = ap (λ (vs : List Value). numbers_after (take (k + 1) ls) vs []) taken ∙ numbers_more ls (take k row) k l v lt e same in
      let one : leaves_fit (drop k ls) (drop k counts) (drop k row) own ≡ (kind_fits (entry_kind l (drop k counts) own) v && leaves_fit (drop (k + 1) ls) (drop 1 (drop k counts)) (drop (k + 1) row) (numbers_with l v own)) = rw (leaf, value) refl in
      one
      ∙ ap (λ (cs : List Value). kind_fits (entry_kind l (drop k counts) own) v && leaves_fit (drop (k + 1) ls) cs (drop (k + 1) row) (numbers_with l v own)) (drop_next counts k)
      ∙ ap (λ (ns : Counters). kind_fits (entry_kind l (drop k counts) own) v && leaves_fit (drop (k + 1) ls) (drop (k + 1) counts) (drop (k + 1) row) ns) (sym numbers)

  pub fits_go_on : (total : Bool) → kind_fits (entry_kind l (drop k counts) own) v ≡ true → fits_from ls counts row k ≡ total → fits_from ls counts row (k + 1) ≡ total
  fits_go_on total fit so_far = sym (step ∙ ap (λ (b : Bool). b && fits_from ls counts row (k + 1)) fit) ∙ so_far

  pub fits_fail : (total : Bool) → kind_fits (entry_kind l (drop k counts) own) v ≡ false → fits_from ls counts row k ≡ total → total ≡ false
  fits_fail total fit so_far = sym so_far ∙ step ∙ ap (λ (b : Bool). b && fits_from ls counts row (k + 1)) fit

pub fits_done : (ls : List Leaf) (counts row : List Value) (k : ℕ) (total : Bool) → length ls ≡ length row → length ls ≤ k → fits_from ls counts row k ≡ total → total ≡ true
fits_done ls counts row k total same le so_far =
    let leaf : drop k ls ≡ [] = drop_all k ls le in
    let value : drop k row ≡ [] = drop_all k row (omega (arith, same, le)) in
    let one : fits_from ls counts row k ≡ true = rw (leaf, value) refl in
    sym so_far ∙ one

pub other_length : (ls : List Leaf) (counts row : List Value) (own : Counters) → leaves_fit ls counts row own ≡ true → length ls ≡ length row
other_length [] counts [] own fit = refl
other_length [] counts (v ∷ vs) own fit = absurd cc
other_length (l ∷ ls) counts [] own fit = absurd cc
other_length (l ∷ ls) counts (v ∷ vs) own fit =
    let parts = and_parts (kind_fits (entry_kind l counts own) v) (leaves_fit ls (drop 1 counts) vs (numbers_with l v own)) fit in
    ap suc (other_length ls (drop 1 counts) vs (numbers_with l v own) parts.1)

-- ---- loops over bytes

module _ (ls : List Leaf) (row : List Value) (k : ℕ) (l : Leaf) (v : Value) (lt : k < length ls) (low : k < length row) (e : l ≡ slice_index_or ls k l) (f : v ≡ slice_index_or row k v) where
  pub bytes_step : leaves_bytes (drop k ls) (drop k row) ≡ value_bytes (letter_kind l.letter) v ++ leaves_bytes (drop (k + 1) ls) (drop (k + 1) row)
  bytes_step =
      let leaf : drop k ls ≡ l ∷ drop (k + 1) ls = left_begins ls k l lt e in
      let value : drop k row ≡ v ∷ drop (k + 1) row = left_begins row k v low f in
      rw (leaf, value) refl

  pub length_step : length (leaves_bytes (drop k ls) (drop k row)) ≡ length (value_bytes (letter_kind l.letter) v) + length (leaves_bytes (drop (k + 1) ls) (drop (k + 1) row))
  length_step = ap length bytes_step ∙ length-append (value_bytes (letter_kind l.letter) v) (leaves_bytes (drop (k + 1) ls) (drop (k + 1) row))

pub past_leaves : (ls : List Leaf) (row : List Value) (k : ℕ) → length ls ≤ k → leaves_bytes (drop k ls) (drop k row) ≡ []
past_leaves ls row k le = let leaf : drop k ls ≡ [] = drop_all k ls le in rw leaf refl

-- values for other than all leaves don't fit
pub too_few : (ls : List Leaf) (counts row : List Value) (own : Counters) → (length ls ≡ length row → ⊥) → leaves_fit ls counts row own ≡ false
too_few ls counts row own ne = by (leaves_fit ls counts row own) refl
  where
    by : (b : Bool) → leaves_fit ls counts row own ≡ b → leaves_fit ls counts row own ≡ false
    by true e = absurd (ne (other_length ls counts row own e))
    by false e = e

-- ---- the bytes of one value among all

no_values : (ls : List Leaf) → leaves_bytes ls [] ≡ []
no_values [] = refl
no_values (l ∷ ls) = refl

pub within_all : (ls : List Leaf) (row : List Value) (k : ℕ) → length (leaves_bytes (drop k ls) (drop k row)) ≤ length (leaves_bytes ls row)
within_all ls row zero = omega arith
within_all [] row (suc k) = omega arith
within_all (l ∷ ls) [] (suc k) = omega (arith, ap length (no_values (drop k ls)))
within_all (l ∷ ls) (v ∷ vs) (suc k) =
    let rest = within_all ls vs k in
    let len = length-append (value_bytes (letter_kind l.letter) v) (leaves_bytes ls vs) in
    omega (arith, rest, len)

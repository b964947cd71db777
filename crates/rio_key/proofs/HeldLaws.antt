-- A basket that is being filled, by what it keeps: the bytes of its entries, and where each of them ends.
use Rattle.std.proofs.Common.{◌≡◌, ℕ, ◌+◌, ◌*◌, ◌^◌, ◌<◌, ◌≤◌, List, [], ◌∷◌, ◌++◌, length, map, slice_get, Some, None, Bool, true, false, cond, refl, sym, ap, ◌∙◌, length-append, arith}
use Rattle.std.proofs.lemmas.List.{append-nil, Folds.{flat_map-map}}
use Rattle.std.specs.List.{concat, flat_map}
use Rattle.byteorder.specs.{Endian.{big_bytes}, Numbers.{length-bytes_high_first}}
use Rattle.rio_key.specs.{OpenBasket.{OpenBasket, cut_from, entries_length, is_cut}, BasketRecord.{basket_data, entry_size, first_entry_length, offset_table, offsets_of}}
use Rattle.rio_key.proofs.{CutLaws.{concat-cut, first_within, offsets_of-cut}, OpenLaws.{length-cut}}

module _ (ends bytes : List ℕ) (cut : is_cut 0 ends (length bytes) ≡ true) where
  pub held_bytes : concat (cut_from 0 ends bytes) ≡ bytes
  held_bytes = concat-cut 0 ends bytes cut

  pub held_length : entries_length (cut_from 0 ends bytes) ≡ length bytes
  held_length = ap length held_bytes

  -- the offsets, by the ends
  pub held_table : (k : ℕ) → offset_table k (cut_from 0 ends bytes) ≡ big_bytes 4 (length ends + 1) ++ (big_bytes 4 k ++ flat_map (λ end. big_bytes 4 (k + end)) ends)
  held_table k =
      let front : k + 0 ≡ k = omega arith in
      let offsets : offsets_of k (cut_from 0 ends bytes) ≡ k ∷ map (λ end. k + end) ends =
      ap (λ (n : ℕ). offsets_of n (cut_from 0 ends bytes)) (sym front) ∙ offsets_of-cut k 0 ends bytes cut ∙ ap (λ (n : ℕ). n ∷ map (λ end. k + end) ends) front in
      let count : length (cut_from 0 ends bytes) ≡ length ends = length-cut 0 ends bytes in
      let others : flat_map (big_bytes 4) (map (λ end. k + end) ends) ≡ flat_map (λ end. big_bytes 4 (k + end)) ends = flat_map-map (big_bytes 4) (λ end. k + end) ends in
      ap (λ (n : ℕ). big_bytes 4 (n + 1) ++ flat_map (big_bytes 4) (offsets_of k (cut_from 0 ends bytes))) count
      ∙ ap (λ (l : List ℕ). big_bytes 4 (length ends + 1) ++ flat_map (big_bytes 4) l) offsets
      ∙ ap (λ (l : List ℕ). big_bytes 4 (length ends + 1) ++ (big_bytes 4 k ++ l)) others

-- ---- how long the data are

offsets_long : (place : ℕ) (entries : List (List ℕ)) → length (flat_map (big_bytes 4) (offsets_of place entries)) ≡ 4 * (length entries + 1)
offsets_long place [] = refl
offsets_long place (entry ∷ entries) =
    let more = offsets_long (place + length entry) entries in
    omega (arith, more, length-append (big_bytes 4 place) (flat_map (big_bytes 4) (offsets_of (place + length entry) entries)), length-bytes_high_first 4 place)

pub table_long : (place : ℕ) (entries : List (List ℕ)) → length (offset_table place entries) ≡ 4 * length entries + 8
table_long place entries =
    omega (arith, offsets_long place entries, length-append (big_bytes 4 (length entries + 1)) (flat_map (big_bytes 4) (offsets_of place entries)), length-bytes_high_first 4 (length entries + 1))

-- the entries, and then their offsets
pub data_parts : (k : ℕ) (basket : OpenBasket) → basket.offsets ≡ true → basket_data k basket ≡ concat basket.entries ++ offset_table k basket.entries
data_parts k basket e = ap (λ (t : Bool). concat basket.entries ++ cond t (offset_table k basket.entries) []) e

pub data_alone : (k : ℕ) (basket : OpenBasket) → basket.offsets ≡ false → basket_data k basket ≡ concat basket.entries
data_alone k basket e = ap (λ (t : Bool). concat basket.entries ++ cond t (offset_table k basket.entries) []) e ∙ append-nil (concat basket.entries)

pub data_with_offsets : (k : ℕ) (basket : OpenBasket) → basket.offsets ≡ true → length (basket_data k basket) ≡ entries_length basket.entries + 4 * length basket.entries + 8
data_with_offsets k basket e =
    ap (λ (t : Bool). length (concat basket.entries ++ cond t (offset_table k basket.entries) [])) e
    ∙ length-append (concat basket.entries) (offset_table k basket.entries)
    ∙ omega (arith, table_long k basket.entries)

pub data_without_offsets : (k : ℕ) (basket : OpenBasket) → basket.offsets ≡ false → length (basket_data k basket) ≡ entries_length basket.entries
data_without_offsets k basket e =
    ap (λ (t : Bool). length (concat basket.entries ++ cond t (offset_table k basket.entries) [])) e
    ∙ length-append (concat basket.entries) []
    ∙ omega arith

-- the entries are no longer than all data
pub data_within : (k : ℕ) (basket : OpenBasket) → entries_length basket.entries ≤ length (basket_data k basket)
data_within k basket = omega (arith, length-append (concat basket.entries) (cond basket.offsets (offset_table k basket.entries) []))

-- how long they are doesn't hang on the key
pub data_same : (j k : ℕ) (basket : OpenBasket) → length (basket_data j basket) ≡ length (basket_data k basket)
data_same j k basket = by basket.offsets refl
  where
    by : (t : Bool) → basket.offsets ≡ t → length (basket_data j basket) ≡ length (basket_data k basket)
    by true e = data_with_offsets j basket e ∙ sym (data_with_offsets k basket e)
    by false e = data_without_offsets j basket e ∙ sym (data_without_offsets k basket e)

-- ---- the first entry

pub first_is : (entries : List (List ℕ)) (entry : List ℕ) → slice_get entries 0 ≡ Some entry → first_entry_length entries ≡ length entry
first_is [] entry e = absurd cc
first_is (x ∷ xs) entry e = let same : x ≡ entry = cc in ap length same

pub first_none : (entries : List (List ℕ)) → slice_get entries 0 ≡ None → first_entry_length entries ≡ 0
first_none [] e = refl
first_none (x ∷ xs) e = absurd cc

-- what the head says of the length of an entry, or of their number
pub size_small : (basket : OpenBasket) → length basket.entries < 2 ^ 31 → entries_length basket.entries < 2 ^ 31 → entry_size basket < 2 ^ 31
size_small basket count long = by basket.offsets
  where
    by : (t : Bool) → cond t (length basket.entries) (first_entry_length basket.entries) < 2 ^ 31
    by true = count
    by false = omega (arith, first_within basket.entries, long)

pub size_with : (basket : OpenBasket) (n : ℕ) → basket.offsets ≡ true → n ≡ length basket.entries → n ≡ entry_size basket
size_with basket n with is = is ∙ sym (ap (λ (t : Bool). cond t (length basket.entries) (first_entry_length basket.entries)) with)

pub size_without : (basket : OpenBasket) (n : ℕ) → basket.offsets ≡ false → n ≡ first_entry_length basket.entries → n ≡ entry_size basket
size_without basket n without is = is ∙ sym (ap (λ (t : Bool). cond t (length basket.entries) (first_entry_length basket.entries)) without)

-- A basket that is being filled: its entries, and how many more there is room for.
use Rattle.std.specs.Prelude.{◌≡◌, ◌⊎◌, ℕ, zero, suc, ◌+◌, ◌-◌, ◌<◌, List, [], ◌∷◌, ◌++◌, length, max, slice_index, slice_range, Result, Ok, Err, Bool, true, nat_le, nat_lt, ◌==◌, ◌&&◌, ◌||◌}
use Rattle.std.specs.List.{concat, list_all}
use Rattle.rio_num.specs.declared.no_memory.NoMemory.{NoMemory}

-- Entries, with offsets or of one length; for how many more there is room, and for how many of their bytes.
pub record OpenBasket : Type 0 where
  pub offsets : Bool
  pub entries : List (List ℕ)
  pub rooms : ℕ
  pub spare : ℕ

-- how many bytes they have together
abbrev pub entries_length : List (List ℕ) → ℕ
entries_length entries = length (concat entries)

-- One more entry of so many bytes is taken: the first, or one with which there are at most 32,000 bytes and 8,192 entries.
abbrev pub takes_entry : List (List ℕ) → ℕ → Bool
takes_entry entries n = (length entries == 0) || (nat_le (entries_length entries + n) 32000 && nat_lt (length entries) 8192)

-- without offsets, all entries have the length of the first
abbrev pub fits_entry : OpenBasket → List ℕ → Bool
fits_entry basket entry = basket.offsets || list_all (λ e. length e == length entry) basket.entries

-- all entries have the length of the first
abbrev pub have_one_length : List (List ℕ) → Bool
have_one_length [] = true
have_one_length (entry ∷ entries) = list_all (λ e. length e == length entry) entries

-- with one entry more, which takes from the room what it fills
abbrev pub with_entry : OpenBasket → List ℕ → OpenBasket
with_entry basket entry = record {
  offsets = basket.offsets;
  entries = basket.entries ++ entry ∷ [];
  rooms = basket.rooms - 1;
  spare = basket.spare - length entry;
}

-- The entry is the last one now, or memory ran out: there was no room for it then, and nothing changed.
abbrev pub AddsEntry : OpenBasket → OpenBasket → List ℕ → Result (Unit {0}) NoMemory → Type 0
AddsEntry old new entry (Ok x) = new ≡ with_entry old entry
AddsEntry old new entry (Err e) = (new ≡ old) × ((old.rooms < 1) ⊎ (old.spare < length entry))

-- with room for one more entry of so many bytes
abbrev pub with_room : OpenBasket → ℕ → OpenBasket
with_room basket n = record {
  offsets = basket.offsets;
  entries = basket.entries;
  rooms = max basket.rooms 1;
  spare = max basket.spare n;
}

-- There is that room now, or memory ran out: there was less before, and nothing changed.
abbrev pub MakesRoom : OpenBasket → OpenBasket → ℕ → Result (Unit {0}) NoMemory → Type 0
MakesRoom old new n (Ok x) = new ≡ with_room old n
MakesRoom old new n (Err e) = (new ≡ old) × ((old.rooms < 1) ⊎ (old.spare < n))

-- ---- entries one behind the other

-- the bytes up to each of these ends
abbrev pub cut_from : ℕ → List ℕ → List ℕ → List (List ℕ)
cut_from start [] bytes = []
cut_from start (end ∷ ends) bytes = slice_range bytes start end ∷ cut_from end ends bytes

-- the ends rise to the last
abbrev pub is_cut : ℕ → List ℕ → ℕ → Bool
is_cut start [] last = start == last
is_cut start (end ∷ ends) last = nat_le start end && is_cut end ends last

-- where the k-th entry begins
abbrev pub start_of : ℕ → List ℕ → ℕ → ℕ
start_of start ends zero = start
start_of start ends (suc k) = slice_index ends k

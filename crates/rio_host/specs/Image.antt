-- Files as lists of bytes, read by their places, and what a write makes of one.
use Rattle.std.specs.Prelude.{◌≡◌, ◌⊎◌, ℕ, ◌+◌, ◌<◌, ◌≤◌, max, List, length, Some, slice_get}

-- these bytes stand in the file at this place
abbrev pub Has : List ℕ → ℕ → List ℕ → Type 0
Has file place bytes = (i x : ℕ) → slice_get bytes i ≡ Some x → slice_get file (place + i) ≡ Some x

-- each byte outside the n bytes at this place stays
abbrev pub KeepsOutside : ℕ → ℕ → List ℕ → List ℕ → Type 0
KeepsOutside place n old new = (i x : ℕ) → (i < place) ⊎ (place + n ≤ i) → slice_get old i ≡ Some x → slice_get new i ≡ Some x

-- What a write of n bytes at this place may leave: any bytes in its range, and any length between the old and the new one.
pub record Torn (place n : ℕ) (old new : List ℕ) : Type 0 where
  pub outside : KeepsOutside place n old new
  pub no_shorter : length old ≤ length new
  pub no_longer : length new ≤ max (length old) (place + n)

-- these bytes were written at this place
pub record Put (place : ℕ) (bytes old new : List ℕ) : Type 0 where
  pub outside : KeepsOutside place (length bytes) old new
  pub written : Has new place bytes
  pub length_is : length new ≡ max (length old) (place + length bytes)

-- all of it or nothing
abbrev pub PutOrNot : ℕ → List ℕ → List ℕ → List ℕ → Type 0
PutOrNot place bytes old new = (new ≡ old) ⊎ Put place bytes old new

abbrev pub Same : List ℕ → List ℕ → Type 0
Same old new = new ≡ old

-- Records that stand one behind the other in some bytes, as they are put together.
use Rattle.std.specs.Prelude.{◌≡◌, ◌<◌, ◌≤◌, ℕ, ◌+◌, ◌%◌, List, [], ◌∷◌, drop, length, sum, take}
use Rattle.rio_chain.specs.Segments.{IsRecord}

-- bytes, cut into parts of these lengths
abbrev pub cut_by : List ℕ → List ℕ → List (List ℕ)
cut_by [] bytes = []
cut_by (n ∷ lengths) bytes = take n bytes ∷ cut_by lengths (drop n bytes)

-- whole records for the places from this one on, one behind the other
abbrev pub AreRecordsFrom : ℕ → List (List ℕ) → Type 0
AreRecordsFrom place [] = Unit {0}
AreRecordsFrom place (bytes ∷ records) = IsRecord place bytes × AreRecordsFrom (place + length bytes) records

-- these bytes are whole records of these lengths for the places from this one on, at least one
pub record AreRecords (place : ℕ) (lengths bytes : List ℕ) : Type 0 where
  pub some : 0 < length lengths
  pub long : length bytes ≡ sum lengths
  pub whole : AreRecordsFrom place (cut_by lengths bytes)

-- the first of some lengths
abbrev pub first_length : List ℕ → ℕ
first_length [] = 0
first_length (n ∷ lengths) = n

-- lengths that records may have
abbrev pub AreLengths : List ℕ → Type 0
AreLengths [] = Unit {0}
AreLengths (n ∷ lengths) = (4 ≤ n) × (n % 4 ≡ 0) × AreLengths lengths

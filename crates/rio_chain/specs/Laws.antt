-- What holds of the segments of every file.
use Rattle.std.specs.Prelude.{◌≡◌, ◌⊎◌, ℕ, ◌%◌, ◌≤◌, List, Ok}
use Rattle.rio_num.specs.At.{AreBytes}
use Rattle.rio_key.specs.Key.{key_at}
use Rattle.rio_chain.specs.{declared.segment.Segment.{Segment}, Adjoining.{AreSegments}, Placing.{laid, place_of, space_of, with_segment}}
use Rattle.rio_chain.specs.Segments.{Link, IsChain, IsRecord, BreaksAt}

-- a file has one list of segments
abbrev pub HasOneChain : Type 0
HasOneChain = (file : List ℕ) (a b : List Link) → IsChain a file → IsChain b file → a ≡ b

-- a file has one first break
abbrev pub HasOneBreak : Type 0
HasOneBreak = (file : List ℕ) (p q : ℕ) → BreaksAt p file → BreaksAt q file → p ≡ q

-- never both
abbrev pub IsNeverBoth : Type 0
IsNeverBoth = (file : List ℕ) (links : List Link) (place : ℕ) → IsChain links file → ¬ BreaksAt place file

-- always one of them
abbrev pub IsAlwaysOne : Type 0
IsAlwaysOne = (file : List ℕ) → AreBytes file → ((links : List Link) × IsChain links file) ⊎ ((place : ℕ) × BreaksAt place file)

-- the key at a record's place is the record's own
abbrev pub IsReadOfRecords : Type 0
IsReadOfRecords = (place : ℕ) (bytes : List ℕ) (r : IsRecord place bytes) → key_at (record { place = place; rest = bytes }) ≡ Ok r.head

-- a put at the rule's place leaves segments of a file, and free what laying leaves free
abbrev pub IsLaidByPuts : Type 0
IsLaidByPuts = (segments : List Segment) (n : ℕ) → AreSegments segments → 4 ≤ n → n % 4 ≡ 0
    → AreSegments (with_segment (place_of segments n) n segments) × (space_of (with_segment (place_of segments n) n segments) ≡ laid n (space_of segments))

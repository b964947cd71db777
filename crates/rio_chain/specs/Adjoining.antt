-- Segments that follow one another as those of a file do.
use Rattle.std.specs.Prelude.{◌≡◌, ℕ, ◌+◌, ◌%◌, ◌≤◌, List, [], ◌∷◌}
use Rattle.rio_chain.specs.declared.segment.Segment.{Segment, TheVariants.{Record, Gap}}

abbrev pub segment_place : Segment → ℕ
segment_place (Record place length) = place
segment_place (Gap place length) = place

abbrev pub segment_length : Segment → ℕ
segment_length (Record place length) = length
segment_length (Gap place length) = length

abbrev pub IsRecordSegment : Segment → Type 0
IsRecordSegment (Record place length) = Unit {0}
IsRecordSegment (Gap place length) = ⊥

-- it begins at this place, and its length is a multiple of four and some
pub record BeginsAt (place : ℕ) (segment : Segment) : Type 0 where
  pub there : segment_place segment ≡ place
  pub some : 4 ≤ segment_length segment
  pub aligned : segment_length segment % 4 ≡ 0

-- each begins where the one before it ends, the first at this place
abbrev pub AreAdjacent : ℕ → List Segment → Type 0
AreAdjacent place [] = Unit {0}
AreAdjacent place (s ∷ segments) = BeginsAt place s × AreAdjacent (place + segment_length s) segments

-- where they end
abbrev pub segments_end : ℕ → List Segment → ℕ
segments_end place [] = place
segments_end place (s ∷ segments) = segments_end (place + segment_length s) segments

abbrev pub BeginsWithRecord : List Segment → Type 0
BeginsWithRecord [] = ⊥
BeginsWithRecord (s ∷ segments) = IsRecordSegment s

-- behind each gap a record begins: no two gaps touch, and the last segment is none
abbrev pub AreGapsApart : List Segment → Type 0
AreGapsApart [] = Unit {0}
AreGapsApart (Record place length ∷ segments) = AreGapsApart segments
AreGapsApart (Gap place length ∷ segments) = BeginsWithRecord segments × AreGapsApart segments

-- a record at place 100, and then segments one behind the other up to END, with no gap beside a gap or before END
pub record AreSegments (segments : List Segment) : Type 0 where
  pub first : BeginsWithRecord segments
  pub adjacent : AreAdjacent 100 segments
  pub apart : AreGapsApart segments

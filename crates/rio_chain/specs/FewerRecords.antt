-- What is left of a file's segments without one of its records.
use Rattle.std.specs.{Prelude.{◌≡◌, ℕ, ◌+◌, ◌-◌, ◌<◌, ◌≤◌, ◌==◌, Bool, false, List, ◌∷◌, ◌++◌, length, map, take, Option, Some, None, slice_get, if◌then◌else◌}, Set.{remove_key}}
use Rattle.rio_free.specs.{Gaps.{gap_end, gap_of, given}, declared.gap.Gap.{Gap as FreeGap}}
use Rattle.rio_chain.specs.{declared.segment.Segment.{Segment, TheVariants.{Record}}, Adjoining.{AreSegments}, Releasing.{without_segment}}
use Rattle.rio_chain.specs.{Changes.{records_among, without_record}, Placing.{FreeSpace, file_end, record_count, space_of}, Segments.{GapAt, Link, RecordAt, segment_of}}

-- ---- what is free

-- where the last gap reaches END it is none, and END is at its place
abbrev pub drawn_to : List FreeGap → ℕ → Option FreeGap → FreeSpace
drawn_to gaps end None = record { gaps = gaps; end = end }
drawn_to gaps end (Some last) =
    if gap_end last == end then record { gaps = take (length gaps - 1) gaps; end = last.place } else record { gaps = gaps; end = end }

abbrev pub drawn_in : List FreeGap → ℕ → FreeSpace
drawn_in gaps end = drawn_to gaps end (slice_get gaps (length gaps - 1))

-- what is free once n bytes at a place are free too
abbrev pub freed : ℕ → ℕ → FreeSpace → FreeSpace
freed place n space = drawn_in (given (gap_of place n) space.gaps) space.end

-- ---- segments

-- Segments without a record of n bytes are segments of a file. They have one record fewer, its bytes are free, and END isn't
-- later.
pub record IsLeftWithout (place n : ℕ) (before after : List Segment) : Type 0 where
  pub shape : AreSegments after
  pub space : space_of after ≡ freed place n (space_of before)
  pub end : file_end after ≤ file_end before
  pub count : record_count after + 1 ≡ record_count before

-- a release of a record, but of the first, leaves such segments
abbrev pub IsLeftByReleases : Type 0
IsLeftByReleases = (front back : List Segment) (place n : ℕ) → AreSegments (front ++ Record place n ∷ back) → 100 < place
    → IsLeftWithout place n (front ++ Record place n ∷ back) (without_segment place (front ++ Record place n ∷ back))

-- ---- records with their bytes

abbrev pub is_record_at : ℕ → Link → Bool
is_record_at place (RecordAt p bytes) = p == place
is_record_at place (GapAt p n) = false

-- the other records stay, each at its place and with its bytes
abbrev pub KeepsOtherRecords : Type 0
KeepsOtherRecords = (links : List Link) (place : ℕ) → records_among (without_record place links) ≡ remove_key (is_record_at place) (records_among links)

-- the links that are left have the segments that are left
abbrev pub KeepsSegments : Type 0
KeepsSegments = (links : List Link) (place : ℕ) → map segment_of (without_record place links) ≡ without_segment place (map segment_of links)

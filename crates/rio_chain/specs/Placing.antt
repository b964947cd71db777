-- Where records go: the choice of place, and what a record makes of the segments.
use Rattle.std.specs.{Prelude.{◌≡◌, ◌⊎◌, ℕ, zero, suc, ◌+◌, ◌-◌, ◌^◌, ◌≤◌, ◌==◌, List, [], ◌∷◌, ◌++◌, Option, Some, None, if◌then◌else◌}, Option.{unwrap_or}}
use Rattle.byteorder.specs.Endian.{big_bytes}
use Rattle.rio_free.specs.{Gaps.{HasGapFor, best_place, gap_of, taken}, declared.gap.Gap.{Gap as FreeGap}}
use Rattle.rio_chain.specs.{declared.segment.Segment.{Segment, TheVariants.{Record, Gap}}, Adjoining.{segments_end}}

-- the gaps among some segments
abbrev pub gaps_in : List Segment → List FreeGap
gaps_in [] = []
gaps_in (Record place n ∷ segments) = gaps_in segments
gaps_in (Gap place n ∷ segments) = gap_of place n ∷ gaps_in segments

-- how many of them are records
abbrev pub record_count : List Segment → ℕ
record_count [] = 0
record_count (Record place n ∷ segments) = record_count segments + 1
record_count (Gap place n ∷ segments) = record_count segments

-- END of a file's segments
abbrev pub file_end : List Segment → ℕ
file_end segments = segments_end 100 segments

-- the place of a record of n bytes: the first gap as long, else the first that is longer by more than three, else END
abbrev pub place_of : List Segment → ℕ → ℕ
place_of segments n = unwrap_or (best_place n (gaps_in segments)) (file_end segments)

-- what is left of a gap, in front of the segments behind it
abbrev pub rest_of_gap : ℕ → ℕ → List Segment → List Segment
rest_of_gap place n segments = if n == 0 then segments else Gap place n ∷ segments

-- the segments with a record of n bytes at a place, which is that of a gap, or END
abbrev pub with_segment : ℕ → ℕ → List Segment → List Segment
with_segment place n [] = Record place n ∷ []
with_segment place n (Record p m ∷ segments) = Record p m ∷ with_segment place n segments
with_segment place n (Gap p m ∷ segments) = if p == place then Record place n ∷ rest_of_gap (place + n) (m - n) segments else Gap p m ∷ with_segment place n segments

-- the segments with records of these lengths, one behind the other from a place on, which is that of a gap, or END
abbrev pub with_segments : ℕ → List ℕ → List Segment → List Segment
with_segments place [] segments = segments
with_segments place (n ∷ lengths) segments = with_segments (place + n) lengths (with_segment place n segments)

-- what is free: gaps, and all from END on
pub record FreeSpace : Type 0 where
  pub gaps : List FreeGap
  pub end : ℕ

abbrev pub space_of : List Segment → FreeSpace
space_of segments = record { gaps = gaps_in segments; end = file_end segments }

-- what is free once n bytes are laid: at the front of a gap, or at END
abbrev pub laid_at : Option ℕ → ℕ → FreeSpace → FreeSpace
laid_at (Some place) n space = record space { gaps = taken place n space.gaps }
laid_at None n space = record space { end = space.end + n }

abbrev pub laid : ℕ → FreeSpace → FreeSpace
laid n space = laid_at (best_place n space.gaps) n space

-- the places of records of these lengths, laid one after the other
abbrev pub places_of : List ℕ → FreeSpace → List ℕ
places_of [] space = []
places_of (n ∷ lengths) space = unwrap_or (best_place n space.gaps) space.end ∷ places_of lengths (laid n space)

-- and END then
abbrev pub end_after : List ℕ → FreeSpace → ℕ
end_after [] space = space.end
end_after (n ∷ lengths) space = end_after lengths (laid n space)

-- the place of the rule, or END
abbrev pub IsPlaceFor : List Segment → ℕ → ℕ → Type 0
IsPlaceFor segments n place = (place ≡ place_of segments n) ⊎ (place ≡ file_end segments)

-- a gap for n bytes, or END
abbrev pub IsFree : List Segment → ℕ → ℕ → Type 0
IsFree segments n place = HasGapFor (gaps_in segments) place n ⊎ (place ≡ file_end segments)

-- a gap of n bytes and a rest begins at a place: the rest is none, or enough for a gap
abbrev pub HasRest : List Segment → ℕ → ℕ → ℕ → Type 0
HasRest segments place n rest = (front : List Segment) × (back : List Segment) × (segments ≡ front ++ Gap place (n + rest) ∷ back) × ((rest ≡ 0) ⊎ (4 ≤ rest))

-- at a place there is room for n bytes: a gap of n bytes and a rest, or END
abbrev pub HasRoomAt : List Segment → ℕ → ℕ → Type 0
HasRoomAt segments place n = (place ≡ file_end segments) ⊎ ((rest : ℕ) × HasRest segments place n rest)

-- the word of what is left of a gap behind a record, or END's
abbrev pub word_behind : Option ℕ → List ℕ
word_behind None = big_bytes 4 0
word_behind (Some zero) = []
word_behind (Some (suc rest)) = big_bytes 4 (2 ^ 32 - suc rest)

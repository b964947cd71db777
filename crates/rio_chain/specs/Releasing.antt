-- What a release makes of the segments: a record's bytes are free, and the gaps on both sides are one gap with them.
use Rattle.std.specs.Prelude.{ℕ, ◌+◌, ◌==◌, List, [], ◌∷◌, if◌then◌else◌}
use Rattle.rio_chain.specs.declared.segment.Segment.{Segment, TheVariants.{Record, Gap}}

-- Free bytes in front of segments: with a gap that the segments begin with they are one gap, and where no segment is behind them
-- END is at their place.
abbrev pub with_free : ℕ → ℕ → List Segment → List Segment
with_free place n [] = []
with_free place n (Record p m ∷ segments) = Gap place n ∷ Record p m ∷ segments
with_free place n (Gap p m ∷ segments) = Gap place (n + m) ∷ segments

-- the segments without the record at this place
abbrev pub without_segment : ℕ → List Segment → List Segment
without_segment place [] = []
without_segment place (Record p n ∷ segments) = if p == place then with_free p n segments else Record p n ∷ without_segment place segments
without_segment place (Gap p n ∷ segments) = with_free p n (without_segment place segments)

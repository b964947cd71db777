-- The segments that are kept as records and gaps: both merged by place.
use Rattle.std.specs.Prelude.{ℕ, List, [], ◌∷◌, nat_lt, if◌then◌else◌}
use Rattle.rio_free.specs.declared.gap.Gap.{Gap as FreeGap}
use Rattle.rio_chain.specs.{declared.segment.Span.{Span}, declared.segment.Segment.{Segment, TheVariants.{Record, Gap}}, Adjoining.{segment_place}}

abbrev pub span_of : ℕ → ℕ → Span
span_of place length = record { place = place; length = length }

-- the records among some segments
abbrev pub spans_in : List Segment → List Span
spans_in [] = []
spans_in (Record place n ∷ segments) = span_of place n ∷ spans_in segments
spans_in (Gap place n ∷ segments) = spans_in segments

-- records alone as segments
abbrev pub as_segments : List Span → List Segment
as_segments [] = []
as_segments (s ∷ spans) = Record s.place s.length ∷ as_segments spans

-- segments with a gap more, in its place among them
abbrev pub gap_among : FreeGap → List Segment → List Segment
gap_among g [] = Gap g.place g.length ∷ []
gap_among g (s ∷ segments) = if nat_lt g.place (segment_place s) then Gap g.place g.length ∷ s ∷ segments else s ∷ gap_among g segments

-- records and gaps, merged by place
abbrev pub merged : List Span → List FreeGap → List Segment
merged spans [] = as_segments spans
merged spans (g ∷ gaps) = gap_among g (merged spans gaps)

-- Changes of a file's records that are planned, one after the other.
use Rattle.std.specs.Prelude.{◌≡◌, ◌≤◌, ◌<◌, ℕ, List, [], ◌∷◌, length, map}
use Rattle.rio_chain.specs.{Chains.{HasRecordSegment}, Changes.{with_record, without_record}, Placing.{file_end, place_of, with_segment}, Releasing.{without_segment}, Segments.{IsRecord}, declared.segment.Segment.{Segment}}
use Rattle.rio_session.specs.{Kept.{LinksChange}, declared.steps.Step.{Step, TheVariants.{Put, Release}}}

-- what a step makes of the links, and of the segments
abbrev pub change_of : Step → LinksChange
change_of (Put place body) = with_record place body.bytes
change_of (Release place) = without_record place

abbrev pub changes_of : List Step → List LinksChange
changes_of steps = map change_of steps

abbrev pub stepped : Step → List Segment → List Segment
stepped (Put place body) segments = with_segment place (length body.bytes) segments
stepped (Release place) segments = without_segment place segments

abbrev pub all_stepped : List Step → List Segment → List Segment
all_stepped [] segments = segments
all_stepped (step ∷ steps) segments = all_stepped steps (stepped step segments)

-- A whole record is put at the place of the rule, with four bytes spare, and END stays within its limit.
pub record CanPut (segments : List Segment) (place : ℕ) (bytes : List ℕ) (spare : ℕ) : Type 0 where
  pub whole : IsRecord place bytes
  pub place_is : place ≡ place_of segments (length bytes)
  pub low : file_end (with_segment place (length bytes) segments) ≤ 1999999996
  pub room : 4 ≤ spare

-- or a record other than the first is released
abbrev pub CanStep : List Segment → Step → Type 0
CanStep segments (Put place body) = CanPut segments place body.bytes body.spare
CanStep segments (Release place) = HasRecordSegment segments place × (100 < place)

-- each step can be done, where those before it were
abbrev pub CanRun : List Step → List Segment → Type 0
CanRun [] segments = Unit {0}
CanRun (step ∷ steps) segments = CanStep segments step × CanRun steps (stepped step segments)

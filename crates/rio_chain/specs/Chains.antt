-- The chain that is kept beside a file.
use Rattle.std.specs.Prelude.{◌≡◌, ℕ, Bool, List, ◌∷◌, ◌++◌, map}
use Rattle.rio_host.specs.Host.{View}
use Rattle.rio_chain.specs.{declared.segment.Segment.{Segment, TheVariants.{Record}}, Segments.{Link, IsChain, segment_of}, Walks.{Told}}

-- the segments, for how many more changes there is room, and whether a change failed and left it unknown what the file holds
pub record ChainState : Type 0 where
  pub segments : List Segment
  pub spare : ℕ
  pub spent : Bool

-- the file has the links of these segments
pub record HasChain (links : List Link) (segments : List Segment) (file : List ℕ) : Type 0 where
  pub chain : IsChain links file
  pub same : segments ≡ map segment_of links

-- where the host tells its bytes, they have these segments
abbrev pub HoldsChain : View → List Segment → Type 0
HoldsChain v segments = Told v (λ file. (links : List Link) × HasChain links segments file)

-- a record of these segments begins at a place
abbrev pub HasRecordSegment : List Segment → ℕ → Type 0
HasRecordSegment segments place = (front : List Segment) × (n : ℕ) × (back : List Segment) × (segments ≡ front ++ Record place n ∷ back)

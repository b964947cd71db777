-- What a plan answers.
use Rattle.std.specs.Prelude.{◌≡◌, ℕ, ◌<◌, ◌≤◌, List, Option, Some, None, sum}
use Rattle.rio_chain.specs.{declared.segment.Segment.{Segment}, declared.fault.PlanFault.{PlanFault, TheVariants.{Full, NoMemory}}}
use Rattle.rio_chain.specs.Placing.{FreeSpace, end_after, file_end, places_of, space_of}

-- Full only where END would pass the limit: END before, and the sum of the lengths
abbrev pub IsFull : List Segment → List ℕ → ℕ → PlanFault → Type 0
IsFull segments lengths limit (Full end wanted) = (limit < end_after lengths (space_of segments)) × (end ≡ file_end segments) × (wanted ≡ sum lengths)
IsFull segments lengths limit NoMemory = Unit {0}

-- the places where END stays within the limit, or none where it would pass it
abbrev pub Lays : List ℕ → FreeSpace → ℕ → Option (List ℕ) → Type 0
Lays lengths space limit (Some places) = (places ≡ places_of lengths space) × (end_after lengths space ≤ limit)
Lays lengths space limit None = limit < end_after lengths space

-- What a host that tells everything leaves: all that the disk model allows it to.
use Rattle.std.specs.Prelude.{◌≡◌, ℕ, List, ◌++◌, take, Some}
use Rattle.rio_host.specs.Host.{View, Leaves, After}

-- a stop now may leave each image that this change makes of one that a stop might have left before
abbrev pub Flies : (List ℕ → List ℕ → Type 0) → View → View → Type 0
Flies change old new = (image said : List ℕ) → After change old image said → Leaves new image said

-- More was said. A stop on the way may leave each front of it, and a stop now all of it, with the images of before.
abbrev pub SaysInParts : View → View → Type 0
SaysInParts old new = (image before more : List ℕ) → Leaves old image before → new.said ≡ Some (before ++ more)
    → ((k : ℕ) → new.left_since old.now image (before ++ take k more)) × Leaves new image (before ++ more)

-- What is held of the branches of a tree, and the number that a leaf says.
use Rattle.std.specs.{Prelude.{◌≡◌, ◌≤◌, ℕ, ℤ, List, [], ◌∷◌, slice_get, Option, Some, None, if◌then◌else◌}, Str.{bytes_eq}}
use Rattle.rio_leaf.specs.declared.leaf.Leaf.{Leaf}
use Rattle.rio_format.specs.{Accessors.{number_in}, declared.value.Value.{Value, out-Value}}
use Rattle.rio_tree.specs.{Index.{basket_number}, declared.basket_at.BasketAt.{BasketAt}, declared.head.Branch.{Branch}}
use Rattle.rio_entry.specs.StoredEntries.{StoredEntries, stored_basket}
use Rattle.rio_entry.specs.declared.lane.Lane.{Lane}

-- the number of a leaf of the name, or else what was found before
abbrev pub number_if_named : List ℕ → Leaf → Value → Option ℤ → Option ℤ
number_if_named name leaf v found = if bytes_eq name leaf.name then Some (number_in (out-Value v)) else found

-- the number that the first of these values says for a leaf of the name, or else what was found before
abbrev pub number_with : List ℕ → Leaf → List Value → Option ℤ → Option ℤ
number_with name leaf [] found = found
number_with name leaf (v ∷ vs) found = number_if_named name leaf v found

-- ---- what is held of a branch

-- A basket is held, of this number; of the file it is what stands there.
abbrev pub IsHeld : List ℕ → Branch → ℕ → Option StoredEntries → Type 0
IsHeld file b number None = Unit {0}
IsHeld file b number (Some found) = (at : BasketAt) → slice_get b.baskets number ≡ Some at → found ≡ stored_basket file b.offsets at

-- ---- lanes

-- nothing is held
abbrev pub empty_handed : Lane
empty_handed = record { number = 0; basket = None; fault = None }

-- the basket that is held isn't behind the entry's, and is what stands in the file
abbrev pub IsLane : List ℕ → ℕ → Branch → Lane → Type 0
IsLane file e b lane = (lane.number ≤ basket_number e b.baskets) × IsHeld file b lane.number lane.basket

-- each of the branches has such a lane
abbrev pub AreLanes : List ℕ → ℕ → List Branch → List Lane → Type 0
AreLanes file e branches lanes =
    (k : ℕ) (b : Branch) (lane : Lane) → slice_get branches k ≡ Some b → slice_get lanes k ≡ Some lane → IsLane file e b lane

-- What is held of the branches of a tree at an entry.
use Rattle.std.specs.Prelude.{◌≡◌, ◌<◌, ℕ, List, slice_get, Some, IsTrue, is_some}
use Rattle.rio_tree.specs.{Index.{basket_number}, declared.head.Branch.{Branch}}
use Rattle.rio_entry.specs.{Lanes.{IsHeld}, declared.lane.Lane.{Lane}}

-- the entry's basket is held, as it stands in the file
pub record HoldsEntry (file : List ℕ) (e : ℕ) (b : Branch) (lane : Lane) : Type 0 where
  pub number : lane.number ≡ basket_number e b.baskets
  pub some : IsTrue (is_some lane.basket)
  pub held : IsHeld file b lane.number lane.basket

-- of each of so many branches
abbrev pub HoldEntry : List ℕ → ℕ → ℕ → List Branch → List Lane → Type 0
HoldEntry file e n branches lanes =
    (k : ℕ) (b : Branch) (lane : Lane) → k < n → slice_get branches k ≡ Some b → slice_get lanes k ≡ Some lane → HoldsEntry file e b lane

-- What is known of the places of a basket's entries once they are read.
use Rattle.std.specs.Prelude.{◌≡◌, ℕ, ◌+◌, ◌<◌, ◌≤◌, List, length, Bool, true}
use Rattle.rio_key.specs.{declared.basket_layout.Layout.{Layout}, BasketEntries.{offset_at, offset_place}}

-- the data are within the bytes
pub record IsLayoutWithin (layout : Layout) (bytes : List ℕ) : Type 0 where
  pub first_within : layout.first ≤ layout.last
  pub last_within : layout.last ≤ layout.end
  pub end_within : layout.end ≤ length bytes

-- the offsets are whole, and rise up to the data's end
pub record AreOffsets (layout : Layout) (bytes : List ℕ) : Type 0 where
  pub whole : (k : ℕ) → k < layout.count → offset_place layout k + 4 ≤ length bytes
  pub rise : (k : ℕ) → k + 1 < layout.count → offset_at layout bytes k ≤ offset_at layout bytes (k + 1)
  pub end_within : (k : ℕ) → k < layout.count → offset_at layout bytes k ≤ layout.last

pub record IsLaid (offsets : Bool) (layout : Layout) (bytes : List ℕ) : Type 0 where
  pub within : IsLayoutWithin layout bytes
  pub with_offsets : offsets ≡ true → AreOffsets layout bytes

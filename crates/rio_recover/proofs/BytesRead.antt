-- The record of the class list that counts, by its key.
use Rattle.std.proofs.Common.{◌≡◌, ℕ, List, Option, Some, None}
use Rattle.std.specs.Option.{IfSome, option_map}
use Rattle.rio_key.specs.declared.head.KeyHead.{KeyHead}
use Rattle.rio_state.specs.KeyedRecords.{KeyedRecord}
use Rattle.rio_recover.specs.Keys.{StandsIn}

-- a record of the file has this key
pub record StandsWith (file : List ℕ) (head : KeyHead) : Type 0 where
  pub item : KeyedRecord
  pub stands : StandsIn file item
  pub head_is : item.head ≡ head

pub stands_with : (file : List ℕ) (found : Option KeyedRecord) (head : KeyHead) → option_map (λ r. r.head) found ≡ Some head → IfSome found (StandsIn file) → StandsWith file head
stands_with file None head is stands = absurd cc
stands_with file (Some r) head is stands = record { item = r; stands = stands; head_is = let same : r.head ≡ head = cc in same }

-- The keys of a file's objects and trees, as they are kept beside it.
use Rattle.std.specs.{Prelude.{List, ◌↔◌}, List.{Contains}}
use Rattle.rio_key.specs.declared.head.KeyHead.{KeyHead}
use Rattle.rio_dir.specs.Table.{AreOrdered}
use Rattle.rio_state.specs.{Closing.{item_heads}, KeyedRecords.{KeyedRecord, top_keys}}

-- the heads of the objects and trees among a file's records, each as it stands in its record, in the order of the key list
pub record AreKeysOf (records : List KeyedRecord) (heads : List KeyHead) : Type 0 where
  pub ordered : AreOrdered heads
  pub each : (head : KeyHead) → Contains heads head ↔ Contains (item_heads (top_keys records)) head

-- A key list that is written is spelled by what was written.
use Rattle.std.proofs.Common.{◌^◌, ◌<◌, List, [], ◌∷◌, length}
use Rattle.std.specs.List.{flat_map}
use Rattle.rio_key.specs.{KeyList.{SpellsKeyList}, Written.{written_key}, declared.head.KeyHead.{KeyHead}}
use Rattle.rio_key.proofs.{KeyListLaws.{SpellsHeads, list_of, more_heads, no_heads}, KeyWritten.{key_spelled}}
use Rattle.rio_dir.specs.Table.{AreWritable, key_list_bytes}

heads_spelled : (heads : List KeyHead) → AreWritable heads → SpellsHeads heads (flat_map written_key heads)
heads_spelled [] are = no_heads
heads_spelled (h ∷ hs) are = more_heads h hs (written_key h) (flat_map written_key hs) (key_spelled h are.0.0 are.0.1) (heads_spelled hs are.1)

pub list_spelled : (heads : List KeyHead) → length heads < 2 ^ 32 → AreWritable heads → SpellsKeyList heads (key_list_bytes heads)
list_spelled heads few are = list_of heads (flat_map written_key heads) few (heads_spelled heads are)

-- The head of one more item stands in its place among the keys that are kept beside a file.
use Rattle.std.proofs.Common.{◌≡◌, List, None}
use Rattle.std.specs.List.{find}
use Rattle.rio_key.specs.declared.head.KeyHead.{KeyHead}
use Rattle.rio_dir.proofs.TableLists.{ordered_with}
use Rattle.rio_dir.specs.Table.{is_at_cycle, with_head}
use Rattle.rio_state.specs.{Closing.{item_heads}, DirectoryKeys.{AreKeysOf}, KeyedRecords.{KeyedRecord, top_keys}, OneMore.{HasOneMoreIn}}
use Rattle.rio_state.proofs.{KeysFollow.{head_more, heads_in, items_in, same_more}, Members.{contains_in, in_contained}}

pub keys_more : (old new : List KeyedRecord) (head : KeyHead) (heads : List KeyHead) → HasOneMoreIn (item_heads (top_keys old)) (item_heads (top_keys new)) head
    → find (is_at_cycle head.name head.cycle) heads ≡ None → AreKeysOf old heads → AreKeysOf new (with_head head heads)
keys_more old new head heads items none are =
    let more = head_more head heads in
    record {
      ordered = ordered_with head heads are.ordered none;
      each = λ h. (
        λ c. contains_in h _ (same_more heads (with_head head heads) (item_heads (top_keys old)) (item_heads (top_keys new)) head more items (heads_in old heads are) h (in_contained h _ c)),
        λ c. contains_in h _ (same_more (item_heads (top_keys old)) (item_heads (top_keys new)) heads (with_head head heads) head items more (items_in old heads are) h (in_contained h _ c)),
      );
    }

-- The header of a tree under a new name counts.
use Rattle.std.proofs.Common.{◌≡◌, ◌⊎◌, ◌∙◌, List, Bool, true, false, not, ◌&&◌, ◌||◌, sym, ap}
use Rattle.std.proofs.lemmas.Bool.{and_from, and_parts}
use Rattle.std.specs.{List.{list_any}, Str.{bytes_eq}}
use Rattle.rio_state.specs.{OneMore.{HasOneMoreIn}, Referred.{is_item_record, is_tree_item}}
use Rattle.rio_state.specs.KeyedRecords.{KeyedRecord, is_top_key, is_tree_key, is_tree_record, top_keys}
use Rattle.rio_state.proofs.{KeysFollow.{in_new}, Members.{all_at, in_filter}}
use Rattle.rio_effect.proofs.AllItems.{AllItems, items_more}

pub counts : (old new : List KeyedRecord) (r : KeyedRecord) (more : HasOneMoreIn old new r)
    → (is_top_key r.head && is_tree_key r.head ≡ false) ⊎ (list_any (λ s. bytes_eq s.head.name r.head.name) (top_keys old) ≡ false) → AllItems old
    → is_top_key r.head ≡ true → is_tree_key r.head ≡ true → is_tree_item (top_keys new) r ≡ true
counts old new r more apart items top tree =
    let there = in_filter (λ s. is_top_key s.head) r new (in_new old new r more) top in
    let item = and_parts (is_top_key r.head) (not (is_tree_key r.head) || is_tree_record (top_keys new) r) (all_at (is_item_record (top_keys new)) r (top_keys new) (items_more old new r more apart items) there) in
    and_from _ _ top (sym (ap (λ (b : Bool). not b || is_tree_record (top_keys new) r) tree) ∙ item.1)

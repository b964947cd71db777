-- What a file keeps without the record of an object, and what a delete costs.
use Rattle.std.proofs.Common.{◌≡◌, ◌≢◌, ℕ, ◌∙◌, List, length, Bool, true, false, not, Option, Some, None, refl, sym, ap, arith}
use Rattle.std.proofs.lemmas.Bool.{and_left, and_right}
use Rattle.std.specs.Prelude.{if◌then◌else◌, is_some}
use Rattle.rio_machine.specs.declared.command.Command.TheVariants.{Delete}
use Rattle.rio_state.specs.{Closing.{item_heads, kept_count, kept_with}, Contents.{file_classes}, Reads.{info_place}, TreeLengths.{put_among, trees_among}, Trees.{all_places_named}, KeyedRecords.{KeyedRecord, info_key, is_info_key, is_outdated, is_top_key, is_tree_key, keyed_records, top_keys, tree_records}}
use Rattle.rio_chain.specs.Segments.{IsChain, Link}
use Rattle.rio_state.specs.OneLess.{links_without}
use Rattle.rio_state.proofs.{Insertion.{filter_more}, KeysFollow.{items_more}, LessNeeds.{need_falls}, LessRecords.{first_is_kept, record_late, record_less, top_is_later}, Members.{In, in_contained}, ObjectStands.{trees_same}, Places.{info_among, one_record}, Stays.{info_same}}
use Rattle.rio_step.specs.{Costs.{cost_of}, Refusing.{refusal_of}}
use Rattle.rio_effect.specs.Deletes.{DeleteKeepsLess, DeleteNeedsNoMore, DeletesCostNothing}
use Rattle.rio_effect.proofs.Needs.{counted_more, length_more}

-- a record that isn't a class list isn't the one that counts
pub not_its_list : (file : List ℕ) (links : List Link) (r : KeyedRecord) → IsChain links file → In r (keyed_records links) → is_info_key r.head ≡ false
    → r.head.seek ≢ info_place (info_key (keyed_records links))
not_its_list file links r chain i other at = by (info_key (keyed_records links)) refl at
  where
    by : (o : Option KeyedRecord) → info_key (keyed_records links) ≡ o → r.head.seek ≡ info_place o → ⊥
    by None e same = let late = record_late file 100 links r chain.links_are i in omega (arith, late, same)
    by (Some k) e same =
        let l = info_among (keyed_records links) k e in
        let one = one_record file links r k chain i l.0 same in
        let f : true ≡ false = sym l.1 ∙ ap (λ (x : KeyedRecord). is_info_key x.head) (sym one) ∙ other in
        absurd cc

pub delete_needs_no_more : DeleteNeedsNoMore
delete_needs_no_more pending file links r has =
    need_falls pending file links r has.record_is (top_is_later file links r has.record_is has.key.top) (not_its_list file links r has.record_is.chain (in_contained r (keyed_records links) has.record_is.among) has.key.other)
    (and_right (is_top_key r.head) _ (and_left (is_tree_key r.head) (not (is_outdated (top_keys (keyed_records links)) r)) has.key.object))

pub delete_keeps_less : DeleteKeepsLess
unfolding kept_with
delete_keeps_less pending file links r has =
    let old = keyed_records links in
    let new = keyed_records (links_without links r) in
    let less = record_less file links r has.record_is in
    let tops = filter_more (λ s. is_top_key s.head) r new old less has.key.top in
    let heads = items_more (top_keys new) (top_keys old) r tops has.key.object in
    let info = info_same new old r less has.key.other in
    let long = length_more (item_heads (top_keys new)) (item_heads (top_keys old)) r.head heads in
    let headers = trees_same (top_keys new) (top_keys old) r tops has.key.object in
    let count = ap (λ (o : Option KeyedRecord). kept_count o (item_heads (top_keys old))) info ∙ counted_more (info_key new) (item_heads (top_keys new)) (item_heads (top_keys old)) long in
    let named : length (all_places_named (file_classes (info_key old)) (tree_records (top_keys old))) ≡ length (all_places_named (file_classes (info_key new)) (tree_records (top_keys new)))
    = λ i. length (all_places_named (file_classes (info i)) (headers i)) in
    let put : put_among (file_classes (info_key old)) pending (tree_records (top_keys old)) ≡ put_among (file_classes (info_key new)) pending (tree_records (top_keys new))
    = λ i. put_among (file_classes (info i)) pending (headers i) in
    record {
      name = first_is_kept file links r has.record_is (top_is_later file links r has.record_is has.key.top);
      heads = heads;
      count = omega (arith, count, named, put);
      trees = sym (λ i. trees_among (file_classes (info i)) pending (headers i));
    }

-- a delete costs as much where it is refused
abbrev cost_if : Bool → ℕ
cost_if refused = if refused then 0 else 0

costs_nothing : (b : Bool) → cost_if b ≡ 0
costs_nothing true = refl
costs_nothing false = refl

pub deletes_cost_nothing : DeletesCostNothing
unfolding cost_of
deletes_cost_nothing m name cycle = costs_nothing (is_some (refusal_of m (Delete name cycle) None))

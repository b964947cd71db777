-- The record that a delete releases is that of the key which is kept for the object.
use Rattle.std.proofs.Common.{◌≡◌, ◌∙◌, ℕ, List, Some, sym, ap}
use Rattle.std.specs.Prelude.{option_map}
use Rattle.rio_chain.specs.Segments.{Link}
use Rattle.rio_machine.specs.State.{NameAndCycle, State}
use Rattle.rio_state.specs.{KeyedRecords.{KeyedRecord, is_top_key, item_of_key, keyed_records, top_keys}, Reads.{AreRecordsOf}}
use Rattle.rio_state.proofs.{Collected.{own_item}, KeyRecords.{distinct_found}, Members.{in_contained, in_filter}}
use Rattle.rio_effect.specs.{Deletes.{DeletesFindRecords, HasObject}, FileRuns.{item_record}}
use Rattle.rio_effect.proofs.DeleteEffect.{deletes_have_records}

-- the record of an object is found by its name and cycle
pub object_found : (file : List ℕ) (links : List Link) (m : State) (r : KeyedRecord) → HasObject file links r → AreRecordsOf (keyed_records links) m
    → item_record links r.head.name r.head.cycle ≡ Some r
object_found file links m r has is =
    let among = in_filter (λ s. is_top_key s.head) r (keyed_records links) (in_contained r (keyed_records links) has.record_is.among) has.key.top in
    distinct_found (item_of_key r.head) r (top_keys (keyed_records links)) is.stand.distinct among (own_item r)

pub deletes_find_records : DeletesFindRecords
deletes_find_records file links heads m name cycle mark chain are is no_tree e =
    let x = deletes_have_records file links heads m name cycle mark chain are is no_tree e in
    let name_is = x.name_is in
    let cycle_is = x.cycle_is in
    let item : item_of_key x.r.head ≡ (name, cycle) = λ i. (name_is i, cycle_is i) in
    ap (λ (k : NameAndCycle). option_map (λ (r : KeyedRecord). r.head) (item_record links k.0 k.1)) (sym item)
    ∙ ap (option_map (λ (r : KeyedRecord). r.head)) (object_found file links m x.r x.object is)
    ∙ sym x.found

-- Records of which none counts stand for the empty state.
use Rattle.std.proofs.Common.{◌≡◌, List, [], true, not, Option, None, refl, sym, subst}
use Rattle.std.specs.{FinMap.{get-empty}, List.{list_all}}
use Rattle.rio_num.specs.Word.{name_order}
use Rattle.rio_machine.specs.State.{empty_state, item_order}
use Rattle.rio_state.specs.{KeyedRecords.{KeyedRecord, info_key, is_elsewhere, top_keys}, Reads.{AreRecordsOf, StandsForState}}

-- without a class list, and without keys of objects and trees
none_stand : (records : List KeyedRecord) → StandsForState records None [] empty_state
none_stand records = record {
  listed = tt;
  classes = refl;
  named = refl;
  distinct = refl;
  apart = refl;
  readable = refl;
  objects = λ item. get-empty item_order item;
  tree_readable = refl;
  trees = λ name. get-empty name_order name;
}

-- records of the directory, of which none is a class list, an object or a tree
pub none_counts : (records : List KeyedRecord) → list_all (λ r. not (is_elsewhere r.head)) records ≡ true → info_key records ≡ None → top_keys records ≡ [] → AreRecordsOf records empty_state
none_counts records here info tops = record {
  here = here;
  stand = subst (λ (x : Option KeyedRecord × List KeyedRecord). StandsForState records x.0 x.1 empty_state) (λ i. (sym info i, sym tops i)) (none_stand records);
}

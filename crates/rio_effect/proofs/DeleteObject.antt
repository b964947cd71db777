-- Without the record of an object the records stand for the state without the object.
use Rattle.std.proofs.Common.{◌≡◌, ◌∙◌, List, Bool, true, false, cond, not, ◌==◌, Option, Some, None, refl, sym, ap, subst}
use Rattle.std.proofs.{lemmas.Bool.{not-true}, lemmas.Map.Views.{tells_apart}, lemmas.Slice.Eq.{bytes_eq-Decides}}
use Rattle.std.specs.{Prelude.{is_some, option_and_then}, FinMap.{get, get-remove, remove}, List.{find, list_all, list_any}, Str.{bytes_eq}}
use Rattle.rio_format.specs.declared.class.ClassDef.{ClassDef}
use Rattle.rio_machine.proofs.OrderLaws.{items_tie, items_total}
use Rattle.rio_machine.specs.State.{NameAndCycle, State, names_tree}
use Rattle.rio_state.specs.{Contents.{file_classes, object_in, state_classes}, Trees.{TreesBeside, places_named, tree_of, tree_under}}
use Rattle.rio_state.specs.KeyedRecords.{KeyedRecord, has_item, info_key, is_elsewhere, is_mixed_name, is_top_key, is_tree_key, item_of_key, object_records, top_keys, tree_records}
use Rattle.rio_state.specs.{Reads.{AreRecordsOf, StandsForState, is_named_key, object_under}, OneMore.{HasOneMoreIn}}
use Rattle.rio_state.proofs.{Collected.{item_same}, Insertion.{filter_more, find_none, find_same}, KeyRecords.{tree_apart}}
use Rattle.rio_state.proofs.{Members.{In, found}, ObjectStands.{any_filter, objects_more, trees_same}, Stays.{info_same}}
use Rattle.rio_state.proofs.KeysFollow.{in_new}
use Rattle.rio_effect.specs.Laws.{IsObjectKey}
use Rattle.rio_state.proofs.{Removal.{all_less, all_weaker, distinct_less}, TreesSame.{all_agree, found_agree, tree_kept}, Unreferred.{mixed_less}}

module _ (old new : List KeyedRecord) (r : KeyedRecord) (h : HasOneMoreIn new old r) (m : State) (is : AreRecordsOf old m) (key : IsObjectKey r.head) where
  abbrev tops : List KeyedRecord
  tops = top_keys old

  abbrev left : List KeyedRecord
  left = top_keys new

  abbrev classes : List ClassDef
  classes = state_classes (info_key old)

  abbrev beside : List KeyedRecord → List KeyedRecord → TreesBeside
  beside records headers = record { classes = file_classes (info_key old); records = records; headers = headers }

  pub tops_less : HasOneMoreIn left tops r
  tops_less = filter_more (λ s. is_top_key s.head) r new old h key.top

  objects_less : HasOneMoreIn (object_records left) (object_records tops) r
  objects_less = objects_more left tops r tops_less key.object

  same_trees : tree_records tops ≡ tree_records left
  same_trees = trees_same left tops r tops_less key.object

  among : In r (object_records tops)
  among = in_new (object_records left) (object_records tops) r objects_less

  pub no_tree_of_name : names_tree m r.head.name ≡ false
  no_tree_of_name = by (find (λ t. bytes_eq t.head.name r.head.name) (tree_records tops)) refl
    where
      by : (o : Option KeyedRecord) → find (λ t. bytes_eq t.head.name r.head.name) (tree_records tops) ≡ o → names_tree m r.head.name ≡ false
      by None e = ap is_some (is.stand.trees r.head.name ∙ ap (option_and_then (tree_of (beside old (tree_records tops)))) e)
      by (Some t) e =
          let f = found (λ t. bytes_eq t.head.name r.head.name) t (tree_records tops) e in
          absurd (tree_apart old m is t r f.among among ((bytes_eq-Decides t.head.name r.head.name).0 f.passes))

  pub none_left : list_any (has_item (item_of_key r.head)) left ≡ false
  none_left = (distinct_less r tops left tops_less is.stand.distinct).1

  objects_hold : (item : NameAndCycle) → get (remove m.objects (item_of_key r.head)) item ≡ object_under classes left item
  objects_hold item =
      get-remove items_total m.objects (item_of_key r.head) item
      ∙ ap (λ b. cond b None (get m.objects item)) (item_same item r)
      ∙ by (has_item item r) refl
    where
      by : (b : Bool) → has_item item r ≡ b → cond b None (get m.objects item) ≡ object_under classes left item
      by true e =
          let same = tells_apart items_tie item (item_of_key r.head) (item_same item r ∙ e) in
          let none : list_any (has_item item) left ≡ false = ap (λ (x : NameAndCycle). list_any (has_item x) left) same ∙ none_left in
          sym (ap (option_and_then (object_in classes)) (find_none (has_item item) (object_records left) (any_filter (has_item item) (λ s. not (is_tree_key s.head)) left none)))
      by false e = is.stand.objects item ∙ ap (option_and_then (object_in classes)) (find_same (has_item item) r (object_records left) (object_records tops) objects_less e)

  names_apart : list_all (λ s. not (is_mixed_name left s.head.name)) left ≡ true
  names_apart =
      all_weaker (λ s. not (is_mixed_name tops s.head.name)) (λ s. not (is_mixed_name left s.head.name)) (λ s e. ap not (mixed_less tops left r tops_less s.head.name (not-true _ e))) left
      (all_less (λ s. not (is_mixed_name tops s.head.name)) r tops left tops_less is.stand.apart)

  -- no tree names the place of the object
  abbrev pub IsNotNamed : Type 0
  IsNotNamed = (s : KeyedRecord) → In s (tree_records tops) → list_any (λ p. p == r.head.seek) (places_named (file_classes (info_key old)) s) ≡ false

  tree_same : IsNotNamed → (s : KeyedRecord) → In s (tree_records tops) → tree_of (beside new (tree_records tops)) s ≡ tree_of (beside old (tree_records tops)) s
  tree_same apart s i = tree_kept (file_classes (info_key old)) (tree_records tops) new old r h s (apart s i)

  less : State
  less = record m { objects = remove m.objects (item_of_key r.head) }

  stands : IsNotNamed → StandsForState new (info_key old) left less
  unfolding less
  stands apart = record {
    listed = is.stand.listed;
    classes = is.stand.classes;
    named = all_less (λ s. is_named_key s.head) r tops left tops_less is.stand.named;
    distinct = (distinct_less r tops left tops_less is.stand.distinct).0;
    apart = names_apart;
    readable = all_less (λ s. is_some (object_in classes s)) r (object_records tops) (object_records left) objects_less is.stand.readable;
    objects = objects_hold;
    tree_readable = ap (λ (ts : List KeyedRecord). list_all (λ s. is_some (tree_of (beside new ts) s)) ts) (sym same_trees)
        ∙ all_agree (λ s. is_some (tree_of (beside new (tree_records tops)) s)) (λ s. is_some (tree_of (beside old (tree_records tops)) s)) (tree_records tops) (λ s i. ap is_some (tree_same apart s i))
        ∙ is.stand.tree_readable;
    trees = λ name. is.stand.trees name
        ∙ sym (found_agree (tree_of (beside new (tree_records tops))) (tree_of (beside old (tree_records tops))) (λ t. bytes_eq t.head.name name) (tree_records tops) (tree_same apart))
        ∙ ap (λ (ts : List KeyedRecord). tree_under (beside new ts) name) same_trees;
  }

  pub records_less : IsNotNamed → AreRecordsOf new (record m { objects = remove m.objects (item_of_key r.head) })
  unfolding less
  records_less apart = record {
    here = all_less (λ s. not (is_elsewhere s.head)) r old new h is.here;
    stand = subst (λ (o : Option KeyedRecord). StandsForState new o left less) (info_same new old r h key.other) (stands apart);
  }

-- The first class list of a file.
use Rattle.std.proofs.Common.{◌≡◌, inl, ℕ, ◌+◌, ◌^◌, ◌<◌, ◌≤◌, ◌∙◌, ◌==◌, List, [], length, map, true, false, not, Option, Some, None, refl, sym, ap, subst, arith}
use Rattle.std.proofs.lemmas.Bool.{and_left, eqb-true}
use Rattle.std.specs.{Prelude.{is_some, option_and_then}, List.{find, list_all}, Str.{bytes_eq}}
use Rattle.rio_format.specs.{declared.class.ClassDef.{ClassDef}, Growth.{PicksStay}}
use Rattle.rio_key.specs.{declared.head.KeyHead.{KeyHead}}
use Rattle.rio_format.proofs.Picks.{later_leave_picks}
use Rattle.rio_model.specs.StateClasses.{HasShortList}
use Rattle.rio_chain.specs.{Changes.{with_record}, Placing.{IsPlaceFor}, Record.{new_key, record_bytes}, Segments.{IsChain, IsRecord, Link, segment_of}}
use Rattle.rio_machine.specs.{State.{State}}
use Rattle.rio_state.specs.{Closing.{held_with, kept_with}, Contents.{IsStateList, described_classes, file_classes, object_in, state_classes}, DirectoryKeys.{AreKeysOf}, Left.{info_head}, OneMore.{HasOneMoreIn}}
use Rattle.rio_state.specs.KeyedRecords.{KeyedRecord, begins_at, has_item, info_key, is_elsewhere, is_top_key, is_tree_key, keyed_records, object_records, top_keys, tree_records}
use Rattle.rio_state.specs.{Reads.{AreRecordsOf, StandsForState}, TreeLengths.{PendingRows}, Trees.{TreesBeside, tree_of}}
use Rattle.rio_state.proofs.{Insertion.{all_more}, Members.{In, all_at, none_from}, TreesSame.{all_agree, found_agree, tree_stays}}
use Rattle.rio_step.specs.Costs.{info_size}
use Rattle.rio_effect.specs.{AllItems.{AreAllItems}, ClassRecord.{list_data, list_key, list_record, list_words, next_list_cycle}, Classes.{KeepsOneList, PendingFit, list_in}, TreeMade.{FirstListIsPut, HasFirstList}}
use Rattle.rio_effect.proofs.{AllItems.{items_stay_with}, ClassEffect.{list_keys_stay, listed_classes, not_elsewhere, not_top}, Held.{chain_low}, ListPut.{CanBeListed, counts, is_list, keeps_one, list_long, more, new_list, r as list, tops_stay, weight_one}, OldLists.{place_apart}}
use Rattle.rio_effect.proofs.{PutEffect.{classes_of_records}, TreeNeeds.{held_is}, TreesGrow.{LeavesTrees, same_declared, tree_grows}}

module _ (file : List ℕ) (links : List Link) (m : State) (place datime : ℕ) (low : place < 2 ^ 32) (soon : datime < 2 ^ 32) (chain : IsChain links file) (is : AreRecordsOf (keyed_records links) m)
    (none : info_key (keyed_records links) ≡ None) (short : HasShortList m.classes) where
  abbrev old : List KeyedRecord
  old = keyed_records links

  no_classes : m.classes ≡ []
  no_classes = is.stand.classes ∙ ap state_classes none

  can : CanBeListed links place datime m.classes
  can =
      let first : next_list_cycle (list_in links) ≡ 1 = ap (λ (o : Option KeyedRecord). next_list_cycle (info_head o)) none in
      record { low = low; soon = soon; are = classes_of_records old m is; short = short; few = omega (arith, ap length no_classes); cycle_low = omega (arith, first) }

  abbrev x : KeyedRecord
  x = list links place datime m.classes can

  -- it is the record of cycle 1
  cycle_one : next_list_cycle (list_in links) ≡ 1
  cycle_one = ap (λ (o : Option KeyedRecord). next_list_cycle (info_head o)) none

  bytes_are : x.bytes ≡ list_record place datime 1 m.classes
  unfolding list_record
  bytes_are = ap (λ (n : ℕ). let words = list_words place datime n in record_bytes words (list_data words m.classes)) cycle_one

  head_is : x.head ≡ list_key place datime 1 m.classes
  unfolding list_key
  head_is = ap (λ (n : ℕ). let words = list_words place datime n in new_key words (length (list_data words m.classes))) cycle_one

  abbrev with_it : List Link
  with_it = with_record place x.bytes links

  abbrev new : List KeyedRecord
  new = keyed_records with_it

  added : HasOneMoreIn old new x
  added = more links place datime m.classes can

  -- ---- classes

  same_classes : state_classes (Some x) ≡ state_classes (info_key old)
  same_classes = listed_classes x m.classes (is_list links place datime m.classes can) ∙ is.stand.classes

  leaves : LeavesTrees (state_classes (info_key old)) (state_classes (Some x))
  leaves = same_declared (state_classes (info_key old)) (state_classes (Some x)) same_classes

  picks : PicksStay (described_classes (info_key old)) (described_classes (Some x))
  picks = subst (λ (o : Option KeyedRecord). PicksStay (described_classes o) (described_classes (Some x))) (sym none) (later_leave_picks [] (described_classes (Some x)))

  -- ---- the state

  module _ (at : IsPlaceFor (map segment_of links) (length x.bytes) place) where
    free : begins_at old place ≡ false
    free = none_from (λ s. s.head.seek == place) old (λ s i e. place_apart file place (length x.bytes) s links chain at i (eqb-true s.head.seek place e))

    abbrev headers : List KeyedRecord
    headers = tree_records (top_keys old)

    abbrev beside : Option KeyedRecord → List KeyedRecord → TreesBeside
    beside o records = record { classes = file_classes o; records = records; headers = headers }

    tree_there : (t : KeyedRecord) → In t headers → tree_of (beside (info_key old) old) t ≡ tree_of (beside (info_key old) new) t
    tree_there t i = tree_stays (file_classes (info_key old)) headers old new x added t free (all_at (λ k. is_some (tree_of (beside (info_key old) old) k)) t headers is.stand.tree_readable i)

    still_readable : list_all (λ t. is_some (tree_of (beside (info_key old) new) t)) headers ≡ true
    still_readable =
        sym (all_agree (λ t. is_some (tree_of (beside (info_key old) old) t)) (λ t. is_some (tree_of (beside (info_key old) new) t)) headers (λ t i. ap is_some (tree_there t i))) ∙ is.stand.tree_readable

    tree_same : (t : KeyedRecord) → In t headers → tree_of (beside (Some x) new) t ≡ tree_of (beside (info_key old) old) t
    tree_same t i = tree_grows (file_classes (info_key old)) (file_classes (Some x)) leaves picks new headers still_readable t i ∙ sym (tree_there t i)

    stands : StandsForState new (Some x) (top_keys old) m
    stands =
        let s = is.stand in
        let same = same_classes in
        record {
          listed = subst (λ (cs : List ClassDef). IsStateList x cs) (sym (listed_classes x m.classes (is_list links place datime m.classes can))) (is_list links place datime m.classes can);
          classes = s.classes ∙ sym same;
          named = s.named;
          distinct = s.distinct;
          apart = s.apart;
          readable = ap (λ (cs : List ClassDef). list_all (λ r. is_some (object_in cs r)) (object_records (top_keys old))) same ∙ s.readable;
          objects = λ item. s.objects item ∙ ap (λ (cs : List ClassDef). option_and_then (object_in cs) (find (has_item item) (object_records (top_keys old)))) (sym same);
          tree_readable = all_agree (λ t. is_some (tree_of (beside (Some x) new) t)) (λ t. is_some (tree_of (beside (info_key old) old) t)) headers (λ t i. ap is_some (tree_same t i)) ∙ s.tree_readable;
          trees = λ name. s.trees name ∙ sym (found_agree (tree_of (beside (Some x) new)) (tree_of (beside (info_key old) old)) (λ t. bytes_eq t.head.name name) headers tree_same);
        }

    records_then : AreRecordsOf new m
    records_then =
        let info = counts links place datime m.classes can in
        let tops = tops_stay links place datime m.classes can in
        record {
          here = all_more (λ s. not (is_elsewhere s.head)) x old new added (ap not (not_elsewhere x.head refl)) is.here;
          stand = subst (λ (o : Option KeyedRecord). StandsForState new o (top_keys new) m) (sym info) (subst (λ (ts : List KeyedRecord). StandsForState new (Some x) ts m) (sym tops) stands);
        }

    kept_one : (pending : PendingRows) → PendingFit pending links → KeepsOneList links (kept_with pending links) (kept_with pending with_it)
    kept_one pending fit = keeps_one links place datime m.classes can m is leaves picks file chain pending fit

    held_low : (pending : PendingRows) → PendingFit pending links → held_with pending with_it ≤ held_with pending links + (100 + info_size m.classes)
    held_low pending fit =
        let long = list_long links place datime m.classes can in
        let end = chain_low file links place x.bytes chain (omega (arith, long)) (new_list links place datime m.classes can).aligned at in
        let kept = weight_one links (kept_with pending links) (kept_with pending with_it) (kept_one pending fit) in
        omega (arith, long, end, kept, held_is pending links, held_is pending with_it)

    has_first : HasFirstList links m place datime
    has_first =
        let b = bytes_are in
        record {
          whole = subst (λ (bytes : List ℕ). IsRecord place bytes) b (new_list links place datime m.classes can).whole;
          records = subst (λ (bytes : List ℕ). AreRecordsOf (keyed_records (with_record place bytes links)) m) b records_then;
          keys = λ heads are. subst (λ (bytes : List ℕ). AreKeysOf (keyed_records (with_record place bytes links)) heads) b (list_keys_stay old new x heads added refl are);
          info = ap (λ (bytes : List ℕ). list_in (with_record place bytes links)) (sym b) ∙ ap info_head (counts links place datime m.classes can) ∙ ap (λ (k : KeyHead). let o : Option KeyHead = Some k in o) head_is;
          items = λ items. subst (λ (bytes : List ℕ). AreAllItems (with_record place bytes links)) b
              (items_stay_with links place x.bytes x.head ((new_list links place datime m.classes can).key_read place) (inl (and_left (is_top_key x.head) (is_tree_key x.head) (not_top x.head refl))) items);
          kept = λ pending fit. subst (λ (bytes : List ℕ). KeepsOneList links (kept_with pending links) (kept_with pending (with_record place bytes links))) b (kept_one pending fit);
          held = λ pending fit. subst (λ (bytes : List ℕ). held_with pending (with_record place bytes links) ≤ held_with pending links + (100 + info_size m.classes)) b (held_low pending fit);
        }

pub first_list_is_put : FirstListIsPut
first_list_is_put file links m place datime low soon chain is none short at =
    let long = bytes_are file links m place datime low soon chain is none short in
    has_first file links m place datime low soon chain is none short (subst (λ (b : List ℕ). IsPlaceFor (map segment_of links) (length b) place) (sym long) at)

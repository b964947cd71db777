-- Behind the first class list of a file its headers say what they said, and baskets are read as they were.
use Rattle.std.proofs.Common.{◌≡◌, inl, inr, ℕ, ◌^◌, ◌<◌, ◌∙◌, ◌++◌, ◌==◌, List, [], ◌∷◌, length, map, Option, Some, None, false, refl, sym, ap, subst, arith}
use Rattle.std.proofs.lemmas.Bool.{eqb-true}
use Rattle.std.specs.{List.{cons_option}, Option.{option_map}, Prelude.{is_some}}
use Rattle.rio_format.specs.{declared.class.ClassDef.{ClassDef}, Growth.{PicksStay}}
use Rattle.rio_format.proofs.Picks.{later_leave_picks}
use Rattle.rio_model.specs.StateClasses.{HasShortList}
use Rattle.rio_chain.specs.{Changes.{with_record}, Placing.{IsPlaceFor}, Record.{record_bytes}, Segments.{IsChain, Link, segment_of}}
use Rattle.rio_machine.specs.State.{State}
use Rattle.rio_tree.specs.declared.head.TreeHead.{TreeHead}
use Rattle.rio_state.specs.{Contents.{described_classes, file_classes, state_classes}, KeyedRecords.{KeyedRecord, begins_at, info_key, keyed_records, record_at, top_keys, tree_records}, Left.{info_head}, OneMore.{HasOneMoreIn}}
use Rattle.rio_state.specs.{Reads.{AreRecordsOf}, Trees.{all_places_named, header_in, tree_of, trees_beside}}
use Rattle.rio_state.proofs.{Members.{In, all_at, none_from}, TreesSame.{holds_tree}}
use Rattle.rio_effect.specs.{ClassRecord.{list_data, list_record, list_words, next_list_cycle}, Classes.{list_in}}
use Rattle.rio_effect.proofs.{ClassEffect.{listed_classes}, ListPut.{CanBeListed, counts, is_list, more, r as list, tops_stay}, OldLists.{place_apart}, PutEffect.{classes_of_records}}
use Rattle.rio_effect.proofs.TreesGrow.{LeavesTrees, all_places_grow, header_stays, same_declared}
use Rattle.rio_recover.specs.{Trees.{AreTreesOf, trees_at}, declared.trees.TreeAt.{TreeAt}}
use Rattle.rio_session.proofs.{RowsBeside.{hold_with}, RowsKept.{HoldStill}, RowsStay.{SayAlike}, TreesOfFile.{trees_still}}

module _ (file : List ℕ) (links : List Link) (m : State) (place datime : ℕ) (low : place < 2 ^ 32) (soon : datime < 2 ^ 32) (chain : IsChain links file) (is : AreRecordsOf (keyed_records links) m)
    (none : info_key (keyed_records links) ≡ None) (short : HasShortList m.classes) where
  abbrev old : List KeyedRecord
  old = keyed_records links

  no_classes : m.classes ≡ []
  no_classes = is.stand.classes ∙ ap state_classes none

  can : CanBeListed links place datime m.classes
  can =
      let first : next_list_cycle (list_in links) ≡ 1 = ap (λ (o : Option KeyedRecord). next_list_cycle (info_head o)) none in
      record { low = low; soon = soon; are = classes_of_records old m is; short = short; few = omega (arith, ap length no_classes); cycle_low = omega (arith, first) }

  abbrev x : KeyedRecord
  x = list links place datime m.classes can

  -- it is the record of cycle 1
  bytes_are : x.bytes ≡ list_record place datime 1 m.classes
  unfolding list_record
  bytes_are =
      let first : next_list_cycle (list_in links) ≡ 1 = ap (λ (o : Option KeyedRecord). next_list_cycle (info_head o)) none in
      ap (λ (n : ℕ). let words = list_words place datime n in record_bytes words (list_data words m.classes)) first

  abbrev with_it : List Link
  with_it = with_record place x.bytes links

  abbrev new : List KeyedRecord
  new = keyed_records with_it

  added : HasOneMoreIn old new x
  added = more links place datime m.classes can

  counted : info_key new ≡ Some x
  counted = counts links place datime m.classes can

  tops : top_keys new ≡ top_keys old
  tops = tops_stay links place datime m.classes can

  -- ---- what headers say

  leaves : LeavesTrees (state_classes (info_key old)) (state_classes (Some x))
  leaves = same_declared (state_classes (info_key old)) (state_classes (Some x)) (listed_classes x m.classes (is_list links place datime m.classes can) ∙ is.stand.classes)

  picks : PicksStay (described_classes (info_key old)) (described_classes (Some x))
  picks = subst (λ (o : Option KeyedRecord). PicksStay (described_classes o) (described_classes (Some x))) (sym none) (later_leave_picks [] (described_classes (Some x)))

  abbrev headers : List KeyedRecord
  headers = tree_records (top_keys old)

  header_same : (s : KeyedRecord) → In s headers → header_in (file_classes (Some x)) s ≡ header_in (file_classes (info_key old)) s
  header_same s i =
      let h = holds_tree (trees_beside (info_key old) old (top_keys old)) s (all_at (λ t. is_some (tree_of (trees_beside (info_key old) old (top_keys old)) t)) s headers is.stand.tree_readable i) in
      header_stays (file_classes (info_key old)) (file_classes (Some x)) leaves picks s h.head h.header ∙ sym h.header

  all_same : (ss : List KeyedRecord) → ((s : KeyedRecord) → In s ss → In s headers) → trees_at (file_classes (Some x)) ss ≡ trees_at (file_classes (info_key old)) ss
  all_same [] within = refl
  all_same (s ∷ ss) within =
      let one = header_same s (within s (inl refl)) in
      let rest = all_same ss (λ t i. within t (inr i)) in
      λ j. cons_option (option_map (λ (head : TreeHead). let t : TreeAt = record { name = s.head.name; head = head } in t) (one j)) (rest j)

  alike : SayAlike links with_it
  alike = record {
    headers = ap tree_records tops;
    said = λ r i. ap (λ (o : Option KeyedRecord). header_in (file_classes o) r) counted ∙ header_same r i;
    named = (λ i. all_places_named (file_classes (counted i)) (tree_records (tops i))) ∙ all_places_grow (file_classes (info_key old)) (file_classes (Some x)) leaves picks old headers is.stand.tree_readable;
  }

  trees : (ts : List TreeAt) → AreTreesOf old ts → AreTreesOf new ts
  trees ts are = trees_still old new ts ((λ i. trees_at (file_classes (counted i)) (tree_records (tops i))) ∙ all_same headers (λ s i. i)) are

  -- ---- with the list's own record

  pub first_alike : SayAlike links (with_record place (list_record place datime 1 m.classes) links)
  first_alike = subst (λ (b : List ℕ). SayAlike links (with_record place b links)) bytes_are alike

  pub first_trees : (ts : List TreeAt) → AreTreesOf (keyed_records links) ts → AreTreesOf (keyed_records (with_record place (list_record place datime 1 m.classes) links)) ts
  first_trees ts are = subst (λ (b : List ℕ). AreTreesOf (keyed_records (with_record place b links)) ts) bytes_are (trees ts are)

  pub first_counts : (r : KeyedRecord) × info_key (keyed_records (with_record place (list_record place datime 1 m.classes) links)) ≡ Some r
  first_counts = (x, subst (λ (b : List ℕ). info_key (keyed_records (with_record place b links)) ≡ Some x) bytes_are counted)

  pub first_still : IsPlaceFor (map segment_of links) (length (list_record place datime 1 m.classes)) place → (places : List ℕ)
      → HoldStill (record_at (keyed_records links)) (record_at (keyed_records (with_record place (list_record place datime 1 m.classes) links))) places
  first_still at places =
      let rule : IsPlaceFor (map segment_of links) (length x.bytes) place = subst (λ (b : List ℕ). IsPlaceFor (map segment_of links) (length b) place) (sym bytes_are) at in
      let free : begins_at old place ≡ false = none_from (λ s. s.head.seek == place) old (λ s i e. place_apart file place (length x.bytes) s links chain rule i (eqb-true s.head.seek place e)) in
      subst (λ (b : List ℕ). HoldStill (record_at old) (record_at (keyed_records (with_record place b links))) places) bytes_are (hold_with old new x added free places)

-- A tree is made: its header is put, behind the class list where the file has none.
use Rattle.std.proofs.Common.{◌≡◌, inl, inr, ℕ, zero, suc, ◌+◌, ◌*◌, ◌<◌, ◌≤◌, ◌∙◌, List, [], ◌∷◌, ◌++◌, length, map, take, false, ◌||◌, ◌==◌, Option, Some, None, refl, sym, ap, subst, arith}
use Rattle.std.proofs.lemmas.{Bool.{and_parts, eqb-true, false_from_ne_true}, List.{length-append, take-append-le, take_all}, List.Sums.{fold-append}}
use Rattle.std.proofs.Math.Seq.{take-append-add, take-append_seam}
use Rattle.std.specs.{Prelude.{is_some, if◌then◌else◌, option_and_then}, FinMap.{get, insert}, List.{Contains}, Option.{option_map, option_map_or}, Str.{bytes_eq}}
use Rattle.rio_key.specs.declared.head.KeyHead.{KeyHead}
use Rattle.rio_leaf.specs.declared.branch.BranchDef.{BranchDef}
use Rattle.rio_format.specs.declared.class.ClassDef.{ClassDef}
use Rattle.rio_chain.specs.{Changes.{with_record}, Placing.{IsPlaceFor, place_of}, Segments.{IsChain, Link, segment_of}, declared.key_words.KeyWords.{KeyWords}}
use Rattle.rio_machine.specs.{RowEntries.{fitting_row}, State.{State, Tree, names_item, names_object}, declared.command.Command.TheVariants.{Tree as MakeTree}, declared.refusal.Refusal.{Refusal}}
use Rattle.rio_tree.specs.{HeaderLength.{header_size}, SavedEntries.{BasketBytes, all_there, branch_entries, rows_by, rows_of}, WrittenLaws.{stated_defs}, declared.head.TreeHead.{TreeHead}}
use Rattle.rio_state.specs.{Closing.{KeptRecords, held_with, kept_with}, Contents.{file_classes, state_classes}, DirectoryKeys.{AreKeysOf}, Left.{info_head}, OneMore.{keyed_bytes}, Reads.{AreRecordsOf}, Trees.{RecordsAt, are_named_once, basket_bytes, basket_places, saved_rows, saved_tree}}
use Rattle.rio_state.specs.KeyedRecords.{KeyedRecord, begins_at, info_key, is_tree_record, keyed_records, record_at, top_keys, tree_records}
use Rattle.rio_state.specs.{TreeLengths.{PendingRows, pending_in}}
use Rattle.rio_state.proofs.{Members.{filter_in, in_contained, none_at, none_from}, MoreRecords.{record_more}}
use Rattle.rio_step.proofs.{ApartLaws.{no_name_in_use}, ClosedLaws.{saved_keeps_the_rest}}
use Rattle.rio_step.specs.{Costs.{accepted_cost, cost_of, info_size}, Runs.{saved_of, saved_tree as tree_without_pending}, Step.{new_tree}}
use Rattle.rio_effect.specs.{AllItems.{AreAllItems, IsNewName}, Changes.{Change, added, added_length, added_place, all_changed, changed}, Classes.{PendingFit}, ClassRecord.{list_data, list_record, list_words}, Garbage.{ArePassed}}
use Rattle.rio_dir.specs.Table.{with_head}
use Rattle.rio_model.specs.StateClasses.{HasShortList}
use Rattle.rio_effect.specs.{TreeDeletes.{KeepsTreeLess, put_since}, Headers.{IsNextHeader, stands_against, with_saved_tree}, NewHeaders.{IsNewHeader}, TreeChanges.{changes_of_tree, header_added, list_if_none}, TreeRecords.{header_data, header_key, header_record, header_words, new_branches, new_head}}
use Rattle.rio_effect.specs.TreeMade.{CanBeMade, HasFirstList, TreeEnd, TreeEnds, TreeTakesEffect, links_listed, list_added, tree_key, tree_place}
use Rattle.rio_effect.proofs.{AllItems.{items_stay_with}, FileChanges.{same_length}, FillNeeds.{changed_rows, other_rows}, FirstList.{first_list_is_put}, FreeNames.{no_key_named}, HeaderStands.{header_takes_effect}, NewHeaders.{new_defs, new_header_held_grows, new_header_keeps_more, new_header_key_follows, new_places, none_put}}
use Rattle.rio_effect.proofs.{OldLists.{place_apart}, PendingFits.{pending_rows_fit}, PendingNames.{pending_by_names}, SavedTrees.{saved_with}, TreeNeeds.{held_is, weight}}

-- ---- the header of a new tree

-- its branches have no entries
no_entries : (bytes_of : BasketBytes) (classes : List ClassDef) (before branches : List BranchDef)
    → (entries : List (List (List ℕ))) × all_there (map (branch_entries bytes_of) (new_branches classes before branches)) ≡ Some entries
no_entries bytes_of classes before [] = ([], refl)
no_entries bytes_of classes before (b ∷ bs) =
    let rest = no_entries bytes_of classes (before ++ b ∷ []) bs in
    ([] ∷ rest.0, ap (λ (o : Option (List (List (List ℕ)))). option_map (λ xs. [] ∷ xs) o) rest.1)

-- and it represents no rows
new_rows : (declared : List ClassDef) (at : RecordsAt) (classes : List ClassDef) (branches : List BranchDef) → saved_rows declared at (new_head classes branches) ≡ Some []
unfolding saved_rows rows_by
new_rows declared at classes branches =
    let none = no_entries (basket_bytes at) classes [] branches in
    ap (λ (o : Option (List (List (List ℕ)))). option_and_then (rows_of (fitting_row declared (stated_defs (new_head classes branches).branches)) 0) o) none.1

no_place : (ps : List ℕ) (p : ℕ) → ps ≡ [] → Contains ps p → ⊥
no_place ps p e c = in_contained p [] (subst (λ (l : List ℕ). Contains l p) e c)

-- ---- the state before

same_classes : (m : State) → (saved_of m).classes ≡ m.classes
unfolding saved_of
same_classes m = refl

same_objects : (m : State) (name : List ℕ) → names_object (saved_of m) name ≡ names_object m name
unfolding saved_of
same_objects m name = refl

is_some_map : (o : Option Tree) → is_some (option_map tree_without_pending o) ≡ is_some o
is_some_map None = refl
is_some_map (Some t) = refl

-- without its pending rows a state has the same items
same_items : (m : State) (name : List ℕ) → names_item (saved_of m) name ≡ names_item m name
same_items m name =
    let objects = same_objects m name in
    let trees = ap is_some (saved_keeps_the_rest m name) ∙ is_some_map (get m.trees name) in
    λ i. objects i || trees i

-- ---- the class list

abbrev list_count : Option KeyedRecord → ℕ
list_count o = option_map_or (λ h. 1) (info_head o) 0

no_list : {o : Option KeyedRecord} → o ≡ None → list_count o ≡ 0
no_list none = ap list_count none

-- The records stand for the same with the class list, where it is put; the file holds no more than the list costs.
record KeepsAll (pending : PendingRows) (links : List Link) (m : State) (added : List Change) : Type 0 where
  records : (k : ℕ) → k ≤ length added → AreRecordsOf (keyed_records (all_changed links (take k added))) (saved_of m)
  keys : (heads : List KeyHead) → AreKeysOf (keyed_records links) heads → AreKeysOf (keyed_records (all_changed links added)) heads
  items : AreAllItems (all_changed links added)
  name_is : (kept_with pending (all_changed links added)).name ≡ (kept_with pending links).name
  count : (kept_with pending (all_changed links added)).count ≡ (kept_with pending links).count + length added
  held : held_with pending (all_changed links added) ≤ held_with pending links + (100 + info_size m.classes)

module _ (datime : ℕ) (file : List ℕ) (links : List Link) (m : State) (name : List ℕ) (branches : List BranchDef) (can : CanBeMade datime file links m name branches) where
  abbrev pending : PendingRows
  pending = pending_in m

  fit : PendingFit pending links
  fit = pending_rows_fit file links m can.chain can.items can.fillable can.records

  module _ (none : info_key (keyed_records links) ≡ None) where
    abbrev at_list : ℕ
    at_list = let words = list_words 0 datime 1 in added_place links words (list_data words m.classes)

    abbrev first_list : Change
    first_list = let words = list_words 0 datime 1 in added words (list_data words m.classes)

    first_long : (classes : List ClassDef) → length (list_record at_list datime 1 classes) ≡ added_length (list_words 0 datime 1) (list_data (list_words 0 datime 1) classes)
    unfolding list_record
    first_long classes = same_length at_list (list_words 0 datime 1) (list_data (list_words 0 datime 1) classes)

    has : HasFirstList links (saved_of m) at_list datime
    has =
        let same = same_classes m in
        let rule : IsPlaceFor (map segment_of links) (length (list_record at_list datime 1 (saved_of m).classes)) at_list =
        inl (ap (place_of (map segment_of links)) (sym (ap (λ cs. length (list_record at_list datime 1 cs)) same ∙ first_long m.classes))) in
        first_list_is_put file links (saved_of m) at_list datime can.low can.soon can.chain can.records none (subst HasShortList (sym same) can.short) rule

    first_is : all_changed links (first_list ∷ []) ≡ with_record at_list (list_record at_list datime 1 (saved_of m).classes) links
    unfolding list_record
    first_is = ap (λ (cs : List ClassDef). with_record at_list (list_record at_list datime 1 cs) links) (sym (same_classes m))

    with_list : KeepsAll pending links m (first_list ∷ [])
    with_list =
        let is = first_is in
        let classes = same_classes m in
        let kept = has.kept pending fit in
        let held = has.held pending fit in
        let count = kept.count in
        let counted : (kept_with pending (with_record at_list (list_record at_list datime 1 (saved_of m).classes) links)).count ≡ (kept_with pending links).count + 1 = omega (arith, count, no_list none) in
        record {
          records = λ k within. by_first k within;
          keys = λ heads are. subst (λ (l : List Link). AreKeysOf (keyed_records l) heads) (sym is) (has.keys heads are);
          items = subst AreAllItems (sym is) (has.items can.items);
          name_is = ap (λ (l : List Link). (kept_with pending l).name) is ∙ kept.name;
          count = ap (λ (l : List Link). (kept_with pending l).count) is ∙ counted;
          held = subst (λ (p : List Link × List ClassDef). held_with pending p.0 ≤ held_with pending links + (100 + info_size p.1)) (λ i. (sym is i, classes i)) held;
        }
      where
        by_first : (k : ℕ) → k ≤ 1 → AreRecordsOf (keyed_records (all_changed links (take k (first_list ∷ [])))) (saved_of m)
        by_first zero within = can.records
        by_first (suc zero) within = subst (λ (l : List Link). AreRecordsOf (keyed_records l) (saved_of m)) (sym first_is) has.records
        by_first (suc (suc k)) within = absurd (omega (arith, within))

  no_list_put : KeepsAll pending links m []
  no_list_put = record {
    records = λ k within. by_none k within;
    keys = λ heads are. are;
    items = can.items;
    name_is = refl;
    count = omega arith;
    held = omega arith;
  }
    where
      by_none : (k : ℕ) → k ≤ 0 → AreRecordsOf (keyed_records (all_changed links (take k []))) (saved_of m)
      by_none zero within = can.records
      by_none (suc k) within = absurd (omega (arith, within))

  list_kept : KeepsAll pending links m (list_added datime links m name branches)
  list_kept = by (info_key (keyed_records links)) refl
    where
      by : (o : Option KeyedRecord) → info_key (keyed_records links) ≡ o → KeepsAll pending links m (list_if_none datime o m.classes)
      by None e = with_list e
      by (Some r) e = no_list_put

  -- ---- the header

  abbrev added_list : List Change
  added_list = list_added datime links m name branches

  abbrev listed : List Link
  listed = links_listed datime links m name branches

  abbrev place : ℕ
  place = tree_place datime links m name branches

  abbrev said : TreeHead
  said = new_head m.classes branches

  abbrev key : KeyHead
  key = tree_key datime links m name branches

  abbrev bytes : List ℕ
  bytes = header_record place datime name 1 said

  abbrev x : KeyedRecord
  x = keyed_bytes key bytes

  abbrev header : Change
  header = header_added datime name 1 said

  abbrev all : List Change
  all = added_list ++ header ∷ []

  abbrev ended : List Link
  ended = with_record place bytes listed

  header_put : changed listed header ≡ ended
  unfolding header_record
  header_put = refl

  long : length all ≡ length added_list + 1
  long = length-append added_list (header ∷ [])

  at_end : all_changed links all ≡ ended
  at_end = fold-append changed links added_list (header ∷ []) ∙ header_put

  at_seam : all_changed links (take (length added_list) all) ≡ listed
  at_seam = ap (all_changed links) (take-append_seam added_list (header ∷ []))

  at_last : all_changed links (take (length added_list + 1) all) ≡ ended
  at_last = ap (all_changed links) (take-append-add added_list (header ∷ []) 1) ∙ at_end

  chain_listed : (k : ℕ) → length added_list < k → ArePassed links all k → (image : List ℕ) × IsChain listed image
  chain_listed k low passed = let p = passed (length added_list) low in (p.0, subst (λ (l : List Link). IsChain l p.0) at_seam p.1)

  records_listed : AreRecordsOf (keyed_records listed) (saved_of m)
  records_listed =
      subst (λ (cs : List Change). AreRecordsOf (keyed_records (all_changed links cs)) (saved_of m)) (take_all (length added_list) added_list (omega arith)) (list_kept.records (length added_list) (omega arith))

  -- ---- the name

  unnamed : names_item m name ≡ false
  unnamed = no_name_in_use m (MakeTree name branches) None can.taken

  fresh : IsNewName listed name
  fresh = no_key_named (keyed_records listed) (saved_of m) name records_listed (same_items m name ∙ unnamed)

  key_name : key.name ≡ name
  unfolding header_key
  key_name = refl

  key_cycle : key.cycle ≡ 1
  unfolding header_key
  key_cycle = refl

  key_seek : key.seek ≡ place
  unfolding header_key
  key_seek = refl

  fresh_key : IsNewName listed key.name
  fresh_key = subst (λ (n : List ℕ). IsNewName listed n) (sym key_name) fresh

  next : IsNextHeader (keyed_records listed) x said []
  next = record {
    top = can.written.top;
    tree = can.written.tree;
    named = can.written.named;
    header = can.written.header;
    rows_are = new_rows (state_classes (info_key (keyed_records listed))) (record_at (keyed_records listed)) m.classes branches;
    newest = none_from (stands_against x) (top_keys (keyed_records listed)) (λ s i e.
        none_at (λ t. bytes_eq t.head.name key.name) s (top_keys (keyed_records listed)) fresh_key i (and_parts (bytes_eq s.head.name key.name) _ e).0);
    once = ap (are_named_once []) (new_places m.classes [] branches);
    apart = λ s p c other named own. no_place (basket_places said) p (new_places m.classes [] branches) own;
  }

  -- ---- the state

  abbrev behind : State
  behind = record m { trees = insert m.trees name (new_tree branches) }

  state_is : with_saved_tree (saved_of m) x said [] ≡ saved_of behind
  state_is =
      let defs = new_defs m.classes [] branches in
      let cycle = key_cycle in
      let named = key_name in
      let tree : saved_tree x said [] ≡ tree_without_pending (new_tree branches) = λ i. record { cycle = cycle i; branches = defs i; saved = []; pending = [] } in
      (λ i. record (saved_of m) { trees = insert (saved_of m).trees (named i) (tree i) }) ∙ sym (saved_with m name (new_tree branches))

  early : (k : ℕ) → k ≤ length added_list → ArePassed links all k → AreRecordsOf (keyed_records (all_changed links (take k all))) (saved_of m)
  early k within passed =
      subst (λ (cs : List Change). AreRecordsOf (keyed_records (all_changed links cs)) (saved_of m)) (sym (take-append-le k added_list (header ∷ []) within)) (list_kept.records k within)

  module _ (image : List ℕ) (chain : IsChain listed image) where
    abbrev words : KeyWords
    words = header_words 0 datime name 1

    bytes_long : length bytes ≡ added_length words (header_data words name said)
    unfolding header_record
    bytes_long = same_length place words (header_data words name said)

    at_rule : IsPlaceFor (map segment_of listed) (length bytes) place
    at_rule = inl (ap (place_of (map segment_of listed)) (sym bytes_long))

    free : begins_at (keyed_records listed) key.seek ≡ false
    free = none_from (λ s. s.head.seek == key.seek) (keyed_records listed) (λ s i e. place_apart image place (length bytes) s listed chain at_rule i (eqb-true s.head.seek key.seek e ∙ key_seek))

    records_with : AreRecordsOf (keyed_records ended) (saved_of behind)
    records_with =
        subst (λ (s : State). AreRecordsOf (keyed_records ended) s) state_is
        (header_takes_effect (keyed_records listed) (keyed_records ended) x said [] (saved_of m) (record_more listed place bytes key can.written.read) free next records_listed)

    -- ---- the end

    is : IsNewHeader listed place bytes key said
    is = record { read = can.written.read; top = can.written.top; tree = can.written.tree; new = fresh_key; header = can.written.header }

    -- the others' rows are the same, and the tree has none
    same_kept : kept_with (pending_in behind) listed ≡ kept_with pending listed
    same_kept = pending_by_names (pending_in behind) pending listed (λ s c.
        let tops = top_keys (keyed_records listed) in
        let among = filter_in (is_tree_record tops) s tops (in_contained s (tree_records tops) c) in
        let other : bytes_eq s.head.name key.name ≡ false = false_from_ne_true _ (none_at (λ t. bytes_eq t.head.name key.name) s tops fresh_key among.0) in
        sym (other_rows m x name (new_tree branches) key_name s.head.name other))

    no_rows : pending_in behind name ≡ []
    no_rows = changed_rows m name (new_tree branches)

    items_ended : AreAllItems ended
    items_ended = items_stay_with listed place bytes key can.written.read (inr fresh_key) list_kept.items

    abbrev kept : KeepsTreeLess (pending_in behind) (file_classes (info_key (keyed_records listed))) x said (kept_with (pending_in behind) ended) (kept_with (pending_in behind) listed)
    kept = new_header_keeps_more (pending_in behind) image listed place bytes key said chain is list_kept.items

    none_since : put_since (pending_in behind) (file_classes (info_key (keyed_records listed))) x said ≡ 0
    none_since = none_put (pending_in behind) (file_classes (info_key (keyed_records listed))) x said can.written.header (ap (pending_in behind) key_name ∙ no_rows)

    counted : (kept_with (pending_in behind) ended).count ≡ (kept_with pending links).count + length all
    counted =
        let more = kept.count in
        let places = ap length (new_places m.classes [] branches) in
        let same = ap (λ (k : KeptRecords). k.count) same_kept in
        omega (arith, more, places, none_since, same, list_kept.count, long)

    cost_is : cost_of m (MakeTree name branches) ≡ 600 + info_size m.classes + 2 * header_size name branches
    unfolding cost_of
    cost_is = ap (λ (o : Option Refusal). if is_some o then 0 else accepted_cost m (MakeTree name branches)) can.taken

    held_low : held_with (pending_in behind) ended ≤ held_with pending links + cost_of m (MakeTree name branches)
    held_low =
        let grows = new_header_held_grows (pending_in behind) image listed m.classes place datime name branches chain list_kept.items fresh can.item no_rows can.written at_rule in
        let same = ap weight same_kept in
        omega (arith, grows, same, held_is (pending_in behind) listed, held_is pending listed, list_kept.held, cost_is)

    ends : TreeEnd datime links m name branches
    ends =
        let end = at_end in
        let same = ap (λ (k : KeptRecords). k.name) same_kept in
        record {
          keys = λ heads are. subst (λ (l : List Link). AreKeysOf (keyed_records l) (with_head key heads)) (sym end) (new_header_key_follows listed place bytes key said heads is list_kept.items (list_kept.keys heads are));
          items = subst AreAllItems (sym end) items_ended;
          name_is = ap (λ (l : List Link). (kept_with (pending_in behind) l).name) end ∙ sym kept.name ∙ same ∙ list_kept.name_is;
          count = ap (λ (l : List Link). (kept_with (pending_in behind) l).count) end ∙ counted;
          held = subst (λ (l : List Link). held_with (pending_in behind) l ≤ held_with pending links + cost_of m (MakeTree name branches)) (sym end) held_low;
        }

  late : (k : ℕ) → length added_list < k → k ≤ length all → ArePassed links all k → AreRecordsOf (keyed_records (all_changed links (take k all))) (saved_of behind)
  late k low high passed =
      let last : length added_list + 1 ≡ k = omega (arith, low, high, long) in
      let one = chain_listed k low passed in
      subst (λ (n : ℕ). AreRecordsOf (keyed_records (all_changed links (take n all))) (saved_of behind)) last
      (subst (λ (l : List Link). AreRecordsOf (keyed_records l) (saved_of behind)) (sym at_last) (records_with one.0 one.1))

pub tree_takes_effect : TreeTakesEffect
tree_takes_effect datime file links m name branches can =
    record { early = early datime file links m name branches can; late = late datime file links m name branches can }

pub tree_ends : TreeEnds
tree_ends datime file links m name branches can passed =
    let one = chain_listed datime file links m name branches can (length (changes_of_tree datime links m name branches)) (let l = long datime file links m name branches can in omega (arith, l)) passed in
    ends datime file links m name branches can one.0 one.1

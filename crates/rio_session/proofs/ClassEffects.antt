-- What the changes of a class command make of the state that a session stands for.
use Rattle.std.proofs.Common.{◌≡◌, inl, inr, ℕ, ◌+◌, ◌<◌, ◌≤◌, ◌^◌, ◌≢◌, ◌==◌, ◌&&◌, ◌||◌, List, [], ◌∷◌, ◌++◌, length, map, take, Bool, true, false, cond, not, Option, Some, None, refl, sym, ap, subst, ◌∙◌, arith}
use Rattle.std.proofs.lemmas.Bool.{and_parts, cases_lt, eq-eqb, eqb-true, or_left, or_parts, or_right}
use Rattle.std.specs.{Prelude.{IfSome, if◌then◌else◌, is_some}, FinMap.{get}, List.{list_any}}
use Rattle.rio_format.specs.declared.class.ClassDef.{ClassDef}
use Rattle.rio_leaf.specs.declared.branch.BranchDef.{BranchDef}
use Rattle.rio_key.specs.{declared.head.KeyHead.{KeyHead}, Cut.{Cut}}
use Rattle.rio_chain.specs.{Adjoining.{AreSegments}, Changes.{with_record, without_record}, Placing.{IsPlaceFor, place_of, record_count, with_segment}, Releasing.{with_free, without_segment}, Segments.{IsChain, Link, segment_of}}
use Rattle.rio_chain.specs.declared.segment.Segment.{Segment, TheVariants.{Record, Gap}}
use Rattle.rio_model.specs.{Declaring.{declared}, Stated.{is_stated_class}}
use Rattle.rio_machine.specs.{Limits.{has_long_entry, has_long_list, is_too_deep}, Rows.{row_fits}, State.{Row, State, Tree}, declared.command.Command.TheVariants.{Class}}
use Rattle.rio_state.specs.{Closing.{KeptRecords, held_with, kept_in, kept_with, padded_length}, Contents.{file_classes}, DirectoryKeys.{AreKeysOf}, KeyedRecords.{KeyedRecord, begins_at as has_at, first_place, info_key, is_tree_key, is_tree_record, keyed_records, top_keys, tree_records}, Left.{info_head}}
use Rattle.rio_state.specs.{OneLess.{HasRecord, IsSameWithout, NeedsNoMore}, OneMore.{HasOneMoreIn, KeyIsRead, keyed_bytes}, Reads.{AreRecordsOf, info_place}, Referred.{is_item_record, is_named_basket, is_referred}, TreeLengths.{cuts_of, none_pending, pending_in}, Trees.{all_places_named, header_in}}
use Rattle.rio_state.proofs.{KeysFollow.{in_still}, LessNeeds.{need_falls}, LessRecords.{record_less}, Members.{In, contains_in, none_from}, MoreRecords.{record_more}, Stays.{tops_same}, Removal.{all_weaker}, Unreferred.{garbage_goes}}
use Rattle.rio_machine.specs.declared.refusal.Refusal.{Refusal}
use Rattle.rio_step.specs.{Costs.{accepted_cost, cost_of, info_size}, Refusing.{refusal_of, with_class}, Runs.{saved_of}, Step.{state_behind}}
use Rattle.rio_effect.specs.{AllItems.{AreAllItems}, ClassRecord.{key_of_class, list_key, list_key_size, record_of_class}, Classes.{IsClassRecord, IsDeclared, KeepsOneList, PendingFit, list_in, with_class_record}, Deletes.{IgnoresPending}}
use Rattle.rio_effect.proofs.{AllItems.{items_stay_with, items_stay_without}, ClassCommand.{class_takes_effect, classes_have_records, classes_ignore_pending}, ClassEffect.{not_top}, ClassHeld.{class_held_grows}, FileChanges.{class_length}}
use Rattle.rio_effect.proofs.{Held.{chain_segments}, OldLists.{IsListAmong, info_among, list_is_later, place_apart}}
use Rattle.rio_close.proofs.Fitting.{count_with, place_low}
use Rattle.rio_recover.specs.{Closable.{begins_at, is_placed, list_count}, Trees.{AreTreesOf}}
use Rattle.rio_session.specs.{Effects.{IsKeptAfter, TakesEffect}, Kept.{LinksChange, all_done, changes_by, place_of_class, released_link, released_segment}, Marks.{mark_of_command}}
use Rattle.rio_effect.specs.BasketRuns.{places_put}
use Rattle.rio_effect.proofs.{PendingFits.{pending_rows_fit}, TreesGrow.{one_class_more}}
use Rattle.rio_step.specs.Storable.{IsFillable, is_stored_row}
use Rattle.rio_session.specs.{Due.{AreApart, key_place}, Fills.{places_of_trees, put_in}, Session.{HoldsPutRows, HoldsState, OpensRows, SessionState}, SessionState.{headers_of}, Sound.{IsSoundState}}
use Rattle.rio_session.proofs.{Apart.{is_among}, KeepsLess.{any_append}, PutPlaces.{in_among, put_in_places}, RowsBeside.{hold_with, hold_without}, RowsStay.{SayAlike, rows_stay, say_alike}, FillableBehind.{fillable_behind}, Unmarked.{unmarked}}
use Rattle.rio_session.proofs.{Keeps.{begins_still}, TreesKept.{header_same, places_same, trees_with_class}, TreesOfFile.{headers_still}}

-- ---- how many records there are without one

count_free : (p m : ℕ) (segments : List Segment) → record_count (with_free p m segments) ≡ record_count segments
count_free p m [] = refl
count_free p m (Record q k ∷ segments) = refl
count_free p m (Gap q k ∷ segments) = refl

pub count_released : (place : ℕ) (segments : List Segment) → list_any (begins_at place) segments ≡ true → record_count (without_segment place segments) + 1 ≡ record_count segments
count_released place [] e = absurd cc
count_released place (Record p n ∷ segments) e = by (p == place) e (count_released place segments)
  where
    by : (b : Bool) → (b || list_any (begins_at place) segments) ≡ true → (list_any (begins_at place) segments ≡ true → record_count (without_segment place segments) + 1 ≡ record_count segments)
        → record_count (cond b (with_free p n segments) (Record p n ∷ without_segment place segments)) + 1 ≡ record_count segments + 1
    by true f rest = ap (λ (k : ℕ). k + 1) (count_free p n segments)
    by false f rest = ap (λ (k : ℕ). k + 1) (rest f)
count_released place (Gap p n ∷ segments) e = ap (λ (k : ℕ). k + 1) (count_free p n (without_segment place segments)) ∙ count_released place segments e

-- with one record more, and without that of the class list before
pub count_replaced : (s : SessionState) (place n : ℕ) → IfSome s.info (λ h. is_placed s.segments h ≡ true) → record_count (released_segment s.info (with_segment place n s.segments)) + list_count s.info ≡ record_count s.segments + 1
count_replaced s place n placed = by s.info placed
  where
    by : (o : Option KeyHead) → IfSome o (λ h. is_placed s.segments h ≡ true) → record_count (released_segment o (with_segment place n s.segments)) + list_count o ≡ record_count s.segments + 1
    by None there = omega (arith, count_with place n s.segments)
    by (Some h) there = omega (arith, count_with place n s.segments, count_released h.seek (with_segment place n s.segments) (begins_still h.seek place n s.segments there))

-- what a state can hold fits its branches
stored_fits : (classes : List ClassDef) (branches : List BranchDef) (row : Row) → is_stored_row classes branches row ≡ true → row_fits classes branches row ≡ true
stored_fits classes branches row e =
    let last = and_parts (row_fits classes branches row && not (has_long_entry classes branches row) && not (list_any is_too_deep row)) (not (list_any has_long_list row)) e in
    let third = and_parts (row_fits classes branches row && not (has_long_entry classes branches row)) (not (list_any is_too_deep row)) last.0 in
    (and_parts (row_fits classes branches row) (not (has_long_entry classes branches row)) third.0).0

-- ---- the new class list

-- the links with its record
abbrev pub with_list : SessionState → State → ClassDef → List Link → List Link
with_list s m class links = with_record (place_of_class s m class) (record_of_class s.info m (place_of_class s m class) s.datime class) links

-- With the record of the new list the records stand for the state after the command, and the list counts in place of the one before.
pub record IsListed (s : SessionState) (m : State) (class : ClassDef) (links : List Link) : Type 0 where
  pub read : KeyIsRead (place_of_class s m class) (record_of_class s.info m (place_of_class s m class) s.datime class) (key_of_class s.info m (place_of_class s m class) s.datime class)
  pub long : length (record_of_class s.info m (place_of_class s m class) s.datime class) ≡ padded_length (list_key_size + info_size (with_class m.classes class))
  pub records : AreRecordsOf (keyed_records (with_list s m class links)) (saved_of (state_behind m (Class class)))
  pub keys : AreKeysOf (keyed_records (with_list s m class links)) s.heads
  pub trees : AreTreesOf (keyed_records (with_list s m class links)) (headers_of s)
  pub alike : SayAlike links (with_list s m class links)
  pub items : AreAllItems (with_list s m class links)
  pub info : ◌≡◌ {A = Option KeyHead} (Some (key_of_class s.info m (place_of_class s m class) s.datime class)) (info_head (info_key (keyed_records (with_list s m class links))))
  pub old : (r : KeyedRecord) → info_key (keyed_records links) ≡ Some r → is_referred (keyed_records (with_list s m class links)) r ≡ false
  pub name : (kept_in (with_list s m class links)).name ≡ (kept_in links).name
  pub count : (kept_with (pending_in m) (with_list s m class links)).count + list_count s.info ≡ (kept_with (pending_in m) links).count + 1
  pub held : held_with (pending_in m) (with_list s m class links) ≤ held_with (pending_in m) links + cost_of m (Class class)
  pub rows : HoldsPutRows s (state_behind m (Class class)) (with_list s m class links)

module _ (s : SessionState) (m : State) (file : List ℕ) (h : HoldsState s m file) (sound : IsSoundState s) (fresh : s.failed ≡ false) (soon : s.datime < 2 ^ 32)
    (class : ClassDef) (stated : is_stated_class class ≡ true) (free : refusal_of m (Class class) None ≡ None) where
  abbrev at : ℕ
  at = place_of_class s m class

  abbrev bytes : List ℕ
  bytes = record_of_class s.info m (place_of_class s m class) s.datime class

  abbrev key : KeyHead
  key = key_of_class s.info m (place_of_class s m class) s.datime class

  abbrev put : LinksChange
  put = with_record (place_of_class s m class) (record_of_class s.info m (place_of_class s m class) s.datime class)

  abbrev more : List Link
  more = with_list s m class h.links

  shape : AreSegments s.segments
  shape = subst AreSegments (sym h.chain.same) (chain_segments file h.links h.chain.chain)

  -- the place of the rule isn't after END
  low : place_of_class s m class < 2 ^ 32
  low = omega (arith, place_low s.segments at (length (record_of_class s.info m 0 s.datime class)) shape refl, (sound.kept fresh).closable.room)

  -- the record is as long at each place
  pub list_placed : IsPlaceFor (map segment_of h.links) (length (record_of_class (list_in h.links) m (place_of_class s m class) s.datime class)) (place_of_class s m class)
  list_placed =
      let own : length (record_of_class s.info m 0 s.datime class) ≡ length bytes = sym (class_length s.info m 0 s.datime class) ∙ class_length s.info m at s.datime class in
      let long = own ∙ ap (λ (o : Option KeyHead). length (record_of_class o m (place_of_class s m class) s.datime class)) h.info in
      inl (λ i. place_of (h.chain.same i) (long i))

  -- no record begins there
  list_free : has_at (keyed_records h.links) (place_of_class s m class) ≡ false
  list_free =
      none_from (λ r. r.head.seek == at) (keyed_records h.links) (λ r i same. place_apart file at (length (record_of_class (list_in h.links) m at s.datime class)) r h.links h.chain.chain list_placed i (eqb-true r.head.seek at same))

  -- pending rows aren't looked at
  ignored : IgnoresPending m (Class class)
  ignored = classes_ignore_pending m class

  abbrev saved : State
  saved = saved_of m

  saved_free : refusal_of (saved_of m) (Class class) None ≡ None
  saved_free = ignored.refused None ∙ free

  its_record : IsClassRecord s.info m (place_of_class s m class) s.datime class
  unfolding saved_of
  its_record =
      let r = classes_have_records h.links saved at s.datime class low soon h.records stated saved_free in
      subst (λ (o : Option KeyHead). IsClassRecord o m (place_of_class s m class) s.datime class) (sym h.info)
      (record { fit = r.fit; whole = r.whole; read = r.read; key = r.key; long = r.long })

  made : IsDeclared h.links (saved_of m) (place_of_class s m class) s.datime class
  made = class_takes_effect file h.links saved at s.datime class low soon list_free h.chain.chain h.records stated saved_free

  -- the class list that is kept is the one that counts
  more_is : with_class_record h.links (saved_of m) (place_of_class s m class) s.datime class ≡ more
  unfolding saved_of
  more_is = ap (λ (o : Option KeyHead). with_record (place_of_class s m class) (record_of_class o m (place_of_class s m class) s.datime class) h.links) (sym h.info)

  info_more : ◌≡◌ {A = Option KeyHead} (Some key) (info_head (info_key (keyed_records more)))
  unfolding saved_of
  info_more =
      sym (ap list_in (sym more_is) ∙ made.info ∙ ap (λ (o : Option KeyHead). let k : Option KeyHead = Some (key_of_class o m (place_of_class s m class) s.datime class) in k) (sym h.info))

  costs_same : cost_of (saved_of m) (Class class) ≡ cost_of m (Class class)
  unfolding cost_of saved_of
  costs_same = ap (λ (o : Option Refusal). if is_some o then 0 else accepted_cost m (Class class)) (ignored.refused None)

  -- the pending rows fit their trees
  fit : PendingFit (pending_in m) h.links
  fit = pending_rows_fit file h.links m h.chain.chain h.items h.fillable h.records

  held_more : held_with (pending_in m) more ≤ held_with (pending_in m) h.links + cost_of m (Class class)
  unfolding saved_of
  held_more =
      subst (λ (x : List Link × ℕ). held_with (pending_in m) x.0 ≤ held_with (pending_in m) h.links + x.1) (λ i. (more_is i, costs_same i))
      (class_held_grows (pending_in m) file h.links saved at s.datime class low soon h.chain.chain h.records stated saved_free list_placed fit)

  kept_more : KeepsOneList h.links (kept_with (pending_in m) h.links) (kept_with (pending_in m) (with_class_record h.links (saved_of m) (place_of_class s m class) s.datime class))
  kept_more = made.kept (pending_in m) fit

  named_more : (kept_in more).name ≡ (kept_in h.links).name
  named_more = ap (λ (l : List Link). (kept_in l).name) (sym more_is) ∙ (made.kept none_pending (λ r head among there. refl)).name

  listed_once : list_count s.info ≡ list_count (list_in h.links)
  listed_once = ap list_count h.info

  records_more : AreRecordsOf (keyed_records more) (saved_of (state_behind m (Class class)))
  records_more =
      subst (λ (x : List Link × State). AreRecordsOf (keyed_records x.0) x.1) (λ i. (more_is i, ignored.behind i)) made.records

  -- its trees are those of before
  tops_more : top_keys (keyed_records more) ≡ top_keys (keyed_records h.links)
  tops_more = tops_same (keyed_records h.links) (keyed_records more) (keyed_bytes key bytes) (record_more h.links at bytes key its_record.read) (not_top key its_record.key)

  list_record : HasOneMoreIn (keyed_records h.links) (keyed_records more) (keyed_bytes key bytes)
  list_record = record_more h.links at bytes key its_record.read

  -- the headers say what they said
  alike_more : SayAlike h.links more
  unfolding saved_of
  alike_more = by (info_key (keyed_records more)) refl
    where
      by : (o : Option KeyedRecord) → info_key (keyed_records more) ≡ o → SayAlike h.links more
      by None none = let never = info_more ∙ ap info_head none in absurd cc
      by (Some r) is =
          let old = keyed_records h.links in
          let new = keyed_records more in
          let grown = declared m.classes class in
          let tops = tops_more in
          record {
            headers = ap tree_records tops;
            said = λ k i. ap (λ (o : Option KeyedRecord). header_in (file_classes o) k) is
                ∙ header_same old new (saved_of m) (saved_of (state_behind m (Class class))) grown r h.records records_more refl is (ap tree_records tops) k i;
            named = (λ i. all_places_named (file_classes (is i)) (tree_records (tops i)))
                ∙ places_same old new (saved_of m) (saved_of (state_behind m (Class class))) grown r h.records records_more refl is (ap tree_records tops);
          }

  -- the entries of pending rows are written as before
  cuts_more : (name : List ℕ) (x : Tree) → get m.trees name ≡ Some x → cuts_of (state_behind m (Class class)).classes x.branches x.pending ≡ cuts_of m.classes x.branches x.pending
  cuts_more name x there = (one_class_more m.classes (state_behind m (Class class)).classes (declared m.classes class) refl).cuts x.branches x.pending
      (all_weaker (is_stored_row m.classes x.branches) (row_fits m.classes x.branches) (stored_fits m.classes x.branches) x.pending (h.fillable.trees name x there).rows)

  rows_more : HoldsPutRows s (state_behind m (Class class)) more
  unfolding list_key
  rows_more =
      rows_stay s s m (state_behind m (Class class)) h.links more alike_more refl refl cuts_more
      (λ own. hold_with (keyed_records h.links) (keyed_records more) (keyed_bytes key bytes) list_record list_free (places_put (put_in s.trees own))) h.rows

  trees_more : AreTreesOf (keyed_records more) (headers_of s)
  unfolding saved_of
  trees_more = by (info_key (keyed_records more)) refl
    where
      by : (o : Option KeyedRecord) → info_key (keyed_records more) ≡ o → AreTreesOf (keyed_records more) (headers_of s)
      by None none = let never = info_more ∙ ap info_head none in absurd cc
      by (Some r) is =
          trees_with_class (keyed_records h.links) (keyed_records more) (saved_of m) (saved_of (state_behind m (Class class))) (declared m.classes class) r h.records records_more refl is (ap tree_records tops_more) (headers_of s) h.trees

  old_goes : (r : KeyedRecord) → info_key (keyed_records h.links) ≡ Some r → is_referred (keyed_records (with_class_record h.links (saved_of m) (place_of_class s m class) s.datime class)) r ≡ false
  unfolding saved_of
  old_goes = made.old list_placed

  pub class_listed : IsListed s m class h.links
  class_listed = record {
    read = its_record.read;
    long = its_record.long;
    records = records_more;
    keys = subst (λ (l : List Link). AreKeysOf (keyed_records l) s.heads) more_is (made.keys s.heads h.keys);
    trees = trees_more;
    alike = alike_more;
    rows = rows_more;
    items = items_stay_with h.links at bytes key its_record.read (inl (ap (λ (b : Bool). b && is_tree_key key) (not_top key its_record.key))) h.items;
    info = info_more;
    old = λ r is. ap (λ (l : List Link). is_referred (keyed_records l) r) (sym more_is) ∙ old_goes r is;
    name = named_more;
    count = omega (arith, ap (λ (l : List Link). (kept_with (pending_in m) l).count) (sym more_is), kept_more.count, listed_once);
    held = held_more;
  }

  fillable_then : IsFillable (state_behind m (Class class))
  fillable_then = fillable_behind m (Class class) stated free h.fillable

  pub opens_then : OpensRows s (state_behind m (Class class))
  opens_then name t x found there = h.opens name t x found there ∙ ap (map (λ (cut : Cut). cut.rest)) (sym (cuts_more name x there))

  -- ---- what is to be shown of the changes

  abbrev Passed : List LinksChange → ℕ → Type 0
  Passed changes k = (j : ℕ) → j < k → (image : List ℕ) × IsChain (all_done (take j changes) h.links) image

  record Takes (changes : List LinksChange) : Type 0 where
    some : 0 < length changes
    late : (k : ℕ) → 0 < k → k ≤ length changes → ((j : ℕ) → j < k → (image : List ℕ) × IsChain (all_done (take j changes) h.links) image)
        → AreRecordsOf (keyed_records (all_done (take k changes) h.links)) (saved_of (state_behind m (Class class)))
    ends : ((j : ℕ) → j < length changes → (image : List ℕ) × IsChain (all_done (take j changes) h.links) image) → IsKeptAfter s m (Class class) h.links (all_done changes h.links)

  -- by the class list that counts
  changes_are : (o : Option KeyedRecord) → info_key (keyed_records h.links) ≡ o → changes_by s m (Class class) ≡ put ∷ released_link (info_head o)
  changes_are o is = ap (λ (l : Option KeyHead). put ∷ released_link l) (h.info ∙ ap info_head is)

  abbrev segments_then : List Segment
  segments_then = with_segment (place_of_class s m class) (length (record_of_class s.info m (place_of_class s m class) s.datime class)) s.segments

  segments_are : (o : Option KeyedRecord) → info_key (keyed_records h.links) ≡ o → record_count (released_segment s.info segments_then) ≡ record_count (released_segment (info_head o) segments_then)
  segments_are o is = ap (λ (l : Option KeyHead). record_count (released_segment l segments_then)) (h.info ∙ ap info_head is)

  -- ---- where there was no class list

  takes_alone : info_key (keyed_records h.links) ≡ None → Takes (put ∷ [])
  takes_alone none = record {
    some = omega arith;
    late = λ k later few passed.
        let one : 1 ≡ k = omega (arith, later, few) in
        subst (λ (n : ℕ). AreRecordsOf (keyed_records (all_done (take n (put ∷ [])) h.links)) (saved_of (state_behind m (Class class)))) one records_more;
    ends = λ passed. record {
      keys = class_listed.keys;
      records = records_more;
      fillable = fillable_then;
      rows = rows_more;
      opens = opens_then;
      trees = class_listed.trees;
      items = class_listed.items;
      info = class_listed.info;
      name = class_listed.name;
      count = omega (arith, class_listed.count, ap list_count (h.info ∙ ap info_head none), h.count, count_with at (length bytes) s.segments, segments_are None none);
      held = class_listed.held;
    };
  }

  -- ---- where there was one

  module _ (r : KeyedRecord) (is : info_key (keyed_records h.links) ≡ Some r) where
    its : IsListAmong (keyed_records h.links) r
    its = info_among (keyed_records h.links) r is

    later_list : r.head.seek ≢ first_place
    later_list = list_is_later file h.links r h.chain.chain its

    one_more : HasOneMoreIn (keyed_records h.links) (keyed_records more) (keyed_bytes key bytes)
    one_more = record_more h.links at bytes key class_listed.read

    still : In r (keyed_records more)
    still = in_still (keyed_records h.links) (keyed_records more) (keyed_bytes key bytes) one_more r its.among

    placed_list : list_any (begins_at r.head.seek) s.segments ≡ true
    placed_list = subst (λ (o : Option KeyHead). IfSome o (λ l. is_placed s.segments l ≡ true)) (h.info ∙ ap info_head is) (sound.kept fresh).closable.listed

    one_fewer : record_count (without_segment r.head.seek segments_then) + 1 ≡ record_count segments_then
    one_fewer = count_released r.head.seek segments_then (begins_still r.head.seek at (length bytes) s.segments placed_list)

    -- nothing refers to it once the new one is there
    module _ (image : List ℕ) (chain : IsChain more image) where
      has : HasRecord image more r
      has = record { chain = chain; among = contains_in r (keyed_records more) still }

      same : IsSameWithout more r
      same = garbage_goes image more r has (class_listed.old r is)

      -- the new one counts
      uncounted : r.head.seek ≢ info_place (info_key (keyed_records more))
      uncounted same_place =
          let referred : is_referred (keyed_records more) r ≡ true = by_place same_place in
          let never : true ≡ false = sym referred ∙ class_listed.old r is in absurd cc
        where
          by_place : r.head.seek ≡ info_place (info_key (keyed_records more)) → is_referred (keyed_records more) r ≡ true
          by_place e =
              or_left ((r.head.seek == first_place) || (r.head.seek == info_place (info_key (keyed_records more))) || is_item_record (top_keys (keyed_records more)) r) (is_named_basket (keyed_records more) r)
              (or_left ((r.head.seek == first_place) || (r.head.seek == info_place (info_key (keyed_records more)))) (is_item_record (top_keys (keyed_records more)) r)
              (or_right (r.head.seek == first_place) (r.head.seek == info_place (info_key (keyed_records more))) (eq-eqb r.head.seek (info_place (info_key (keyed_records more))) e)))

      no_more : NeedsNoMore (pending_in m) more (without_record r.head.seek more)
      no_more = need_falls (pending_in m) image more r has later_list uncounted (ap (λ (b : Bool). b && is_tree_record (top_keys (keyed_records more)) r) (not_top r.head its.key))

      less : HasOneMoreIn (keyed_records (without_record r.head.seek more)) (keyed_records more) r
      less = record_less image more r has

      headers_then : tree_records (top_keys (keyed_records (without_record r.head.seek more))) ≡ tree_records (top_keys (keyed_records more))
      headers_then = ap tree_records (sym (tops_same (keyed_records (without_record r.head.seek more)) (keyed_records more) r less (not_top r.head its.key)))

      trees_then : AreTreesOf (keyed_records (without_record r.head.seek more)) (headers_of s)
      trees_then = headers_still (keyed_records more) (keyed_records (without_record r.head.seek more)) (headers_of s) same.info headers_then class_listed.trees

      -- no basket stands where the list before stood
      no_basket : (name : List ℕ) → In r.head.seek (places_put (put_in s.trees name)) → ⊥
      no_basket name i =
          let apart : AreApart (key_place (Some r.head) ++ map (λ k. k.seek) s.heads ++ places_of_trees s.trees) = subst (λ (o : Option KeyHead). AreApart (key_place o ++ map (λ k. k.seek) s.heads ++ places_of_trees s.trees)) (h.info ∙ ap info_head is) (sound.kept fresh).apart in
          let none = (or_parts (is_among (map (λ k. k.seek) s.heads) r.head.seek) (is_among (places_of_trees s.trees) r.head.seek) (sym (any_append r.head.seek (map (λ k. k.seek) s.heads) (places_of_trees s.trees)) ∙ apart.0)).1 in
          let f : true ≡ false = sym (in_among r.head.seek (places_of_trees s.trees) (put_in_places name s.trees r.head.seek i)) ∙ none in absurd cc

      rows_then : HoldsPutRows s (state_behind m (Class class)) (without_record r.head.seek more)
      rows_then =
          rows_stay s s (state_behind m (Class class)) (state_behind m (Class class)) more (without_record r.head.seek more) (say_alike more (without_record r.head.seek more) same.info headers_then) refl refl (λ name x there. refl)
          (λ name. hold_without (keyed_records (without_record r.head.seek more)) (keyed_records more) r less (places_put (put_in s.trees name)) (no_basket name)) rows_more

      kept_then : IsKeptAfter s m (Class class) h.links (without_record r.head.seek more)
      kept_then = record {
        keys = same.keys s.heads class_listed.keys;
        records = same.records (saved_of (state_behind m (Class class))) records_more;
        fillable = fillable_then;
        rows = rows_then;
        opens = opens_then;
        trees = trees_then;
        items = items_stay_without image more r has class_listed.items;
        info = class_listed.info ∙ ap info_head (sym same.info);
        name = ap (λ (k : KeptRecords). k.name) (same.kept none_pending) ∙ class_listed.name;
        count = omega (arith, ap (λ (k : KeptRecords). k.count) (same.kept (pending_in m)), class_listed.count, ap list_count (h.info ∙ ap info_head is), h.count, count_with at (length bytes) s.segments, one_fewer, segments_are (Some r) is);
        held = omega (arith, no_more.held, class_listed.held);
      }

    takes_both : Takes (put ∷ without_record r.head.seek ∷ [])
    takes_both = record {
      some = omega arith;
      late = λ k later few passed. elim (cases_lt k 2) [
        | inl low ↦
            let one : 1 ≡ k = omega (arith, later, low) in
            subst (λ (n : ℕ). AreRecordsOf (keyed_records (all_done (take n (put ∷ without_record r.head.seek ∷ [])) h.links)) (saved_of (state_behind m (Class class)))) one records_more
        | inr high ↦
            let two : 2 ≡ k = omega (arith, high, few) in
            let amid = passed 1 (omega (arith, high)) in
            subst (λ (n : ℕ). AreRecordsOf (keyed_records (all_done (take n (put ∷ without_record r.head.seek ∷ [])) h.links)) (saved_of (state_behind m (Class class)))) two
            ((same amid.0 amid.1).records (saved_of (state_behind m (Class class))) records_more)
      ];
      ends = λ passed. let amid = passed 1 (omega arith) in kept_then amid.0 amid.1;
    }

  -- ---- the command

  takes : Takes (changes_by s m (Class class))
  takes = by (info_key (keyed_records h.links)) refl
    where
      by : (o : Option KeyedRecord) → info_key (keyed_records h.links) ≡ o → Takes (changes_by s m (Class class))
      by None none = subst Takes (sym (changes_are None none)) (takes_alone none)
      by (Some r) is = subst Takes (sym (changes_are (Some r) is)) (takes_both r is)

  pub class_effect : TakesEffect s m (Class class) h.links
  class_effect = record {
    turn = 0;
    within = omega (arith, takes.some);
    early = λ k low passed.
        let none : 0 ≡ k = omega (arith, low) in
        subst (λ (n : ℕ). AreRecordsOf (keyed_records (all_done (take n (changes_by s m (Class class))) h.links)) (saved_of m)) none h.records;
    late = takes.late;
    ends = takes.ends;
  }

pub class_takes_effect_on : (s : SessionState) (m : State) (file : List ℕ) (h : HoldsState s m file) → IsSoundState s → s.failed ≡ false → s.datime < 2 ^ 32 → (class : ClassDef) → is_stated_class class ≡ true
    → refusal_of m (Class class) (mark_of_command s m (Class class)) ≡ None → TakesEffect s m (Class class) h.links
class_takes_effect_on s m file h sound fresh soon class stated free = class_effect s m file h sound fresh soon class stated (unmarked m (Class class) (mark_of_command s m (Class class)) free)

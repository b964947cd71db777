-- A record that the file itself needs changes nothing of what its records stand for.
use Rattle.std.proofs.Common.{◌≡◌, ◌↔◌, ℕ, ◌∙◌, List, [], ◌∷◌, ◌++◌, codes, Bool, true, false, not, ◌||◌, ◌==◌, Option, refl, sym, ap, subst}
use Rattle.std.proofs.lemmas.Bool.{and_left, and_right}
use Rattle.std.specs.{Prelude.{if◌then◌else◌, is_some, option_and_then}, List.{Contains, find, list_all}, Str.{bytes_eq}}
use Rattle.rio_key.specs.declared.head.KeyHead.{KeyHead}
use Rattle.rio_chain.proofs.Keys.{spelled_one}
use Rattle.rio_chain.specs.{Segments.{IsFirst, IsRecord, RecordAt}, Changes.{with_record}}
use Rattle.rio_machine.specs.State.{State, Tree, empty_state}
use Rattle.rio_state.specs.{Closing.{item_heads, kept_of, kept_with, name_in}, TreeLengths.{put_among}, Contents.{FileClasses, file_classes}, Trees.{tree_of}, DirectoryKeys.{AreKeysOf}}
use Rattle.rio_state.specs.KeyedRecords.{KeyedRecord, begins_at, first_place, has_info_name, info_key, is_elsewhere, is_in_directory, is_info_key, is_internal, is_top_key, keyed_records, later_info, top_keys, tree_records}
use Rattle.rio_state.specs.Reads.{AreRecordsOf, StandsForState}
use Rattle.rio_state.specs.OneMore.{EmptyIsRead, InfoStays, InternalStays, KeysStay, NeedStays, keyed_bytes, HasOneMoreIn}
use Rattle.rio_state.proofs.{Insertion.{all_more, filter_same}, MoreRecords.{first_stays, keyed_link, own_key, record_more, records_more}}
use Rattle.rio_state.proofs.{EmptyState.{none_counts}, Members.{In, all_at}, TreesSame.{all_agree, found_agree, tree_stays}}

-- ---- keys that aren't in the directory

module _ (head : KeyHead) (e : is_internal head ≡ true) where
  not_elsewhere : is_elsewhere head ≡ false
  not_elsewhere = and_right (not (head.pdir == first_place)) (not (is_internal head)) (ap not e)

  not_in_directory : is_in_directory head ≡ false
  not_in_directory = and_right (head.pdir == first_place) (not (is_internal head)) (ap not e)

  pub not_top : is_top_key head ≡ false
  not_top = and_left (is_in_directory head) (not (has_info_name head)) not_in_directory

  pub not_info : is_info_key head ≡ false
  not_info = and_left (is_in_directory head) (has_info_name head) not_in_directory

-- ---- the class list that counts

info_in : (r : KeyedRecord) (front back : List KeyedRecord) → is_info_key r.head ≡ false → info_key (front ++ r ∷ back) ≡ info_key (front ++ back)
info_in r [] back e = ap (λ b. if b then later_info r (info_key back) else info_key back) e
info_in r (s ∷ front) back e = ap (λ (o : Option KeyedRecord). if is_info_key s.head then later_info s o else o) (info_in r front back e)

pub info_same : (old new : List KeyedRecord) (r : KeyedRecord) → HasOneMoreIn old new r → is_info_key r.head ≡ false → info_key new ≡ info_key old
info_same old new r h e = ap info_key h.after ∙ info_in r h.front h.back e ∙ ap info_key (sym h.before)

pub info_stays : InfoStays
info_stays old new r h e = info_same old new r h e

pub tops_same : (old new : List KeyedRecord) (r : KeyedRecord) → HasOneMoreIn old new r → is_top_key r.head ≡ false → top_keys new ≡ top_keys old
tops_same old new r h e = filter_same (λ s. is_top_key s.head) r old new h e

-- ---- trees

module _ (classes : FileClasses) (headers old new : List KeyedRecord) (r : KeyedRecord) (h : HasOneMoreIn old new r) (free : begins_at old r.head.seek ≡ false) where
  abbrev read_before : KeyedRecord → Option Tree
  read_before = tree_of (record { classes = classes; records = old; headers = headers })

  abbrev read_after : KeyedRecord → Option Tree
  read_after = tree_of (record { classes = classes; records = new; headers = headers })

  trees_stay : (rs : List KeyedRecord) → list_all (λ s. is_some (read_before s)) rs ≡ true → (s : KeyedRecord) → In s rs → read_before s ≡ read_after s
  trees_stay rs all s i = tree_stays classes headers old new r h s free (all_at (λ t. is_some (read_before t)) s rs all i)

  pub trees_read : (rs : List KeyedRecord) → list_all (λ s. is_some (read_before s)) rs ≡ true → list_all (λ s. is_some (read_after s)) rs ≡ true
  trees_read rs all = sym (all_agree (λ s. is_some (read_before s)) (λ s. is_some (read_after s)) rs (λ s i. ap is_some (trees_stay rs all s i))) ∙ all

  pub trees_under : (test : KeyedRecord → Bool) (rs : List KeyedRecord) → list_all (λ s. is_some (read_before s)) rs ≡ true
      → option_and_then read_before (find test rs) ≡ option_and_then read_after (find test rs)
  trees_under test rs all = found_agree read_before read_after test rs (trees_stay rs all)

-- ---- one record more

-- the keys stand for the same among the records
stands_among : (old new : List KeyedRecord) (r : KeyedRecord) (info : Option KeyedRecord) (tops : List KeyedRecord) (m : State) → HasOneMoreIn old new r → begins_at old r.head.seek ≡ false
    → StandsForState old info tops m → StandsForState new info tops m
stands_among old new r info tops m h free s = record {
  listed = s.listed;
  classes = s.classes;
  named = s.named;
  distinct = s.distinct;
  apart = s.apart;
  readable = s.readable;
  objects = s.objects;
  tree_readable = trees_read (file_classes info) (tree_records tops) old new r h free (tree_records tops) s.tree_readable;
  trees = λ name. s.trees name ∙ trees_under (file_classes info) (tree_records tops) old new r h free _ (tree_records tops) s.tree_readable;
}

pub internal_stays : InternalStays
internal_stays old new r m h e free is =
    let tops = tops_same old new r h (not_top r.head e) in
    let info = info_same old new r h (not_info r.head e) in
    let stand = stands_among old new r (info_key old) (top_keys old) m h free is.stand in
    let with_tops = subst (λ (ts : List KeyedRecord). StandsForState new (info_key old) ts m) (sym tops) stand in
    record {
      here = all_more (λ s. not (is_elsewhere s.head)) r old new h (ap not (not_elsewhere r.head e)) is.here;
      stand = subst (λ (o : Option KeyedRecord). StandsForState new o (top_keys new) m) (sym info) with_tops;
    }

abbrev NamesHeads : List KeyHead → List KeyedRecord → Type 0
NamesHeads heads tops = (head : KeyHead) → Contains heads head ↔ Contains (item_heads tops) head

pub keys_stay : KeysStay
keys_stay old new r heads h e are =
    let tops = tops_same old new r h (not_top r.head e) in
    record { ordered = are.ordered; each = subst (NamesHeads heads) (sym tops) are.each }

-- ---- what a file keeps

pub need_stays : NeedStays
unfolding kept_with
need_stays pending file links place bytes head chain read e =
    let more = record_more links place bytes head read in
    let new = keyed_records (with_record place bytes links) in
    let old = keyed_records links in
    let x = keyed_bytes head bytes in
    let name = first_stays file links place bytes chain in
    let info = info_same old new x more (not_info head e) in
    let tops = tops_same old new x more (not_top head e) in
    λ i. kept_of pending (name i) (info i) (item_heads (tops i)) (tree_records (tops i))

-- ---- a file with its first record alone

nothing_stands : AreRecordsOf [] empty_state
nothing_stands = none_counts [] refl refl refl

nothing_named : AreKeysOf [] []
nothing_named = record { ordered = tt; each = λ head. (λ x. x, λ x. x) }

-- the first record is of a class that the file itself needs
first_internal : (file bytes : List ℕ) (place : ℕ) (r : IsRecord place bytes) → IsFirst file bytes → is_internal r.head ≡ true
first_internal file bytes place r f =
    let same = spelled_one f.head r.head bytes f.key r.key in
    let class : r.head.class ≡ codes "TFile" = ap (λ (h : KeyHead). h.class) (sym same) ∙ f.class in
    ap (λ (c : List ℕ). bytes_eq c (codes "TFile") || bytes_eq c (codes "TBasket")) class

pub empty_is_read : EmptyIsRead
unfolding kept_with put_among
empty_is_read file place bytes chain =
    let at = chain.links_are.0.0 in
    let held = chain.links_are.0.1 in
    let whole : IsRecord place bytes = subst (λ (k : ℕ). IsRecord k bytes) (sym at) held.whole in
    let links = RecordAt place bytes ∷ [] in
    let records = keyed_records links in
    let r = keyed_bytes whole.head bytes in
    let more : HasOneMoreIn [] records r = records_more place bytes r (keyed_link place bytes whole.head (own_key place bytes whole)) [] in
    let e : is_internal whole.head ≡ true = first_internal file bytes place whole (held.first refl) in
    let info = info_same [] records r more (not_info r.head e) in
    let tops = tops_same [] records r more (not_top r.head e) in
    record {
      records = internal_stays [] records r empty_state more e refl nothing_stands;
      keys = keys_stay [] records r [] more e nothing_named;
      kept = λ pending i. kept_of pending (name_in records) (info i) (item_heads (tops i)) (tree_records (tops i));
    }

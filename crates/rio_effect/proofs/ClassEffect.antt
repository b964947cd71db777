-- With the record of a class list that has one class more, records stand for the state with the class.
use Rattle.std.proofs.Common.{◌≡◌, ◌<◌, ◌∙◌, ◌==◌, List, [], ◌∷◌, ◌++◌, length, Bool, true, false, cond, not, ltb, Option, Some, None, refl, sym, ap, subst, append_assoc, arith}
use Rattle.std.proofs.lemmas.{Bool.{and_from, and_left, and_parts, and_right, le-ltb, lt-ltb, ltb-false, ltb-true}, List.{drop_at}, Option.{same_Some}}
use Rattle.std.specs.{Prelude.{if◌then◌else◌, is_some, option_and_then, ◌↔◌}, List.{Contains, find, list_all}, Result.{result_unwrap_or}, Str.{bytes_eq}}
use Rattle.rio_format.specs.{declared.class.ClassDef.{ClassDef}, declared.value.Value.{Value}, Growth.{PicksStay}, TreeClasses.{tree_classes, written_classes}}
use Rattle.rio_key.specs.declared.head.KeyHead.{KeyHead}
use Rattle.rio_format.proofs.Picks.{later_leave_picks}
use Rattle.rio_effect.proofs.TreesGrow.{one_class_more, tree_grows}
use Rattle.rio_machine.specs.State.{State}
use Rattle.rio_state.specs.{Contents.{HasStateClasses, IsStateList, classes_behind, described_classes, file_classes, object_in, state_classes}, Trees.{TreesBeside, tree_of}}
use Rattle.rio_state.specs.KeyedRecords.{KeyedRecord, begins_at, has_info_name, has_item, info_key, is_elsewhere, is_in_directory, is_info_key, is_top_key, later_info, first_place, is_internal, object_records, tree_records, top_keys}
use Rattle.rio_state.specs.{Closing.{item_heads}, DirectoryKeys.{AreKeysOf}, OneMore.{HasOneMoreIn}, Reads.{AreRecordsOf, StandsForState}}
use Rattle.rio_state.proofs.{Insertion.{all_more}, Stays.{tops_same}, TreesSame.{all_agree, found_agree, tree_stays}, Members.{In, all_at}}
use Rattle.rio_effect.proofs.ObjectsStay.{objects_stay}

-- ---- the class list that counts

-- the class list that counts has a lower cycle than this one, if there is one
abbrev pub IsNewerThan : KeyedRecord → Option KeyedRecord → Type 0
IsNewerThan r info = (s : KeyedRecord) → info ≡ Some s → s.head.cycle < r.head.cycle

-- a class list that counts from now on, in which the class is the last one, after those of the state
pub record IsNextList (records : List KeyedRecord) (m : State) (class : ClassDef) (r : KeyedRecord) : Type 0 where
  pub key : is_info_key r.head ≡ true
  pub newer : IsNewerThan r (info_key records)
  pub list : IsStateList r (m.classes ++ class ∷ [])

-- of the class lists among some records each has a lower cycle than r, where that of the one that counts is lower
module _ (r : KeyedRecord) where
  none_or : (o : Option KeyedRecord) → IsNewerThan r o → later_info r o ≡ Some r
  none_or None newer = refl
  none_or (Some s) newer = ap (λ b. cond b (Some r) (Some s)) (lt-ltb s.head.cycle r.head.cycle (newer s refl))

  -- the greater of two is lower than r, so both are
  both_lower : (s : KeyedRecord) (o : Option KeyedRecord) → IsNewerThan r (later_info s o) → (s.head.cycle < r.head.cycle) × IsNewerThan r o
  both_lower s None newer = (newer s refl, λ t e. absurd cc)
  both_lower s (Some l) newer = by (ltb l.head.cycle s.head.cycle) refl newer
    where
      by : (b : Bool) → ltb l.head.cycle s.head.cycle ≡ b → IsNewerThan r (cond b (Some s) (Some l)) → (s.head.cycle < r.head.cycle) × IsNewerThan r (Some l)
      by true is n =
          let own = n s refl in
          let less = ltb-true l.head.cycle s.head.cycle is in
          (own, λ t e. subst (λ (x : KeyedRecord). x.head.cycle < r.head.cycle) (same_Some l t e) (omega (arith, own, less)))
      by false is n =
          let own = n l refl in
          let less = ltb-false l.head.cycle s.head.cycle is in
          (omega (arith, own, less), n)

  lower_after : (s : KeyedRecord) (rs : List KeyedRecord) (b : Bool) → IsNewerThan r (if b then later_info s (info_key rs) else info_key rs) → IsNewerThan r (info_key rs)
  lower_after s rs true newer = (both_lower s (info_key rs) newer).1
  lower_after s rs false newer = newer

  counts_before : (s : KeyedRecord) (rs : List KeyedRecord) (b : Bool) → IsNewerThan r (if b then later_info s (info_key rs) else info_key rs) → (if b then later_info s (Some r) else Some r) ≡ Some r
  counts_before s rs true newer =
      let lower = (both_lower s (info_key rs) newer).0 in
      let late : ltb r.head.cycle s.head.cycle ≡ false = le-ltb r.head.cycle s.head.cycle (omega (arith, lower)) in
      ap (λ b. cond b (Some s) (Some r)) late
  counts_before s rs false newer = refl

  counts_in : (front back : List KeyedRecord) → is_info_key r.head ≡ true → IsNewerThan r (info_key (front ++ back)) → info_key (front ++ r ∷ back) ≡ Some r
  counts_in [] back key newer = ap (λ b. cond b (later_info r (info_key back)) (info_key back)) key ∙ none_or (info_key back) newer
  counts_in (s ∷ front) back key newer =
      ap (λ (o : Option KeyedRecord). if is_info_key s.head then later_info s o else o) (counts_in front back key (lower_after s (front ++ back) (is_info_key s.head) newer))
      ∙ counts_before s (front ++ back) (is_info_key s.head) newer

pub next_counts : (old new : List KeyedRecord) (r : KeyedRecord) → HasOneMoreIn old new r → is_info_key r.head ≡ true → IsNewerThan r (info_key old) → info_key new ≡ Some r
next_counts old new r h key newer = ap info_key h.after ∙ counts_in r h.front h.back key (subst (λ (rs : List KeyedRecord). IsNewerThan r (info_key rs)) h.before newer)

-- the classes of a list, those of trees left out
pub listed_classes : (info : KeyedRecord) (classes : List ClassDef) → IsStateList info classes → state_classes (Some info) ≡ classes
listed_classes info classes list = ap classes_behind list.list ∙ drop_at tree_classes classes (length tree_classes) refl

-- ---- objects and trees

module _ (classes : List ClassDef) (class : ClassDef) where
  abbrev more : List ClassDef
  more = classes ++ class ∷ []

  object_more : (r : KeyedRecord) → is_some (object_in classes r) ≡ true → object_in more r ≡ object_in classes r
  object_more r e = by (object_in classes r) refl e
    where
      by : (o : Option Value) → object_in classes r ≡ o → is_some o ≡ true → object_in more r ≡ object_in classes r
      by None is h = absurd cc
      by (Some v) is h = objects_stay classes class r v is ∙ sym is

-- what is read of records, where each that is read is read as before
module _ {X : Type 0} (before after : KeyedRecord → Option X) (same : (r : KeyedRecord) → is_some (before r) ≡ true → after r ≡ before r) where
  all_read : (rs : List KeyedRecord) → list_all (λ r. is_some (before r)) rs ≡ true → list_all (λ r. is_some (after r)) rs ≡ true
  all_read [] all = refl
  all_read (r ∷ rs) all =
      let parts = and_parts (is_some (before r)) (list_all (λ r. is_some (before r)) rs) all in
      and_from _ _ (ap is_some (same r parts.0) ∙ parts.0) (all_read rs parts.1)

  same_under : (test : KeyedRecord → Bool) (rs : List KeyedRecord) → list_all (λ r. is_some (before r)) rs ≡ true → option_and_then after (find test rs) ≡ option_and_then before (find test rs)
  same_under test [] all = refl
  same_under test (r ∷ rs) all = by (test r) (same_under test rs parts.1)
    where
      parts : (is_some (before r) ≡ true) × (list_all (λ r. is_some (before r)) rs ≡ true)
      parts = and_parts (is_some (before r)) (list_all (λ r. is_some (before r)) rs) all

      by : (b : Bool) → option_and_then after (find test rs) ≡ option_and_then before (find test rs)
          → option_and_then after (if b then Some r else find test rs) ≡ option_and_then before (if b then Some r else find test rs)
      by true rest = same r parts.0
      by false rest = rest

-- ---- the state

module _ (old new : List KeyedRecord) (info : Option KeyedRecord) (r : KeyedRecord) (tops : List KeyedRecord) (m : State) (class : ClassDef) (s : StandsForState old info tops m) (list : IsStateList r (m.classes ++ class ∷ [])) where
  abbrev before : List ClassDef
  before = state_classes info

  abbrev after : List ClassDef
  after = state_classes (Some r)

  one_more : after ≡ m.classes ++ class ∷ []
  one_more = listed_classes r (m.classes ++ class ∷ []) list

  pub appended : after ≡ before ++ class ∷ []
  appended = one_more ∙ ap (λ (cs : List ClassDef). cs ++ class ∷ []) s.classes

  object_same : (t : KeyedRecord) → is_some (object_in before t) ≡ true → object_in after t ≡ object_in before t
  object_same t e = ap (λ (cs : List ClassDef). object_in cs t) appended ∙ object_more before class t e

  abbrev headers : List KeyedRecord
  headers = tree_records tops

  abbrev beside : Option KeyedRecord → List KeyedRecord → TreesBeside
  beside list records = record { classes = file_classes list; records = records; headers = headers }

  -- what headers are read by has one class more too
  pub described_longer : (o : Option KeyedRecord) → HasStateClasses o → after ≡ state_classes o ++ class ∷ [] → PicksStay (described_classes o) (described_classes (Some r))
  described_longer None has e = later_leave_picks [] (described_classes (Some r))
  described_longer (Some k) has e =
      let now : described_classes (Some r) ≡ written_classes (m.classes ++ class ∷ []) = ap (λ d. result_unwrap_or d []) list.list in
      let before_is : described_classes (Some k) ≡ written_classes (state_classes (Some k)) = ap (λ d. result_unwrap_or d []) has.list in
      let longer : described_classes (Some r) ≡ described_classes (Some k) ++ class ∷ []
      = now ∙ ap written_classes (sym one_more ∙ e) ∙ sym (append_assoc tree_classes (state_classes (Some k)) (class ∷ [])) ∙ ap (λ (cs : List ClassDef). cs ++ class ∷ []) (sym before_is) in
      subst (PicksStay (described_classes (Some k))) (sym longer) (later_leave_picks (described_classes (Some k)) (class ∷ []))

  module _ (more : HasOneMoreIn old new r) (free : begins_at old r.head.seek ≡ false) where
    tree_there : (t : KeyedRecord) → In t headers → tree_of (beside info old) t ≡ tree_of (beside info new) t
    tree_there t i = tree_stays (file_classes info) headers old new r more t free (all_at (λ k. is_some (tree_of (beside info old) k)) t headers s.tree_readable i)

    still_readable : list_all (λ t. is_some (tree_of (beside info new) t)) headers ≡ true
    still_readable = sym (all_agree (λ t. is_some (tree_of (beside info old) t)) (λ t. is_some (tree_of (beside info new) t)) headers (λ t i. ap is_some (tree_there t i))) ∙ s.tree_readable

    tree_same : (t : KeyedRecord) → In t headers → tree_of (beside (Some r) new) t ≡ tree_of (beside info old) t
    tree_same t i =
        tree_grows (file_classes info) (file_classes (Some r)) (one_class_more before after class appended) (described_longer info s.listed appended) new headers still_readable t i ∙ sym (tree_there t i)

  class_stands : HasOneMoreIn old new r → begins_at old r.head.seek ≡ false → StandsForState new (Some r) tops (record m { classes = m.classes ++ class ∷ [] })
  class_stands more free = record {
    listed = subst (λ (cs : List ClassDef). IsStateList r cs) (sym one_more) list;
    classes = sym one_more;
    named = s.named;
    distinct = s.distinct;
    apart = s.apart;
    readable = all_read (object_in before) (object_in after) object_same (object_records tops) s.readable;
    objects = λ item. s.objects item ∙ sym (same_under (object_in before) (object_in after) object_same (has_item item) (object_records tops) s.readable);
    tree_readable = all_agree (λ t. is_some (tree_of (beside (Some r) new) t)) (λ t. is_some (tree_of (beside info old) t)) headers (λ t i. ap is_some (tree_same more free t i)) ∙ s.tree_readable;
    trees = λ name. s.trees name ∙ sym (found_agree (tree_of (beside (Some r) new)) (tree_of (beside info old)) (λ t. bytes_eq t.head.name name) headers (tree_same more free));
  }

-- ---- the key of a class list

module _ (head : KeyHead) (e : is_info_key head ≡ true) where
  pub not_top : is_top_key head ≡ false
  not_top = let parts = and_parts (is_in_directory head) (has_info_name head) e in and_right (is_in_directory head) (not (has_info_name head)) (ap not parts.1)

  pub not_elsewhere : is_elsewhere head ≡ false
  not_elsewhere =
      let parts = and_parts (is_in_directory head) (has_info_name head) e in
      let inside = and_parts (head.pdir == first_place) (not (is_internal head)) parts.0 in
      and_left (not (head.pdir == first_place)) (not (is_internal head)) (ap not inside.0)

-- With the record of such a list the records stand for the state with the class, and all else of it is as it was.
pub next_list_takes_effect : (old new : List KeyedRecord) (r : KeyedRecord) (m : State) (class : ClassDef) → HasOneMoreIn old new r → begins_at old r.head.seek ≡ false → IsNextList old m class r
    → AreRecordsOf old m → AreRecordsOf new (record m { classes = m.classes ++ class ∷ [] })
next_list_takes_effect old new r m class h free next is =
    let tops = tops_same old new r h (not_top r.head next.key) in
    let info = next_counts old new r h next.key next.newer in
    let after : State = record m { classes = m.classes ++ class ∷ [] } in
    let stand : StandsForState new (Some r) (top_keys old) after = class_stands old new (info_key old) r (top_keys old) m class is.stand next.list h free in
    let with_tops = subst (λ (ts : List KeyedRecord). StandsForState new (Some r) ts after) (sym tops) stand in
    record {
      here = all_more (λ s. not (is_elsewhere s.head)) r old new h (ap not (not_elsewhere r.head next.key)) is.here;
      stand = subst (λ (o : Option KeyedRecord). StandsForState new o (top_keys new) after) (sym info) with_tops;
    }

-- ---- keys

abbrev NamesHeads : List KeyHead → List KeyedRecord → Type 0
NamesHeads heads tops = (head : KeyHead) → Contains heads head ↔ Contains (item_heads tops) head

-- A class list isn't among the keys that are kept beside a file, so they stay.
pub list_keys_stay : (old new : List KeyedRecord) (r : KeyedRecord) (heads : List KeyHead) → HasOneMoreIn old new r → is_info_key r.head ≡ true → AreKeysOf old heads → AreKeysOf new heads
list_keys_stay old new r heads h key are =
    record { ordered = are.ordered; each = subst (NamesHeads heads) (sym (tops_same old new r h (not_top r.head key))) are.each }

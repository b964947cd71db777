-- A file without a reason before those of room reads as a state.
use Rattle.std.proofs.Common.{◌≡◌, inl, inr, ◌∙◌, ℕ, List, [], ◌∷◌, ◌++◌, length, Bool, true, false, not, ◌==◌, MatchBool, Option, Some, None, refl, sym, ap, subst, slice_get}
use Rattle.std.proofs.lemmas.Bool.{not-false}
use Rattle.std.specs.{FinMap.{from_entries}, List.{list_any}, Option.{option_map_or}, Str.{bytes_eq}}
use Rattle.rio_num.specs.Word.{is_item_text, name_order}
use Rattle.rio_head.specs.Form.{is_large_head}
use Rattle.rio_head.specs.declared.reason.Reason.{Reason, TheVariants.{LargeForm, NoChain, OtherDirectory, BadInfo, BadName, BadKey, BadObject, BadTree, DoubleKey, MixedName, TooMany, NoRoom}}
use Rattle.rio_dir.specs.Unborn.{is_unborn}
use Rattle.rio_machine.proofs.OrderLaws.{items_total, names_total}
use Rattle.rio_machine.specs.State.{State, empty_state, item_order}
use Rattle.rio_state.proofs.{Collected.{held, item_same, name_same, pairs}, NoReason.{beside_of}, Unreasoned.{directory_kept, if_none, keys_kept, nil_two}}
use Rattle.rio_state.specs.{Contents.{HasStateClasses, object_in, state_classes}, Trees.{tree_of, trees_beside}}
use Rattle.rio_state.specs.KeyedRecords.{KeyedRecord, has_item, info_key, is_elsewhere, is_mixed_name, item_of_key, keyed_records, object_records, top_keys, tree_records}
use Rattle.rio_state.specs.{Laws.{IsOfRoom, NoReasonIsRead}, Reads.{AreRecordsOf, ReadsAsMade, StandsForState}}
use Rattle.rio_state.specs.Reasons.{Beside, IsReasonOfChain, IsReasonOfMade, IsReasonOfSmall, ReasonAt, directory_reasons, info_reasons, is_bad_object, is_bad_tree, key_reasons, keys_reasons, reason_at, reason_if, room_reasons, state_reasons}

-- ---- reasons that aren't of room

is_room : Reason → Bool
is_room TooMany = true
is_room NoRoom = true
is_room other = false

room_is : (r : ReasonAt) → IsOfRoom (Some r) → is_room r.reason ≡ true
unfolding is_room
room_is r (inl e) = ap is_room e
room_is r (inr e) = ap is_room e

-- the first isn't one of room
abbrev BeginsBefore : List ReasonAt → Type 0
BeginsBefore [] = Unit {0}
BeginsBefore (r ∷ rs) = is_room r.reason ≡ false

if_before : (b : Bool) (place : ℕ) (reason : Reason) → is_room reason ≡ false → BeginsBefore (reason_if b place reason)
if_before true place reason e = e
if_before false place reason e = tt

two_before : (xs ys : List ReasonAt) → BeginsBefore xs → BeginsBefore ys → BeginsBefore (xs ++ ys)
two_before [] ys a b = b
two_before (x ∷ xs) ys a b = a

directory_before : (rs : List KeyedRecord) → BeginsBefore (directory_reasons rs)
unfolding is_room
directory_before [] = tt
directory_before (r ∷ rs) =
    two_before (reason_if (is_elsewhere r.head) r.head.seek OtherDirectory) (directory_reasons rs) (if_before (is_elsewhere r.head) r.head.seek OtherDirectory refl) (directory_before rs)

key_before : (beside : Beside) (before : List KeyedRecord) (r : KeyedRecord) → BeginsBefore (key_reasons beside before r)
unfolding is_room
key_before beside before r =
    let place = r.head.seek in
    let b1 = not (is_item_text r.head.name) in
    let b2 = not (length r.head.title == 0) in
    let b3 = is_bad_object beside r in
    let b4 = is_bad_tree beside r in
    let b5 = list_any (has_item (item_of_key r.head)) before in
    let b6 = is_mixed_name beside.tops r.head.name in
    let a1 = reason_if b1 place BadName in
    let a2 = reason_if b2 place BadKey in
    let a3 = reason_if b3 place BadObject in
    let a4 = reason_if b4 place BadTree in
    let a5 = reason_if b5 place DoubleKey in
    let a6 = reason_if b6 place MixedName in
    let x2 = two_before a1 a2 (if_before b1 place BadName refl) (if_before b2 place BadKey refl) in
    let x3 = two_before (a1 ++ a2) a3 x2 (if_before b3 place BadObject refl) in
    let x4 = two_before (a1 ++ a2 ++ a3) a4 x3 (if_before b4 place BadTree refl) in
    let x5 = two_before (a1 ++ a2 ++ a3 ++ a4) a5 x4 (if_before b5 place DoubleKey refl) in
    two_before (a1 ++ a2 ++ a3 ++ a4 ++ a5) a6 x5 (if_before b6 place MixedName refl)

keys_before : (beside : Beside) (before rs : List KeyedRecord) → BeginsBefore (keys_reasons beside before rs)
keys_before beside before [] = tt
keys_before beside before (r ∷ rs) =
    two_before (key_reasons beside before r) (keys_reasons beside (before ++ r ∷ []) rs) (key_before beside before r) (keys_before beside (before ++ r ∷ []) rs)

abbrev info_place : List KeyedRecord → ℕ
info_place records = option_map_or (λ r. r.head.seek) (info_key records) 0

state_before : (listed : Bool) (records : List KeyedRecord) → BeginsBefore (state_reasons listed records)
unfolding state_reasons is_room
state_before listed records =
    let keys = keys_reasons (beside_of records) [] (top_keys records) in
    let info = info_reasons listed (info_key records) in
    let one = if_before (not listed) (info_place records) BadInfo refl in
    two_before (directory_reasons records) (info ++ keys) (directory_before records) (two_before info keys one (keys_before (beside_of records) [] (top_keys records)))

-- where the first of all reasons is one of room, no other stands before it
none_before : (xs room : List ReasonAt) → BeginsBefore xs → IsOfRoom (slice_get (xs ++ room) 0) → xs ≡ []
none_before [] room a b = refl
none_before (x ∷ xs) room a b = let e : true ≡ false = sym (room_is x b) ∙ a in absurd cc

-- ---- the state

abbrev state_of : List KeyedRecord → State
state_of records =
    let classes = state_classes (info_key records) in
    let tops = top_keys records in
    let object_pairs = pairs items_total (λ r. item_of_key r.head) has_item item_same (object_in classes) (object_records tops) in
    let tree_pairs = pairs names_total (λ r. r.head.name) (λ name r. bytes_eq r.head.name name) name_same (tree_of (trees_beside (info_key records) records tops)) (tree_records tops) in
    record { classes = classes; objects = from_entries {R = item_order} object_pairs; trees = from_entries {R = name_order} tree_pairs }

listed_is_true : (listed : Bool) (P : Type 0) → MatchBool listed P (¬ P) → listed ≡ true → P
listed_is_true true P is e = is
listed_is_true false P is e = absurd cc

records_stand : (listed : Bool) (records : List KeyedRecord) → MatchBool listed (HasStateClasses (info_key records)) (¬ HasStateClasses (info_key records))
    → state_reasons listed records ≡ [] → AreRecordsOf records (state_of records)
unfolding state_reasons
records_stand listed records is e =
    let classes = state_classes (info_key records) in
    let tops = top_keys records in
    let headers = tree_records tops in
    let info = info_reasons listed (info_key records) in
    let keys = keys_reasons (beside_of records) [] tops in
    let x = nil_two (directory_reasons records) (info ++ keys) e in
    let y = nil_two info keys x.1 in
    let told = not-false listed (if_none (not listed) (info_place records) BadInfo y.0) in
    let kept = keys_kept (beside_of records) [] tops y.1 in
    let stand : StandsForState records (info_key records) tops (state_of records) = record {
      listed = listed_is_true listed (HasStateClasses (info_key records)) is told;
      classes = refl;
      named = kept.named;
      distinct = kept.distinct;
      apart = kept.apart;
      readable = kept.objects;
      objects = held items_total (λ r. item_of_key r.head) has_item item_same (object_in classes) (object_records tops) kept.objects;
      tree_readable = kept.trees;
      trees = held names_total (λ r. r.head.name) (λ name r. bytes_eq r.head.name name) name_same (tree_of (trees_beside (info_key records) records tops)) headers kept.trees;
    } in
    record { here = directory_kept records x.0; stand = stand }

-- ---- the file

abbrev Found : List ℕ → Bool → Type 0
Found file unborn = (m : State) × MatchBool unborn (m ≡ empty_state) (ReadsAsMade file m)

chain_found : (file : List ℕ) (found : Option ReasonAt) (x : IsReasonOfMade file found) → is_large_head x.head.version ≡ false
    → IsReasonOfChain file found → IsOfRoom found → Found file false
chain_found file found x small is room =
    let records = keyed_records is.links in
    let first : IsOfRoom (slice_get (state_reasons is.listed records ++ room_reasons is.links) 0) = subst IsOfRoom is.first room in
    let none = none_before (state_reasons is.listed records) (room_reasons is.links) (state_before is.listed records) first in (
      state_of records,
      record {
        head = x.head;
        head_is = x.head_is;
        small = small;
        links = is.links;
        chain = is.chain;
        records = records_stand is.listed records is.listed_is none;
      },
    )

not_before : (found : Option ReasonAt) (place : ℕ) (reason : Reason) → is_room reason ≡ false → found ≡ Some (reason_at place reason) → IsOfRoom found → ⊥
not_before found place reason before is room =
    let told = room_is (reason_at place reason) (subst IsOfRoom is room) in
    let e : true ≡ false = sym told ∙ before in absurd cc

form_found : (file : List ℕ) (found : Option ReasonAt) (x : IsReasonOfMade file found) (large : Bool) → is_large_head x.head.version ≡ large
    → MatchBool large (found ≡ Some (reason_at 4 LargeForm)) (IsReasonOfSmall file found) → IsOfRoom found → Found file false
unfolding is_room
form_found file found x true form is room = absurd (not_before found 4 LargeForm refl is room)
form_found file found x false form (inl is) room = absurd (not_before found is.0 NoChain refl is.2 room)
form_found file found x false form (inr is) room = chain_found file found x form is room

by_birth : (unborn : Bool) (file : List ℕ) (found : Option ReasonAt) → MatchBool unborn (found ≡ None) (IsReasonOfMade file found) → IsOfRoom found → Found file unborn
by_birth true file found is room = (empty_state, refl)
by_birth false file found is room = form_found file found is (is_large_head is.head.version) refl is.reason room

pub state_found : NoReasonIsRead
state_found file found is room = by_birth (is_unborn file) file found is room

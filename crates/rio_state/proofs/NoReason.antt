-- Nothing but want of room stands against writing to a file that reads as a state.
use Rattle.std.proofs.Common.{◌≡◌, ◌∙◌, ℕ, List, [], ◌∷◌, ◌++◌, length, Bool, true, false, cond, not, ◌&&◌, ◌||◌, ◌==◌, refl, sym, ap}
use Rattle.std.proofs.lemmas.Bool.{eq-eqb, ne_eqb, eqb-true, eqb-false, and_parts, or_parts, not-true}
use Rattle.std.specs.{Option.{is_some}, List.{filter, list_all, list_any}}
use Rattle.rio_num.proofs.BytesEq.{bytes_eq-sym}
use Rattle.rio_num.specs.Word.{is_item_text}
use Rattle.rio_head.specs.declared.reason.Reason.{Reason, TheVariants.{OtherDirectory, BadName, BadKey, BadObject, BadTree, DoubleKey, MixedName}}
use Rattle.rio_machine.specs.State.{State}
use Rattle.rio_state.specs.{Contents.{file_classes, object_in}, Trees.{tree_of}}
use Rattle.rio_state.specs.KeyedRecords.{KeyedRecord, has_item, info_key, is_elsewhere, is_mixed_name, is_tree_key, is_tree_record, item_of_key, object_records, top_keys}
use Rattle.rio_state.specs.Reads.{AreRecordsOf, are_distinct, is_named_key}
use Rattle.rio_state.specs.Reasons.{Beside, ReasonAt, directory_reasons, is_bad_object, is_bad_tree, key_reasons, keys_reasons, reason_if, state_reasons, beside_trees}

-- ---- truth values

eqb_turned_by : (m n : ℕ) (b : Bool) → (m == n) ≡ b → (m == n) ≡ (n == m)
eqb_turned_by m n true e = e ∙ sym (eq-eqb n m (sym (eqb-true m n e)))
eqb_turned_by m n false e = e ∙ sym (ne_eqb n m (λ x. eqb-false m n e (sym x)))

eqb_turned : (m n : ℕ) → (m == n) ≡ (n == m)
eqb_turned m n = eqb_turned_by m n (m == n) refl

-- ---- lists of reasons

pub none_if : (b : Bool) (place : ℕ) (reason : Reason) → b ≡ false → reason_if b place reason ≡ []
none_if true place reason e = absurd cc
none_if false place reason e = refl

no_two : (xs ys : List ReasonAt) → xs ≡ [] → ys ≡ [] → xs ++ ys ≡ []
no_two xs ys a b = λ i. a i ++ b i

no_directory : (rs : List KeyedRecord) → list_all (λ r. not (is_elsewhere r.head)) rs ≡ true → directory_reasons rs ≡ []
no_directory [] e = refl
no_directory (r ∷ rs) e =
    let x = and_parts (not (is_elsewhere r.head)) (list_all (λ s. not (is_elsewhere s.head)) rs) e in
    let here = none_if (is_elsewhere r.head) r.head.seek OtherDirectory (not-true (is_elsewhere r.head) x.0) in
    no_two (reason_if (is_elsewhere r.head) r.head.seek OtherDirectory) (directory_reasons rs) here (no_directory rs x.1)

-- ---- keys behind others

any_behind : (t : KeyedRecord → Bool) (before : List KeyedRecord) (r : KeyedRecord) → list_any t before ≡ false → t r ≡ false → list_any t (before ++ r ∷ []) ≡ false
any_behind t [] r a b = ap (λ x. x || false) b
any_behind t (s ∷ before) r a b =
    let x = or_parts (t s) (list_any t before) a in
    let rest = any_behind t before r x.1 b in
    λ i. x.0 i || rest i

pub item_turned : (r s : KeyedRecord) → has_item (item_of_key r.head) s ≡ has_item (item_of_key s.head) r
item_turned r s = λ i. bytes_eq-sym s.head.name r.head.name i && eqb_turned s.head.cycle r.head.cycle i

-- no key among these has the item of a record
abbrev pub is_new : List KeyedRecord → KeyedRecord → Bool
is_new before s = not (list_any (has_item (item_of_key s.head)) before)

all_new : (rs : List KeyedRecord) → list_all (is_new []) rs ≡ true
all_new [] = refl
all_new (r ∷ rs) = all_new rs

still_new : (before : List KeyedRecord) (r : KeyedRecord) (rs : List KeyedRecord) → list_all (is_new before) rs ≡ true
    → list_any (has_item (item_of_key r.head)) rs ≡ false → list_all (is_new (before ++ r ∷ [])) rs ≡ true
still_new before r [] a b = refl
still_new before r (s ∷ rs) a b =
    let x = and_parts (is_new before s) (list_all (is_new before) rs) a in
    let y = or_parts (has_item (item_of_key r.head) s) (list_any (has_item (item_of_key r.head)) rs) b in
    let one = any_behind (has_item (item_of_key s.head)) before r (not-true (list_any (has_item (item_of_key s.head)) before) x.0) (sym (item_turned r s) ∙ y.0) in
    let rest = still_new before r rs x.1 y.1 in
    λ i. not (one i) && rest i

-- all of those that are kept pass, so the first passes if it is kept
kept : (b : Bool) (p : KeyedRecord → Bool) (r : KeyedRecord) (rs : List KeyedRecord) → list_all p (cond b (r ∷ rs) rs) ≡ true
    → ((b && not (p r)) ≡ false) × (list_all p rs ≡ true)
kept true p r rs e = let x = and_parts (p r) (list_all p rs) e in (ap not x.0, x.1)
kept false p r rs e = (refl, e)

-- ---- keys

abbrev pub IsNamed : KeyedRecord → Bool
IsNamed r = is_named_key r.head

abbrev pub is_object_read : Beside → KeyedRecord → Bool
is_object_read beside r = is_some (object_in beside.classes.declared r)

abbrev pub is_tree_read : Beside → KeyedRecord → Bool
is_tree_read beside r = is_some (tree_of (beside_trees beside) r)

abbrev pub is_apart : Beside → KeyedRecord → Bool
is_apart beside r = not (is_mixed_name beside.tops r.head.name)

no_key : (beside : Beside) (before : List KeyedRecord) (r : KeyedRecord) → IsNamed r ≡ true → is_bad_object beside r ≡ false
    → is_bad_tree beside r ≡ false → is_new before r ≡ true → is_apart beside r ≡ true → key_reasons beside before r ≡ []
no_key beside before r named object tree new apart =
    let place = r.head.seek in
    let x = and_parts (is_item_text r.head.name) (length r.head.title == 0) named in
    let e1 = none_if (not (is_item_text r.head.name)) place BadName (ap not x.0) in
    let e2 = none_if (not (length r.head.title == 0)) place BadKey (ap not x.1) in
    let e3 = none_if (is_bad_object beside r) place BadObject object in
    let e4 = none_if (is_bad_tree beside r) place BadTree tree in
    let double = list_any (has_item (item_of_key r.head)) before in
    let e5 = none_if double place DoubleKey (not-true double new) in
    let mixed = is_mixed_name beside.tops r.head.name in
    let e6 = none_if mixed place MixedName (not-true mixed apart) in
    λ i. e1 i ++ e2 i ++ e3 i ++ e4 i ++ e5 i ++ e6 i

no_keys : (beside : Beside) (before rs : List KeyedRecord) → list_all IsNamed rs ≡ true → list_all (is_apart beside) rs ≡ true
    → list_all (is_object_read beside) (object_records rs) ≡ true
    → list_all (is_tree_read beside) (filter (is_tree_record beside.tops) rs) ≡ true
    → are_distinct rs ≡ true → list_all (is_new before) rs ≡ true → keys_reasons beside before rs ≡ []
no_keys beside before [] named apart objects trees distinct new = refl
no_keys beside before (r ∷ rs) named apart objects trees distinct new =
    let n = and_parts (IsNamed r) (list_all IsNamed rs) named in
    let a = and_parts (is_apart beside r) (list_all (is_apart beside) rs) apart in
    let o = kept (not (is_tree_key r.head)) (is_object_read beside) r (object_records rs) objects in
    let t = kept (is_tree_record beside.tops r) (is_tree_read beside) r (filter (is_tree_record beside.tops) rs) trees in
    let twice = list_any (has_item (item_of_key r.head)) rs in
    let d = and_parts (not twice) (are_distinct rs) distinct in
    let w = and_parts (is_new before r) (list_all (is_new before) rs) new in
    let next = still_new before r rs w.1 (not-true twice d.0) in
    no_two (key_reasons beside before r) (keys_reasons beside (before ++ r ∷ []) rs)
    (no_key beside before r n.0 o.0 t.0 w.0 a.0)
    (no_keys beside (before ++ r ∷ []) rs n.1 a.1 o.1 t.1 d.1 next)

abbrev pub beside_of : List KeyedRecord → Beside
beside_of records = record { classes = file_classes (info_key records); records = records; tops = top_keys records }

-- records that stand for a state give no reason
pub no_state_reason : (records : List KeyedRecord) (m : State) → AreRecordsOf records m → state_reasons true records ≡ []
unfolding state_reasons
no_state_reason records m is =
    let s = is.stand in
    let tops = top_keys records in
    let keys = no_keys (beside_of records) [] tops s.named s.apart s.readable s.tree_readable s.distinct (all_new tops) in
    no_two (directory_reasons records) (keys_reasons (beside_of records) [] tops) (no_directory records is.here) keys

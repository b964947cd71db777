-- Records without a reason against them keep the rules of a state's records.
use Rattle.std.proofs.Common.{◌≡◌, ◌∙◌, ℕ, List, [], ◌∷◌, ◌++◌, length, Bool, true, false, cond, not, ◌&&◌, ◌||◌, ◌==◌, refl, ap}
use Rattle.std.proofs.lemmas.Bool.{and_parts, not-false, not-true, or_parts}
use Rattle.std.specs.List.{filter, list_all, list_any}
use Rattle.rio_num.specs.Word.{is_item_text}
use Rattle.rio_head.specs.declared.reason.Reason.{Reason, TheVariants.{OtherDirectory, BadName, BadKey, BadObject, BadTree, DoubleKey, MixedName}}
use Rattle.rio_state.proofs.NoReason.{IsNamed, is_apart, is_new, is_object_read, is_tree_read, item_turned}
use Rattle.rio_state.specs.KeyedRecords.{KeyedRecord, has_item, is_elsewhere, is_mixed_name, is_tree_key, is_tree_record, item_of_key, object_records}
use Rattle.rio_state.specs.Reads.{are_distinct}
use Rattle.rio_state.specs.Reasons.{Beside, ReasonAt, directory_reasons, is_bad_object, is_bad_tree, key_reasons, keys_reasons, reason_if}

-- ---- no reasons

pub nil_two : (xs ys : List ReasonAt) → xs ++ ys ≡ [] → (xs ≡ []) × (ys ≡ [])
nil_two [] ys e = (refl, e)
nil_two (x ∷ xs) ys e = absurd cc

pub if_none : (b : Bool) (place : ℕ) (reason : Reason) → reason_if b place reason ≡ [] → b ≡ false
if_none true place reason e = absurd cc
if_none false place reason e = refl

pub directory_kept : (rs : List KeyedRecord) → directory_reasons rs ≡ [] → list_all (λ r. not (is_elsewhere r.head)) rs ≡ true
directory_kept [] e = refl
directory_kept (r ∷ rs) e =
    let x = nil_two (reason_if (is_elsewhere r.head) r.head.seek OtherDirectory) (directory_reasons rs) e in
    let here = if_none (is_elsewhere r.head) r.head.seek OtherDirectory x.0 in
    let rest = directory_kept rs x.1 in
    λ i. not (here i) && rest i

-- ---- keys behind others

any_split : (t : KeyedRecord → Bool) (before : List KeyedRecord) (r : KeyedRecord) → list_any t (before ++ r ∷ []) ≡ false → (list_any t before ≡ false) × (t r ≡ false)
any_split t [] r e = (refl, (or_parts (t r) false e).0)
any_split t (s ∷ before) r e =
    let x = or_parts (t s) (list_any t (before ++ r ∷ [])) e in
    let y = any_split t before r x.1 in
    ((λ i. x.0 i || y.0 i), y.1)

none_later : (before : List KeyedRecord) (r : KeyedRecord) (rs : List KeyedRecord) → list_all (is_new (before ++ r ∷ [])) rs ≡ true
    → (list_any (has_item (item_of_key r.head)) rs ≡ false) × (list_all (is_new before) rs ≡ true)
none_later before r [] e = (refl, refl)
none_later before r (s ∷ rs) e =
    let x = and_parts (is_new (before ++ r ∷ []) s) (list_all (is_new (before ++ r ∷ [])) rs) e in
    let t = has_item (item_of_key s.head) in
    let y = any_split t before r (not-true (list_any t (before ++ r ∷ [])) x.0) in
    let rest = none_later before r rs x.1 in
    let here : has_item (item_of_key r.head) s ≡ false = item_turned r s ∙ y.1 in
    ((λ i. here i || rest.0 i), (λ i. not (y.0 i) && rest.1 i))

kept_back : (b : Bool) (p : KeyedRecord → Bool) (r : KeyedRecord) (rs : List KeyedRecord) → (b && not (p r)) ≡ false → list_all p rs ≡ true
    → list_all p (cond b (r ∷ rs) rs) ≡ true
kept_back true p r rs e rest = let here = not-false (p r) e in λ i. here i && rest i
kept_back false p r rs e rest = rest

-- ---- keys

-- what holds of keys behind others without a reason against them
pub record AreKept (beside : Beside) (before rs : List KeyedRecord) : Type 0 where
  pub named : list_all IsNamed rs ≡ true
  pub apart : list_all (is_apart beside) rs ≡ true
  pub objects : list_all (is_object_read beside) (object_records rs) ≡ true
  pub trees : list_all (is_tree_read beside) (filter (is_tree_record beside.tops) rs) ≡ true
  pub distinct : are_distinct rs ≡ true
  pub new : list_all (is_new before) rs ≡ true

pub record IsKept (beside : Beside) (before : List KeyedRecord) (r : KeyedRecord) : Type 0 where
  pub named : IsNamed r ≡ true
  pub object : is_bad_object beside r ≡ false
  pub tree : is_bad_tree beside r ≡ false
  pub new : is_new before r ≡ true
  pub apart : is_apart beside r ≡ true

key_kept : (beside : Beside) (before : List KeyedRecord) (r : KeyedRecord) → key_reasons beside before r ≡ [] → IsKept beside before r
key_kept beside before r e =
    let place = r.head.seek in
    let a1 = reason_if (not (is_item_text r.head.name)) place BadName in
    let a2 = reason_if (not (length r.head.title == 0)) place BadKey in
    let a3 = reason_if (is_bad_object beside r) place BadObject in
    let a4 = reason_if (is_bad_tree beside r) place BadTree in
    let double = list_any (has_item (item_of_key r.head)) before in
    let a5 = reason_if double place DoubleKey in
    let mixed = is_mixed_name beside.tops r.head.name in
    let a6 = reason_if mixed place MixedName in
    let x6 = nil_two (a1 ++ a2 ++ a3 ++ a4 ++ a5) a6 e in
    let x5 = nil_two (a1 ++ a2 ++ a3 ++ a4) a5 x6.0 in
    let x4 = nil_two (a1 ++ a2 ++ a3) a4 x5.0 in
    let x3 = nil_two (a1 ++ a2) a3 x4.0 in
    let x2 = nil_two a1 a2 x3.0 in
    let named = not-false (is_item_text r.head.name) (if_none (not (is_item_text r.head.name)) place BadName x2.0) in
    let untitled = not-false (length r.head.title == 0) (if_none (not (length r.head.title == 0)) place BadKey x2.1) in
    record {
      named = λ i. named i && untitled i;
      object = if_none (is_bad_object beside r) place BadObject x3.1;
      tree = if_none (is_bad_tree beside r) place BadTree x4.1;
      new = ap not (if_none double place DoubleKey x5.1);
      apart = ap not (if_none mixed place MixedName x6.1);
    }

pub keys_kept : (beside : Beside) (before rs : List KeyedRecord) → keys_reasons beside before rs ≡ [] → AreKept beside before rs
keys_kept beside before [] e = record { named = refl; apart = refl; objects = refl; trees = refl; distinct = refl; new = refl }
keys_kept beside before (r ∷ rs) e =
    let x = nil_two (key_reasons beside before r) (keys_reasons beside (before ++ r ∷ []) rs) e in
    let one = key_kept beside before r x.0 in
    let rest = keys_kept beside (before ++ r ∷ []) rs x.1 in
    let later = none_later before r rs rest.new in
    record {
      named = λ i. one.named i && rest.named i;
      apart = λ i. one.apart i && rest.apart i;
      objects = kept_back (not (is_tree_key r.head)) (is_object_read beside) r (object_records rs) one.object rest.objects;
      trees = kept_back (is_tree_record beside.tops r) (is_tree_read beside) r (filter (is_tree_record beside.tops) rs) one.tree rest.trees;
      distinct = λ i. not (later.0 i) && rest.distinct i;
      new = λ i. one.new i && later.1 i;
    }

-- The reasons against one key: those of its name, those of its value, and those beside other keys.
use Rattle.std.proofs.Common.{◌≡◌, ◌∙◌, ℕ, List, [], ◌∷◌, ◌++◌, length, Bool, true, false, not, ◌&&◌, ◌==◌, cond, Option, Some, Result, Err, refl, sym, ap, slice_get}
use Rattle.std.proofs.lemmas.Bool.{and_from, and_parts}
use Rattle.std.specs.{List.{list_all}, Option.{is_some}}
use Rattle.rio_num.specs.Word.{is_item_text}
use Rattle.rio_key.specs.declared.head.KeyHead.{KeyHead}
use Rattle.rio_head.specs.declared.reason.Reason.TheVariants.{BadKey, BadName, BadObject}
use Rattle.rio_dir.specs.Table.{is_before, with_head}
use Rattle.rio_state.specs.{Contents.{object_in}, KeyedRecords.{KeyedRecord, is_tree_key}}
use Rattle.rio_state.specs.Reasons.{Beside, ReasonAt, is_bad_object, key_reasons, reason_at, reason_if}
use Rattle.rio_state.proofs.NoReason.{none_if}
use Rattle.rio_recover.specs.{Causes.{Judges}, Checks.{is_untitled, item_reasons, value_reasons}, declared.fault.RecoverFault.{RecoverFault}}
use Rattle.rio_recover.proofs.{Checking.{key_parts}, Judging.{judges_again, judges_behind, judges_on, judges_same}}

-- ---- its name and title

abbrev pub name_reasons : KeyHead → List ReasonAt
name_reasons head = reason_if (not (is_item_text head.name)) head.seek BadName ++ reason_if (not (length head.title == 0)) head.seek BadKey

-- ---- its object

module _ (beside : Beside) (r : KeyedRecord) (head : KeyHead) (same : r.head ≡ head) (kind : is_tree_key head ≡ false) where
  abbrev pub object_reasons : List ReasonAt
  object_reasons = reason_if (is_bad_object beside r) r.head.seek BadObject

  bad_by : (some : Bool) → is_some (object_in beside.classes.declared r) ≡ some → is_bad_object beside r ≡ not some
  bad_by some s = λ i. not ((ap is_tree_key same ∙ kind) i) && not (s i)

  only_first : (b : Bool) (place : ℕ) → b ≡ true → slice_get (reason_if b place BadObject) 0 ≡ Some (reason_at place BadObject)
  only_first true place e = refl
  only_first false place e = absurd cc

  pub object_first : is_some (object_in beside.classes.declared r) ≡ false → slice_get object_reasons 0 ≡ Some (reason_at head.seek BadObject)
  object_first s = only_first (is_bad_object beside r) r.head.seek (bad_by false s) ∙ ap (λ (h : KeyHead). some (reason_at h.seek BadObject)) same
    where
      some : ReasonAt → Option ReasonAt
      some x = Some x

  pub object_good : is_some (object_in beside.classes.declared r) ≡ true → object_reasons ≡ []
  object_good s = none_if (is_bad_object beside r) r.head.seek BadObject (bad_by true s)

-- ---- all of them

module _ (beside : Beside) (before : List KeyedRecord) (r : KeyedRecord) where
  pub whole_reasons : {X : Type 0} (result : Result X RecoverFault) (P : X → Type 0) → Judges result (name_reasons r.head ++ (value_reasons beside r ++ item_reasons beside before r)) P → Judges result (key_reasons beside before r) P
  whole_reasons result P j = judges_same result (name_reasons r.head ++ (value_reasons beside r ++ item_reasons beside before r)) (key_reasons beside before r) P (key_parts beside before r) j

  pub name_refused : {X Y : Type 0} (e : RecoverFault) (P : X → Type 0) (Q : Y → Type 0) → Judges (Err e) (name_reasons r.head) P → Judges (Err e) (key_reasons beside before r) Q
  name_refused e P Q j = whole_reasons (Err e) Q (judges_on e (name_reasons r.head) (value_reasons beside r ++ item_reasons beside before r) P Q j)

  pub value_refused : {X Y : Type 0} (e : RecoverFault) (P : X → Type 0) (Q : Y → Type 0) → name_reasons r.head ≡ [] → Judges (Err e) (value_reasons beside r) P → Judges (Err e) (key_reasons beside before r) Q
  value_refused e P Q named j =
      whole_reasons (Err e) Q
      (judges_behind (Err e) (name_reasons r.head) (value_reasons beside r ++ item_reasons beside before r) Q named (judges_on e (value_reasons beside r) (item_reasons beside before r) P Q j))

  pub item_refused : {X Y : Type 0} (e : RecoverFault) (P : X → Type 0) (Q : Y → Type 0) → name_reasons r.head ≡ [] → value_reasons beside r ≡ [] → Judges (Err e) (item_reasons beside before r) P
      → Judges (Err e) (key_reasons beside before r) Q
  item_refused {X = X} {Y = Y} e P Q named valued j =
      whole_reasons (Err e) Q
      (judges_behind (Err e) (name_reasons r.head) (value_reasons beside r ++ item_reasons beside before r) Q named
      (judges_behind (Err e) (value_reasons beside r) (item_reasons beside before r) Q valued (judges_again e (item_reasons beside before r) P Q j)))

  pub no_reasons : name_reasons r.head ≡ [] → value_reasons beside r ≡ [] → item_reasons beside before r ≡ [] → key_reasons beside before r ≡ []
  no_reasons a b c = sym (key_parts beside before r) ∙ (λ i. a i ++ (b i ++ c i))

-- ---- the table of those that passed

pub untitled_with : (h : KeyHead) (hs : List KeyHead) → is_untitled h ≡ true → list_all is_untitled hs ≡ true → list_all is_untitled (with_head h hs) ≡ true
untitled_with h [] here all = and_from _ _ here refl
untitled_with h (k ∷ ks) here all = by (is_before h.name h.cycle k) (untitled_with h ks here (and_parts (is_untitled k) (list_all is_untitled ks) all).1)
  where
    by : (b : Bool) → list_all is_untitled (with_head h ks) ≡ true → list_all is_untitled (cond b (k ∷ with_head h ks) (h ∷ k ∷ ks)) ≡ true
    by true rest = and_from _ _ (and_parts (is_untitled k) (list_all is_untitled ks) all).0 rest
    by false rest = and_from _ _ here all

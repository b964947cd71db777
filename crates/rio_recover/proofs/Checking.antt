-- Keys of objects and trees, checked one after the other.
use Rattle.std.proofs.Common.{◌≡◌, ◌∙◌, ℕ, ◌+◌, ◌≤◌, List, [], ◌∷◌, ◌++◌, append_assoc, length, take, drop, map, Bool, true, false, cond, not, ◌&&◌, ◌||◌, ◌==◌, ltb, Option, Some, Err, refl, sym, ap, subst, slice_get, arith}
use Rattle.std.proofs.lemmas.List.{take_all, drop_all, Elements.{All-nil}, Sums.{sum_by-cons}, Sorted.{IsPermutation-cons, IsPermutation-refl, IsPermutation-to_front, IsPermutation-trans, sum_by-IsPermutation}}
use Rattle.std.proofs.{lemmas.Bool.{Decides.{nat_tests}}}
use Rattle.std.specs.{List.{All, count_by, filter, list_all, list_any, sum_by, Sorted.{IsPermutation}}}
use Rattle.rio_num.specs.Word.{is_item_text}
use Rattle.rio_host.specs.{Host.{View}, OnlyReads.{OnlyReads}}
use Rattle.rio_key.specs.declared.head.KeyHead.{KeyHead}
use Rattle.rio_head.specs.declared.reason.Reason.{Reason, TheVariants.{BadKey, BadName, BadObject, BadTree, DoubleKey, MixedName}}
use Rattle.rio_dir.specs.Table.{with_head}
use Rattle.rio_state.specs.KeyedRecords.{KeyedRecord, has_item, is_mixed_name, is_top_key, is_tree_key, item_of_key, top_keys}
use Rattle.rio_state.specs.{Reasons.{Beside, ReasonAt, is_bad_object, is_bad_tree, key_reasons, keys_reasons, reason_at, reason_if}}
use Rattle.rio_recover.specs.{Baskets.{HasPlaces, has_baskets}, Causes.{Judges}, Checks.{AreDataBytes, HasChecked, IsBesideOf, IsChecking, beside_of, is_untitled, item_reasons, value_reasons}, Keys.{keyed_by, record_heads}, Trees.{AreWholeBranches, places_of}}
use Rattle.rio_recover.specs.{Names.{IndexesNames}, declared.classes.ListedClasses.{ListedClasses}, declared.fault.RecoverFault.{RecoverFault}, declared.judge.KeyCheck.{KeyCheck}, declared.trees.TreeAt.{TreeAt}}
use Rattle.rio_recover.proofs.{Judging.{judges_on, judges_same}, Keyed.{any_keyed, keyed_again, top_keyed}}
use Rattle.rio_recover.proofs.{Numbered.{RecordAtIndex, before_other, before_top, behind_other, behind_top}, Tables.{with_moved}}

-- ---- one reason

pub reason_first : (b : Bool) (place : ℕ) (reason : Reason) (ys : List ReasonAt) → b ≡ true → slice_get (reason_if b place reason ++ ys) 0 ≡ Some (reason_at place reason)
reason_first true place reason ys e = refl
reason_first false place reason ys e = absurd cc

-- ---- tests of lists

any_sum : {X : Type 0} (p : X → Bool) (xs : List X) → list_any p xs ≡ ltb 0 (sum_by (λ x. cond (p x) 1 0) xs)
any_sum p [] = refl
any_sum p (x ∷ xs) = by (p x) (any_sum p xs) ∙ ap (ltb 0) (sym (sum_by-cons (λ y. cond (p y) 1 0) x xs))
  where
    by : (b : Bool) → list_any p xs ≡ ltb 0 (sum_by (λ y. cond (p y) 1 0) xs) → (b || list_any p xs) ≡ ltb 0 (cond b 1 0 + sum_by (λ y. cond (p y) 1 0) xs)
    by true e = grind (arith, nat_tests)
    by false e = e ∙ (let z : 0 + sum_by (λ y. cond (p y) 1 0) xs ≡ sum_by (λ y. cond (p y) 1 0) xs = omega arith in ap (ltb 0) (sym z))

pub any_permuted : {X : Type 0} (p : X → Bool) (xs ys : List X) → IsPermutation xs ys → list_any p ys ≡ list_any p xs
any_permuted p xs ys e = any_sum p ys ∙ ap (ltb 0) (sum_by-IsPermutation (λ x. cond (p x) 1 0) xs ys e) ∙ sym (any_sum p xs)

pub any_heads : (p : KeyHead → Bool) (rs : List KeyedRecord) → list_any p (record_heads rs) ≡ list_any (λ r. p r.head) rs
any_heads p [] = refl
any_heads p (r ∷ rs) = ap (λ (b : Bool). p r.head || b) (any_heads p rs)

-- a head that is put is the last of some others
pub moved_with : (before old new : List KeyHead) (head : KeyHead) → IsPermutation before old → new ≡ with_head head old → IsPermutation (before ++ head ∷ []) new
moved_with before old new head moved is =
    let front = IsPermutation-to_front before head in
    let inner = IsPermutation-cons head before old moved in
    let all = IsPermutation-trans (before ++ head ∷ []) (head ∷ old) (with_head head old) (IsPermutation-trans (before ++ head ∷ []) (head ∷ before) (head ∷ old) front inner) (with_moved head old) in
    subst (IsPermutation (before ++ head ∷ [])) (sym is) all

pub only_reason : (b : Bool) (p : ℕ) (reason : Reason) → b ≡ true → slice_get (reason_if b p reason) 0 ≡ Some (reason_at p reason)
only_reason true p reason e = refl
only_reason false p reason e = absurd cc

-- the reasons against a key: those of its name, those of its value, those behind
pub key_parts : (beside : Beside) (before : List KeyedRecord) (r : KeyedRecord)
    → (reason_if (not (is_item_text r.head.name)) r.head.seek BadName ++ reason_if (not (length r.head.title == 0)) r.head.seek BadKey)
    ++ (value_reasons beside r ++ item_reasons beside before r) ≡ key_reasons beside before r
key_parts beside before r =
    six (reason_if (not (is_item_text r.head.name)) r.head.seek BadName) (reason_if (not (length r.head.title == 0)) r.head.seek BadKey)
    (reason_if (is_bad_object beside r) r.head.seek BadObject) (reason_if (is_bad_tree beside r) r.head.seek BadTree)
    (reason_if (list_any (has_item (item_of_key r.head)) before) r.head.seek DoubleKey) (reason_if (is_mixed_name beside.tops r.head.name) r.head.seek MixedName)
  where
    six : (a b c d e f : List ReasonAt) → (a ++ b) ++ ((c ++ d) ++ (e ++ f)) ≡ ((((a ++ b) ++ c) ++ d) ++ e) ++ f
    six a b c d e f = simp append_assoc

-- ---- one key after the other

-- the keys up to an index are checked: no reason is against them
pub record SoFar (beside : Beside) (records : List KeyedRecord) (k : ℕ) (check : KeyCheck) : Type 0 where
  pub left : keys_reasons beside (top_keys (take k records)) (top_keys (drop k records)) ≡ keys_reasons beside [] (top_keys records)
  pub checking : IsChecking beside (top_keys (take k records)) check

module _ (file : List ℕ) (beside : Beside) (records : List KeyedRecord) (k : ℕ) (head : KeyHead) (r : RecordAtIndex file records k head) where
  pub skipped : (check : KeyCheck) → is_top_key head ≡ false → SoFar beside records k check → SoFar beside records (k + 1) check
  skipped check top sofar =
      let before = before_other file records k head r top in
      let behind = behind_other file records k head r top in
      record {
        left = (λ i. keys_reasons beside (before i) (sym behind i)) ∙ sofar.left;
        checking = subst (λ (rs : List KeyedRecord). IsChecking beside rs check) (sym before) sofar.checking;
      }

  -- the reasons from this key on
  pub from_here : (check : KeyCheck) → is_top_key head ≡ true → SoFar beside records k check
      → key_reasons beside (top_keys (take k records)) r.item ++ keys_reasons beside (top_keys (take k records) ++ r.item ∷ []) (top_keys (drop (k + 1) records)) ≡ keys_reasons beside [] (top_keys records)
  from_here check top sofar = ap (keys_reasons beside (top_keys (take k records))) (sym (behind_top file records k head r top)) ∙ sofar.left

  pub checked : (old check : KeyCheck) → is_top_key head ≡ true → SoFar beside records k old
      → key_reasons beside (top_keys (take k records)) r.item ≡ [] → IsChecking beside (top_keys (take k records) ++ r.item ∷ []) check → SoFar beside records (k + 1) check
  checked old check top sofar none checking =
      let before = before_top file records k head r top in
      record {
        left =
            ap (λ (rs : List KeyedRecord). keys_reasons beside rs (top_keys (drop (k + 1) records))) before
            ∙ ap (λ (xs : List ReasonAt). xs ++ keys_reasons beside (top_keys (take k records) ++ r.item ∷ []) (top_keys (drop (k + 1) records))) (sym none)
            ∙ from_here old top sofar;
        checking = subst (λ (rs : List KeyedRecord). IsChecking beside rs check) (sym before) checking;
      }

  pub refused : {X : Type 0} (old : KeyCheck) (e : RecoverFault) (P : X → Type 0) (Q : Unit {0} → Type 0) → is_top_key head ≡ true → SoFar beside records k old
      → Judges (Err e) (key_reasons beside (top_keys (take k records)) r.item) Q → Judges {X = X} (Err e) (keys_reasons beside [] (top_keys records)) P
  refused {X = X} old e P Q top sofar judged =
      let all = from_here old top sofar in
      judges_same {X = X} (Err e) (key_reasons beside (top_keys (take k records)) r.item ++ keys_reasons beside (top_keys (take k records) ++ r.item ∷ []) (top_keys (drop (k + 1) records))) (keys_reasons beside [] (top_keys records)) P all
      (judges_on e (key_reasons beside (top_keys (take k records)) r.item) (keys_reasons beside (top_keys (take k records) ++ r.item ∷ []) (top_keys (drop (k + 1) records))) Q P judged)

pub all_checked : (beside : Beside) (records : List KeyedRecord) (k : ℕ) (check : KeyCheck) → length records ≤ k → SoFar beside records k check
    → (keys_reasons beside [] (top_keys records) ≡ []) × IsChecking beside (top_keys records) check
all_checked beside records k check le sofar =
    let none : drop k records ≡ [] = drop_all k records le in
    let all : take k records ≡ records = take_all k records le in (
      sym sofar.left ∙ ap (λ (rs : List KeyedRecord). keys_reasons beside (top_keys (take k records)) (top_keys rs)) none,
      subst (λ (rs : List KeyedRecord). IsChecking beside (top_keys rs) check) all sofar.checking,
    )

-- ---- a loop over the keys

-- what the loop knows
pub record KeysSoFar (start now : View) (classes : ListedClasses) (heads : List KeyHead) (k : ℕ) (check : KeyCheck) : Type 0 where
  pub calls : OnlyReads start now
  pub calm : now.disk_faults ≡ start.disk_faults
  pub checked : HasChecked heads (filter is_top_key (take k heads)) check
  pub told : (file : List ℕ) (records : List KeyedRecord) → start.holds ≡ Some file → IsBesideOf file classes heads (beside_of classes records)
      → SoFar (beside_of classes records) records k check

-- before the first key nothing is known but the names
pub record IsFresh (heads : List KeyHead) (check : KeyCheck) : Type 0 where
  pub names : IndexesNames (top_keys (keyed_by heads)) check.names
  pub items : check.items.heads ≡ []
  pub outdated : check.outdated.heads ≡ []
  pub trees : check.trees ≡ []
  pub named : HasPlaces [] check.named

none_left : {X : Type 0} (xs : List X) → xs ≡ [] → IsPermutation [] xs
none_left xs e = subst (IsPermutation []) (sym e) (IsPermutation-refl [])

pub none_checked : (classes : ListedClasses) (heads : List KeyHead) (check : KeyCheck) (records : List KeyedRecord) → IsFresh heads check
    → heads ≡ record_heads records → SoFar (beside_of classes records) records 0 check
none_checked classes heads check records fresh same =
    let tops : top_keys (keyed_by heads) ≡ keyed_again (top_keys records) = ap (λ (hs : List KeyHead). top_keys (keyed_by hs)) same ∙ top_keyed records in
    let moved = subst (λ (ts : List KeyedRecord). IndexesNames ts check.names) tops fresh.names in
    record {
      left = refl;
      checking = record {
        keys = record {
          names = record {
            of_trees = λ test. moved.of_trees test ∙ any_keyed (λ h. test (item_of_key h) && is_tree_key h) (top_keys records);
            of_objects = λ test. moved.of_objects test ∙ any_keyed (λ h. test (item_of_key h) && not (is_tree_key h)) (top_keys records);
          };
          items = none_left check.items.heads fresh.items;
          outdated = none_left check.outdated.heads fresh.outdated;
        };
        trees = none_left check.trees fresh.trees;
        named = fresh.named;
        plain = All-nil AreDataBytes;
      };
    }

pub fresh_checked : (heads : List KeyHead) (check : KeyCheck) → IsFresh heads check → HasChecked heads [] check
fresh_checked heads check fresh = record {
  names = fresh.names;
  items = none_left check.items.heads fresh.items;
  untitled = ap (list_all is_untitled) fresh.items;
  trees = subst (λ (ts : List TreeAt). IsPermutation [] (map (λ t. t.name) ts)) (sym fresh.trees) (IsPermutation-refl []);
  heads_are = subst (λ (ts : List TreeAt). All (λ t. AreWholeBranches t.head) ts) (sym fresh.trees) (All-nil (λ t. AreWholeBranches t.head));
  baskets = subst (λ (ts : List TreeAt). All (λ t. has_baskets heads t.head ≡ true) ts) (sym fresh.trees) (All-nil (λ t. has_baskets heads t.head ≡ true));
  named = subst (λ (ts : List TreeAt). HasPlaces (places_of ts) check.named) (sym fresh.trees) fresh.named;
  once = λ p. subst (λ (ts : List TreeAt). count_by (λ q. p == q) (places_of ts) ≤ 1) (sym fresh.trees) (omega arith);
}

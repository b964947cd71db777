-- A loop over the keys of a file that checks those of objects and trees.
use Rattle.std.proofs.Common.{◌≡◌, ◌∙◌, ℕ, ◌+◌, ◌<◌, List, [], ◌∷◌, ◌++◌, length, take, get_or, Bool, true, false, cond, Some, Err, refl, sym, ap, subst}
use Rattle.std.proofs.lemmas.List.{append-nil, take_more, Elements.{filter-append}}
use Rattle.std.specs.List.{filter}
use Rattle.rio_host.specs.{Host.{View}, OnlyReads.{OnlyReads}}
use Rattle.rio_host.proofs.ReadsLaws.{reads_none}
use Rattle.rio_key.specs.declared.head.KeyHead.{KeyHead}
use Rattle.rio_state.specs.{KeyedRecords.{KeyedRecord, is_top_key, top_keys}, Reasons.{Beside, key_reasons, keys_reasons}}
use Rattle.rio_recover.specs.{Causes.{Judges}, Checks.{HasChecked, IsBesideOf, IsChecking, IsNext, beside_of}, Keys.{HeadsRise, record_heads}}
use Rattle.rio_recover.specs.{declared.classes.ListedClasses.{ListedClasses}, declared.fault.RecoverFault.{RecoverFault}, declared.judge.KeyCheck.{KeyCheck}}
use Rattle.rio_recover.proofs.{Checking.{IsFresh, KeysSoFar, checked, fresh_checked, none_checked, refused, skipped}, NextKeys.{next_key}, Numbered.{RecordAtIndex, record_at}}

pub keys_begin : (start : View) (classes : ListedClasses) (heads : List KeyHead) (check : KeyCheck) → IsFresh heads check → KeysSoFar start start classes heads 0 check
keys_begin start classes heads check fresh = record {
  calls = reads_none start;
  calm = refl;
  checked = fresh_checked heads check fresh;
  told = λ file records holds beside. none_checked classes heads check records fresh beside.heads_are;
}

module _ (start now : View) (classes : ListedClasses) (heads : List KeyHead) (rise : HeadsRise 0 heads) (k : ℕ) (old : KeyCheck) (sofar : KeysSoFar start now classes heads k old) (head : KeyHead) (lt : k < length heads)
    (is : head ≡ get_or heads k head) where
  record_here : (file : List ℕ) (records : List KeyedRecord) → heads ≡ record_heads records → RecordAtIndex file records k head
  record_here file records same =
      record_at file records k head (subst (λ (hs : List KeyHead). k < length hs) same lt) (subst (λ (hs : List KeyHead). head ≡ get_or hs k head) same is)

  -- the items up to the next index
  next : (top : Bool) → is_top_key head ≡ top → filter is_top_key (take (k + 1) heads) ≡ filter is_top_key (take k heads) ++ cond top (head ∷ []) []
  next top kind =
      ap (filter is_top_key) (take_more heads k head lt ∙ ap (λ (h : KeyHead). take k heads ++ h ∷ []) (sym is))
      ∙ filter-append is_top_key (take k heads) (head ∷ [])
      ∙ ap (λ (b : Bool). filter is_top_key (take k heads) ++ cond b (head ∷ []) []) kind

  pub keys_skip : is_top_key head ≡ false → KeysSoFar start now classes heads (k + 1) old
  keys_skip top = record {
    calls = sofar.calls;
    calm = sofar.calm;
    checked = subst (λ (hs : List KeyHead). HasChecked heads hs old) (sym (next false top ∙ append-nil (filter is_top_key (take k heads)))) sofar.checked;
    told = λ file records holds beside. skipped file (beside_of classes records) records k head (record_here file records beside.heads_are) old top (sofar.told file records holds beside);
  }

  -- what a step tells of the next record
  abbrev TellsStep : (Beside → List KeyedRecord → KeyedRecord → Type 0) → Type 0
  TellsStep Q =
      (file : List ℕ) (beside : Beside) (before : List KeyedRecord) (r : KeyedRecord) → now.holds ≡ Some file → IsBesideOf file classes heads beside → IsNext beside before r → r.head ≡ head
      → IsChecking beside before old → Q beside before r

  pub keys_pass : (new : View) (check : KeyCheck) → is_top_key head ≡ true → OnlyReads start new → new.disk_faults ≡ start.disk_faults
      → ((before : List KeyHead) → HasChecked heads before old → HasChecked heads (before ++ head ∷ []) check)
      → TellsStep (λ beside before r. (key_reasons beside before r ≡ []) × IsChecking beside (before ++ r ∷ []) check)
      → KeysSoFar start new classes heads (k + 1) check
  keys_pass new check top calls calm more told = record {
    calls = calls;
    calm = calm;
    checked = subst (λ (hs : List KeyHead). HasChecked heads hs check) (sym (next true top)) (more (filter is_top_key (take k heads)) sofar.checked);
    told = λ file records holds beside.
        let r = record_here file records beside.heads_are in
        let before = sofar.told file records holds beside in
        let up = subst (HeadsRise 0) beside.heads_are rise in
        let j = told file (beside_of classes records) (top_keys (take k records)) r.item (sofar.calls.holds ∙ holds) beside (next_key file classes records k head r up top) r.head_is before.checking in
        checked file (beside_of classes records) records k head r old check top before j.0 j.1;
  }

  pub keys_refuse : {X : Type 0} (e : RecoverFault) (P : X → Type 0) (Q : Beside → List KeyedRecord → KeyedRecord → Unit {0} → Type 0) → is_top_key head ≡ true
      → TellsStep (λ beside before r. Judges {X = Unit {0}} (Err e) (key_reasons beside before r) (Q beside before r))
      → (file : List ℕ) (records : List KeyedRecord) → start.holds ≡ Some file → IsBesideOf file classes heads (beside_of classes records)
      → Judges {X = X} (Err e) (keys_reasons (beside_of classes records) [] (top_keys records)) P
  keys_refuse {X = X} e P Q top told file records holds beside =
      let r = record_here file records beside.heads_are in
      let before = sofar.told file records holds beside in
      let up = subst (HeadsRise 0) beside.heads_are rise in
      let j = told file (beside_of classes records) (top_keys (take k records)) r.item (sofar.calls.holds ∙ holds) beside (next_key file classes records k head r up top) r.head_is before.checking in
      refused file (beside_of classes records) records k head r {X = X} old e P (Q (beside_of classes records) (top_keys (take k records)) r.item) top before j

-- by what the step left
pub keys_moved : (start : View) (classes : ListedClasses) (heads : List KeyHead) (k : ℕ) {now new : View} {check left : KeyCheck} → new ≡ now → left ≡ check → KeysSoFar start now classes heads (k + 1) check
    → KeysSoFar start new classes heads (k + 1) left
keys_moved start classes heads k {now} {new} {check} {left} moved is sofar =
    subst (λ (v : View). KeysSoFar start v classes heads (k + 1) left) (sym moved) (subst (KeysSoFar start now classes heads (k + 1)) (sym is) sofar)

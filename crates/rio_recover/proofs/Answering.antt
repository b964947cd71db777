-- What a recovery answers, by what was walked and what was judged.
use Rattle.std.proofs.Common.{◌≡◌, inr, inl, ◌∙◌, ℕ, List, [], ◌++◌, Bool, true, false, cond, MatchBool, Option, Some, None, Result, Ok, Err, refl, sym, ap, subst, slice_get}
use Rattle.rio_head.specs.{Form.{is_large_head}, Head.{fault_at, head_at}, declared.fault.FileFault.{FileFault}, declared.fault.HeadFault.{HeadFault}}
use Rattle.rio_head.specs.{declared.head.FileHead.{FileHead}, declared.reason.Reason.{Reason, TheVariants.{LargeForm, NoChain}}}
use Rattle.rio_chain.specs.Segments.{BreaksAt, IsChain, Link}
use Rattle.rio_chain.proofs.OneChain.{chain_one}
use Rattle.rio_dir.specs.{Closed.{fault_of}, Table.{AreOrdered}, Unborn.{header_fault, is_unborn}}
use Rattle.rio_machine.specs.State.{State, empty_state}
use Rattle.rio_state.proofs.{OneReason.{reason_one}, StateFound.{state_found}}
use Rattle.rio_state.specs.{Closing.{item_heads}, Contents.{HasStateClasses, state_classes}, DirectoryKeys.{AreKeysOf}, KeyedRecords.{KeyedRecord, info_key, keyed_records, top_keys}, Reads.{ReadsAsMade, ReadsAsState}}
use Rattle.rio_key.specs.declared.head.KeyHead.{KeyHead}
use Rattle.std.specs.List.Sorted.{IsPermutation}
use Rattle.std.proofs.lemmas.List.Sorted.{Contains-permutation, IsPermutation-sym}
use Rattle.rio_state.specs.Reasons.{IsFirstReason, IsReasonOfMade, IsReasonOfSmall, ReasonAt, reason_at, room_reasons, state_reasons}
use Rattle.rio_recover.specs.{Recovered.{AreItemsOf, IsAnswer, IsKeptOf, JudgesLinks, TellsAll, TellsFault}, Walked.{IsSmallHead, IsWalked, JudgesWalk}}
use Rattle.rio_recover.specs.declared.fault.RecoverFault.{RecoverFault, TheVariants.{BadFile, ReadOnly, NoMemory, HostFault}}
use Rattle.rio_recover.specs.{declared.recovery.Recovered.{Recovered}, declared.walked.Walked.{Walked}}
use Rattle.rio_recover.specs.TreeTable.{AreInOrder}

-- ---- a file that is made

module _ (file : List ℕ) (made : is_unborn file ≡ false) where
  pub fault_made : header_fault file ≡ fault_of (head_at file)
  fault_made = ap (λ (b : Bool). cond b None (fault_of (head_at file))) made

  pub no_fault : (head : FileHead) → head_at file ≡ Ok head → header_fault file ≡ None
  no_fault head is = fault_made ∙ ap fault_of is

  pub one_fault : (place : ℕ) (kind : FileFault) → head_at file ≡ Err (fault_at place kind) → header_fault file ≡ Some (fault_at place kind)
  one_fault place kind is = fault_made ∙ ap fault_of is

  pub first_made : (found : Option ReasonAt) → IsReasonOfMade file found → IsFirstReason file found
  first_made found is = subst (λ (b : Bool). MatchBool b (found ≡ None) (IsReasonOfMade file found)) (sym made) is

  pub state_made : (m : State) → ReadsAsState file m → ReadsAsMade file m
  state_made m is = subst (λ (b : Bool). MatchBool b (m ≡ empty_state) (ReadsAsMade file m)) made is

-- ---- reasons

pub reason_small : (file : List ℕ) (head : FileHead) (found : Option ReasonAt) → IsSmallHead file head → IsReasonOfSmall file found → IsReasonOfMade file found
reason_small file head found small is = record {
  head = head;
  head_is = small.head_is;
  reason = subst (λ (b : Bool). MatchBool b (found ≡ Some (reason_at 4 LargeForm)) (IsReasonOfSmall file found)) (sym small.small) is;
}

pub reason_large : (file : List ℕ) (head : FileHead) → head_at file ≡ Ok head → is_large_head head.version ≡ true → IsReasonOfMade file (Some (reason_at 4 LargeForm))
reason_large file head is large = record {
  head = head;
  head_is = is;
  reason = subst (λ (b : Bool). MatchBool b (Some (reason_at 4 LargeForm) ≡ Some (reason_at 4 LargeForm)) (IsReasonOfSmall file (Some (reason_at 4 LargeForm)))) (sym large) refl;
}

pub reason_broken : (file : List ℕ) (head : FileHead) (place : ℕ) → IsSmallHead file head → BreaksAt place file → IsReasonOfMade file (Some (reason_at place NoChain))
reason_broken file head place small breaks = reason_small file head (Some (reason_at place NoChain)) small (inl (place, breaks, refl))

abbrev pub first_of : List Link → Bool → Option ReasonAt
first_of links listed = slice_get (state_reasons listed (keyed_records links) ++ room_reasons links) 0

pub reason_chain : (file : List ℕ) (head : FileHead) (links : List Link) (listed : Bool) (found : Option ReasonAt) → IsSmallHead file head → IsChain links file
    → MatchBool listed (HasStateClasses (info_key (keyed_records links))) (¬ HasStateClasses (info_key (keyed_records links)))
    → found ≡ first_of links listed → IsReasonOfMade file found
reason_chain file head links listed found small chain told first =
    reason_small file head found small (inr (record { links = links; chain = chain; listed = listed; listed_is = told; first = first }))

-- ---- what is recovered

keys_of : (records : List KeyedRecord) (heads : List KeyHead) → AreOrdered heads → IsPermutation (item_heads (top_keys records)) heads → AreKeysOf records heads
keys_of records heads ordered moved = record {
  ordered = ordered;
  each = λ head. (
    (λ c. Contains-permutation heads (item_heads (top_keys records)) head (IsPermutation-sym (item_heads (top_keys records)) heads moved) c),
    (λ c. Contains-permutation (item_heads (top_keys records)) heads head moved c),
  );
}

module _ (file : List ℕ) (made : is_unborn file ≡ false) (walked : Walked) (is : IsWalked file walked) where
  first_none : (r : Recovered) → AreItemsOf (keyed_records is.links) r.registry r.table.heads r.trees → room_reasons is.links ≡ [] → IsFirstReason file None
  first_none r items room =
      first_made file made None (reason_chain file is.head is.links true None is.small is.chain.chain items.listed
      (sym (λ i. slice_get (items.none i ++ room i) 0)))

  pub recovered : (r : Recovered) → IsKeptOf walked r → AreOrdered r.table.heads → AreInOrder r.trees → JudgesLinks (Ok r) is.links → IsAnswer (Ok r) file
  recovered r kept ordered named judged =
      let items = judged.0 in
      let none = first_none r items judged.1 in
      let found = state_found file None none tt in
      let m = found.0 in
      let reads = state_made file made m found.1 in
      let same : reads.links ≡ is.links = chain_one file reads.links is.links reads.chain is.chain.chain in
      let classes : r.registry ≡ m.classes =
      items.classes_are ∙ ap (λ (ls : List Link). state_classes (info_key (keyed_records ls))) (sym same) ∙ sym reads.records.stand.classes in (
        record {
          m = m;
          reads = found.1;
          links = is.links;
          chain = record { chain = is.chain.chain; same = kept.segments ∙ is.chain.same };
          classes = classes;
          keys = keys_of (keyed_records is.links) r.table.heads ordered items.heads_are;
          trees = record { ordered = named; each = items.trees_are };
          headers = items.headers;
          info = judged.2.info;
          garbage = judged.2.garbage;
          name = judged.2.name;
          head = is.head;
          head_is = is.small.head_is;
          nbytes_name = kept.nbytes_name ∙ is.nbytes_name;
        },
        no_fault file made is.head is.small.head_is,
        none,
      )

  pub refused : (e : RecoverFault) → JudgesLinks (Err e) is.links → IsAnswer (Err e) file
  refused (BadFile place kind) judged = absurd judged
  refused (ReadOnly place reason) judged = (
    no_fault file made is.head is.small.head_is,
    first_made file made (Some (reason_at place reason))
        (reason_chain file is.head is.links judged.0 (Some (reason_at place reason)) is.small is.chain.chain judged.1 (sym judged.2)),
  )
  refused NoMemory judged = tt
  refused HostFault judged = tt

-- ---- a walk that is refused

pub walk_refused : (file : List ℕ) (e : RecoverFault) → is_unborn file ≡ false → JudgesWalk (Err e) file → IsAnswer (Err e) file
walk_refused file (BadFile place kind) made judged = one_fault file made place kind judged
walk_refused file (ReadOnly place reason) made judged = (no_fault file made judged.head judged.head_is, first_made file made (Some (reason_at place reason)) judged)
walk_refused file NoMemory made judged = tt
walk_refused file HostFault made judged = tt

-- ---- both directions

none_fault : (place : ℕ) (kind : FileFault) (o : Option HeadFault) → o ≡ None → o ≡ Some (fault_at place kind) → ⊥
none_fault place kind o a b = cc

tells_fault : (file : List ℕ) (result : Result Recovered RecoverFault) → IsAnswer result file → (place : ℕ) (kind : FileFault) → header_fault file ≡ Some (fault_at place kind)
    → TellsFault result (BadFile place kind)
tells_fault file (Ok r) is place kind e = none_fault place kind (header_fault file) is.1 e
tells_fault file (Err (BadFile p k)) is place kind e = let same : fault_at p k ≡ fault_at place kind = cc in λ i. BadFile (same i).place (same i).kind
tells_fault file (Err (ReadOnly p r)) is place kind e = absurd (none_fault place kind (header_fault file) is.0 e)
tells_fault file (Err NoMemory) is place kind e = tt
tells_fault file (Err HostFault) is place kind e = tt

tells_reason : (file : List ℕ) (result : Result Recovered RecoverFault) → IsAnswer result file → (place : ℕ) (reason : Reason) → header_fault file ≡ None
    → IsFirstReason file (Some (reason_at place reason)) → TellsFault result (ReadOnly place reason)
tells_reason file (Ok r) is place reason none e = let same = reason_one file None (Some (reason_at place reason)) is.2 e in cc
tells_reason file (Err (BadFile p k)) is place reason none e = absurd (none_fault p k (header_fault file) none is)
tells_reason file (Err (ReadOnly p r)) is place reason none e =
    let same : Some (reason_at p r) ≡ Some (reason_at place reason) = reason_one file (Some (reason_at p r)) (Some (reason_at place reason)) is.1 e in
    let one : reason_at p r ≡ reason_at place reason = cc in λ i. ReadOnly (one i).place (one i).reason
tells_reason file (Err NoMemory) is place reason none e = tt
tells_reason file (Err HostFault) is place reason none e = tt

pub tells_all : (file : List ℕ) (result : Result Recovered RecoverFault) → IsAnswer result file → TellsAll result file
tells_all file result is = record { fault = tells_fault file result is; reason = tells_reason file result is }

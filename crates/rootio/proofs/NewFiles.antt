-- A verb that looks at a file before it does anything.
use Rattle.std.proofs.Common.{◌≡◌, ◌∙◌, inl, inr, ⊎_elim, ℕ, Bool, false, cond, List, [], Option, None, Some, Result, Ok, Err, MatchBool, subst, take, sym, refl, ap, arith}
use Rattle.rio_chain.specs.Walks.{Told}
use Rattle.rio_dir.specs.{Closed.{fault_of}, Unborn.{header_fault, is_unborn}}
use Rattle.rio_head.specs.{declared.fault.FileFault.{FileFault}, declared.fault.HeadFault.{HeadFault}, declared.head.FileHead.{FileHead}, declared.reason.Reason.{Reason, TheVariants.{NotNew}}, Head.{fault_at, head_at}}
use Rattle.rio_head.proofs.HeadCut.{head_in_front}
use Rattle.rio_host.specs.{Host.{Any, Becomes, Elapses, IsLawful, Rose, View}, OnlyReads.{OnlyReads}}
use Rattle.rio_host.proofs.ReadsLaws.{reads_join}
use Rattle.rio_report.specs.FirstFault.{HeaderAlone}
use Rattle.rio_session.specs.Opening.{opening_length}
use Rattle.rio_session.proofs.{OpenAnswers.{reads_quiet, reads_told}, Spoken.{front_none}}
use Rattle.rio_state.specs.Reasons.{ReasonAt, reason_at}
use Rattle.rootio.specs.{Generating.{RefusesMade}, Headline.{IsStopOf, ScriptRun, all_texts}, Reading.{RefusesBroken, TellsFirstFault}}
use Rattle.rootio.specs.{Script.{IsFileCause, RunsWork}, Target.{TargetFile}, declared.words.Form.TheVariants.{Writes}, declared.words.Work.{Work, TheVariants.{Generate}}}
use Rattle.rootio.specs.Writing.{Beginning, BeginsRun, EndsUnclosed, IsFirstReasonFor, RefusesReadOnly, TellsFirstReason, not_new, run_of_work}
use Rattle.rootio.specs.declared.status.Status.{Status, TheVariants.{Done, Usage, BadFile, DiskFault, InputFault, NoMemory, InputTooLong, ReadOnly, SayFault}}
use Rattle.rootio.proofs.{Room.{silent_room}, Scripts.{says_none}}

-- ---- looking, and then something

module _ (v0 v1 : View) (calls : OnlyReads v0 v1) (law : IsLawful v0) where
  -- looking leaves nothing else
  looks_elapse : (P : List ℕ → List ℕ → Type 0) → Elapses v0 v1 P
  looks_elapse P = record {
    later = calls.time.later;
    nothing_else = λ t image said le left. inl (⊎_elim (λ was. was) (λ now. law.earlier t v0.now image said le now) (calls.time.nothing_else t image said le left));
    keeps = calls.time.keeps;
  }

  looks_then : (v2 : View) (P : List ℕ → List ℕ → Type 0) → Elapses v1 v2 P → Elapses v0 v2 P
  looks_then v2 P time = record {
    later = let a = calls.time.later in let b = time.later in omega (arith, a, b);
    nothing_else = λ t image said le left.
        let a = calls.time.later in
        ⊎_elim (λ was. inl (⊎_elim (λ before. before) (λ now. law.earlier t v0.now image said le now) (calls.time.nothing_else t image said le was))) (λ p. inr p)
        (time.nothing_else t image said (omega (arith, le, a)) left);
    keeps = λ t image said le left. let a = calls.time.later in time.keeps t image said (omega (arith, le, a)) (calls.time.keeps t image said le left);
  }

-- ---- nothing but looking

module _ (work : Work) (input : List ℕ) (v0 v1 : View) (status : Status) (calls : OnlyReads v0 v1) (law : IsLawful v0) where
  pub looked_only : (status ≡ Done → ⊥) → ((run : ScriptRun) (file before : List ℕ) → v1.said ≡ Some before → EndsUnclosed work run file before v0 v1 status)
      → TellsFirstFault HeaderAlone v0 status → RefusesBroken HeaderAlone v0 status → TellsFirstReason (Writes work) v0 status → RefusesReadOnly (Writes work) v0 status → IsFileCause v0 v1 status
      → RunsWork work input v0 v1 status
  looked_only not_done unclosed faults broken reasons read_only cause = record {
    stops = λ b begins is. looks_elapse v0 v1 calls law (IsStopOf (run_of_work work b) b.file b.text);
    said = λ b begins is. front_none v0 v1 b.text (all_texts (run_of_work work b)) begins.said calls.said;
    room = λ b begins is. silent_room (opening_length b.file) (run_of_work work b) b.text v1 (calls.said ∙ begins.said);
    done = λ b begins is ended. absurd (not_done ended);
    written = λ b begins is ended. absurd (not_done ended);
    unclosed = λ b begins is. unclosed (run_of_work work b) b.file b.text (calls.said ∙ begins.said);
    told = reads_told v0 v1 calls;
    faults = faults;
    broken = broken;
    reasons = reasons;
    read_only = read_only;
    spares = record {
      answer = λ refuses. calls;
      file = λ file here. record { broken = λ fault e. calls; reason = λ against e. calls };
      reason = λ file against here e. calls;
    };
    cause = cause;
  }

-- ---- looking, and then the run

module _ (work : Work) (input : List ℕ) (v0 v1 v2 : View) (status : Status) (calls : OnlyReads v0 v1) (law : IsLawful v0) (law1 : IsLawful v1) (calm : v1.disk_faults ≡ v0.disk_faults) (runs : RunsWork work input v1 v2 status) where
  begins_later : (b : Beginning) → BeginsRun work b v0 → BeginsRun work b v1
  begins_later b begins = record {
    quiet = reads_quiet v0 v1 law1 begins.quiet calls;
    holds = calls.holds ∙ begins.holds;
    said = calls.said ∙ begins.said;
    reads = begins.reads;
    begins = begins.begins;
    listing = begins.listing;
  }

  unclosed_later : (run : ScriptRun) (file before : List ℕ) (end : Status) → EndsUnclosed work run file before v1 v2 end → EndsUnclosed work run file before v0 v2 end
  unclosed_later run file before Done ends = tt
  unclosed_later run file before Usage ends = tt
  unclosed_later run file before (BadFile place kind) ends = tt
  unclosed_later run file before DiskFault ends =
      ⊎_elim (λ stopped. inl (⊎_elim (λ only. inl (reads_join law1 calls only)) (λ leaves. inr leaves) stopped.0, stopped.1)) (λ other. inr other) ends
  unclosed_later run file before InputFault ends = tt
  unclosed_later run file before NoMemory ends = ⊎_elim (λ stopped. inl (reads_join law1 calls stopped.0, stopped.1)) (λ other. inr other) ends
  unclosed_later run file before InputTooLong ends = tt
  unclosed_later run file before (ReadOnly place reason) ends = tt
  unclosed_later run file before SayFault ends = ends

  cause_later : (end : Status) → IsFileCause v1 v2 end → IsFileCause v0 v2 end
  cause_later Done c = (c.0 ∙ calm, c.1 ∙ calls.say_faults)
  cause_later Usage c = c
  cause_later (BadFile place kind) c = (c.0, c.1 ∙ calm, c.2 ∙ calls.say_faults)
  cause_later DiskFault c = (rw (← calm) c.0, c.1 ∙ calls.say_faults)
  cause_later InputFault c = c
  cause_later NoMemory c = (c.0 ∙ calm, c.1 ∙ calls.say_faults)
  cause_later InputTooLong c = c
  cause_later (ReadOnly place reason) c = (c.0 ∙ calm, c.1 ∙ calls.say_faults)
  cause_later SayFault c = (c.0 ∙ calm, rw (← calls.say_faults) c.1)

  there : (file : List ℕ) → v0.holds ≡ Some file → v1.holds ≡ Some file
  there file here = calls.holds ∙ here

  pub looked_and_ran : RunsWork work input v0 v2 status
  looked_and_ran = record {
    stops = λ b begins is. looks_then v0 v1 calls law v2 (IsStopOf (run_of_work work b) b.file b.text) (runs.stops b (begins_later b begins) is);
    said = λ b begins is. runs.said b (begins_later b begins) is;
    room = λ b begins is. runs.room b (begins_later b begins) is;
    done = λ b begins is ended. runs.done b (begins_later b begins) is ended;
    written = λ b begins is ended. runs.written b (begins_later b begins) is ended;
    unclosed = λ b begins is. unclosed_later (run_of_work work b) b.file b.text status (runs.unclosed b (begins_later b begins) is);
    told = subst (λ (o : Option (List ℕ)). Becomes Any o v2.holds) calls.holds runs.told;
    faults = λ place kind e file here. runs.faults place kind e file (there file here);
    broken = λ fault file here e. runs.broken fault file (there file here) e;
    reasons = λ place reason e file here. runs.reasons place reason e file (there file here);
    read_only = λ against file here e. runs.read_only against file (there file here) e;
    spares = record {
      answer = λ refuses. reads_join law1 calls (runs.spares.answer refuses);
      file = λ file here.
          let s = runs.spares.file file (there file here) in
          record { broken = λ fault e. reads_join law1 calls (s.broken fault e); reason = λ against e. reads_join law1 calls (s.reason against e) };
      reason = λ file against here e. reads_join law1 calls (runs.spares.reason file against (there file here) e);
    };
    cause = cause_later status runs.cause;
  }

-- ---- a generated file that is made

-- the header is read of the first 100 bytes
pub head_read : (file front : List ℕ) → front ≡ take 100 file → (r : Result FileHead HeadFault) → r ≡ head_at front → head_at file ≡ r
head_read file front is r e = sym (head_in_front file) ∙ ap head_at (sym is) ∙ sym e

fault_if_made : (file : List ℕ) (fault : HeadFault) → is_unborn file ≡ false → head_at file ≡ Err fault → header_fault file ≡ Some fault
fault_if_made file fault made read =
    ap (λ (b : Bool). let o : Option HeadFault = cond b None (fault_of (head_at file)) in o) made ∙ ap fault_of read

none_if_made : (file : List ℕ) (head : FileHead) → is_unborn file ≡ false → head_at file ≡ Ok head → header_fault file ≡ None
none_if_made file head made read =
    ap (λ (b : Bool). let o : Option HeadFault = cond b None (fault_of (head_at file)) in o) made ∙ ap fault_of read

-- the one reason against it
only_new : (file : List ℕ) (against : Option ReasonAt) → is_unborn file ≡ false → MatchBool (is_unborn file) (against ≡ None) (against ≡ Some not_new) → against ≡ Some not_new
only_new file against made e = subst (λ (b : Bool). MatchBool b (against ≡ None) (against ≡ Some not_new)) made e

new_against : (file : List ℕ) → is_unborn file ≡ false → MatchBool (is_unborn file) (◌≡◌ {A = Option ReasonAt} (Some not_new) None) (◌≡◌ {A = Option ReasonAt} (Some not_new) (Some not_new))
new_against file made = subst (λ (b : Bool). MatchBool b (◌≡◌ {A = Option ReasonAt} (Some not_new) None) (◌≡◌ {A = Option ReasonAt} (Some not_new) (Some not_new))) (sym made) refl

module _ (target : TargetFile) (entries : ℕ) (v0 v1 : View) (calls : OnlyReads v0 v1) (law : IsLawful v0) where
  -- a call on the file failed
  pub look_failed : Rose v0.disk_faults v1.disk_faults → RunsWork (Generate target entries) [] v0 v1 DiskFault
  look_failed rose =
      looked_only (Generate target entries) [] v0 v1 DiskFault calls law (λ e. absurd cc) (λ run file before said. inl (inl calls, says_none run before v1 said))
      (λ place kind e file here. absurd cc) (λ fault file here e. tt) (λ place reason e file here. absurd cc) (λ against file here e. tt)
      (rose, calls.say_faults)

  module _ (made : Told v0 (λ file. is_unborn file ≡ false)) where
    bad_header : (place : ℕ) (kind : FileFault) → RefusesMade v0 v1 (BadFile place kind) → RunsWork (Generate target entries) [] v0 v1 (BadFile place kind)
    bad_header place kind refuses =
        looked_only (Generate target entries) [] v0 v1 (BadFile place kind) calls law (λ e. absurd cc) (λ run file before said. tt)
        (λ p k e file here.
        let one : place ≡ p = cc in
        let other : kind ≡ k = cc in
        fault_if_made file (fault_at place kind) (made file here) (refuses.0 file here)
        ∙ (λ i. let o : Option HeadFault = Some (fault_at (one i) (other i)) in o))
        (λ fault file here e.
        let is = fault_if_made file (fault_at place kind) (made file here) (refuses.0 file here) in
        let same : Some (fault_at place kind) ≡ Some fault = sym is ∙ e in
        cc)
        (λ p reason e file here. absurd cc)
        (λ against file here e.
        let is = fault_if_made file (fault_at place kind) (made file here) (refuses.0 file here) in
        let none : header_fault file ≡ None = e.0 in
        absurd (let bad : Some (fault_at place kind) ≡ None = sym is ∙ none in cc))
        (refuses.1, refuses.2, calls.say_faults)

    not_a_new_one : (place : ℕ) (reason : Reason) → RefusesMade v0 v1 (ReadOnly place reason) → RunsWork (Generate target entries) [] v0 v1 (ReadOnly place reason)
    not_a_new_one place reason refuses =
        let at : reason_at place reason ≡ not_new = λ i. reason_at (refuses.1 i) (refuses.2 i) in
        looked_only (Generate target entries) [] v0 v1 (ReadOnly place reason) calls law (λ e. absurd cc) (λ run file before said. tt)
        (λ p kind e file here. absurd cc)
        (λ fault file here e.
        let none = none_if_made file (refuses.0 file here).0 (made file here) (refuses.0 file here).1 in
        absurd (let bad : None ≡ Some fault = sym none ∙ e in cc))
        (λ p r e file here.
        let one : place ≡ p = cc in
        let other : reason ≡ r = cc in (
          none_if_made file (refuses.0 file here).0 (made file here) (refuses.0 file here).1,
          subst (λ (x : ReasonAt). IsFirstReasonFor (Generate target entries) file (Some x)) (sym at ∙ (λ i. reason_at (one i) (other i))) (new_against file (made file here)),
        ))
        (λ against file here e.
        let is = only_new file (Some against) (made file here) e.1 in
        same_some against not_new is ∙ sym at)
        (refuses.3, calls.say_faults)
      where
        same_some : (x y : ReasonAt) → Some x ≡ Some y → x ≡ y
        same_some x y e = cc

    pub made_refused : (status : Status) → RefusesMade v0 v1 status → RunsWork (Generate target entries) [] v0 v1 status
    made_refused Done refuses = absurd refuses
    made_refused Usage refuses = absurd refuses
    made_refused (BadFile place kind) refuses = bad_header place kind refuses
    made_refused DiskFault refuses = look_failed refuses
    made_refused InputFault refuses = absurd refuses
    made_refused NoMemory refuses = absurd refuses
    made_refused InputTooLong refuses = absurd refuses
    made_refused (ReadOnly place reason) refuses = not_a_new_one place reason refuses
    made_refused SayFault refuses = absurd refuses

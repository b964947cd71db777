-- How a verb ends that writes: where its input isn't read whole, and where it is.
use Rattle.std.proofs.Common.{◌≡◌, inl, inr, ℕ, Bool, true, false, List, [], length, Some, Ok, Err, subst, refl, ap, ◌∙◌, arith}
use Rattle.rio_num.specs.Room.{Room}
use Rattle.rio_head.specs.{declared.fault.FileFault.{FileFault}, declared.fault.HeadFault.{HeadFault}, declared.reason.Reason.{Reason}}
use Rattle.rio_host.specs.{Host.{View}, Source.{Input}}
use Rattle.rio_host.proofs.{Images.{becomes_some}, ReadsLaws.{reads_none}}
use Rattle.rio_state.specs.Reasons.{ReasonAt}
use Rattle.rootio.specs.{Causes.{IsCause, NoInputFault}, Headline.{IsStopOf, ScriptRun, all_texts}}
use Rattle.rootio.specs.{Input.{EndsWithInput, IsPastInput, ReadsAll, RefusesTooLong, TakenAll, TellsTooLong, status_of_input}, Reading.{TellsUnlessCut, takes_input}}
use Rattle.rootio.specs.{Script.{IsFileCause, RunsWork, WorksOn}, Writing.{Beginning, BeginsRun, EndsUnclosed, IsInputOf, RefusesFile, TellsReasonUnlessCut, records_of, run_of_work}}
use Rattle.rootio.specs.declared.input.InputError.{InputError, TheVariants.{Fault, NoMemory as OutOfMemory, TooLong}}
use Rattle.rootio.specs.declared.status.Status.{Status, TheVariants.{Done, Usage, BadFile, DiskFault, InputFault, NoMemory, InputTooLong, ReadOnly, SayFault}}
use Rattle.rootio.specs.{declared.words.Form.TheVariants.{Writes}, declared.words.Work.{Work, TheVariants.{Run, Recover, Import, Generate}}}
use Rattle.rio_session.specs.Opening.{opening_length}
use Rattle.rio_session.proofs.Spoken.{front_none}
use Rattle.rootio.proofs.{Opening.{spares_same}, Room.{silent_room}, Scripts.{says_none}, Untouched.{becomes_same, elapses_none}}

-- ---- no input

-- a status by which neither the file nor the run is told
record IsBefore (status : Status) : Type 0 where
  done : status ≡ Done → ⊥
  bad : (place : ℕ) (kind : FileFault) → status ≡ BadFile place kind → ⊥
  read_only : (place : ℕ) (reason : Reason) → status ≡ ReadOnly place reason → ⊥
  broken : (fault : HeadFault) → TellsUnlessCut fault status
  kept : (against : ReasonAt) → TellsReasonUnlessCut against status
  refuses : RefusesFile status → ⊥
  past : IsPastInput status → ⊥

untouched : (work : Work) (v : View) (before after : Input) (status : Status) → IsBefore status → ((run : ScriptRun) (file text : List ℕ) → v.said ≡ Some text → EndsUnclosed work run file text v v status)
    → TellsTooLong before status → RefusesTooLong (Some (Writes work)) before status → IsCause (Some (Writes work)) v v before after status → WorksOn work v v before after status
untouched work v before after status is unclosed too_long limited cause = record {
  writes = record {
    headline = record {
      stops = λ b begins told. elapses_none v (IsStopOf (run_of_work work b) b.file b.text);
      said = λ b begins told. front_none v v b.text (all_texts (run_of_work work b)) begins.said refl;
      room = λ b begins told. silent_room (opening_length b.file) (run_of_work work b) b.text v begins.said;
      done = λ b begins told ended. absurd (is.done ended);
      written = λ b begins ended. absurd (is.done ended);
      records = λ b begins told ended. absurd (is.done ended);
      unclosed = λ b begins told. unclosed (run_of_work work b) b.file b.text begins.said;
      input = λ input takes told past. absurd (is.past past);
      order = λ input takes told. inr (reads_none v, refl);
      told = becomes_same v.holds;
    };
    spares = record { answer = λ refuses. absurd (is.refuses refuses); file = λ file here. spares_same file v; reason = λ file against here e. reads_none v };
  };
  too_long = too_long;
  limited = limited;
  faults = λ place kind e. absurd (is.bad place kind e);
  broken = λ fault file here e. is.broken fault;
  reasons = λ place reason e. absurd (is.read_only place reason e);
  read_only = λ against file here e. is.kept against;
  cause = cause;
}

-- the words or the input found no memory
pub no_memory : (work : Work) (v : View) (before after : Input) → NoInputFault before after → WorksOn work v v before after NoMemory
no_memory work v before after none =
    untouched work v before after NoMemory
    (record { done = λ e. cc; bad = λ place kind e. cc; read_only = λ place reason e. cc; broken = λ fault. tt; kept = λ against. tt; refuses = λ r. r; past = λ p. p }) (λ run file text said. inl (reads_none v, says_none run text v said))
    (λ e. absurd cc) (λ reads bytes told long. tt) (refl, refl, none)

pub no_input : (work : Work) → takes_input work ≡ true → (v : View) (before after : Input) (error : InputError) → ReadsAll before after (Err error)
    → WorksOn work v v before after (status_of_input error)
no_input work takes v before after Fault read =
    untouched work v before after InputFault
    (record { done = λ e. cc; bad = λ place kind e. cc; read_only = λ place reason e. cc; broken = λ fault. tt; kept = λ against. tt; refuses = λ r. r; past = λ p. p }) (λ run file text said. tt)
    (λ e. absurd cc) (λ reads bytes told long. tt) (takes, refl, refl, read)
no_input work takes v before after OutOfMemory read = no_memory work v before after read
no_input work takes v before after TooLong read =
    untouched work v before after InputTooLong
    (record { done = λ e. cc; bad = λ place kind e. cc; read_only = λ place reason e. cc; broken = λ fault. tt; kept = λ against. tt; refuses = λ r. r; past = λ p. p }) (λ run file text said. tt)
    (λ e. read.0) (λ reads bytes told long. tt) (takes, (refl, refl, read.1))

-- ---- all of it

whole_cause : (work : Work) (old new : View) (before after : Input) (status : Status) → NoInputFault before after → IsFileCause old new status
    → IsCause (Some (Writes work)) old new before after status
whole_cause work old new before after Done none cause = (cause.0, cause.1, none)
whole_cause work old new before after Usage none cause = absurd cause
whole_cause work old new before after (BadFile place kind) none cause = (cause.0, (cause.1, cause.2, none))
whole_cause work old new before after DiskFault none cause = (cause.0, cause.1, none)
whole_cause work old new before after InputFault none cause = absurd cause
whole_cause work old new before after NoMemory none cause = (cause.0, cause.1, none)
whole_cause work old new before after InputTooLong none cause = absurd cause
whole_cause work old new before after (ReadOnly place reason) none cause = (refl, (cause.0, cause.1, none))
whole_cause work old new before after SayFault none cause = (cause.0, cause.1, none)

not_too_long : (old new : View) (status : Status) → IsFileCause old new status → status ≡ InputTooLong → ⊥
not_too_long old new status cause is = let none : IsFileCause old new InputTooLong = subst (IsFileCause old new) is cause in none

-- a run that reads no input doesn't end with it
pub not_with_input : (old new : View) (status : Status) → IsFileCause old new status → EndsWithInput status → ⊥
not_with_input old new Done cause ends = ends
not_with_input old new Usage cause ends = ends
not_with_input old new (BadFile place kind) cause ends = ends
not_with_input old new DiskFault cause ends = ends
not_with_input old new InputFault cause ends = cause
not_with_input old new NoMemory cause ends = ends
not_with_input old new InputTooLong cause ends = cause
not_with_input old new (ReadOnly place reason) cause ends = ends
not_with_input old new SayFault cause ends = ends

-- a run of a verb begins so whatever its input
abbrev with_text : Beginning → List ℕ → Beginning
with_text b text = record b { input = text }

begins_with : (work : Work) (b : Beginning) (text : List ℕ) (v : View) → BeginsRun work b v → BeginsRun work (with_text b text) v
begins_with work b text v begins =
    record { quiet = begins.quiet; holds = begins.holds; said = begins.said; reads = begins.reads; begins = begins.begins; listing = begins.listing }

-- what its input is
input_here : (work : Work) (before : Input) (text : List ℕ) → takes_input work ≡ true → IsInputOf work before text → before.remaining ≡ Some text
input_here (Run target) before text takes is = is
input_here (Recover target) before text takes is = absurd cc
input_here (Import target words) before text takes is = is
input_here (Generate target entries) before text takes is = absurd cc

input_none : (work : Work) (before : Input) (text : List ℕ) → takes_input work ≡ false → IsInputOf work before text → text ≡ []
input_none (Run target) before text takes is = absurd cc
input_none (Recover target) before text takes is = is
input_none (Import target words) before text takes is = absurd cc
input_none (Generate target entries) before text takes is = is

not_both : (b : Bool) → b ≡ true → b ≡ false → ⊥
not_both true one other = cc
not_both false one other = cc

-- a verb that reads no input
pub with_none : (work : Work) → takes_input work ≡ false → (old new : View) (input : Input) (status : Status) → RunsWork work [] old new status → WorksOn work old new input input status
with_none work takes old new input status ran =
    let none : (b : Beginning) → IsInputOf work input b.input → b.input ≡ [] = λ b here. input_none work input b.input takes here in
    record {
      writes = record {
        headline = record {
          stops = λ b begins here. ran.stops b begins (none b here);
          said = λ b begins here. ran.said b begins (none b here);
          room = λ b begins here. ran.room b begins (none b here);
          done = λ b begins here ended. ran.done b begins (none b here) ended;
          written = λ b begins ended.
              let w = ran.written (with_text b []) (begins_with work b [] old begins) refl ended in
              (records_of work (with_text b []), record { header = w.header; header_is = w.header_is; left = w.left });
          records = λ b begins here ended. ran.written b begins (none b here) ended;
          unclosed = λ b begins here. ran.unclosed b begins (none b here);
          input = λ all reads here past. absurd (not_both (takes_input work) reads takes);
          order = λ all reads here. absurd (not_both (takes_input work) reads takes);
          told = ran.told;
        };
        spares = ran.spares;
      };
      too_long = λ is. absurd (not_too_long old new status ran.cause is);
      limited = λ reads all here long. absurd (not_both (takes_input work) reads takes);
      faults = ran.faults;
      broken = ran.broken;
      reasons = ran.reasons;
      read_only = ran.read_only;
      cause = whole_cause work old new input input status refl ran.cause;
    }

pub with_input : (work : Work) → takes_input work ≡ true → (old new : View) (before after : Input) (text : Room) (status : Status) → ReadsAll before after (Ok text)
    → RunsWork work text.bytes old new status → WorksOn work old new before after status
with_input work takes old new before after text status read ran =
    let told : (input : List ℕ) → before.remaining ≡ Some input → (rest : List ℕ) × (after.remaining ≡ Some rest) × TakenAll text.bytes input rest =
    λ input here. becomes_some (TakenAll text.bytes) before.remaining after.remaining input here read.0 in
    let all : (b : Beginning) → IsInputOf work before b.input → b.input ≡ text.bytes = λ b here. (told b.input (input_here work before b.input takes here)).2.0 in
    record {
      writes = record {
        headline = record {
          stops = λ b begins here. ran.stops b begins (all b here);
          said = λ b begins here. ran.said b begins (all b here);
          room = λ b begins here. ran.room b begins (all b here);
          done = λ b begins here ended. ran.done b begins (all b here) ended;
          written = λ b begins ended.
              let w = ran.written (with_text b text.bytes) (begins_with work b text.bytes old begins) refl ended in
              (records_of work (with_text b text.bytes), record { header = w.header; header_is = w.header_is; left = w.left });
          records = λ b begins here ended. ran.written b begins (all b here) ended;
          unclosed = λ b begins here. ran.unclosed b begins (all b here);
          input = λ input reads here past. let rest = told input here in rest.1 ∙ ap Some rest.2.1;
          order = λ input reads here. let rest = told input here in inl (rest.1 ∙ ap Some rest.2.1);
          told = ran.told;
        };
        spares = ran.spares;
      };
      too_long = λ is. absurd (not_too_long old new status ran.cause is);
      limited = λ reads input here long.
          let whole : length input ≡ length text.bytes = ap length (told input here).2.0 in
          absurd (omega (arith, whole, long, read.1));
      faults = ran.faults;
      broken = ran.broken;
      reasons = ran.reasons;
      read_only = ran.read_only;
      cause = whole_cause work old new before after status read.2 ran.cause;
    }

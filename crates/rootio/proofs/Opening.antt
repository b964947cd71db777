-- How a run of a verb ends: where nothing is done, where the file isn't opened, and where it is.
use Rattle.std.proofs.Common.{◌≡◌, inl, inr, ℕ, Bool, true, false, List, None, Some, Result, Ok, Err, MatchBool, subst, sym, refl, ap, ◌∙◌}
use Rattle.std.proofs.lemmas.Option.{same_Some}
use Rattle.std.specs.Result.{OnOk}
use Rattle.rio_head.specs.{declared.fault.FileFault.{FileFault}, declared.reason.Reason.{Reason}, Head.{fault_at}}
use Rattle.rio_host.specs.{Host.{Any, Becomes, Elapses, IsLawful, IsQuiet, View}, OnlyReads.{Grown, OnlyReads}}
use Rattle.rio_host.proofs.{Moments.{elapses_as, elapses_join}, ReadsLaws.{reads_none}, PiecesLaws.{grown_join}}
use Rattle.rio_dir.specs.Unborn.{header_fault, is_unborn}
use Rattle.rio_chain.specs.{Segments.{IsChain, Link}, Stops.{KeepsFront}, Walks.{Told}}
use Rattle.rio_chain.proofs.OneChain.{chain_one}
use Rattle.rio_close.specs.EndWord.{SaysEnd}
use Rattle.rio_machine.specs.State.{State}
use Rattle.rio_report.specs.FirstFault.{HeaderAlone}
use Rattle.rio_state.specs.{Closing.{name_in}, KeyedRecords.{keyed_records}, Left.{open_end}, Reads.{ReadsAsState}, Reasons.{IsFirstReason, ReasonAt, reason_at}}
use Rattle.rio_state.proofs.OneReason.{reason_one}
use Rattle.rio_create.specs.NewFile.{first_links, new_file}
use Rattle.rio_recover.specs.Cleaning.{cleaned}
use Rattle.rio_session.specs.{Closes.{IsWellClosed}, Causes.{IsSessionCause, NoCountRose}}
use Rattle.rio_session.specs.Opening.{BeginsOn, IsBegun, IsNotOpened, IsOpenCause, LeavesFileOrUnclosed, OpensMade, OpensWith, SparesFile, TellsWhyNot, opening_length}
use Rattle.rio_session.specs.Session.{SessionState, StandsFor}
use Rattle.rio_session.specs.declared.fault.OpenFault.{OpenFault, TheVariants.{BadFile as FileBad, ReadOnly as FileReadOnly, NoMemory as NotRoomy, HostFault as NotOpened}}
use Rattle.rio_session.specs.declared.fault.SessionFault.{SessionFault, TheVariants.{HostFault, SayFault as NotSaid, NoMemory as OutOfMemory}}
use Rattle.rio_session.proofs.Spoken.{front_none, grows_none}
use Rattle.rootio.specs.{Headline.{AllFindRoom, IsRunDone, IsStopOf, SaidFindRoom, ScriptRun, all_texts}, Reading.{RefusesBroken, TellsFirstFault}}
use Rattle.rootio.specs.Script.{HasClosed, IsFileCause, RunsWork, session_closed_records, status_of_open, status_of_session}
use Rattle.rootio.specs.Writing.{Beginning, BeginsRun, EndsUnclosed, IsFirstReasonFor, IsOpenHeader, RefusesFile, RefusesReadOnly, TellsFirstReason, records_of, run_of_work, target_of}
use Rattle.rootio.specs.{declared.status.Status.TheVariants.{Done, BadFile, NoMemory, ReadOnly}, declared.words.Form.TheVariants.{Writes}}
use Rattle.rootio.specs.declared.words.Work.{Work}
use Rattle.rootio.proofs.{Room.{silent_room}, SaidFronts.{said_front}, Scripts.{OpensAs, says_none, stop_opening}, ReasonsFor.{Takes, reason_given, reason_taken}}
use Rattle.rootio.proofs.Untouched.{any_join, becomes_same, elapses_none}

-- ---- nothing was done

pub spares_same : (file : List ℕ) (v : View) → SparesFile file v v
spares_same file v = record { broken = λ fault e. reads_none v; reason = λ against e. reads_none v }

pub nothing_done : (work : Work) (input : List ℕ) (v : View) → RunsWork work input v v NoMemory
nothing_done work input v = record {
  stops = λ b begins is. elapses_none v (IsStopOf (run_of_work work b) b.file b.text);
  said = λ b begins is. front_none v v b.text (all_texts (run_of_work work b)) begins.said refl;
  room = λ b begins is. silent_room (opening_length b.file) (run_of_work work b) b.text v begins.said;
  done = λ b begins is ended. absurd cc;
  written = λ b begins is ended. absurd cc;
  unclosed = λ b begins is. inl (reads_none v, says_none (run_of_work work b) b.text v begins.said);
  told = becomes_same v.holds;
  faults = λ place kind is. absurd cc;
  broken = λ fault file here e. tt;
  reasons = λ place reason is. absurd cc;
  read_only = λ against file here e. tt;
  spares = record { answer = λ refuses. absurd refuses; file = λ file here. spares_same file v; reason = λ file against here e. reads_none v };
  cause = (refl, refl);
}

-- ---- the file isn't opened

module _ (work : Work) (v0 v1 : View) where
  open_faults : (fault : OpenFault) → Told v0 (λ file. TellsWhyNot file {X = SessionState} (Err fault)) → TellsFirstFault HeaderAlone v0 (status_of_open fault)
  open_faults (FileBad p k) why place kind is file here =
      let one : p ≡ place = cc in
      let other : k ≡ kind = cc in
      why file here ∙ ap (λ (q : ℕ). Some (fault_at q k)) one ∙ ap (λ (q : FileFault). Some (fault_at place q)) other
  open_faults (FileReadOnly p r) why place kind is file here = absurd cc
  open_faults NotRoomy why place kind is file here = absurd cc
  open_faults NotOpened why place kind is file here = absurd cc

  open_broken : (fault : OpenFault) → Told v0 (λ file. TellsWhyNot file {X = SessionState} (Err fault)) → RefusesBroken HeaderAlone v0 (status_of_open fault)
  open_broken (FileBad p k) why f file here e = let is : header_fault file ≡ Some (fault_at p k) = why file here in cc
  open_broken (FileReadOnly p r) why f file here e = let is : header_fault file ≡ None = (why file here).0 in absurd cc
  open_broken NotRoomy why f file here e = tt
  open_broken NotOpened why f file here e = tt

  open_reasons : Takes work v0 → (fault : OpenFault) → Told v0 (λ file. TellsWhyNot file {X = SessionState} (Err fault)) → TellsFirstReason (Writes work) v0 (status_of_open fault)
  open_reasons takes (FileBad p k) why place reason is file here = absurd cc
  open_reasons takes (FileReadOnly p r) why place reason is file here =
      let w = why file here in
      let one : p ≡ place = cc in
      let other : r ≡ reason = cc in
      (w.0, subst (λ (x : ℕ × Reason). IsFirstReasonFor work file (Some (reason_at x.0 x.1))) (λ i. (one i, other i)) (reason_given v0 file here (reason_at p r) work takes w.1))
  open_reasons takes NotRoomy why place reason is file here = absurd cc
  open_reasons takes NotOpened why place reason is file here = absurd cc

  open_read_only : Takes work v0 → (fault : OpenFault) → Told v0 (λ file. TellsWhyNot file {X = SessionState} (Err fault)) → RefusesReadOnly (Writes work) v0 (status_of_open fault)
  open_read_only takes (FileBad p k) why against file here e =
      let is : header_fault file ≡ Some (fault_at p k) = why file here in
      let none : header_fault file ≡ None = e.0 in
      absurd cc
  open_read_only takes (FileReadOnly p r) why against file here e =
      same_Some against (reason_at p r) (reason_one file (Some against) (Some (reason_at p r)) (reason_taken v0 file here against work takes e.1) (why file here).1)
  open_read_only takes NotRoomy why against file here e = tt
  open_read_only takes NotOpened why against file here e = tt

  open_answer : (fault : OpenFault) → (IsNotOpened {X = SessionState} (Err fault) → OnlyReads v0 v1) → RefusesFile (status_of_open fault) → OnlyReads v0 v1
  open_answer (FileBad p k) untouched refuses = untouched tt
  open_answer (FileReadOnly p r) untouched refuses = untouched tt
  open_answer NotRoomy untouched refuses = absurd refuses
  open_answer NotOpened untouched refuses = absurd refuses

  open_unclosed : (run : ScriptRun) (file before : List ℕ) (fault : OpenFault) → LeavesFileOrUnclosed file v1 → v1.said ≡ Some before
      → (IsNotOpened {X = SessionState} (Err fault) → OnlyReads v0 v1) → EndsUnclosed work run file before v0 v1 (status_of_open fault)
  open_unclosed run file before (FileBad p k) leaves said untouched = tt
  open_unclosed run file before (FileReadOnly p r) leaves said untouched = tt
  open_unclosed run file before NotRoomy leaves said untouched = inl (untouched tt, says_none run before v1 said)
  open_unclosed run file before NotOpened leaves said untouched = inl (inr leaves, says_none run before v1 said)

  open_cause : (fault : OpenFault) → IsOpenCause {X = SessionState} v0 v1 (Err fault) → IsFileCause v0 v1 (status_of_open fault)
  open_cause (FileBad p k) cause = (cause.0, cause.1.0, cause.1.1)
  open_cause (FileReadOnly p r) cause = cause
  open_cause NotRoomy cause = cause
  open_cause NotOpened cause = cause

  not_done : (fault : OpenFault) → status_of_open fault ≡ Done → ⊥
  not_done (FileBad p k) is = cc
  not_done (FileReadOnly p r) is = cc
  not_done NotRoomy is = cc
  not_done NotOpened is = cc

-- what open says of what a stop leaves
abbrev pub OpensSo : View → View → Type 0
OpensSo v0 v1 = (file text : List ℕ) (m : State) → IsQuiet v0 → v0.holds ≡ Some file → v0.said ≡ Some text → ReadsAsState file m → Elapses v0 v1 (OpensAs file text m)

-- so a stop leaves the run's start
starts : (work : Work) (v0 v1 : View) → OpensSo v0 v1 → (b : Beginning) → BeginsRun work b v0 → Elapses v0 v1 (IsStopOf (run_of_work work b) b.file b.text)
starts work v0 v1 opens b begins =
    elapses_as (IsStopOf (run_of_work work b) b.file b.text) (OpensAs b.file b.text b.state) (opens b.file b.text b.state begins.quiet begins.holds begins.said begins.reads)
    (λ image said left. stop_opening (run_of_work work b) b.file b.text image said begins.reads left)

pub not_opened : (work : Work) (input : List ℕ) (v0 v1 : View) (fault : OpenFault) → Takes work v0 → OpensSo v0 v1
    → ((file : List ℕ) → IsQuiet v0 → v0.holds ≡ Some file → LeavesFileOrUnclosed file v1)
    → Told v0 (λ file. TellsWhyNot file {X = SessionState} (Err fault))
    → Told v0 (λ file. SparesFile file v0 v1)
    → (IsNotOpened {X = SessionState} (Err fault) → OnlyReads v0 v1) → Becomes Any v0.holds v1.holds → v1.said ≡ v0.said → IsOpenCause {X = SessionState} v0 v1 (Err fault)
    → IsLawful v0 → IsLawful v1 → RunsWork work input v0 v1 (status_of_open fault)
not_opened work input v0 v1 fault takes opens unclosed why spared untouched told same cause law law' = record {
  stops = λ b begins is. starts work v0 v1 opens b begins;
  said = λ b begins is.
      said_front v0 v1 b.file b.text (run_of_work work b) law law' begins.holds begins.said (starts work v0 v1 opens b begins) told (grows_none v0.said v1.said same);
  room = λ b begins is. silent_room (opening_length b.file) (run_of_work work b) b.text v1 (same ∙ begins.said);
  done = λ b begins is ended. absurd (not_done work v0 v1 fault ended);
  written = λ b begins is ended. absurd (not_done work v0 v1 fault ended);
  unclosed = λ b begins is. open_unclosed work v0 v1 (run_of_work work b) b.file b.text fault (unclosed b.file begins.quiet begins.holds) (same ∙ begins.said) untouched;
  told = told;
  faults = open_faults work v0 v1 fault why;
  broken = open_broken work v0 v1 fault why;
  reasons = open_reasons work v0 v1 takes fault why;
  read_only = open_read_only work v0 v1 takes fault why;
  spares = record {
    answer = open_answer work v0 v1 fault untouched;
    file = spared;
    reason = λ file against here e. (spared file here).reason against (reason_taken v0 file here against work takes e);
  };
  cause = open_cause work v0 v1 fault cause;
}

-- ---- what the session begins with

-- a file begins with one list of records
begins_one : (name : List ℕ) (datime : ℕ) (file : List ℕ) (a b : List Link) → OpensWith name datime file a → OpensWith name datime file b → a ≡ b
begins_one name datime file a b = by (is_unborn file)
  where
    by : (unborn : Bool) → MatchBool unborn (a ≡ first_links name datime) (OpensMade file a) → MatchBool unborn (b ≡ first_links name datime) (OpensMade file b) → a ≡ b
    by true p q = p ∙ sym q
    by false p q = p.2 ∙ ap cleaned (chain_one file p.0 q.0 p.1 q.1) ∙ sym q.2

module _ (work : Work) (v0 v1 : View) (s : SessionState)
    (stands : (file text : List ℕ) (m : State) → v0.holds ≡ Some file → v0.said ≡ Some text → ReadsAsState file m → StandsFor v1 s m text)
    (on : Told v0 (λ file. BeginsOn (target_of work).name (target_of work).datime file v1 s)) (b : Beginning) (begins : BeginsRun work b v0) where
  abbrev stands_there : StandsFor v1 s b.state b.text
  stands_there = stands b.file b.text b.state begins.holds begins.said begins.reads

  found : BeginsOn (target_of work).name (target_of work).datime b.file v1 s
  found = on b.file begins.holds

  same_links : found.links ≡ b.links
  same_links = begins_one (target_of work).name (target_of work).datime b.file found.links b.links found.begins begins.begins

  same_file : stands_there.file ≡ found.now
  same_file = same_Some stands_there.file found.now (sym stands_there.holds ∙ found.holds)

  -- its file has the run's records
  links_there : stands_there.state.links ≡ b.links
  links_there = chain_one found.now stands_there.state.links found.links (subst (IsChain stands_there.state.links) same_file stands_there.state.chain.chain) found.chain.chain ∙ same_links

  -- under their name
  name_there : s.name ≡ name_in (keyed_records b.links)
  name_there = found.name_is ∙ ap (λ (l : List Link). name_in (keyed_records l)) same_links

  -- and with the header of an open file
  header_there : (header : List ℕ) × IsOpenHeader (target_of work) b.file header × KeepsFront header stands_there.file
  header_there =
      let h = by (is_unborn b.file) found.front in
      (h.0, h.1, subst (KeepsFront h.0) (sym same_file) h.2)
    where
      new : List ℕ
      new = new_file (target_of work).name (target_of work).datime

      by : (unborn : Bool) → MatchBool unborn (KeepsFront new found.now) ((marked : List ℕ) × SaysEnd open_end b.file marked × KeepsFront marked found.now)
          → (header : List ℕ) × MatchBool unborn (header ≡ new) (SaysEnd open_end b.file header) × KeepsFront header found.now
      by true front = (new, refl, front)
      by false front = front

-- ---- the file is opened

-- a file that was closed behind another front with the same header
closed_of_front : (name : List ℕ) (datime : ℕ) (later front : List ℕ) (links : List Link) (file : List ℕ) → KeepsFront front later → IsWellClosed name datime later links file
    → IsWellClosed name datime front links file
closed_of_front name datime later front links file keeps w = record {
  kept = w.kept;
  name_is = w.name_is;
  datime_is = w.datime_is;
  records = w.records;
  made = w.made;
  before = w.before;
  front = λ i x low at. w.front i x low (keeps i x low at);
  chain = w.chain;
  head = w.head;
  keys = w.keys;
  trees = w.trees;
  trees_are = w.trees_are;
  info = w.info;
  named = w.named;
  owned = w.owned;
  written = w.written;
}

ended_well : (r : Result (Unit {0}) SessionFault) (P : Type 0) → OnOk r P → status_of_session r ≡ Done → P
ended_well (Ok x) P p is = p
ended_well (Err HostFault) P p is = absurd cc
ended_well (Err NotSaid) P p is = absurd cc
ended_well (Err OutOfMemory) P p is = absurd cc

not_bad : (r : Result (Unit {0}) SessionFault) (place : ℕ) (kind : FileFault) → status_of_session r ≡ BadFile place kind → ⊥
not_bad (Ok x) place kind is = cc
not_bad (Err HostFault) place kind is = cc
not_bad (Err NotSaid) place kind is = cc
not_bad (Err OutOfMemory) place kind is = cc

not_read_only : (r : Result (Unit {0}) SessionFault) (place : ℕ) (reason : Reason) → status_of_session r ≡ ReadOnly place reason → ⊥
not_read_only (Ok x) place reason is = cc
not_read_only (Err HostFault) place reason is = cc
not_read_only (Err NotSaid) place reason is = cc
not_read_only (Err OutOfMemory) place reason is = cc

not_refused : (r : Result (Unit {0}) SessionFault) → RefusesFile (status_of_session r) → ⊥
not_refused (Ok x) refuses = refuses
not_refused (Err HostFault) refuses = refuses
not_refused (Err NotSaid) refuses = refuses
not_refused (Err OutOfMemory) refuses = refuses

session_cause : (v0 v1 v2 : View) (r : Result (Unit {0}) SessionFault) → NoCountRose v0 v1 → IsSessionCause v1 v2 r → IsFileCause v0 v2 (status_of_session r)
session_cause v0 v1 v2 (Ok x) none cause = (cause.0 ∙ none.0, cause.1 ∙ none.1)
session_cause v0 v1 v2 (Err HostFault) none cause = (rw (← none.0) cause.0, cause.1 ∙ none.1)
session_cause v0 v1 v2 (Err NotSaid) none cause = (cause.0 ∙ none.0, rw (← none.1) cause.1)
session_cause v0 v1 v2 (Err OutOfMemory) none cause = (cause.0 ∙ none.0, cause.1 ∙ none.1)

module _ (work : Work) (input : List ℕ) (v0 v1 v2 : View) (s : SessionState) (run : List Link → State → ScriptRun) (r : Result (Unit {0}) SessionFault)
    (takes : Takes work v0) (opens : OpensSo v0 v1)
    (stands : (file text : List ℕ) (m : State) → v0.holds ≡ Some file → v0.said ≡ Some text → ReadsAsState file m → StandsFor v1 s m text)
    (on : Told v0 (λ file. BeginsOn (target_of work).name (target_of work).datime file v1 s)) (begun : IsBegun (target_of work).datime s)
    (why : Told v0 (λ file. TellsWhyNot file {X = SessionState} (Ok s)))
    (told01 : Becomes Any v0.holds v1.holds) (said01 : v1.said ≡ v0.said) (none : NoCountRose v0 v1)
    (its : (b : Beginning) → BeginsRun work b v0 → b.input ≡ input → (st : StandsFor v1 s b.state b.text) → st.state.links ≡ b.links → run st.state.links b.state ≡ run_of_work work b)
    (leaves : (b : Beginning) → BeginsRun work b v0 → b.input ≡ input → (st : StandsFor v1 s b.state b.text) → st.state.links ≡ b.links
    → let r = run st.state.links b.state in session_closed_records s st.state.links r.start r.commands ≡ records_of work b)
    (stops : (file text : List ℕ) (m : State) (st : StandsFor v1 s m text) → Elapses v1 v2 (IsStopOf (run st.state.links m) file text))
    (done : OnOk r ((m : State) (text : List ℕ) (st : StandsFor v1 s m text) → HasClosed (run st.state.links m) st.state.links st.file s text v2))
    (unclosed : (file : List ℕ) (m : State) (text : List ℕ) (st : StandsFor v1 s m text) → EndsUnclosed work (run st.state.links m) file text v0 v2 (status_of_session r))
    (told12 : Becomes Any v1.holds v2.holds) (said12 : Becomes Grown v1.said v2.said)
    (room12 : (m : State) (text : List ℕ) (st : StandsFor v1 s m text) → s.costs ≡ 0 → SaidFindRoom s.opened (run st.state.links m) text v2)
    (cause : IsSessionCause v1 v2 r) (law : IsLawful v0) (law' : IsLawful v2) where
  module _ (b : Beginning) (begins : BeginsRun work b v0) (is : b.input ≡ input) where
    abbrev st : StandsFor v1 s b.state b.text
    st = stands_there work v0 v1 s stands on b begins

    links_are : st.state.links ≡ b.links
    links_are = links_there work v0 v1 s stands on b begins

    its_run : run st.state.links b.state ≡ run_of_work work b
    its_run = its b begins is st links_are

    does_all : Elapses v0 v2 (IsStopOf (run_of_work work b) b.file b.text)
    does_all =
        elapses_join (IsStopOf (run st.state.links b.state) b.file b.text) (starts work v0 v1 opens b begins) (stops b.file b.text b.state st)
        (λ image said stop. subst (λ (x : ScriptRun). IsStopOf x b.file b.text image said) its_run stop)

    closed_well : status_of_session r ≡ Done → HasClosed (run st.state.links b.state) st.state.links st.file s b.text v2
    closed_well ended = ended_well r _ done ended b.state b.text st

    -- the records that it leaves are those of the run of the words
    abbrev records_there : List Link
    records_there = let from = run st.state.links b.state in session_closed_records s st.state.links from.start from.commands

    records_are : records_there ≡ records_of work b
    records_are = leaves b begins is st links_are

    opened_is : s.opened ≡ opening_length b.file
    opened_is = (found work v0 v1 s stands on b begins).opened

  -- nothing stands against it
  none_first : (file : List ℕ) → v0.holds ≡ Some file → (against : ReasonAt) → IsFirstReason file (Some against) → ⊥
  none_first file here against e = let is : Some against ≡ None = reason_one file (Some against) None e (why file here).1 in cc

  no_reason : (file : List ℕ) → v0.holds ≡ Some file → (against : ReasonAt) → IsFirstReasonFor work file (Some against) → ⊥
  no_reason file here against e = none_first file here against (reason_taken v0 file here against work takes e)

  told02 : Becomes Any v0.holds v2.holds
  told02 = any_join v0.holds v1.holds v2.holds told01 told12

  pub opened : RunsWork work input v0 v2 (status_of_session r)
  opened = record {
    stops = does_all;
    said = λ b begins is.
        said_front v0 v2 b.file b.text (run_of_work work b) law law' begins.holds begins.said (does_all b begins is) told02
        (grown_join v0.said v1.said v2.said (grows_none v0.said v1.said said01) said12);
    room = λ b begins is.
        subst (λ (x : ScriptRun). SaidFindRoom (opening_length b.file) x b.text v2) (its_run b begins is)
        (subst (λ (n : ℕ). SaidFindRoom n (run (st b begins is).state.links b.state) b.text v2) (opened_is b begins is) (room12 b.state b.text (st b begins is) begun.costs));
    done = λ b begins is ended.
        let closed = closed_well b begins is ended in
        let from = run (st b begins is).state.links b.state in
        subst (λ (x : ScriptRun). IsRunDone x b.file b.text v2) (its_run b begins is)
        (record {
          quiet = closed.quiet;
          said = closed.said;
          left = closed.left;
          room = subst (λ (n : ℕ). AllFindRoom n from) (opened_is b begins is) (closed.room begun.costs);
        });
    written = λ b begins is ended.
        let closed = closed_well b begins is ended in
        let header = header_there work v0 v1 s stands on b begins in
        record {
          header = header.0;
          header_is = header.1;
          left = λ image told left.
              subst (λ (x : (List ℕ × ℕ) × List Link). IsWellClosed x.0.0 x.0.1 header.0 x.1 image)
              (λ i. ((name_there work v0 v1 s stands on b begins i, begun.datime_is i), records_are b begins is i))
              (closed_of_front s.name s.datime (st b begins is).file header.0 (records_there b begins is) image header.2 (closed.written image told left));
        };
    unclosed = λ b begins is.
        subst (λ (x : ScriptRun). EndsUnclosed work x b.file b.text v0 v2 (status_of_session r)) (its_run b begins is)
        (unclosed b.file b.state b.text (st b begins is));
    told = told02;
    faults = λ place kind e. absurd (not_bad r place kind e);
    broken = λ fault file here e. let sound : header_fault file ≡ None = (why file here).0 in absurd cc;
    reasons = λ place reason e. absurd (not_read_only r place reason e);
    read_only = λ against file here e. absurd (no_reason file here against e.1);
    spares = record {
      answer = λ refuses. absurd (not_refused r refuses);
      file = λ file here. record {
        broken = λ fault e. let sound : header_fault file ≡ None = (why file here).0 in absurd cc;
        reason = λ against e. absurd (none_first file here against e);
      };
      reason = λ file against here e. absurd (no_reason file here against e);
    };
    cause = session_cause v0 v1 v2 r none cause;
  }

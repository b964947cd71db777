-- A recovery: an open file is closed, and then its keys are said.
use Rattle.std.proofs.{Common.{◌≡◌, ⊎_elim, ℕ, ◌<◌, List, [], ◌++◌, length, take, Option, Some, Result, Ok, Err, subst, sym, refl, ap, ◌∙◌, arith}, lemmas.{List.{append-nil}, Option.{same_Some, slice_get_within}}}
use Rattle.rio_host.specs.{Host.{Any, Becomes, Elapses, IsLawful, IsQuiet, Leaves, Longer, LongerByPart, Rose, Speaking, View}, OnlyReads.{Grown, OnlyReads}}
use Rattle.rio_host.proofs.{Images.{becomes_as, becomes_some}, Moments.{elapses_as, elapses_join, leaves_back, says_quiet}, PiecesLaws.{grown_join}}
use Rattle.rio_chain.specs.{Segments.{IsChain, Link}, Stops.{KeepsFront}}
use Rattle.rio_chain.proofs.OneChain.{chain_one}
use Rattle.rio_dir.specs.Listing.{key_lines}
use Rattle.rio_machine.specs.{State.{State}, declared.command.Command.{Command}}
use Rattle.rio_step.specs.Runs.{closed_of, said_of, saved_of, state_after}
use Rattle.rio_state.specs.{DirectoryKeys.{AreKeysOf}, KeyedRecords.{keyed_records}, Reads.{ReadsAsState, ReadsClosed}}
use Rattle.rio_effect.specs.FileRuns.{file_run, saved_records}
use Rattle.rio_session.specs.{Causes.{IsCloseCause, IsSessionCause, NoCountRose}, Closes.{AreSavesTold, ClosesFile, IsWellClosed}, Fillings.{closing}, Kept.{all_done}, Opening.{IsBegun}}
use Rattle.rio_session.specs.Session.{ClosesAs, IsReady, SessionState, StandsFor, file_records}
use Rattle.rio_session.specs.declared.fault.SessionFault.{SessionFault, TheVariants.{HostFault, SayFault, NoMemory}}
use Rattle.rio_session.specs.declared.replies.Replies.TheVariants.{Printed}
use Rattle.rio_session.proofs.{CloseStates.{holds_closed_file}, Opened.{keeps_own}, Spoken.{front_part, grows_none, grows_whole}}
use Rattle.rootio.specs.{Headline.{AllFindRoom, IsStopOf, ReadsAsEnd, SaidFindRoom, ScriptRun, all_replies, all_texts, end_state}, Script.{ClosesAndSays, listing_run, session_closed_records}}
use Rattle.rootio.specs.{Target.{TargetFile}, Writing.{Beginning, BeginsRun, StandsClosed, records_of, run_of_work, without_pending}, declared.words.Work.TheVariants.{Recover}}
use Rattle.rootio.proofs.{Idle.{none_saved, nothing_left, records_idle}, OrderedKeys.{keys_one}, Scripts.{saved_start, says_none}, RunStops.{end_of_commands, stop_closing}, Unclosed.{close_open, closes_none, reads_between}, Untouched.{becomes_same, elapses_none}}

abbrev some_text : List ℕ → Option (List ℕ)
some_text l = Some l

-- ---- the run

module _ (s : SessionState) (lines : List ℕ) (links : List Link) (m : State) where
  abbrev run : ScriptRun
  run = listing_run s lines links m

  -- it has no replies, so it says the lines alone
  texts_are : all_texts run ≡ lines
  unfolding said_of
  texts_are = refl

  replies_none : (text : List ℕ) → text ++ all_replies run ≡ text
  unfolding said_of
  replies_none text = append-nil text

  end_is : end_state run ≡ closed_of m
  unfolding state_after
  end_is = refl

  state_is : m ≡ state_after run.start run.commands run.marks
  unfolding state_after
  state_is = refl

  -- it leaves the records that the saves of the close leave
  records_are : session_closed_records s links m [] ≡ (saved_records s.datime (file_records s links) m).links
  unfolding file_run state_after
  records_are = refl

  -- while it is closed
  stop_within_close : (file text image said : List ℕ) → ClosesAs m text image said → IsStopOf run file text image said
  unfolding state_after
  stop_within_close file text image said closes =
      stop_closing run file text image said (subst (λ (l : List ℕ). ClosesAs m l image said) (sym (replies_none text)) closes)

  -- while the lines are said
  stop_behind_close : (file text image before said : List ℕ) (k : ℕ) → ClosesAs m text image before → ReadsAsEnd run image → said ≡ before ++ take k lines → IsStopOf run file text image said
  unfolding said_of
  stop_behind_close file text image before said k closes ends is =
      let stop = stop_within_close file text image before closes in
      record {
        j = 0;
        k = stop.k;
        replies = record {
          bytes = k;
          text = is ∙ ap (λ (l : List ℕ). l ++ take k lines) closes.text_is;
          commands = omega arith;
          whole = omega arith;
          part = λ printed lt. absurd (omega (arith, lt));
        };
        prefix = stop.prefix;
        holds = omega arith;
        next = λ printed lt. absurd (omega (arith, lt));
        listed = λ long. ends;
      }

  -- no reply is want of room
  finds_room : (opened : ℕ) → AllFindRoom opened run
  finds_room opened k c there = absurd (let within : k < length {A = Command} [] = slice_get_within [] k c there in omega (arith, within))

-- ---- nothing was closed

-- there was no memory for the lines
pub no_lines : (v : View) (s : SessionState) (lines : List ℕ) → IsReady v s → ClosesAndSays v v s lines (Err NoMemory)
no_lines v s lines ready = record {
  stops = λ file text m stands. elapses_none v (IsStopOf (listing_run s lines stands.state.links m) file text);
  done = tt;
  unclosed = λ m text stands.
      let r = listing_run s lines stands.state.links m in
      record {
        says = says_none r text v stands.said;
        state = m;
        state_is = end_of_commands r ∙ ap Some (sym (state_is s lines stands.state.links m));
        left = reads_between v v s m text ready stands;
      };
  told = becomes_same v.holds;
  said = grows_none v.said v.said refl;
  cause = (refl, refl);
}

module _ (v1 v2 : View) (s : SessionState) (lines : List ℕ) (ready : IsReady v1 s) (law1 : IsLawful v1) (law2 : IsLawful v2)
    (time : (m : State) (text : List ℕ) → StandsFor v1 s m text → Elapses v1 v2 (ClosesAs m text)) (told : Becomes Any v1.holds v2.holds) (same : v2.said ≡ v1.said) where
  closed_stops : (file text : List ℕ) (m : State) (stands : StandsFor v1 s m text) → Elapses v1 v2 (IsStopOf (listing_run s lines stands.state.links m) file text)
  closed_stops file text m stands =
      elapses_as (IsStopOf (listing_run s lines stands.state.links m) file text) (ClosesAs m text) (time m text stands)
      (λ image said closes. stop_within_close s lines stands.state.links m file text image said closes)

  close_cause : (r : Result (Unit {0}) SessionFault) → IsCloseCause v1 v2 r → IsSessionCause v1 v2 r
  close_cause (Ok x) cause = cause
  close_cause (Err HostFault) cause = cause
  close_cause (Err SayFault) cause = absurd cause
  close_cause (Err NoMemory) cause = cause

  -- the close failed
  pub not_closed : (e : SessionFault) → (◌≡◌ {A = Result (Unit {0}) SessionFault} (Err e) (Err NoMemory) → OnlyReads v1 v2) → IsCloseCause {X = Unit {0}} v1 v2 (Err e) → ClosesAndSays v1 v2 s lines (Err e)
  not_closed e only cause = record {
    stops = closed_stops;
    done = tt;
    unclosed = λ m text stands.
        let r = listing_run s lines stands.state.links m in
        close_open v1 v2 s m text ready stands law1 law2 (time m text stands) StandsClosed r (state_is s lines stands.state.links m) text (Err e)
        (same ∙ stands.said ∙ ap some_text (sym (replies_none s lines stands.state.links m text))) only cause;
    told = told;
    said = grows_none v1.said v2.said same;
    cause = close_cause (Err e) cause;
  }

  module _ (v3 : View) (law3 : IsLawful v3) (quiet : IsQuiet v2)
      (closed : (m : State) (text : List ℕ) → StandsFor v1 s m text → (image said : List ℕ) → Leaves v2 image said → ReadsAsState image (closed_of m) × ReadsClosed image (closed_of m))
      (written : (m : State) (text : List ℕ) → StandsFor v1 s m text → ClosesFile v1 v2 s)
      (saves : (m : State) (text : List ℕ) (stands : StandsFor v1 s m text) → AreSavesTold s m stands.state.links)
      (none : NoCountRose v1 v2) (speaks : Elapses v2 v3 (Speaking lines v2)) (holds : v3.holds ≡ v2.holds) (disk : v3.disk_faults ≡ v2.disk_faults) where
    -- what is left is what the close left
    left_closed : (image said : List ℕ) → Leaves v3 image said → (before : List ℕ) × Leaves v2 image before
    left_closed image said left = ⊎_elim (λ was. (said, was)) (λ spoken. (spoken.0, spoken.1)) (leaves_back law3 speaks image said left)

    reads_end : (m : State) (text : List ℕ) (stands : StandsFor v1 s m text) (image said : List ℕ) → Leaves v2 image said
        → ReadsAsEnd (listing_run s lines stands.state.links m) image
    reads_end m text stands image said left =
        subst (λ (x : State). ReadsAsState image x × ReadsClosed image x) (sym (end_is s lines stands.state.links m)) (closed m text stands image said left)

    saying : (file text : List ℕ) (m : State) (stands : StandsFor v1 s m text) → Elapses v1 v3 (IsStopOf (listing_run s lines stands.state.links m) file text)
    saying file text m stands =
        elapses_join (Speaking lines v2) (closed_stops file text m stands) speaks
        (λ image said spoken.
        let closes : ClosesAs m text image spoken.0 =
        ⊎_elim (λ was. closes_none m text v1 s ready law1 stands image spoken.0 was) (λ now. now) (leaves_back law2 (time m text stands) image spoken.0 spoken.1) in
        stop_behind_close s lines stands.state.links m file text image spoken.0 said spoken.2.0 closes (reads_end m text stands image spoken.0 spoken.1) spoken.2.1)

    ends_closed : (m : State) (text : List ℕ) (stands : StandsFor v1 s m text) → (image said : List ℕ) → Leaves v3 image said
        → ReadsAsEnd (listing_run s lines stands.state.links m) image
    ends_closed m text stands image said left = let was = left_closed image said left in reads_end m text stands image was.0 was.1

    well_closed : (m : State) (text : List ℕ) (stands : StandsFor v1 s m text) → (image said : List ℕ) → Leaves v3 image said
        → IsWellClosed s.name s.datime stands.file (saved_records s.datime (file_records s stands.state.links) m).links image
    well_closed m text stands image said left =
        let was = left_closed image said left in
        let closes : ClosesFile v1 v2 s = written m text stands in
        let image_is : image ≡ closes.written.file = quiet image was.0 closes.written.file was.1 closes.written.holds in
        let file : stands.file ≡ closes.file = same_Some stands.file closes.file (sym stands.holds ∙ closes.holds) in
        let links : closes.links ≡ stands.state.links =
        chain_one closes.file closes.links stands.state.links closes.chain.chain (subst (IsChain stands.state.links) file stands.state.chain.chain) in
        let last = holds_closed_file v1 v2 s stands.file image closes (subst (KeepsFront stands.file) file (keeps_own stands.file)) (closes.written.holds ∙ ap some_text (sym image_is)) in
        let then_links = ap (λ (l : List Link). all_done (closing s).changes l) links ∙ saves m text stands in
        subst (λ (x : List Link). IsWellClosed s.name s.datime stands.file x image) then_links last

    told_all : Becomes Any v1.holds v3.holds
    told_all = subst (Becomes Any v1.holds) (sym holds) told

    -- the lines were said
    pub said_all : Becomes (Longer lines) v2.said v3.said → v3.say_faults ≡ v2.say_faults → ClosesAndSays v1 v3 s lines (Ok tt)
    said_all longer say = record {
      stops = saying;
      done = λ m text stands. record {
        quiet = says_quiet lines law3 quiet speaks holds;
        said =
            let grown = becomes_some (Longer lines) v2.said v3.said text (same ∙ stands.said) longer in
            grown.1 ∙ ap some_text (grown.2 ∙ ap (λ (l : List ℕ). text ++ l) (sym (texts_are s lines stands.state.links m)));
        left = ends_closed m text stands;
        written = λ image told left.
            subst (λ (x : List Link). IsWellClosed s.name s.datime stands.file x image) (sym (records_are s lines stands.state.links m)) (well_closed m text stands image told left);
        room = λ costs. finds_room s lines stands.state.links m s.opened;
      };
      unclosed = λ m text stands. tt;
      told = told_all;
      said = grown_join v1.said v2.said v3.said (grows_none v1.said v2.said same) (grows_whole lines v2.said v3.said longer);
      cause = (disk ∙ none.0, say ∙ none.1);
    }

    -- they could not be said
    pub said_part : Becomes (LongerByPart lines) v2.said v3.said → Rose v2.say_faults v3.say_faults → ClosesAndSays v1 v3 s lines (Err SayFault)
    said_part part rose = record {
      stops = saying;
      done = tt;
      unclosed = λ m text stands. record {
        text =
            front_part v2 v3 (text ++ all_replies (listing_run s lines stands.state.links m)) lines lines
            (same ∙ stands.said ∙ ap some_text (sym (replies_none s lines stands.state.links m text))) refl part;
        left = ends_closed m text stands;
      };
      told = told_all;
      said =
          grown_join v1.said v2.said v3.said (grows_none v1.said v2.said same)
          (becomes_as (LongerByPart lines) Grown v2.said v3.said (λ x y grown. (take grown.0 lines, grown.1)) part);
      cause = (disk ∙ none.0, rw (← none.1) rose);
    }

-- ---- the run of the words

-- the run of no command from a session on, with the lines of its keys
abbrev pub listing_there : SessionState → List Link → State → ScriptRun
listing_there s links m = listing_run s (key_lines s.heads) links m

pub listing_finds_room : (s : SessionState) (links : List Link) (m : State) (text : List ℕ) (v : View) → SaidFindRoom s.opened (listing_there s links m) text v
listing_finds_room s links m text v said told k c there long = finds_room s (key_lines s.heads) links m s.opened k c there

module _ (target : TargetFile) (v0 v1 : View) (s : SessionState) (begun : IsBegun target.datime s) (b : Beginning) (begins : BeginsRun (Recover target) b v0) (is : b.input ≡ [])
    (st : StandsFor v1 s b.state b.text) (links : st.state.links ≡ b.links) where
  saved : saved_of b.state ≡ b.state
  saved = saved_start b.file b.state begins.reads

  -- no row was pending
  idle : file_records s st.state.links ≡ without_pending b.links
  idle = records_idle s b.state st.file st.state saved ∙ ap without_pending links

  -- a session that began with the run's records does the run of the words
  pub its_listing : listing_there s st.state.links b.state ≡ run_of_work (Recover target) b
  its_listing =
      let heads : s.heads ≡ begins.listing.0 = keys_one (keyed_records b.links) s.heads begins.listing.0 (subst (λ (l : List Link). AreKeysOf (keyed_records l) s.heads) links st.state.keys) begins.listing.1 in
      let lines : key_lines s.heads ≡ b.listing = ap key_lines heads ∙ sym begins.listing.2 in
      λ i. record { start = b.state; commands = []; marks = (file_run (begun.datime_is i) (idle i) b.state []).marks; replies = Printed; listing = lines i }

  -- and leaves its records
  pub its_records : session_closed_records s st.state.links b.state [] ≡ records_of (Recover target) b
  its_records = nothing_left s.datime (file_records s st.state.links) b.state (none_saved s b.state st.file st.state saved) ∙ links

-- A generated file: its commands are done, it is closed, and a line of it is said.
use Rattle.std.proofs.{Common.{◌≡◌, ◌∙◌, inl, inr, ⊎_elim, ℕ, zero, suc, ◌+◌, ◌≤◌, List, [], ◌++◌, length, take, true, Option, None, Some, Result, Ok, Err, OnOk, subst, sym, refl, ap, arith}, lemmas.{Bool.{and_from}, List.{append-nil}}}
use Rattle.std.specs.List.{list_all, slice_get}
use Rattle.rio_chain.specs.Segments.{Link}
use Rattle.rio_csv.specs.Unread.{TakesFirst}
use Rattle.rio_gen.proofs.RowLaws.{tree_is_stated}
use Rattle.rio_gen.specs.{Generated.{fills_from, gen_script, numbers_from, tree_name}, Summary.{summary_text}}
use Rattle.rio_gen.specs.Generated as generated
use Rattle.rio_host.specs.{Host.{Any, Becomes, Elapses, IsLawful, Leaves, Longer, Speaking, View}, OnlyReads.{Grown, OnlyReads}}
use Rattle.rio_host.proofs.{Images.{becomes_some}, Moments.{elapses_as, elapses_join, leaves_back, says_quiet}, PiecesLaws.{grown_join}}
use Rattle.rio_dir.specs.Unborn.{is_unborn}
use Rattle.rio_machine.specs.{State.{State, empty_state}, declared.command.Command.{Command}}
use Rattle.rio_session.specs.{Behind.{SaysPart}, Causes.{IsSessionCause}, Closes.{IsWellClosed}, Opening.{IsBegun}, Session.{IsReady, SessionState, StandsFor, file_records}}
use Rattle.rio_session.specs.declared.replies.Replies.{TheVariants.{Printed, Omitted}}
use Rattle.rio_session.specs.declared.fault.SessionFault.{SessionFault, TheVariants.{HostFault, SayFault, NoMemory}}
use Rattle.rio_session.proofs.{OpenMoments.{unborn_empty}, Opened.{reads_open}, Spoken.{front_none, front_part}}
use Rattle.rio_state.specs.{Left.{IsLeftAs}, Reads.{ReadsAsState, ReadsClosed}}
use Rattle.rio_step.proofs.RunLaws.{runs_begin_alike}
use Rattle.rio_step.specs.{Runs.{Marks, saved_of, state_after, states_of_run}, Statable.{is_statable}}
use Rattle.rio_effect.specs.FileRuns.{file_run}
use Rattle.rootio.specs.{Generated.{line_of_records}, Generating.{EndsGenerated, GeneratedIsStatable, GeneratesAndSays, IsLineOf, SaysLine, SaysSummary, generated_run}}
use Rattle.rootio.specs.{Headline.{IsClosedWhereListed, IsStopOf, ReadsAsEnd, SaidFindRoom, ScriptRun, end_state}, Records.{closed_records, without_pending}, Script.{HasClosed, StaysOpenBy, session_closed_records, session_run}, Target.{TargetFile}}
use Rattle.rootio.specs.Writing.{Beginning, BeginsRun, EndsInClose, EndsUnclosed, SaysWhole, StandsBetween, StandsClosed, StandsUnsaid, records_of, run_of_work}
use Rattle.rootio.specs.{Script.{status_of_session}, declared.words.Work.TheVariants.{Generate}}
use Rattle.rootio.proofs.{ClosedSummaries.{closed_files_sum_up}, Idle.{records_idle}, RunStops.{not_listed}, Scripts.{saved_start}}

-- ---- its commands can be stated

fills_statable : (first n : ℕ) → list_all is_statable (fills_from first n) ≡ true
unfolding numbers_from
fills_statable first zero = refl
fills_statable first (suc n) = and_from _ _ tree_is_stated.name (fills_statable (first + 1) n)

pub generated_statable : GeneratedIsStatable
generated_statable entries = and_from _ _ (and_from _ _ tree_is_stated.name tree_is_stated.branches) (fills_statable 0 entries)

-- ---- the next command

-- what is taken of the script is taken of a source
pub taken_first : {A : Type 0} (old new : List A) (o : Option A) → generated.TakesFirst old o new → TakesFirst (Some old) o (Some new)
taken_first {A} old new None took = (ap some_list took.0, ap some_list took.1)
  where
    some_list : List A → Option (List A)
    some_list l = Some l
taken_first {A} old new (Some item) took = (new, ap some_list took, refl)
  where
    some_list : List A → Option (List A)
    some_list l = Some l

-- ---- a run with the line behind the close, and without it

module _ (s : SessionState) (entries : ℕ) (links : List Link) (m : State) where
  abbrev plain : ScriptRun
  plain = session_run Omitted s links m (gen_script entries)

  abbrev run : ScriptRun
  run = generated_run s entries links m

  abbrev line : List ℕ
  line = line_of_records entries (session_closed_records s links m (gen_script entries))

  none_taken : (n : ℕ) → take {A = ℕ} n [] ≡ []
  none_taken zero = refl
  none_taken (suc n) = refl

  -- the one says nothing
  none_said : (file text image said : List ℕ) → IsStopOf plain file text image said → said ≡ text
  none_said file text image said stop = stop.replies.text ∙ ap (λ (l : List ℕ). text ++ l) (none_taken stop.replies.bytes) ∙ append-nil text

  -- what a stop leaves of the one, with a front of the line, is left of the other
  with_front : (file text image said all : List ℕ) (k : ℕ) → IsStopOf plain file text image said → IsClosedWhereListed run text image all → all ≡ said ++ take k line → IsStopOf run file text image all
  with_front file text image said all k stop listed is = record {
    j = stop.j;
    k = stop.k;
    replies = record {
      bytes = k;
      text = is ∙ ap (λ (l : List ℕ). l ++ take k line) (none_said file text image said stop);
      commands = stop.replies.commands;
      whole = let le : 0 ≤ k = omega arith in le;
      part = λ printed. absurd (not_printed printed);
    };
    prefix = record { state = stop.prefix.state; state_is = stop.prefix.state_is; reads = stop.prefix.reads; closed = stop.prefix.closed };
    holds = stop.holds;
    next = λ printed. absurd (not_printed printed);
    listed = listed;
  }
    where
      not_printed : Omitted ≡ Printed → ⊥
      not_printed e = cc

  without_front : (file text image said : List ℕ) → IsStopOf plain file text image said → IsStopOf run file text image said
  without_front file text image said stop =
      with_front file text image said said 0 stop (not_listed run text image said (omega (arith, ap length (none_said file text image said stop)))) (sym (append-nil said))

  -- what was said before it ended
  says_alike : (before : List ℕ) (new : View) → SaysWhole plain before new → SaysWhole run before new
  says_alike before new says = record { j = says.j; commands = says.commands; said = says.said }

  between_alike : (before : List ℕ) (new : View) → StandsBetween plain before new → StandsBetween run before new
  between_alike before new between = record {
    says = record { j = between.says.j; commands = between.says.commands; said = between.says.said };
    state = between.state;
    state_is = between.state_is;
    left = between.left;
  }

  -- a file that could not be closed
  in_close : (before : List ℕ) (new : View) → EndsInClose plain before new → EndsInClose run before new
  in_close before new ends = record {
    said = ends.said;
    left = λ image said left. let c = ends.left image said left in record { k = c.k; state = c.state; state_is = c.state_is; reads = c.reads };
  }

  -- what the file says that was closed
  line_is : (name : List ℕ) (datime : ℕ) (header image : List ℕ) → IsWellClosed name datime header (session_closed_records s links m (gen_script entries)) image → ReadsAsState image (end_state plain) → ReadsClosed image (end_state plain)
      → IsLineOf entries image line
  line_is name datime header image closed reads keyed =
      let sums = (closed_files_sum_up name datime header (session_closed_records s links m (gen_script entries)) image tree_name (end_state plain) closed reads keyed).sums in
      (sums.s, sums.is, λ i. summary_text (record { entries = entries; baskets = sym sums.baskets i; sum = sym sums.sum i }))

-- ---- before the file is closed

start_state : (m : State) (cs : List Command) (marks : Marks) → slice_get (states_of_run m cs marks) 0 ≡ Some m
unfolding state_after
start_state m cs marks = runs_begin_alike m cs marks 0 (omega arith)

-- an open file is left as it begins
begins_so : (s : SessionState) (entries : ℕ) (v : View) (ready : IsReady v s) (law : IsLawful v) (file text : List ℕ) (m : State) (stands : StandsFor v s m text) (image said : List ℕ) → Leaves v image said
    → IsStopOf (session_run Omitted s stands.state.links m (gen_script entries)) file text image said
begins_so s entries v ready law file text m stands image said left =
    let h = stands.state in
    let r = session_run Omitted s h.links m (gen_script entries) in
    let same : image ≡ stands.file = ready.quiet image said stands.file left stands.holds in
    let is_left : IsLeftAs (saved_of m) image = subst (λ (l : List ℕ). IsLeftAs (saved_of m) l) (sym same) (reads_open stands.file s.nbytes_name h.links m h.head h.chain.chain h.records).left in
    record {
      j = 0;
      k = 0;
      replies = record {
        bytes = 0;
        text = law.text image said text left stands.said ∙ sym (append-nil text);
        commands = omega arith;
        whole = omega arith;
        part = λ printed. absurd (let e : Omitted ≡ Printed = printed in cc);
      };
      prefix = record { state = m; state_is = start_state m r.commands r.marks; reads = is_left.reads; closed = λ before. is_left.closed };
      holds = omega arith;
      next = λ printed. absurd (let e : Omitted ≡ Printed = printed in cc);
      listed = not_listed r text image said (omega (arith, ap length (law.text image said text left stands.said)));
    }

-- ---- the commands that a source has are those of a generated file

module _ (v1 v2 : View) (s : SessionState) (commands : List Command) (entries : ℕ) (same : commands ≡ gen_script entries) where
  pub stops_of : ((file text : List ℕ) (m : State) (stands : StandsFor v1 s m text) → Elapses v1 v2 (IsStopOf (session_run Omitted s stands.state.links m commands) file text))
      → (file text : List ℕ) (m : State) (stands : StandsFor v1 s m text) → Elapses v1 v2 (IsStopOf (session_run Omitted s stands.state.links m (gen_script entries)) file text)
  stops_of stops =
      subst (λ (l : List Command). (file text : List ℕ) (m : State) (stands : StandsFor v1 s m text) → Elapses v1 v2 (IsStopOf (session_run Omitted s stands.state.links m l) file text)) same stops

  pub room_of : ((m : State) (text : List ℕ) (stands : StandsFor v1 s m text) → s.costs ≡ 0 → SaidFindRoom s.opened (session_run Omitted s stands.state.links m commands) text v2)
      → (m : State) (text : List ℕ) (stands : StandsFor v1 s m text) → s.costs ≡ 0 → SaidFindRoom s.opened (session_run Omitted s stands.state.links m (gen_script entries)) text v2
  room_of room =
      subst (λ (l : List Command). (m : State) (text : List ℕ) (stands : StandsFor v1 s m text) → s.costs ≡ 0 → SaidFindRoom s.opened (session_run Omitted s stands.state.links m l) text v2) same room

  pub stays_of : (r : Result (Unit {0}) SessionFault) → ((m : State) (text : List ℕ) (stands : StandsFor v1 s m text) → StaysOpenBy StandsUnsaid (session_run Omitted s stands.state.links m commands) text v2 r)
      → (m : State) (text : List ℕ) (stands : StandsFor v1 s m text) → StaysOpenBy StandsUnsaid (session_run Omitted s stands.state.links m (gen_script entries)) text v2 r
  stays_of r stays =
      subst (λ (l : List Command). (m : State) (text : List ℕ) (stands : StandsFor v1 s m text) → StaysOpenBy StandsUnsaid (session_run Omitted s stands.state.links m l) text v2 r) same stays

  pub closed_of : ((m : State) (text : List ℕ) (stands : StandsFor v1 s m text) → HasClosed (session_run Omitted s stands.state.links m commands) stands.state.links stands.file s text v2)
      → (m : State) (text : List ℕ) (stands : StandsFor v1 s m text) → HasClosed (session_run Omitted s stands.state.links m (gen_script entries)) stands.state.links stands.file s text v2
  closed_of closed =
      subst (λ (l : List Command). (m : State) (text : List ℕ) (stands : StandsFor v1 s m text) → HasClosed (session_run Omitted s stands.state.links m l) stands.state.links stands.file s text v2) same closed

-- ---- the whole

abbrev some_text : List ℕ → Option (List ℕ)
some_text l = Some l

module _ (v1 v2 : View) (s : SessionState) (entries : ℕ) (ready : IsReady v1 s) (law1 : IsLawful v1) (law2 : IsLawful v2) (told : Becomes Any v1.holds v2.holds) (grown : Becomes Grown v1.said v2.said)
    (stops : (file text : List ℕ) (m : State) (stands : StandsFor v1 s m text) → Elapses v1 v2 (IsStopOf (session_run Omitted s stands.state.links m (gen_script entries)) file text))
    (room : (m : State) (text : List ℕ) (stands : StandsFor v1 s m text) → s.costs ≡ 0 → SaidFindRoom s.opened (session_run Omitted s stands.state.links m (gen_script entries)) text v2) where
  -- it didn't come to the line
  pub not_closed : (e : SessionFault) → ((m : State) (text : List ℕ) (stands : StandsFor v1 s m text) → StaysOpenBy StandsUnsaid (session_run Omitted s stands.state.links m (gen_script entries)) text v2 (Err e))
      → IsSessionCause {X = Unit {0}} v1 v2 (Err e) → (◌≡◌ {A = SessionFault} e SayFault → ⊥) → GeneratesAndSays v1 v2 s entries (Err e)
  not_closed e unclosed cause quiet = record {
    stops = λ file text m stands.
        let r = generated_run s entries stands.state.links m in
        elapses_as (IsStopOf r file text) (IsStopOf (session_run Omitted s stands.state.links m (gen_script entries)) file text) (stops file text m stands)
        (λ image said stop. without_front s entries stands.state.links m file text image said stop);
    done = tt;
    unclosed = λ m text stands. by m text stands e (unclosed m text stands) quiet;
    told = told;
    said = grown;
    room = room;
    cause = cause;
  }
    where
      by : (m : State) (text : List ℕ) (stands : StandsFor v1 s m text) (f : SessionFault) → StaysOpenBy StandsUnsaid (session_run Omitted s stands.state.links m (gen_script entries)) text v2 (Err f)
          → (◌≡◌ {A = SessionFault} f SayFault → ⊥) → EndsGenerated (generated_run s entries stands.state.links m) text v2 (Err f)
      by m text stands HostFault stays none =
          ⊎_elim (λ stops. inl (stops.0, says_alike s entries stands.state.links m text v2 stops.1)) (λ ends. inr (inl (in_close s entries stands.state.links m text v2 ends))) stays
      by m text stands SayFault stays none = absurd (none refl)
      by m text stands NoMemory stays none = inl (between_alike s entries stands.state.links m text v2 stays)

  -- the line behind the close
  module _ (closed : (m : State) (text : List ℕ) (stands : StandsFor v1 s m text) → HasClosed (session_run Omitted s stands.state.links m (gen_script entries)) stands.state.links stands.file s text v2)
      (none : IsSessionCause {X = Unit {0}} v1 v2 (Ok tt)) (v4 : View) (law4 : IsLawful v4) (result : Result (Unit {0}) SessionFault) (says : SaysSummary entries v2 v4 result) where
    module _ (m : State) (text : List ℕ) (stands : StandsFor v1 s m text) where
      abbrev its_line : List ℕ
      its_line = line_of_records entries (session_closed_records s stands.state.links m (gen_script entries))

      -- the file that was closed
      image_there : (image : List ℕ) × (v2.holds ≡ Some image) × Any stands.file image
      image_there = becomes_some Any v1.holds v2.holds stands.file stands.holds told

      is_line : IsLineOf entries image_there.0 its_line
      is_line =
          let c = closed m text stands in
          let left = law2.as_read image_there.0 image_there.1 in
          let both = c.left image_there.0 left.0 left.1 in
          line_is s entries stands.state.links m s.name s.datime stands.file image_there.0 (c.written image_there.0 left.0 left.1) both.0 both.1

      speaks : Elapses v2 v4 (Speaking its_line v2)
      speaks = says.time image_there.0 its_line image_there.1 is_line

      said_line : SaysLine its_line v2 v4 result
      said_line = says.said image_there.0 its_line image_there.1 is_line

      said_before : v2.said ≡ Some (text ++ [])
      said_before = (closed m text stands).said

      -- what is left was left by the close
      left_closed : (image said : List ℕ) → Leaves v4 image said → (before : List ℕ) × Leaves v2 image before
      left_closed image said left = ⊎_elim (λ was. (said, was)) (λ spoken. (spoken.0, spoken.1)) (leaves_back law4 speaks image said left)

      ends_closed : (image said : List ℕ) → Leaves v4 image said → ReadsAsEnd (generated_run s entries stands.state.links m) image
      ends_closed image said left = let was = left_closed image said left in (closed m text stands).left image was.0 was.1

      stands_closed : SaysPart v4 (text ++ []) its_line → StandsClosed (generated_run s entries stands.state.links m) text v4
      stands_closed part = record { text = part; left = ends_closed }

      stops_all : (file : List ℕ) → Elapses v1 v4 (IsStopOf (generated_run s entries stands.state.links m) file text)
      stops_all file =
          let r = generated_run s entries stands.state.links m in
          let plain_run = session_run Omitted s stands.state.links m (gen_script entries) in
          let first = elapses_as (IsStopOf r file text) (IsStopOf plain_run file text) (stops file text m stands) (λ image said stop. without_front s entries stands.state.links m file text image said stop) in
          elapses_join (Speaking its_line v2) first speaks
          (λ image said spoken.
          let stop : IsStopOf plain_run file text image spoken.0 =
          ⊎_elim (λ was. begins_so s entries v1 ready law1 file text m stands image spoken.0 was) (λ now. now) (leaves_back law2 (stops file text m stands) image spoken.0 spoken.1) in
          with_front s entries stands.state.links m file text image spoken.0 said spoken.2.0 stop (λ long. (closed m text stands).left image spoken.0 spoken.1) spoken.2.1)

    -- all replies found room
    finds_room : (m : State) (text : List ℕ) (stands : StandsFor v1 s m text) → s.costs ≡ 0
        → SaidFindRoom s.opened (generated_run s entries stands.state.links m) text v4
    finds_room m text stands costs said told_said k c there long rooms = (closed m text stands).room costs k c there rooms

    done_so : (r : Result (Unit {0}) SessionFault) → ((m : State) (text : List ℕ) (stands : StandsFor v1 s m text) → SaysLine (its_line m text stands) v2 v4 r)
        → OnOk r ((m : State) (text : List ℕ) (stands : StandsFor v1 s m text) → HasClosed (generated_run s entries stands.state.links m) stands.state.links stands.file s text v4)
    done_so (Err e) lines = tt
    done_so (Ok x) lines = λ m text stands. record {
      quiet = says_quiet (its_line m text stands) law4 (closed m text stands).quiet (speaks m text stands) says.holds;
      said =
          let grew = becomes_some (Longer (its_line m text stands)) v2.said v4.said (text ++ []) (said_before m text stands) (lines m text stands) in
          grew.1 ∙ ap some_text (grew.2 ∙ ap (λ (l : List ℕ). l ++ its_line m text stands) (append-nil text));
      left = ends_closed m text stands;
      written = λ image said left. let was = left_closed m text stands image said left in (closed m text stands).written image was.0 was.1;
      room = (closed m text stands).room;
    }

    ends_so : (r : Result (Unit {0}) SessionFault) (m : State) (text : List ℕ) (stands : StandsFor v1 s m text) → SaysLine (its_line m text stands) v2 v4 r
        → EndsGenerated (generated_run s entries stands.state.links m) text v4 r
    ends_so (Ok x) m text stands spoke = tt
    ends_so (Err HostFault) m text stands spoke = inr (inr (stands_closed m text stands (front_none v2 v4 (text ++ []) (its_line m text stands) (said_before m text stands) spoke)))
    ends_so (Err SayFault) m text stands spoke =
        stands_closed m text stands (front_part v2 v4 (text ++ []) (its_line m text stands) (its_line m text stands) (said_before m text stands) refl spoke)
    ends_so (Err NoMemory) m text stands spoke = inr (stands_closed m text stands (front_none v2 v4 (text ++ []) (its_line m text stands) (said_before m text stands) spoke))

    cause_so : (r : Result (Unit {0}) SessionFault) → IsSessionCause v2 v4 r → IsSessionCause v1 v4 r
    cause_so (Ok x) c = (c.0 ∙ none.0, c.1 ∙ none.1)
    cause_so (Err HostFault) c = (rw (← none.0) c.0, c.1 ∙ none.1)
    cause_so (Err SayFault) c = (c.0 ∙ none.0, rw (← none.1) c.1)
    cause_so (Err NoMemory) c = (c.0 ∙ none.0, c.1 ∙ none.1)

    pub closed_and_said : GeneratesAndSays v1 v4 s entries result
    closed_and_said = record {
      stops = λ file text m stands. stops_all m text stands file;
      done = done_so result said_line;
      unclosed = λ m text stands. ends_so result m text stands (said_line m text stands);
      told = subst (Becomes Any v1.holds) (sym says.holds) told;
      said = grown_join v1.said v2.said v4.said grown says.grows;
      room = finds_room;
      cause = cause_so result says.cause;
    }

-- ---- the run of the words

pub ends_generated : (target : TargetFile) (entries : ℕ) (ran : ScriptRun) (file before : List ℕ) (old new : View) (r : Result (Unit {0}) SessionFault)
    → EndsGenerated ran before new r → EndsUnclosed (Generate target entries) ran file before old new (status_of_session r)
ends_generated target entries ran file before old new (Ok x) ends = tt
ends_generated target entries ran file before old new (Err HostFault) ends =
    ⊎_elim (λ stops. inl (inr (λ image said left. inr (inr (stops.0 image said left))), stops.1)) (λ closed. inr closed) ends
ends_generated target entries ran file before old new (Err SayFault) ends = ends
ends_generated target entries ran file before old new (Err NoMemory) ends = inr ends

-- the run of the words, from a session on
abbrev pub generated_there : SessionState → ℕ → List Link → State → ScriptRun
generated_there s entries links m = generated_run s entries links m

module _ (target : TargetFile) (entries : ℕ) (v0 v1 : View) (s : SessionState) (begun : IsBegun target.datime s) (unborn : (file : List ℕ) → v0.holds ≡ Some file → is_unborn file ≡ true)
    (b : Beginning) (begins : BeginsRun (Generate target entries) b v0) (is : b.input ≡ []) (st : StandsFor v1 s b.state b.text) (links : st.state.links ≡ b.links) where
  -- no row was pending
  idle : file_records s st.state.links ≡ without_pending b.links
  idle = records_idle s b.state st.file st.state (saved_start b.file b.state begins.reads) ∙ ap without_pending links

  empty : b.state ≡ empty_state
  empty = unborn_empty b.file b.state (unborn b.file begins.holds) begins.reads

  -- a session that began with the run's records leaves its records
  pub its_records : session_closed_records s st.state.links b.state (gen_script entries) ≡ records_of (Generate target entries) b
  its_records = λ i. closed_records (begun.datime_is i) (idle i) b.state (gen_script entries)

  its_listing : line_of_records entries (session_closed_records s st.state.links b.state (gen_script entries)) ≡ b.listing
  its_listing =
      ap (line_of_records entries) (λ i. closed_records (begun.datime_is i) (idle i) (empty i) (gen_script entries))
      ∙ sym begins.listing

  -- and does the run of the words
  pub its_run : generated_run s entries st.state.links b.state ≡ run_of_work (Generate target entries) b
  its_run = λ i. record {
    start = b.state;
    commands = gen_script entries;
    marks = (file_run (begun.datime_is i) (idle i) b.state (gen_script entries)).marks;
    replies = Omitted;
    listing = its_listing i;
  }

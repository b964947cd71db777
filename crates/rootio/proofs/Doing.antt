-- A run's commands, one after the other.
use Rattle.std.proofs.Common.{◌≡◌, inl, inr, ℕ, suc, ◌+◌, ◌<◌, ◌≤◌, false, List, [], ◌∷◌, ◌++◌, length, take, drop, get_or, IsErrOf, Option, Some, Result, Ok, Err, subst, sym, refl, ap, ◌∙◌, arith, append_assoc}
use Rattle.std.proofs.{lemmas.List.{append-nil, drop-drop, drop_all, get_or_default, take_all}, lemmas.Option.{same_Some, slice_get-get_or}, Math.Seq.{drop-cons}}
use Rattle.std.specs.Result.{OnOk}
use Rattle.rio_host.specs.{Host.{Any, Becomes, Elapses, IsLawful, View}, OnlyReads.{Grown, OnlyReads}}
use Rattle.rio_host.proofs.{Moments.{elapses_join}, PiecesLaws.{grown_join}, ReadsLaws.{left_before}}
use Rattle.rio_chain.specs.{Chains.{HasChain}, Segments.{IsChain, Link}, Stops.{KeepsFront}}
use Rattle.rio_chain.proofs.OneChain.{chain_one}
use Rattle.rio_machine.specs.{State.{State}, declared.command.Command.{Command, TheVariants.{Ls}}, declared.command.Outcome.{Outcome}}
use Rattle.rio_step.proofs.RunLaws.{runs_begin_alike}
use Rattle.rio_step.specs.{Runs.{first_mark, said_of, saved_of, state_after}, Step.{Stepped, outcome_of, step}}
use Rattle.rio_step.specs.Costs.{cost_of}
use Rattle.rio_state.specs.Left.{IsLeftAs}
use Rattle.rio_session.specs.{Behind.{SaysPart}, Causes.{IsCloseCause, IsSaid, IsSessionCause, NoCountRose, SaysNothing}}
use Rattle.rio_effect.specs.FileRuns.{FileRecords, FileRun, FileStep, file_run, file_step, marked_before}
use Rattle.rio_effect.proofs.FileRunLaws.{runs_have_parts}
use Rattle.rio_session.specs.{FileSteps.{IsStepTold, RecordsBecome}, Replying.{printed_of, reply_text}, Session.{file_records}, declared.replies.Replies.{Replies}}
use Rattle.rio_session.proofs.Follows.{follows_costs, follows_datime, follows_name, follows_opened}
use Rattle.rio_session.specs.Session.{IsOpenAs, IsReady, LacksRoomIfFull, LeavesOpenAs, SessionState, StandsFor, Steps, Went, next_of, with_cost}
use Rattle.rio_session.specs.declared.fault.SessionFault.{SessionFault, TheVariants.{HostFault, SayFault, NoMemory}}
use Rattle.rio_session.proofs.{Opened.{keeps_own}, Spoken.{grows_none}}
use Rattle.rootio.specs.{Headline.{IsStopOf, SaidFindRoom, ScriptRun, replies}, Script.{EndsCommands, HasDone, session_file_run, session_run}, Writing.{LeavesOpen, SaysWhole, StandsBetween, StandsUnsaid}}
use Rattle.rootio.proofs.{Unclosed.{reads_between, steps_open}, Untouched.{any_join, becomes_same, elapses_none}}
use Rattle.rootio.proofs.Room.{CostsSo, all_find_room, costs_more, no_costs, room_at_fault}
use Rattle.rootio.proofs.RunStops.{IsNext, behind, behind_next, prefix_at, printed_none, replies_next, step_at, stop_between, stop_within}

-- ---- marks

-- what the commands behind the first k do to a file with these records
abbrev pub run_left : ℕ → FileRecords → ScriptRun → ℕ → FileRun
run_left datime now r k = file_run datime now (behind r k) (drop k r.commands)

-- What is left of the marks belongs to what is left of the commands, on a file of these records, and what is left of the run ends with
-- the last records.
pub record MarksLeft (datime : ℕ) (now last : FileRecords) (r : ScriptRun) (k : ℕ) : Type 0 where
  pub are : drop k r.marks ≡ (run_left datime now r k).marks
  pub ends : (run_left datime now r k).records ≡ last

commands_left : (r : ScriptRun) (k : ℕ) (c : Command) → IsNext r k c → drop k r.commands ≡ c ∷ drop (k + 1) r.commands
commands_left r k c next =
    let e : suc k ≡ k + 1 = omega arith in
    drop-cons r.commands k Ls next.within ∙ ap (λ x. x ∷ drop (suc k) r.commands) next.is ∙ ap (λ n. c ∷ drop n r.commands) e

module _ (datime : ℕ) (now last : FileRecords) (r : ScriptRun) (k : ℕ) (c : Command) (left : MarksLeft datime now last r k) (next : IsNext r k c) where
  -- what the next command does to the file
  abbrev next_on_file : FileStep
  next_on_file = file_step datime now (behind r k) c

  -- and the commands behind it
  abbrev others : FileRun
  others = file_run datime next_on_file.records (step (behind r k) c next_on_file.mark).state (drop (k + 1) r.commands)

  parts : run_left datime now r k ≡ marked_before next_on_file.mark others
  parts =
      ap (λ (commands : List Command). file_run datime now (behind r k) commands) (commands_left r k c next)
      ∙ runs_have_parts datime now (behind r k) c (drop (k + 1) r.commands)

  marks_are : drop k r.marks ≡ next_on_file.mark ∷ others.marks
  marks_are = left.are ∙ ap (λ (x : FileRun). x.marks) parts

  -- the next step is that of the file's records
  pub step_is : step_at r k c ≡ step (behind r k) c next_on_file.mark
  step_is = ap (λ mark. step (behind r k) c mark) (ap first_mark marks_are)

  -- the others begin with the records behind it
  pub marks_next : (after : FileRecords) → next_on_file.records ≡ after → MarksLeft datime after last r (k + 1)
  marks_next after becomes =
      let state : (step (behind r k) c next_on_file.mark).state ≡ behind r (k + 1) = ap (λ (t : Stepped). t.state) (sym step_is) ∙ sym (behind_next r k c next) in
      let same : others ≡ run_left datime after r (k + 1) = λ i. file_run datime (becomes i) (state i) (drop (k + 1) r.commands) in
      record {
        are = sym (drop-drop 1 k r.marks) ∙ ap (drop 1) marks_are ∙ ap (λ (x : FileRun). x.marks) same;
        ends = ap (λ (x : FileRun). x.records) (sym same) ∙ ap (λ (x : FileRun). x.records) (sym parts) ∙ left.ends;
      }

-- the records of a file, after a command
records_then : (old new : View) (s s1 : SessionState) (m m1 : State) (c : Command) (text text1 : List ℕ) (stands : StandsFor old s m text) (later : StandsFor new s1 m1 text1) → RecordsBecome old new s s1 m c
    → (file_step s.datime (file_records s stands.state.links) m c).records ≡ file_records s1 later.state.links
records_then old new s s1 m m1 c text text1 stands later become =
    let has = become stands.file stands.state.links stands.holds stands.state.chain in
    let file : has.now ≡ later.file = same_Some has.now later.file (sym has.holds ∙ later.holds) in
    let links = (file_step s.datime (file_records s stands.state.links) m c).records.links in
    let same : links ≡ later.state.links = chain_one later.file links later.state.links (subst (IsChain links) file has.chain.chain) later.state.chain.chain in
    λ i. record { links = same i; put = λ name. has.puts_are name i }

-- and the front of the file
front_after : (old new : View) (s s1 : SessionState) (m m1 : State) (c : Command) (text text1 front : List ℕ) (stands : StandsFor old s m text) (later : StandsFor new s1 m1 text1) → RecordsBecome old new s s1 m c
    → KeepsFront front stands.file → KeepsFront front later.file
front_after old new s s1 m m1 c text text1 front stands later become kept =
    let has = become stands.file stands.state.links stands.holds stands.state.chain in
    let file : has.now ≡ later.file = same_Some has.now later.file (sym has.holds ∙ later.holds) in
    subst (KeepsFront front) file (λ i x low at. has.front i x low (kept i x low at))

-- where no command is left the records are the last ones
none_left : (datime : ℕ) (now last : FileRecords) (m : State) (commands : List Command) → commands ≡ [] → (file_run datime now m commands).records ≡ last → now ≡ last
unfolding file_run
none_left datime now last m [] none ends = ends
none_left datime now last m (c ∷ cs) none ends = absurd cc

-- ---- one command

-- a run so far: the first k commands are done and their replies said
pub record Sofar (start v : View) (last : FileRecords) (front : List ℕ) (first s : SessionState) (r : ScriptRun) (before : List ℕ) (k : ℕ) : Type 0 where
  pub stands : StandsFor v s (behind r k) (before ++ replies r k)
  pub name : s.name ≡ first.name
  pub datime : s.datime ≡ first.datime
  pub marks : MarksLeft s.datime (file_records s stands.state.links) last r k
  pub kept : KeepsFront front stands.file
  pub time : (file : List ℕ) → Elapses start v (IsStopOf r file before)
  pub costs : CostsSo first s r k

module _ (r : ScriptRun) (before : List ℕ) (k : ℕ) (c : Command) (next : IsNext r k c) (s : SessionState) (links : List Link) (last : FileRecords) (left : MarksLeft s.datime (file_records s links) last r k) (told : IsStepTold s (behind r k) c links) where
  -- the session does the run's next step
  abbrev done : Stepped
  done = next_of s (behind r k) c

  done_is : step_at r k c ≡ done
  done_is = step_is s.datime (file_records s links) last r k c left next ∙ told

  -- what a stop leaves within the command
  pub stops_within : (file image said : List ℕ) → Steps r.replies (behind r k) done (before ++ replies r k) image said → IsStopOf r file before image said
  stops_within file image said (inl was) =
      let within : k ≤ length r.commands = omega (arith, next.within) in
      stop_between r file before image said k within (prefix_at r file image k within was.0.left) was.1
  stops_within file image said (inr now) =
      let within : k + 1 ≤ length r.commands = omega (arith, next.within) in
      let state : done.state ≡ behind r (k + 1) = ap (λ (t : Stepped). t.state) (sym done_is) ∙ sym (behind_next r k c next) in
      let prefix = prefix_at r file image (k + 1) within (subst (λ m. IsLeftAs (saved_of m) image) state now.0.left) in
      stop_within r k c next file before image said now.1.0 prefix
      (now.1.1 ∙ ap (λ (t : Stepped). (before ++ replies r k) ++ take now.1.0 (reply_text r.replies t.reply)) (sym done_is))

  -- one command more
  pub one_more : (start v new : View) (s1 : SessionState) (outcome : Outcome) → ((file : List ℕ) → Elapses start v (IsStopOf r file before))
      → (first : SessionState) → s.name ≡ first.name → s.datime ≡ first.datime → CostsSo first s r k → (at : StandsFor v s (behind r k) (before ++ replies r k)) → at.state.links ≡ links
      → (front : List ℕ) → KeepsFront front at.file → RecordsBecome v new s s1 (behind r k) c → Went r.replies v new s s1 (behind r k) c (before ++ replies r k) outcome → Sofar start new last front first s1 r before (k + 1)
  one_more start v new s1 outcome time first named soon costs at links_are front kept become went =
      let state : done.state ≡ behind r (k + 1) = ap (λ (t : Stepped). t.state) (sym done_is) ∙ sym (behind_next r k c next) in
      let text : (before ++ replies r k) ++ reply_text r.replies done.reply ≡ before ++ replies r (k + 1) =
      append_assoc before (replies r k) (reply_text r.replies done.reply)
      ∙ ap (λ (t : Stepped). before ++ (replies r k ++ reply_text r.replies t.reply)) (sym done_is)
      ∙ ap (λ l. before ++ l) (sym (replies_next r k c next)) in
      let later : StandsFor new s1 (behind r (k + 1)) (before ++ replies r (k + 1)) =
      subst (λ l. StandsFor new s1 (behind r (k + 1)) l) text (subst (λ m. StandsFor new s1 m ((before ++ replies r k) ++ reply_text r.replies done.reply)) state went.stands) in
      let step_on : List Link → FileStep = λ x. file_step s.datime (file_records s x) (behind r k) c in
      let same : (step_on links).records ≡ file_records s1 later.state.links =
      ap (λ (x : List Link). (step_on x).records) (sym links_are)
      ∙ records_then v new s s1 (behind r k) (behind r (k + 1)) c (before ++ replies r k) (before ++ replies r (k + 1)) at later become in
      record {
        stands = later;
        name = follows_name s s1 (behind r k) c went.follows ∙ named;
        datime = follows_datime s s1 (behind r k) c went.follows ∙ soon;
        marks = subst (λ (x : ℕ). MarksLeft x (file_records s1 later.state.links) last r (k + 1)) (sym (follows_datime s s1 (behind r k) c went.follows))
            (marks_next s.datime (file_records s links) last r k c left next (file_records s1 later.state.links) same);
        kept = front_after v new s s1 (behind r k) (behind r (k + 1)) c (before ++ replies r k) (before ++ replies r (k + 1)) front at later become kept;
        time = λ file. elapses_join (Steps r.replies (behind r k) done (before ++ replies r k)) (time file) went.time (λ i t steps. stops_within file i t steps);
        costs = costs_more first s s1 r k c next costs outcome (follows_opened s s1 (behind r k) c went.follows) (follows_costs s s1 (behind r k) c went.follows)
            (went.outcome_is ∙ ap (λ (t : Stepped). outcome_of t.reply) (sym done_is)) went.full;
      }

  -- what the command did, where its reply could not be said
  pub stands_unsaid : (new : View) → LeavesOpenAs new done.state → SaysPart new (before ++ replies r k) (reply_text r.replies done.reply) → StandsUnsaid r before new
  stands_unsaid new unsaid part =
      let within : k + 1 ≤ length r.commands = omega (arith, next.within) in
      let state : done.state ≡ behind r (k + 1) = ap (λ (t : Stepped). t.state) (sym done_is) ∙ sym (behind_next r k c next) in
      record {
        j = k;
        command = c;
        command_is = slice_get-get_or r.commands k Ls next.within ∙ ap Some next.is;
        text = subst (λ (t : Stepped). SaysPart new (before ++ replies r k) (reply_text r.replies t.reply)) (sym done_is) part;
        state = behind r (k + 1);
        state_is = runs_begin_alike r.start r.commands r.marks (k + 1) within;
        left = λ image said leaves.
            let open_as : IsOpenAs (behind r (k + 1)) image = subst (λ (m : State). IsOpenAs m image) state (unsaid image said leaves) in
            (open_as.left.reads, open_as.marked);
      }

-- ---- all of them

-- the records after the run
abbrev pub last_of : SessionState → List Link → State → List Command → FileRecords
last_of first links m commands = (session_file_run first links m commands).records

-- The first k commands are done, and nothing failed.
pub record Doing (printing : Replies) (start v : View) (first s : SessionState) (commands : List Command) (k : ℕ) : Type 0 where
  pub ready : IsReady v s
  pub fresh : s.failed ≡ false
  pub told : Becomes Any start.holds v.holds
  pub said : Becomes Grown start.said v.said
  pub none : NoCountRose start v
  pub sofar : (m : State) (text : List ℕ) (stands : StandsFor start first m text) → Sofar start v (last_of first stands.state.links m commands) stands.file first s (session_run printing first stands.state.links m commands) text k

start_marks : (printing : Replies) (first : SessionState) (links : List Link) (m : State) (commands : List Command) → MarksLeft first.datime (file_records first links) (last_of first links m commands) (session_run printing first links m commands) 0
unfolding state_after
start_marks printing first links m commands = record { are = refl; ends = refl }

start_stands : (printing : Replies) (v : View) (first : SessionState) (links : List Link) (m : State) (commands : List Command) (text : List ℕ) → StandsFor v first m text
    → let r = session_run printing first links m commands in StandsFor v first (behind r 0) (text ++ replies r 0)
unfolding state_after said_of
start_stands printing v first links m commands text stands =
    subst (λ l. StandsFor v first m l) (sym (append-nil text) ∙ ap (λ (l : List ℕ). text ++ l) (sym (printed_none printing))) stands

-- a host tells one file, which has one list of records
same_links : (v : View) (s : SessionState) (m m1 : State) (text text1 : List ℕ) (a : StandsFor v s m text) (b : StandsFor v s m1 text1) → a.state.links ≡ b.state.links
same_links v s m m1 text text1 a b =
    let file : a.file ≡ b.file = same_Some a.file b.file (sym a.holds ∙ b.holds) in
    chain_one b.file a.state.links b.state.links (subst (IsChain a.state.links) file a.state.chain.chain) b.state.chain.chain

pub nothing_yet : (printing : Replies) (v : View) (first : SessionState) (commands : List Command) → IsReady v first → first.failed ≡ false → Doing printing v v first first commands 0
nothing_yet printing v first commands ready fresh = record {
  ready = ready;
  fresh = fresh;
  told = becomes_same v.holds;
  said = grows_none v.said v.said refl;
  none = (refl, refl);
  sofar = λ m text stands.
      let r = session_run printing first stands.state.links m commands in
      let here = start_stands printing v first stands.state.links m commands text stands in
      record {
        stands = here;
        name = refl;
        datime = refl;
        marks = subst (λ (links : List Link). MarksLeft first.datime (file_records first links) (last_of first stands.state.links m commands) r 0) (same_links v first m (behind r 0) text (text ++ replies r 0) stands here) (start_marks printing first stands.state.links m commands);
        kept = subst (KeepsFront stands.file) (same_Some stands.file here.file (sym stands.holds ∙ here.holds)) (keeps_own stands.file);
        time = λ file. elapses_none v (IsStopOf r file text);
        costs = no_costs first r;
      };
}

next_at : (r : ScriptRun) (k : ℕ) (c : Command) → k < length r.commands → c ≡ get_or r.commands k c → IsNext r k c
next_at r k c within is = record { within = within; is = get_or_default r.commands k Ls c within ∙ sym is }

module _ (printing : Replies) (start v new : View) (first s s1 : SessionState) (commands : List Command) (k : ℕ) (c : Command) (within : k < length commands) (is : c ≡ get_or commands k c)
    (doing : Doing printing start v first s commands k) where
  pub does_next : (outcome : Outcome) → ((m : State) (text : List ℕ) → StandsFor v s m text → Went printing v new s s1 m c text outcome)
      → ((m : State) (text : List ℕ) → StandsFor v s m text → RecordsBecome v new s s1 m c)
      → ((m : State) (text : List ℕ) (stands : StandsFor v s m text) → IsStepTold s m c stands.state.links)
      → IsReady new s1 → s1.failed ≡ false → Becomes Any v.holds new.holds → Becomes Grown v.said new.said → NoCountRose v new → Doing printing start new first s1 commands (k + 1)
  does_next outcome went become steps ready fresh told said none = record {
    ready = ready;
    fresh = fresh;
    told = any_join start.holds v.holds new.holds doing.told told;
    said = grown_join start.said v.said new.said doing.said said;
    none = (none.0 ∙ doing.none.0, none.1 ∙ doing.none.1);
    sofar = λ m text stands.
        let r = session_run printing first stands.state.links m commands in
        let so = doing.sofar m text stands in
        one_more r text k c (next_at r k c within is) s so.stands.state.links (last_of first stands.state.links m commands) so.marks (steps (behind r k) (text ++ replies r k) so.stands) start v new s1 outcome so.time first so.name so.datime so.costs
        so.stands refl stands.file so.kept (become (behind r k) (text ++ replies r k) so.stands) (went (behind r k) (text ++ replies r k) so.stands);
  }

  pub stops_there : ((m : State) (text : List ℕ) → StandsFor v s m text → Elapses v new (Steps printing m (next_of s m c) text))
      → ((m : State) (text : List ℕ) (stands : StandsFor v s m text) → IsStepTold s m c stands.state.links)
      → (file text : List ℕ) (m : State) (stands : StandsFor start first m text) → Elapses start new (IsStopOf (session_run printing first stands.state.links m commands) file text)
  stops_there stopped steps file text m stands =
      let r = session_run printing first stands.state.links m commands in
      let so = doing.sofar m text stands in
      elapses_join (Steps printing (behind r k) (next_of s (behind r k) c) (text ++ replies r k)) (so.time file)
      (stopped (behind r k) (text ++ replies r k) so.stands)
      (λ image said at. stops_within r text k c (next_at r k c within is) s so.stands.state.links (last_of first stands.state.links m commands) so.marks (steps (behind r k) (text ++ replies r k) so.stands) file image said at)

  -- and nothing of what was said is want of room
  pub room_there : (e : SessionFault) → (SaysNothing {X = Outcome} (Err e) → new.said ≡ v.said)
      → (IsSaid {X = Outcome} (Err e) → (m : State) (text : List ℕ) → StandsFor v s m text → LacksRoomIfFull (with_cost (cost_of m c) s) (outcome_of (next_of s m c).reply))
      → ((m : State) (text : List ℕ) → StandsFor v s m text → SaysPart new text (reply_text printing (next_of s m c).reply))
      → ((m : State) (text : List ℕ) (stands : StandsFor v s m text) → IsStepTold s m c stands.state.links)
      → (m : State) (text : List ℕ) (stands : StandsFor start first m text) → first.costs ≡ 0
      → SaidFindRoom first.opened (session_run printing first stands.state.links m commands) text new
  room_there e silent lacks part steps m text stands none =
      let r = session_run printing first stands.state.links m commands in
      let so = doing.sofar m text stands in
      let next = next_at r k c within is in
      let same : step_at r k c ≡ next_of s (behind r k) c = done_is r text k c next s so.stands.state.links (last_of first stands.state.links m commands) so.marks (steps (behind r k) (text ++ replies r k) so.stands) in
      room_at_fault first s r text k c next so.costs none v new e so.stands.said silent
      (λ spoken. subst (λ (t : Stepped). LacksRoomIfFull (with_cost (cost_of (behind r k) c) s) (outcome_of t.reply)) (sym same) (lacks spoken (behind r k) (text ++ replies r k) so.stands))
      (subst (λ (t : Stepped). SaysPart new (text ++ replies r k) (reply_text printing t.reply)) (sym same) (part (behind r k) (text ++ replies r k) so.stands))

  -- and what the command did stands, where its reply could not be said
  pub unsaid_there : (e : SessionFault)
      → (◌≡◌ {A = Result Outcome SessionFault} (Err e) (Err SayFault) → (m : State) (text : List ℕ) → StandsFor v s m text → LeavesOpenAs new (next_of s m c).state)
      → ((m : State) (text : List ℕ) → StandsFor v s m text → SaysPart new text (reply_text printing (next_of s m c).reply))
      → ((m : State) (text : List ℕ) (stands : StandsFor v s m text) → IsStepTold s m c stands.state.links)
      → ◌≡◌ {A = Result (Unit {0}) SessionFault} (Err e) (Err SayFault)
      → (m : State) (text : List ℕ) (stands : StandsFor start first m text) → StandsUnsaid (session_run printing first stands.state.links m commands) text new
  unsaid_there HostFault unsaid part steps e m text stands = absurd cc
  unsaid_there SayFault unsaid part steps e m text stands =
      let r = session_run printing first stands.state.links m commands in
      let so = doing.sofar m text stands in
      stands_unsaid r text k c (next_at r k c within is) s so.stands.state.links (last_of first stands.state.links m commands) so.marks (steps (behind r k) (text ++ replies r k) so.stands) new (unsaid refl (behind r k) (text ++ replies r k) so.stands) (part (behind r k) (text ++ replies r k) so.stands)
  unsaid_there NoMemory unsaid part steps e m text stands = absurd cc

-- a command that fails leaves the file marked as open
pub leaves_open : (printing : Replies) (start v new : View) (first s : SessionState) (commands : List Command) (k : ℕ) (c : Command) → Doing printing start v first s commands k → IsLawful new
    → ((m : State) (text : List ℕ) → StandsFor v s m text → Elapses v new (Steps printing m (next_of s m c) text))
    → (m : State) (text : List ℕ) → StandsFor start first m text → LeavesOpen new
leaves_open printing start v new first s commands k c doing law stopped m text stands =
    let r = session_run printing first stands.state.links m commands in
    let so = doing.sofar m text stands in
    steps_open v new s (behind r k) (text ++ replies r k) doing.ready so.stands law printing (next_of s (behind r k) c) (stopped (behind r k) (text ++ replies r k) so.stands)

-- ---- where a command isn't done

module _ (printing : Replies) (start v new : View) (first s : SessionState) (commands : List Command) (k : ℕ) (within : k ≤ length commands) (doing : Doing printing start v first s commands k)
    (m : State) (text : List ℕ) (stands : StandsFor start first m text) where
  abbrev ran : ScriptRun
  ran = session_run printing first stands.state.links m commands

  -- the replies so far are said
  abbrev says_so_far : new.said ≡ v.said → SaysWhole ran text new
  says_so_far same = record { j = k; commands = within; said = same ∙ (doing.sofar m text stands).stands.said }

  -- and the file is that between two commands
  pub stands_between : IsLawful new → OnlyReads v new → new.said ≡ v.said → StandsBetween ran text new
  stands_between law only same = record {
    says = says_so_far same;
    state = behind ran k;
    state_is = runs_begin_alike m commands ran.marks k within;
    left = λ image said left.
        reads_between v new s (behind ran k) (text ++ replies ran k) doing.ready (doing.sofar m text stands).stands image said (left_before law only image said left);
  }

  pub ends_at : (e : SessionFault) → IsLawful new → LeavesOpen new → (IsErrOf {T = Outcome} (Err e) NoMemory → OnlyReads v new) → (SaysNothing {X = Outcome} (Err e) → new.said ≡ v.said)
      → (◌≡◌ {A = Result (Unit {0}) SessionFault} (Err e) (Err SayFault) → StandsUnsaid ran text new) → EndsCommands ran text new (Err e)
  ends_at HostFault law marked only silent unsaid = (marked, says_so_far (silent tt))
  ends_at SayFault law marked only silent unsaid = unsaid refl
  ends_at NoMemory law marked only silent unsaid = stands_between law (only refl) (silent tt)

pub all_done : (printing : Replies) (start v : View) (first s : SessionState) (commands : List Command) (k : ℕ) → length commands ≤ k → Doing printing start v first s commands k
    → (m : State) (text : List ℕ) (stands : StandsFor start first m text) → HasDone (session_run printing first stands.state.links m commands) stands.state.links stands.file first s text v
all_done printing start v first s commands k all doing m text stands =
    let r = session_run printing first stands.state.links m commands in
    let so = doing.sofar m text stands in
    let none : drop k commands ≡ [] = drop_all k commands all in
    let same : file_records s so.stands.state.links ≡ last_of first stands.state.links m commands =
    none_left s.datime (file_records s so.stands.state.links) (last_of first stands.state.links m commands) (behind r k) (drop k commands) none so.marks.ends in
    record {
      records = record {
        now = so.stands.file;
        holds = so.stands.holds;
        chain = subst (λ (x : FileRecords). HasChain x.links s.segments so.stands.file) same so.stands.state.chain;
        front = so.kept;
        records_are = sym same ∙ ap (λ (x : FileRecords). file_records s x.links) same;
      };
      stands = subst (λ (cs : List Command). StandsFor v s (state_after m cs r.marks) (text ++ printed_of printing (said_of m cs r.marks))) (take_all k commands all) so.stands;
      name = so.name;
      datime = so.datime;
      room = λ none. all_find_room first s r k all so.costs none;
    }

pub cause_behind : (X Y : Type 0) (start v new : View) (e : SessionFault) → NoCountRose start v → IsSessionCause {X = X} v new (Err e) → IsSessionCause {X = Y} start new (Err e)
cause_behind X Y start v new HostFault none cause = (rw (← none.0) cause.0, cause.1 ∙ none.1)
cause_behind X Y start v new SayFault none cause = (cause.0 ∙ none.0, rw (← none.1) cause.1)
cause_behind X Y start v new NoMemory none cause = (cause.0 ∙ none.0, cause.1 ∙ none.1)

pub cause_of_close : {X : Type 0} (start v new : View) (r : Result X SessionFault) → NoCountRose start v → IsCloseCause v new r → IsSessionCause start new r
cause_of_close start v new (Ok x) none cause = (cause.0 ∙ none.0, cause.1 ∙ none.1)
cause_of_close start v new (Err HostFault) none cause = (rw (← none.0) cause.0, cause.1 ∙ none.1)
cause_of_close start v new (Err SayFault) none cause = absurd cause
cause_of_close start v new (Err NoMemory) none cause = (cause.0 ∙ none.0, cause.1 ∙ none.1)

pub close_never_says : (v new : View) (r : Result (Unit {0}) SessionFault) → IsCloseCause v new r → IsErrOf r SayFault → ⊥
close_never_says v new (Ok x) cause is = cc
close_never_says v new (Err HostFault) cause is = cc
close_never_says v new (Err SayFault) cause is = cause
close_never_says v new (Err NoMemory) cause is = cc

-- a fault that a command doesn't have, the run doesn't
pub fault_again : (e : SessionFault) → (IsErrOf {T = Outcome} (Err e) SayFault → ⊥) → IsErrOf {T = Unit {0}} (Err e) SayFault → ⊥
fault_again HostFault none is = cc
fault_again SayFault none is = none refl
fault_again NoMemory none is = cc

-- what follows from four clauses where a call succeeds
pub on_ok_all : {X E P Q R S T : Type 0} (r : Result X E) → (P → Q → R → S → T) → OnOk r P → OnOk r Q → OnOk r R → OnOk r S → OnOk r T
on_ok_all (Ok x) f p q s t = f p q s t
on_ok_all (Err e) f p q s t = tt

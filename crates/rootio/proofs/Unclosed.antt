-- Runs that end without a close: what a stop leaves is marked as open.
use Rattle.std.proofs.Common.{◌≡◌, ◌∙◌, inl, inr, ⊎_elim, List, [], ◌++◌, length, ℕ, Some, arith, Result, Ok, Err, subst, sym, refl, ap, slice_get}
use Rattle.rio_host.specs.{Host.{Elapses, IsLawful, Leaves, View}, OnlyReads.{OnlyReads}}
use Rattle.rio_host.proofs.{Moments.{leaves_back}, ReadsLaws.{left_before}}
use Rattle.rio_machine.specs.State.{State}
use Rattle.rio_step.specs.{Runs.{saved_of, state_after, states_of_run}, Step.{Stepped}}
use Rattle.rio_state.specs.{Left.{IsLeftAs, IsMarkedOpen}, Reads.{ReadsAsState}}
use Rattle.rio_session.specs.{Causes.{IsCloseCause}, Session.{ClosesAs, IsReady, SessionState, StandsFor, Steps}, declared.replies.Replies.{Replies}}
use Rattle.rio_session.specs.declared.fault.SessionFault.{SessionFault, TheVariants.{HostFault, SayFault, NoMemory}}
use Rattle.rio_session.proofs.Opened.{reads_open}
use Rattle.rootio.specs.{Headline.{ScriptRun, all_replies}, Script.{EndsCommands, StaysOpenBy, status_of_session}, Writing.{EndsUnclosed, EndsUnsaid, IsOfClose, LeavesOpen, StandsUnsaid}}
use Rattle.rootio.specs.declared.words.Work.{Work}
use Rattle.rootio.proofs.RunStops.{end_of_commands, replies_whole, states_end}

first_state : (m : State) → slice_get (states_of_run m [] []) 0 ≡ Some m
unfolding states_of_run
first_state m = refl

-- the state of an open file is one of its close
pub closes_none : (m : State) (text : List ℕ) (v : View) (s : SessionState) → IsReady v s → IsLawful v → (stands : StandsFor v s m text) → (image said : List ℕ) → Leaves v image said → ClosesAs m text image said
closes_none m text v s ready law stands image said left =
    let h = stands.state in
    let same : image ≡ stands.file = ready.quiet image said stands.file left stands.holds in
    record {
      k = 0;
      state = m;
      state_is = first_state m;
      left = subst (λ (l : List ℕ). IsLeftAs (saved_of m) l) (sym same) (reads_open stands.file s.nbytes_name h.links m h.head h.chain.chain h.records).left;
      text_is = law.text image said text left stands.said;
    }

-- a state of the close is one behind all commands
of_close : (run : ScriptRun) (m : State) → m ≡ state_after run.start run.commands run.marks → (text image said : List ℕ) → ClosesAs m text image said → IsOfClose run image
of_close run m is text image said closes = record {
  k = closes.k;
  state = closes.state;
  state_is = states_end run.start run.commands run.marks closes.k ∙ ap (λ (n : State). slice_get (states_of_run n [] []) closes.k) (sym is) ∙ closes.state_is;
  reads = closes.left.reads;
}

pub steps_are_open : (replies : Replies) (m : State) (next : Stepped) (text image said : List ℕ) → Steps replies m next text image said → IsMarkedOpen image
steps_are_open replies m next text image said (inl was) = was.0.marked
steps_are_open replies m next text image said (inr now) = now.0.marked

module _ (v new : View) (s : SessionState) (m : State) (text : List ℕ) (ready : IsReady v s) (stands : StandsFor v s m text) where
  -- a session's file is marked as open
  pub stands_open : LeavesOpen v
  stands_open image said left =
      let h = stands.state in
      let same : image ≡ stands.file = ready.quiet image said stands.file left stands.holds in
      subst IsMarkedOpen (sym same) (reads_open stands.file s.nbytes_name h.links m h.head h.chain.chain h.records).marked

  -- and reads as its state
  pub reads_between : (image said : List ℕ) → Leaves v image said → ReadsAsState image (saved_of m) × IsMarkedOpen image
  reads_between image said left =
      let h = stands.state in
      let same : image ≡ stands.file = ready.quiet image said stands.file left stands.holds in
      let open_as = reads_open stands.file s.nbytes_name h.links m h.head h.chain.chain h.records in
      subst (λ (f : List ℕ). ReadsAsState f (saved_of m) × IsMarkedOpen f) (sym same) (open_as.left.reads, open_as.marked)

  -- and stays so while a command is done
  pub steps_open : IsLawful new → (replies : Replies) (next : Stepped) → Elapses v new (Steps replies m next text) → LeavesOpen new
  steps_open law replies next time image said left =
      ⊎_elim (λ was. stands_open image said was) (λ steps. steps_are_open replies m next text image said steps) (leaves_back law time image said left)

  -- a close that finds no memory writes nothing, and one whose disk fails stands behind all commands
  pub close_open : IsLawful v → IsLawful new → Elapses v new (ClosesAs m text) → (unsaid : ScriptRun → List ℕ → View → Type 0)
      → (run : ScriptRun) → m ≡ state_after run.start run.commands run.marks → (before : List ℕ) (r : Result (Unit {0}) SessionFault)
      → new.said ≡ Some (before ++ all_replies run) → (r ≡ Err NoMemory → OnlyReads v new) → IsCloseCause v new r → StaysOpenBy unsaid run before new r
  close_open first law time unsaid run is before (Ok x) said only cause = tt
  close_open first law time unsaid run is before (Err HostFault) said only cause = inr (record {
    said = said;
    left = λ image told left.
        of_close run m is text image told (⊎_elim (λ was. closes_none m text v s ready first stands image told was) (λ now. now) (leaves_back law time image told left));
  })
  close_open first law time unsaid run is before (Err SayFault) said only cause = absurd cause
  close_open first law time unsaid run is before (Err NoMemory) said only cause = record {
    says = record { j = length run.commands; commands = omega arith; said = said ∙ ap (λ (l : List ℕ). Some (before ++ l)) (sym (replies_whole run)) };
    state = m;
    state_is = end_of_commands run ∙ ap Some (sym is);
    left = λ image told left. reads_between image told (left_before law (only refl) image told left);
  }

pub stays_open : (run : ScriptRun) (before : List ℕ) (new : View) (e : SessionFault) → EndsCommands run before new (Err e) → StaysOpenBy StandsUnsaid run before new (Err e)
stays_open run before new HostFault ends = inl ends
stays_open run before new SayFault ends = ends
stays_open run before new NoMemory ends = ends

pub ends_unclosed : (work : Work) (run : ScriptRun) (file before : List ℕ) (old new : View) (r : Result (Unit {0}) SessionFault)
    → StaysOpenBy (EndsUnsaid work) run before new r → EndsUnclosed work run file before old new (status_of_session r)
ends_unclosed work run file before old new (Ok x) stays = tt
ends_unclosed work run file before old new (Err HostFault) stays =
    ⊎_elim (λ stops. inl (inr (λ image said left. inr (inr (stops.0 image said left))), stops.1)) (λ ends. inr (inl ends)) stays
ends_unclosed work run file before old new (Err SayFault) unsaid = unsaid
ends_unclosed work run file before old new (Err NoMemory) between = inr (inl between)

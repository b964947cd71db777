-- The records that a file has after a command are those that the definition of runs tells.
use Rattle.std.proofs.{Common.{◌≡◌, ℕ, ◌<◌, ◌^◌, List, [], Option, Some, None, Result, Ok, Err, false, refl, sym, ap, subst, ◌∙◌}, lemmas.Option.{same_Some}}
use Rattle.std.specs.Result.{OnOk}
use Rattle.rio_host.specs.Host.{View}
use Rattle.rio_chain.specs.{Chains.{HasChain}, Segments.{Link}, Stops.{KeepsFront}, declared.segment.Segment.{Segment}}
use Rattle.rio_chain.proofs.OneChain.{chain_one}
use Rattle.rio_machine.specs.State.{State}
use Rattle.rio_machine.specs.declared.command.Command.{Command, TheVariants.{Bad}}
use Rattle.rio_machine.specs.{declared.command.Outcome.{Outcome, TheVariants.{Accepted, Refused}}, declared.refusal.Refusal.{Refusal}}
use Rattle.rio_step.specs.{Costs.{cost_of}, Refusing.{refusal_of}, Statable.{IsStatable}, Step.{Stepped, outcome_of, reply_to}}
use Rattle.rio_effect.specs.{FileRuns.{FileStep, file_step}, HeaderRecords.{HeadersHaveRecords}}
use Rattle.rio_session.specs.{Behind.{HasChanged}, Causes.{StaysIfRefused}, Does.{Does}, FileSteps.{FollowsFile, HasRecords, IsStepTold, RecordsBecome}, Fills.{put_in}, Replying.{Replies}, Sound.{IsSoundState}}
use Rattle.rio_session.specs.{Kept.{LinksChange, all_done, changes_after, changes_by, kept_after, kept_by}, Marks.{mark_of_command}, Session.{SessionState, StandsFor, Went, file_records, next_of, with_cost}}
use Rattle.rio_session.specs.declared.fault.SessionFault.{SessionFault}
use Rattle.rio_session.proofs.{FileSteps.{steps_follow_files}, Opened.{keeps_own}, States.{of_keys}}
use Rattle.rio_session.proofs.Refused.{changes_done, changes_refused, kept_done, kept_refused, step_accepted, unrefused}

-- a bad line is refused by its reply, and has no changes
told_refused : (s : SessionState) (m : State) (c : Command) (refusal : Refusal) → outcome_of (reply_to m c) ≡ Refused refusal → (◌≡◌ {A = List LinksChange} (changes_by s m c) []) × (kept_by s m c ≡ s)
told_refused s m (Bad line place) refusal is = (refl, refl)
told_refused s m other refusal is = absurd cc

-- what is refused changes nothing
changes_nothing : (s : SessionState) (m : State) (c : Command) (refusal : Refusal) → outcome_of (next_of s m c).reply ≡ Refused refusal → (◌≡◌ {A = List LinksChange} (changes_after s m c) []) × (kept_after s m c ≡ s)
changes_nothing s m c refusal told = by (refusal_of m c (mark_of_command s m c)) refl
  where
    by : (o : Option Refusal) → refusal_of m c (mark_of_command s m c) ≡ o → (◌≡◌ {A = List LinksChange} (changes_after s m c) []) × (kept_after s m c ≡ s)
    by (Some other) is = (changes_refused s m c other is, kept_refused s m c other is)
    by None is =
        let own = told_refused s m c refusal (ap (λ (t : Stepped). outcome_of t.reply) (sym (step_accepted m c (mark_of_command s m c) is)) ∙ told) in
        (changes_done s m c is ∙ own.0, kept_done s m c is ∙ own.1)

module _ (replies : Replies) (headers : HeadersHaveRecords) (old new : View) (before after : SessionState) (m : State) (c : Command) (text : List ℕ) (outcome : Outcome) (d : Does replies old new before after c (Ok outcome)) (stands : StandsFor old before m text)
    (sound : IsSoundState before) (fresh : before.failed ≡ false) (soon : before.datime < 2 ^ 32) (statable : IsStatable c) where
  abbrev behind : FileStep
  behind = file_step before.datime (file_records before stands.state.links) m c

  follows : FollowsFile before m c stands.state.links (file_step before.datime (file_records before stands.state.links) m c)
  follows = steps_follow_files headers before m stands.file c stands.state sound fresh soon statable

  went : Went replies old new before after m c text outcome
  went = d.kept.done m text stands

  -- the file that is held then
  abbrev Held : Type 0
  Held = (now : List ℕ) × (new.holds ≡ Some now) × HasChain behind.records.links after.segments now × KeepsFront stands.file now

  -- an accepted command has done its changes
  held_done : outcome ≡ Accepted → Held
  held_done accepted =
      let changed : HasChanged old new before after m c = d.file.changed m (of_keys before m stands.file stands.state) accepted in
      let same = changes_done before m c (unrefused before m c (sym went.outcome_is ∙ accepted)) in
      let f = changed.file stands.file stands.state.links stands.holds stands.state.chain in
      let links : behind.records.links ≡ all_done (changes_by before m c) stands.state.links = follows.links_are ∙ ap (λ (l : List LinksChange). all_done l stands.state.links) same in
      (f.0, f.1, subst (λ (l : List Link). HasChain l after.segments f.0) (sym links) f.2, f.3)

  -- a refused one none
  held_still : (refusal : Refusal) → outcome ≡ Refused refusal → Held
  held_still refusal refused =
      let same : new.holds ≡ old.holds = (subst (StaysIfRefused old new) refused d.file.refused).0 in
      let nothing = changes_nothing before m c refusal (sym went.outcome_is ∙ refused) in
      let links : behind.records.links ≡ stands.state.links = follows.links_are ∙ ap (λ (l : List LinksChange). all_done l stands.state.links) nothing.0 in
      let segments : after.segments ≡ before.segments = ap (λ (s : SessionState). s.segments) (went.follows ∙ ap (with_cost (cost_of m c)) nothing.1) in
      (stands.file, same ∙ stands.holds, subst (λ (x : List Link × List Segment). HasChain x.0 x.1 stands.file) (λ i. (sym links i, sym segments i)) stands.state.chain, keeps_own stands.file)

  held : Held
  held = by outcome refl
    where
      by : (o : Outcome) → outcome ≡ o → Held
      by Accepted is = held_done is
      by (Refused refusal) is = held_still refusal is

  pub records_become : RecordsBecome old new before after m c
  records_become file others holds chain =
      let same_file : stands.file ≡ file = same_Some stands.file file (sym stands.holds ∙ holds) in
      let same_links : stands.state.links ≡ others = chain_one file stands.state.links others (subst (λ (f : List ℕ). HasChain stands.state.links before.segments f) same_file stands.state.chain).chain chain.chain in
      subst (λ (x : List ℕ × List Link). HasRecords old new after x.0 (file_step before.datime (file_records before x.1) m c)) (λ i. (same_file i, same_links i))
      (record {
        now = held.0;
        holds = held.1;
        chain = held.2;
        front = held.3;
        puts_are = λ name. follows.puts_are name ∙ ap (λ (x : SessionState). put_in x.trees name) (sym went.follows);
      })

-- where the command is done
pub records_follow : (replies : Replies) → HeadersHaveRecords → (old new : View) (before after : SessionState) (c : Command) (answer : Result Outcome SessionFault) → Does replies old new before after c answer
    → IsSoundState before → before.failed ≡ false → before.datime < 2 ^ 32 → IsStatable c
    → OnOk answer ((m : State) (text : List ℕ) → StandsFor old before m text → RecordsBecome old new before after m c)
records_follow replies headers old new before after c (Ok outcome) d sound fresh soon statable = λ m text stands. records_become replies headers old new before after m c text outcome d stands sound fresh soon statable
records_follow replies headers old new before after c (Err e) d sound fresh soon statable = tt

-- the records tell the step, whatever is answered
pub step_is_told : HeadersHaveRecords → (v : View) (s : SessionState) (c : Command) → IsSoundState s → s.failed ≡ false → s.datime < 2 ^ 32 → IsStatable c
    → (m : State) (text : List ℕ) (stands : StandsFor v s m text) → IsStepTold s m c stands.state.links
step_is_told headers v s c sound fresh soon statable m text stands = (steps_follow_files headers s m stands.file c stands.state sound fresh soon statable).next

-- What a command that changes the records of a file does, in all clauses.
use Rattle.std.proofs.{Common.{◌≡◌, inl, inr, ⊎_elim, ℕ, ◌+◌, ◌*◌, ◌-◌, ◌^◌, ◌<◌, ◌≤◌, min, Bool, true, false, List, ◌++◌, length, take, Option, Some, Result, Ok, Err, IfOk, refl, sym, ap, subst, ◌∙◌, arith}, Math.Seq.{take-length}}
use Rattle.std.proofs.{lemmas.Bool.{cases_lt}, lemmas.List.{append-nil}, lemmas.Option.{same_Some}}
use Rattle.rio_host.specs.Host.{Any, Elapses, IsLawful, Longer, View}
use Rattle.rio_host.proofs.{Images.{becomes_some, told_before}, Moments.{elapses_as}, ReadsLaws.{said_grows}}
use Rattle.rio_chain.specs.{Becoming.{ChainBecomes}, Chains.{HasChain}, Segments.{IsChain, Link}, Stops.{KeepsFront}, declared.segment.Segment.{Segment}}
use Rattle.rio_machine.specs.{State.{State}, declared.command.Command.{Command, TheVariants.{Class, Put, Batch, Delete, Tree, Fill, Save}}}
use Rattle.rio_machine.specs.declared.command.Outcome.{Outcome, TheVariants.{Accepted, Refused}}
use Rattle.rio_state.specs.{Closing.{held_with}, KeyedRecords.{keyed_records}, Left.{HasOpenHead}, Reads.{AreRecordsOf}, TreeLengths.{pending_in}}
use Rattle.rio_step.specs.{Costs.{cost_of}, ReplyText.{text_of}, Runs.{saved_of}, Step.{Stepped, outcome_of, reply_to, state_behind}}
use Rattle.rio_session.specs.{Behind.{FollowsStep, HasChanged, IsOfKeys, WritesNothing}, Causes.{StaysIfRefused}, Does.{Does, OmitsReply}, Replying.{Replies, printed_of, reply_text}}
use Rattle.rio_session.specs.Changing.{ChangedAndSaid, ChangedNotSaid, ChangesFile, ChangesInTime, Changing, IsBetween, IsReached, printing}
use Rattle.rio_session.specs.{Effects.{ArePassed, IsChangeOf, IsKeptAfter, TakesEffect, links_by}, Kept.{LinksChange, all_done, changes_by, kept_by}, Marks.{mark_of_command}}
use Rattle.rio_session.specs.Session.{FollowsCommand, HoldsState, IsOpenAs, IsReady, LacksRoomIfFull, LeavesOpenAs, SessionState, StandsFor, Steps, Went, next_of, with_cost}
use Rattle.rio_session.specs.declared.{fault.SessionFault.{SessionFault, TheVariants.{HostFault, SayFault, NoMemory}}, replies.Replies.TheVariants.{Printed, Omitted}}
use Rattle.rio_session.proofs.{Follows.{IsSameFile, kept_by_file}, Opened.{open_image}, Refused.{kept_done, step_accepted}, OnlyReplies.{read_steps, told_same}}
use Rattle.rio_session.proofs.{Spoken.{front_none, front_part, front_whole, grows_none, grows_whole, reads_stay, same_if_empty}, States.{of_keys}}

-- ---- commands that write

-- the commands that change the records of a file, as far as their changes are told
abbrev pub is_writing : Command → Bool
is_writing (Class class) = true
is_writing (Put name v) = true
is_writing (Batch puts) = true
is_writing (Delete name cycle) = true
is_writing (Tree name branches) = true
is_writing (Fill name row) = true
is_writing (Save name) = true
is_writing other = false

reply_accepts : (m : State) (c : Command) → is_writing c ≡ true → outcome_of (reply_to m c) ≡ Accepted
reply_accepts m (Class class) is = refl
reply_accepts m (Put name v) is = refl
reply_accepts m (Batch puts) is = refl
reply_accepts m (Delete name cycle) is = refl
reply_accepts m (Tree name branches) is = refl
reply_accepts m (Fill name row) is = refl
reply_accepts m (Save name) is = refl
reply_accepts m other is = absurd cc

-- such a command that is accepted writes something
never_nothing : (s : SessionState) (m : State) (c : Command) → is_writing c ≡ true → outcome_of (next_of s m c).reply ≡ Accepted → WritesNothing s m c → ⊥
never_nothing s m (Class class) is accepted nothing = let same : Accepted ≡ Refused nothing.0 = sym accepted ∙ nothing.1 in absurd cc
never_nothing s m (Put name v) is accepted nothing = let same : Accepted ≡ Refused nothing.0 = sym accepted ∙ nothing.1 in absurd cc
never_nothing s m (Batch puts) is accepted nothing = let same : Accepted ≡ Refused nothing.0 = sym accepted ∙ nothing.1 in absurd cc
never_nothing s m (Delete name cycle) is accepted nothing = let same : Accepted ≡ Refused nothing.0 = sym accepted ∙ nothing.1 in absurd cc
never_nothing s m (Tree name branches) is accepted nothing = let same : Accepted ≡ Refused nothing.0 = sym accepted ∙ nothing.1 in absurd cc
never_nothing s m (Fill name row) is accepted nothing = let same : Accepted ≡ Refused nothing.0 = sym accepted ∙ nothing.1 in absurd cc
never_nothing s m (Save name) is accepted nothing = let same : Accepted ≡ Refused nothing.0 = sym accepted ∙ nothing.1 in absurd cc
never_nothing s m other is accepted nothing = absurd cc

-- ---- what the session stands for then

held_more : (before after bound costs cost : ℕ) → (costs < 2 ^ 64 - 1 → before ≤ bound + costs + 10000) → after ≤ before + cost → min (costs + cost) (2 ^ 64 - 1) < 2 ^ 64 - 1
    → after ≤ bound + min (costs + cost) (2 ^ 64 - 1) + 10000
held_more before after bound costs cost was grown low = omega (arith, was (omega (arith, low)), grown, low)

module _ (s : SessionState) (m : State) (c : Command) (writing : is_writing c ≡ true) (file : List ℕ) (h : HoldsState s m file) (takes : TakesEffect s m c h.links)
    (passed : ArePassed s m c (length (changes_by s m c)) h.links) where
  abbrev after : List Link
  after = all_done (changes_by s m c) h.links

  abbrev rest : IsSameFile s (kept_by s m c)
  rest = kept_by_file s m c

  -- the records at the end are those of the state after the command
  pub records_after : AreRecordsOf (keyed_records (all_done (changes_by s m c) h.links)) (saved_of (state_behind m c))
  records_after = (takes.ends passed).records

  held_after : (kept_by s m c).costs ≡ s.costs → (kept_by s m c).opened ≡ s.opened → min ((kept_by s m c).costs + cost_of m c) (2 ^ 64 - 1) < 2 ^ 64 - 1
      → held_with (pending_in (state_behind m c)) after ≤ 3 * (kept_by s m c).opened + min ((kept_by s m c).costs + cost_of m c) (2 ^ 64 - 1) + 10000
  held_after costs opened =
      subst (λ (x : ℕ × ℕ). min (x.0 + cost_of m c) (2 ^ 64 - 1) < 2 ^ 64 - 1 → held_with (pending_in (state_behind m c)) after ≤ 3 * x.1 + min (x.0 + cost_of m c) (2 ^ 64 - 1) + 10000) (λ i. (sym costs i, sym opened i))
      (held_more (held_with (pending_in m) h.links) (held_with (pending_in (state_behind m c)) after) (3 * s.opened) s.costs (cost_of m c) h.held (takes.ends passed).held)

  pub state_after : (now : List ℕ) → IsOfKeys (kept_by s m c) (state_behind m c)
      → HasChain (all_done (changes_by s m c) h.links) (kept_by s m c).segments now → KeepsFront file now → HoldsState (with_cost (cost_of m c) (kept_by s m c)) (state_behind m c) now
  state_after now stands chain front =
      let kept : IsKeptAfter s m c h.links after = takes.ends passed in
      record {
        links = after;
        chain = chain;
        head = subst (HasOpenHead now) (sym rest.nbytes_name) (open_image file now s.nbytes_name h.links after (state_behind m c) h.head h.chain.chain front chain.chain records_after).head;
        records = records_after;
        stands = record { classes = stands.classes; keys = stands.keys; trees = stands.trees };
        keys = kept.keys;
        trees = kept.trees;
        items = kept.items;
        fillable = kept.fillable;
        rows = kept.rows;
        opens = kept.opens;
        info = kept.info;
        name = kept.name ∙ h.name ∙ sym rest.name;
        count = kept.count;
        held = held_after rest.costs rest.opened;
      }

-- ---- on a file

-- where replies are omitted nothing is printed
omits_change : (replies : Replies) (p : Changing) (old new : View) (before after : SessionState) (answer : Result Outcome SessionFault) → ChangesFile (printing replies p) old new before after answer → OmitsReply replies old new answer
omits_change Printed p old new before after answer done = tt
omits_change Omitted p old new before after (Ok outcome) done = record { said = same_if_empty old.said new.said done.says; no_fault = λ e. absurd cc }
omits_change Omitted p old new before after (Err HostFault) done = record { said = done.said; no_fault = λ e. absurd cc }
omits_change Omitted p old new before after (Err SayFault) done = record { said = absurd (done.some refl); no_fault = λ e. done.some refl }
omits_change Omitted p old new before after (Err NoMemory) done = record { said = done.calls.said; no_fault = λ e. absurd cc }

module _ (replies : Replies) (p : Changing) (old new : View) (before after : SessionState) (lawful : IsLawful old) (ready : IsReady old before) (c : Command) (writing : is_writing c ≡ true) where
  -- which files were there meanwhile
  passed_by : (m : State) (links : List Link) (k : ℕ) → IsChangeOf p before m c → IsReached p k links → ArePassed before m c k links
  passed_by m links k is reached = subst (λ (l : List LinksChange). (j : ℕ) → j < k → (image : List ℕ) × IsChain (all_done (take j l) links) image) is.changes reached

  passed_all : (m : State) (links : List Link) → IsChangeOf p before m c → IsReached p (length p.changes) links → ArePassed before m c (length (changes_by before m c)) links
  passed_all m links is reached = subst (λ (k : ℕ). ArePassed before m c k links) (ap length is.changes) (passed_by m links (length p.changes) is reached)

  -- the step of the command
  next_is : (m : State) → IsChangeOf p before m c → next_of before m c ≡ record { state = state_behind m c; reply = reply_to m c }
  next_is m is = step_accepted m c (mark_of_command before m c) is.free

  accepted : (m : State) → IsChangeOf p before m c → outcome_of (next_of before m c).reply ≡ Accepted
  accepted m is = ap (λ (t : Stepped). outcome_of t.reply) (next_is m is) ∙ reply_accepts m c writing

  state_is : (m : State) → IsChangeOf p before m c → (next_of before m c).state ≡ state_behind m c
  state_is m is = ap (λ (t : Stepped). t.state) (next_is m is)

  text_is : (m : State) → IsChangeOf p before m c → printed_of replies p.text ≡ reply_text replies (next_of before m c).reply
  text_is m is = ap (printed_of replies) (is.text ∙ ap (λ (t : Stepped). text_of t.reply) (sym (next_is m is)))

  -- the crash images meanwhile
  module _ (m : State) (said : List ℕ) (s : StandsFor old before m said) (is : IsChangeOf p before m c) (takes : TakesEffect before m c s.state.links) where
    abbrev links_then : ℕ → List Link
    links_then k = links_by before m c k s.state.links

    open_then : (image : List ℕ) (k : ℕ) (n : State) → IsChain (links_then k) image → KeepsFront s.file image → AreRecordsOf (keyed_records (links_then k)) (saved_of n) → IsOpenAs n image
    open_then image k n chain front records =
        (open_image s.file image before.nbytes_name s.state.links (links_then k) n s.state.head s.state.chain.chain front chain records).reads

    between : (image spoken : List ℕ) → IsBetween (printing replies p) s.file said s.state.links image spoken → Steps replies m (next_of before m c) said image spoken
    between image spoken b = elim (cases_lt takes.turn b.k) [ inl late ↦ inr (after_turn (takes.late b.k late within passed)) | inr early ↦ before_turn early ]
      where
        chain_then : IsChain (links_then b.k) image
        chain_then = subst (λ (l : List LinksChange). IsChain (all_done (take b.k l) s.state.links) image) is.changes b.chain

        passed : ArePassed before m c b.k s.state.links
        passed = passed_by m s.state.links b.k is b.reached

        within : b.k ≤ length (changes_by before m c)
        within = subst (λ (l : List LinksChange). b.k ≤ length l) is.changes b.within

        after_turn : AreRecordsOf (keyed_records (links_then b.k)) (saved_of (state_behind m c)) → IsOpenAs (next_of before m c).state image × ((n : ℕ) × (spoken ≡ said ++ take n (reply_text replies (next_of before m c).reply)))
        after_turn records = (
          subst (λ (n : State). IsOpenAs n image) (sym (state_is m is)) (open_then image b.k (state_behind m c) chain_then b.front records),
          ⊎_elim
              (λ (same : spoken ≡ said). (0, same ∙ sym (append-nil said)))
              (λ (x : (b.k ≡ length p.changes) × ((n : ℕ) × (spoken ≡ said ++ take n (printed_of replies p.text)))). (x.1.0, x.1.1 ∙ ap (λ (l : List ℕ). said ++ take x.1.0 l) (text_is m is)))
              b.spoken_is,
        )

        -- behind the last change the records stand for the state after the command, also where none takes effect
        at_end : b.k ≡ length p.changes → AreRecordsOf (keyed_records (links_then b.k)) (saved_of (state_behind m c))
        at_end last =
            let end : b.k ≡ length (changes_by before m c) = last ∙ ap length is.changes in
            let all = subst (λ (n : ℕ). ArePassed before m c n s.state.links) end passed in
            subst (λ (n : ℕ). AreRecordsOf (keyed_records (links_then n)) (saved_of (state_behind m c))) (sym end)
            (subst (λ (l : List LinksChange). AreRecordsOf (keyed_records (all_done l s.state.links)) (saved_of (state_behind m c))) (sym (take-length (changes_by before m c))) (takes.ends all).records)

        -- no text is printed before the last change
        before_turn : b.k ≤ takes.turn → Steps replies m (next_of before m c) said image spoken
        before_turn early =
            ⊎_elim
            (λ (same : spoken ≡ said). inl (open_then image b.k m chain_then b.front (takes.early b.k early passed), same))
            (λ (x : (b.k ≡ length p.changes) × ((n : ℕ) × (spoken ≡ said ++ take n (printed_of replies p.text)))). inr (after_turn (at_end x.0)))
            b.spoken_is

    change_steps : ChangesInTime (printing replies p) old new before → Elapses old new (Steps replies m (next_of before m c) said)
    change_steps time = elapses_as (Steps replies m (next_of before m c) said) (IsBetween (printing replies p) s.file said s.state.links) (time s.file said s.state.links s.holds s.said s.state.chain) between

    -- where the changes are done and the text could not be printed
    change_unsaid : ChangedNotSaid (printing replies p) old new before after → LeavesOpenAs new (next_of before m c).state
    change_unsaid done image spoken left =
        let f = done.holds s.file s.state.links s.holds s.state.chain in
        let same : image ≡ f.0 = done.quiet image spoken f.0 left f.1 in
        let passed = passed_all m s.state.links is (done.reached s.file s.state.links s.holds s.state.chain) in
        let chain : IsChain (all_done (changes_by before m c) s.state.links) f.0 = subst (λ (l : List LinksChange). IsChain (all_done l s.state.links) f.0) is.changes f.2.chain in
        subst (λ (x : State × List ℕ). IsOpenAs x.0 x.1) (λ i. (sym (state_is m is) i, sym same i))
        (open_image s.file f.0 before.nbytes_name s.state.links (all_done (changes_by before m c) s.state.links) (state_behind m c) s.state.head s.state.chain.chain f.3 chain
        (records_after before m c writing s.file s.state takes passed)).reads

  -- what is kept then
  module _ (done : ChangedAndSaid (printing replies p) old new before after) (m : State) (is : IsChangeOf p before m c) where
    after_is : after ≡ with_cost (cost_of m c) (kept_by before m c)
    after_is = done.kept ∙ (λ i. with_cost (is.cost i) (is.kept i))

    change_follows : FollowsCommand before after m c
    change_follows = after_is ∙ ap (with_cost (cost_of m c)) (sym (kept_done before m c is.free))

    change_goes : (outcome : Outcome) → outcome ≡ Accepted → FollowsStep before after m c outcome
    change_goes outcome same = record {
      outcome_is = λ told. same ∙ sym (accepted m is);
      follows = change_follows;
      behind = subst (λ (x : SessionState × State). IsOfKeys x.0 x.1) (λ i. (sym after_is i, sym (state_is m is) i)) (record { classes = is.stands.classes; keys = is.stands.keys; trees = is.stands.trees });
    }

    change_file : ChainBecomes old new before.segments after.segments (all_done (changes_by before m c))
    change_file = subst (λ (l : List LinksChange). ChainBecomes old new before.segments after.segments (all_done l)) is.changes done.holds

    has_changed : HasChanged old new before after m c
    has_changed = record { kept = after_is; file = change_file }

    module _ (said : List ℕ) (s : StandsFor old before m said) (takes : TakesEffect before m c s.state.links) where
      change_stands : StandsFor new after (next_of before m c).state (said ++ reply_text replies (next_of before m c).reply)
      change_stands =
          let f = change_file s.file s.state.links s.holds s.state.chain in
          let grown = becomes_some (Longer (printed_of replies p.text)) old.said new.said said s.said done.says in
          let passed = passed_all m s.state.links is (done.reached s.file s.state.links s.holds s.state.chain) in
          let segments : after.segments ≡ (kept_by before m c).segments = ap (λ (a : SessionState). a.segments) after_is in
          let chain : HasChain (all_done (changes_by before m c) s.state.links) (kept_by before m c).segments f.0 = subst (λ (l : List Segment). HasChain (all_done (changes_by before m c) s.state.links) l f.0) segments f.2 in
          record {
            file = f.0;
            holds = f.1;
            said = grown.1 ∙ ap (λ (l : List ℕ). let o : Option (List ℕ) = Some l in o) (grown.2 ∙ ap (λ (l : List ℕ). said ++ l) (text_is m is));
            state = subst (λ (x : SessionState × State). HoldsState x.0 x.1 f.0) (λ i. (sym after_is i, sym (state_is m is) i))
                (state_after before m c writing s.file s.state takes passed f.0 is.stands chain f.3);
          }

      change_went : Went replies old new before after m c said Accepted
      change_went = record {
        time = change_steps m said s is takes done.time;
        stands = change_stands;
        follows = change_follows;
        outcome_is = sym (accepted m is);
        full = tt;
      }

  -- an accepted command doesn't lack room
  accepted_lacks : (m : State) → IsChangeOf p before m c → LacksRoomIfFull (with_cost (cost_of m c) before) (outcome_of (next_of before m c).reply)
  accepted_lacks m is = subst (λ (o : Outcome). LacksRoomIfFull (with_cost (cost_of m c) before) o) (sym (accepted m is)) tt

  change_ready : ChangedAndSaid (printing replies p) old new before after → IsReady new after
  change_ready done = record {
    quiet = done.quiet;
    chain = λ file told.
        let was = told_before Any old.holds new.holds file done.told told in
        let links = ready.chain was.0 was.1 in
        let f = done.holds was.0 links.0 was.1 links.1 in
        (all_done p.changes links.0, subst (λ (x : List ℕ). HasChain (all_done p.changes links.0) after.segments x) (same_Some f.0 file (sym f.1 ∙ told)) f.2);
  }

  never : (m : State) → IsChangeOf p before m c → WritesNothing before m c → ⊥
  never m is nothing = never_nothing before m c writing (accepted m is) nothing

-- what such a command does, in all clauses
pub does_change : (replies : Replies) (p : Changing) (old new : View) (before after : SessionState) → IsLawful old → IsReady old before → (c : Command) (answer : Result Outcome SessionFault) → before.failed ≡ false → p.kept.failed ≡ false
    → IsLawful new → ChangesFile (printing replies p) old new before after answer → is_writing c ≡ true → ((m : State) → IsOfKeys before m → IsChangeOf p before m c)
    → ((m : State) (file : List ℕ) (h : HoldsState before m file) → TakesEffect before m c h.links) → IfOk answer (λ outcome. outcome ≡ Accepted) → Does replies old new before after c answer
does_change replies p old new before after lawful ready c (Ok outcome) fresh fresh' lawful' done writing is takes same = record {
  file = record {
    any_moment = tt;
    told = done.told;
    refused = subst (λ (o : Outcome). StaysIfRefused old new o) (sym same) tt;
    unwritten = λ m keys nothing. absurd (never replies p old new before after lawful ready c writing m (is m keys) nothing);
    changed = λ m keys accepted. has_changed replies p old new before after lawful ready c writing done m (is m keys);
    unsaid = λ e. absurd cc;
  };
  text = record {
    said = grows_whole (printed_of replies p.text) old.said new.said done.says;
    silent = λ none. absurd none;
    part = λ m said s. let keys = of_keys before m s.file s.state in
        front_whole old new said (printed_of replies p.text) (reply_text replies (next_of before m c).reply) s.said (text_is replies p old new before after lawful ready c writing m (is m keys)) done.says;
    lacks = λ spoken m said s. accepted_lacks replies p old new before after lawful ready c writing m (is m (of_keys before m s.file s.state));
  };
  kept = record {
    done = λ m said s. subst (λ (o : Outcome). Went replies old new before after m c said o) (sym same)
        (change_went replies p old new before after lawful ready c writing done m (is m (of_keys before m s.file s.state)) said s (takes m s.file s.state));
    goes = λ m keys. change_goes replies p old new before after lawful ready c writing done m (is m keys) outcome same;
    ready = change_ready replies p old new before after lawful ready c writing done;
    failed = ap (λ (a : SessionState). a.failed) done.kept ∙ fresh';
    no_memory = λ e. absurd cc;
    cause = done.faults;
  };
  omits = omits_change replies p old new before after (Ok outcome) done;
}
does_change replies p old new before after lawful ready c (Err HostFault) fresh fresh' lawful' done writing is takes same = record {
  file = record {
    any_moment = λ m said s. change_steps replies p old new before after lawful ready c writing m said s (is m (of_keys before m s.file s.state)) (takes m s.file s.state) done.time;
    told = done.told;
    refused = tt;
    unwritten = λ m keys nothing. absurd (never replies p old new before after lawful ready c writing m (is m keys) nothing);
    changed = tt;
    unsaid = λ e. absurd cc;
  };
  text = record {
    said = grows_none old.said new.said done.said;
    silent = λ none. done.said;
    part = λ m said s. front_none old new said (reply_text replies (next_of before m c).reply) s.said done.said;
    lacks = λ spoken. absurd spoken;
  };
  kept = record {
    done = tt;
    goes = tt;
    ready = tt;
    failed = done.failed;
    no_memory = λ e. absurd cc;
    cause = done.faults;
  };
  omits = omits_change replies p old new before after (Err HostFault) done;
}
does_change replies p old new before after lawful ready c (Err SayFault) fresh fresh' lawful' done writing is takes same = record {
  file = record {
    any_moment = λ m said s. change_steps replies p old new before after lawful ready c writing m said s (is m (of_keys before m s.file s.state)) (takes m s.file s.state) done.time;
    told = done.told;
    refused = tt;
    unwritten = λ m keys nothing. absurd (never replies p old new before after lawful ready c writing m (is m keys) nothing);
    changed = tt;
    unsaid = λ e m said s. change_unsaid replies p old new before after lawful ready c writing m said s (is m (of_keys before m s.file s.state)) (takes m s.file s.state) done;
  };
  text = record {
    said = said_grows (printed_of replies p.text) old.said new.said done.says;
    silent = λ none. absurd none;
    part = λ m said s. let keys = of_keys before m s.file s.state in
        front_part old new said (printed_of replies p.text) (reply_text replies (next_of before m c).reply) s.said (text_is replies p old new before after lawful ready c writing m (is m keys)) done.says;
    lacks = λ spoken m said s. accepted_lacks replies p old new before after lawful ready c writing m (is m (of_keys before m s.file s.state));
  };
  kept = record {
    done = tt;
    goes = tt;
    ready = tt;
    failed = done.failed;
    no_memory = λ e. absurd cc;
    cause = done.faults;
  };
  omits = omits_change replies p old new before after (Err SayFault) done;
}
does_change replies p old new before after lawful ready c (Err NoMemory) fresh fresh' lawful' done writing is takes same = record {
  file = record {
    any_moment = λ m said s. read_steps replies old new before after p.text p.cost lawful lawful' ready m c said done.calls s;
    told = told_same old.holds new.holds done.calls.holds;
    refused = tt;
    unwritten = λ m keys nothing. reads_stay old new done.calls;
    changed = tt;
    unsaid = λ e. absurd cc;
  };
  text = record {
    said = grows_none old.said new.said done.calls.said;
    silent = λ none. done.calls.said;
    part = λ m said s. front_none old new said (reply_text replies (next_of before m c).reply) s.said done.calls.said;
    lacks = λ spoken. absurd spoken;
  };
  kept = record {
    done = tt;
    goes = tt;
    ready = tt;
    failed = ap (λ (a : SessionState). a.failed) done.kept ∙ fresh;
    no_memory = λ e. (done.kept, done.calls);
    cause = done.faults;
  };
  omits = omits_change replies p old new before after (Err NoMemory) done;
}

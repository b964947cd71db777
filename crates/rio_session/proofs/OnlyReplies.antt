-- Commands that do no more than print a reply.
use Rattle.std.proofs.Common.{◌≡◌, inl, inr, ⊎_elim, ℕ, ◌+◌, ◌*◌, ◌-◌, ◌^◌, ◌<◌, ◌≤◌, min, false, List, [], ◌++◌, take, Option, Some, None, Result, Ok, Err, IfOk, refl, sym, ap, subst, ◌∙◌, arith}
use Rattle.std.proofs.lemmas.List.{append-nil}
use Rattle.rio_host.specs.{Host.{Any, Becomes, Elapses, IsLawful, Leaves, Longer, LongerByPart, Rose, Speaking, Unwritten, View}, OnlyReads.{OnlyReads}}
use Rattle.rio_host.proofs.{Images.{becomes_some}, Moments.{elapses_as, elapses_join, leaves_back, says_quiet}, ReadsLaws.{reads_join, reads_none, said_grows}}
use Rattle.rio_chain.specs.{Chains.{HasChain}, Segments.{Link}, declared.segment.Segment.{Segment}}
use Rattle.rio_machine.specs.{State.{State}, declared.command.Command.{Command}}
use Rattle.rio_machine.specs.declared.command.Outcome.{Outcome, TheVariants.{Accepted, Refused}}
use Rattle.rio_state.specs.{Closing.{held_with}, TreeLengths.{pending_in}}
use Rattle.rio_step.specs.{Costs.{cost_of}, ReplyText.{text_of}, Step.{Stepped, outcome_of}}
use Rattle.rio_session.specs.{Behind.{FollowsStep, HasChanged, IsOfKeys, IsToldByKeys}, Causes.{IsSaid, StaysIfRefused}, Does.{Does, OmitsReply}, Replying.{Replies, printed_of, reply_text}}
use Rattle.rio_session.specs.{Kept.{LinksChange, all_done, changes_after, changes_by, kept_after, kept_by}, Says.{NotSaid, Said, SaysReply}}
use Rattle.rio_session.specs.Session.{FollowsCommand, HoldsState, IsOpenAs, IsReady, LacksRoomIfFull, LeavesOpenAs, SessionState, StandsFor, Steps, Went, next_of, with_cost}
use Rattle.rio_session.specs.declared.{fault.SessionFault.{SessionFault, TheVariants.{HostFault, SayFault, NoMemory}}, replies.Replies.TheVariants.{Printed, Omitted}}
use Rattle.rio_session.proofs.{Opened.{keeps_own, reads_open}, Refused.{changes_done, kept_done, unrefused}, Spoken.{empty_if_same, front_none, front_part, front_whole, grows_none, grows_whole, reads_stay, same_if_empty, speaking_stays}}
use Rattle.rio_session.proofs.States.{of_keys}

-- ---- what is told

-- told before and told after
pub told_same : (a b : Option (List ℕ)) → b ≡ a → Becomes Any a b
told_same a b same = subst (λ (o : Option (List ℕ)). Becomes Any a o) (sym same) (by a)
  where
    by : (o : Option (List ℕ)) → Becomes Any o o
    by (Some x) = (x, refl, tt)
    by None = refl

-- ---- what a command that only says a reply is about

-- the command changes neither the state nor the file nor what is kept beside it
pub record IsStill (s : SessionState) (m : State) (c : Command) (cost : ℕ) : Type 0 where
  pub stays : (next_of s m c).state ≡ m
  pub kept : kept_after s m c ≡ s
  pub changes : changes_after s m c ≡ []
  pub cost_is : cost ≡ cost_of m c

-- it does so if it isn't refused
pub record HasNoChanges (s : SessionState) (m : State) (c : Command) : Type 0 where
  pub changes : changes_by s m c ≡ []
  pub kept : kept_by s m c ≡ s

-- What becomes of it is what its step says, of each state that host and session stand for, and of each that the kept keys stand for as far as
-- they tell.
pub record IsOutcomeOf (v : View) (s : SessionState) (c : Command) (outcome : Outcome) : Type 0 where
  pub same : (m : State) (said : List ℕ) → StandsFor v s m said → outcome ≡ outcome_of (next_of s m c).reply
  pub told : IsToldByKeys c → (m : State) → IsOfKeys s m → outcome ≡ outcome_of (next_of s m c).reply
  pub plain : (m : State) → IsOfKeys s m → outcome ≡ Accepted → HasNoChanges s m c

-- and this is its reply
pub record IsReply (s : SessionState) (m : State) (c : Command) (text : List ℕ) (cost : ℕ) : Type 0 where
  pub still : IsStill s m c cost
  pub text_is : text ≡ text_of (next_of s m c).reply

-- the bound of what is held stays with higher costs
held_costs : (held bound costs cost : ℕ) → (costs < 2 ^ 64 - 1 → held ≤ bound + costs + 10000) → min (costs + cost) (2 ^ 64 - 1) < 2 ^ 64 - 1 → held ≤ bound + min (costs + cost) (2 ^ 64 - 1) + 10000
held_costs held bound costs cost was low = omega (arith, was (omega (arith, low)), low)

pub counted_state : (s : SessionState) (cost : ℕ) (m : State) (file : List ℕ) → HoldsState s m file → HoldsState (record s { costs = min (s.costs + cost) (2 ^ 64 - 1) }) m file
counted_state s cost m file h = record {
  links = h.links;
  chain = h.chain;
  head = h.head;
  records = h.records;
  stands = record { classes = h.stands.classes; keys = h.stands.keys; trees = h.stands.trees };
  keys = h.keys;
  trees = h.trees;
  items = h.items;
  fillable = h.fillable;
  rows = h.rows;
  opens = h.opens;
  info = h.info;
  name = h.name;
  count = h.count;
  held = held_costs (held_with (pending_in m) h.links) (3 * s.opened) s.costs cost h.held;
}

-- ---- nothing printed

-- where replies are omitted the text is empty, and nothing is printed
omits_reply : (replies : Replies) (text : List ℕ) (cost : ℕ) (old new : View) (before after : SessionState) (answer : Result Outcome SessionFault) → SaysReply (printed_of replies text) cost old new before after answer
    → OmitsReply replies old new answer
omits_reply Printed text cost old new before after answer is = tt
omits_reply Omitted text cost old new before after (Ok outcome) is = record { said = same_if_empty old.said new.said is.says; no_fault = λ e. absurd cc }
omits_reply Omitted text cost old new before after (Err HostFault) is = record { said = is.calls.said; no_fault = λ e. absurd cc }
omits_reply Omitted text cost old new before after (Err SayFault) is = record { said = absurd (is.some refl); no_fault = λ e. is.some refl }
omits_reply Omitted text cost old new before after (Err NoMemory) is = record { said = is.calls.said; no_fault = λ e. absurd cc }

-- an empty text is printed by no call of the host
pub empty_said : (text : List ℕ) (cost : ℕ) (v : View) (before after : SessionState) → text ≡ [] → after ≡ record before { costs = min (before.costs + cost) (2 ^ 64 - 1) } → Said text cost v v before after
empty_said text cost v before after empty counted = record {
  time = elapses_as (Speaking text v) (Leaves v) (reads_none v).time (λ i t left. (t, left, (0, sym (append-nil t))));
  holds = refl;
  says = subst (λ (l : List ℕ). Becomes (Longer l) v.said v.said) (sym empty) (empty_if_same v.said);
  faults = (refl, refl);
  kept = counted;
}

-- ---- in all clauses

module _ (replies : Replies) (old new : View) (before after : SessionState) (text : List ℕ) (cost : ℕ) (lawful : IsLawful old) (lawful' : IsLawful new) (ready : IsReady old before) where
  -- what a stop leaves while the reply is said
  pub speaks : (m : State) (c : Command) (said : List ℕ) → Elapses old new (Speaking (printed_of replies text) old) → IsReply before m c text cost → StandsFor old before m said → Elapses old new (Steps replies m (next_of before m c) said)
  speaks m c said time reply s = elapses_as (Steps replies m next said) (Speaking (printed_of replies text) old) time (λ i t spoken. inr (open_now i spoken.0 spoken.1, (spoken.2.0, told i t spoken.0 spoken.1 spoken.2.0 spoken.2.1)))
    where
      next : Stepped
      next = next_of before m c

      open_now : (i t : List ℕ) → Leaves old i t → IsOpenAs (next_of before m c).state i
      open_now i t left =
          let is = ready.quiet i t s.file left s.holds in
          subst (λ (n : State). IsOpenAs n i) (sym reply.still.stays) (subst (λ (f : List ℕ). IsOpenAs m f) (sym is) (reads_open s.file before.nbytes_name s.state.links m s.state.head s.state.chain.chain s.state.records))

      told : (i t u : List ℕ) → Leaves old i u → (k : ℕ) → t ≡ u ++ take k (printed_of replies text) → t ≡ said ++ take k (reply_text replies (next_of before m c).reply)
      told i t u left k is =
          is ∙ ap (λ (l : List ℕ). l ++ take k (printed_of replies text)) (lawful.text i u said left s.said) ∙ ap (λ (l : List ℕ). said ++ take k (printed_of replies l)) reply.text_is

  -- nothing was written or said
  pub read_steps : (m : State) (c : Command) (said : List ℕ) → OnlyReads old new → StandsFor old before m said → Elapses old new (Steps replies m (next_of before m c) said)
  read_steps m c said calls s = elapses_as (Steps replies m (next_of before m c) said) (Leaves old) calls.time (λ i t left. inl (
    subst (λ (f : List ℕ). IsOpenAs m f) (sym (ready.quiet i t s.file left s.holds)) (reads_open s.file before.nbytes_name s.state.links m s.state.head s.state.chain.chain s.state.records),
    lawful.text i t said left s.said,
  ))

  -- session and host, once it is said
  pub said_stands : (m : State) (c : Command) (said : List ℕ) → Said (printed_of replies text) cost old new before after → IsReply before m c text cost → StandsFor old before m said
      → StandsFor new after (next_of before m c).state (said ++ reply_text replies (next_of before m c).reply)
  said_stands m c said is reply s =
      let grown = becomes_some (Longer (printed_of replies text)) old.said new.said said s.said is.says in
      record {
        file = s.file;
        holds = is.holds ∙ s.holds;
        said = grown.1 ∙ ap (λ (l : List ℕ). let o : Option (List ℕ) = Some l in o) (grown.2 ∙ ap (λ (l : List ℕ). said ++ printed_of replies l) reply.text_is);
        state = subst (λ (n : State). HoldsState after n s.file) (sym reply.still.stays) (subst (λ (a : SessionState). HoldsState a m s.file) (sym is.kept) (counted_state before cost m s.file s.state));
      }

  said_follows : (m : State) (c : Command) → Said (printed_of replies text) cost old new before after → IsStill before m c cost → FollowsCommand before after m c
  said_follows m c is still = is.kept ∙ (λ i. with_cost (still.cost_is i) (sym still.kept i))

  -- an accepted command that does no more has no changes
  unchanged : (m : State) (c : Command) (outcome : Outcome) → IsStill before m c cost → outcome ≡ outcome_of (next_of before m c).reply → outcome ≡ Accepted → HasNoChanges before m c
  unchanged m c outcome still same accepted =
      let free = unrefused before m c (sym same ∙ accepted) in
      record { changes = sym (changes_done before m c free) ∙ still.changes; kept = sym (kept_done before m c free) ∙ still.kept }

  said_changed : (m : State) (c : Command) → Said (printed_of replies text) cost old new before after → IsStill before m c cost → HasNoChanges before m c → HasChanged old new before after m c
  said_changed m c is still none = record {
    kept = is.kept ∙ (λ i. with_cost (still.cost_is i) (sym none.kept i));
    file = λ file links holds chain. (
      file,
      is.holds ∙ holds,
      subst (λ (x : List LinksChange × List Segment). HasChain (all_done x.0 links) x.1 file) (λ i. (sym none.changes i, ap (λ (a : SessionState). a.segments) (sym is.kept) i)) chain,
      keeps_own file,
    );
  }

  said_goes : (m : State) (c : Command) (outcome : Outcome) → Said (printed_of replies text) cost old new before after → IsOfKeys before m → IsStill before m c cost
      → (IsToldByKeys c → outcome ≡ outcome_of (next_of before m c).reply) → FollowsStep before after m c outcome
  said_goes m c outcome is keys still same = record {
    outcome_is = same;
    follows = said_follows m c is still;
    behind = subst (λ (n : State). IsOfKeys after n) (sym still.stays) (subst (λ (a : SessionState). IsOfKeys a m) (sym is.kept) (record { classes = keys.classes; keys = keys.keys; trees = keys.trees }));
  }

  pub said_went : (m : State) (c : Command) (said : List ℕ) (outcome : Outcome) → Said (printed_of replies text) cost old new before after → IsReply before m c text cost → outcome ≡ outcome_of (next_of before m c).reply
      → LacksRoomIfFull after outcome → StandsFor old before m said → Went replies old new before after m c said outcome
  said_went m c said outcome is reply same full s = record {
    time = speaks m c said is.time reply s;
    stands = said_stands m c said is reply s;
    follows = said_follows m c is reply.still;
    outcome_is = same;
    full = full;
  }

  -- what it leaves, where it could not be said
  unsaid_open : (m : State) (c : Command) (said : List ℕ) → NotSaid (printed_of replies text) old new after → IsStill before m c cost → StandsFor old before m said → LeavesOpenAs new (next_of before m c).state
  unsaid_open m c said is still s image spoken left =
      let same : image ≡ s.file = says_quiet (printed_of replies text) lawful' ready.quiet is.time is.holds image spoken s.file left (is.holds ∙ s.holds) in
      subst (λ (n : State). IsOpenAs n image) (sym still.stays)
      (subst (λ (f : List ℕ). IsOpenAs m f) (sym same) (reads_open s.file before.nbytes_name s.state.links m s.state.head s.state.chain.chain s.state.records))

  pub said_ready : Said (printed_of replies text) cost old new before after → IsReady new after
  said_ready is = record {
    quiet = says_quiet (printed_of replies text) lawful' ready.quiet is.time is.holds;
    chain = λ file told. let c = ready.chain file (sym is.holds ∙ told) in subst (λ (a : SessionState). (links : List Link) × HasChain links a.segments file) (sym is.kept) c;
  }

  said_unwritten : Elapses old new (Speaking (printed_of replies text) old) → Unwritten old new
  said_unwritten time = elapses_as _ (Speaking (printed_of replies text) old) time (λ i t spoken. (spoken.0, spoken.1))

  pub said_stays : (outcome : Outcome) → Said (printed_of replies text) cost old new before after → StaysIfRefused old new outcome
  said_stays Accepted is = tt
  said_stays (Refused refusal) is = (is.holds, said_unwritten is.time)

  -- what such a command answers, in all clauses
  module _ (c : Command) (answer : Result Outcome SessionFault) (still : IsSaid answer → (m : State) → IsOfKeys before m → IsStill before m c cost)
      (told : IsSaid answer → (m : State) (said : List ℕ) → StandsFor old before m said → text ≡ text_of (next_of before m c).reply) where
    reply : IsSaid answer → (m : State) (said : List ℕ) → StandsFor old before m said → IsReply before m c text cost
    reply spoken m said s = record { still = still spoken m (of_keys before m s.file s.state); text_is = told spoken m said s }

    -- want of room
    costs_so : IsSaid answer → (m : State) (said : List ℕ) → StandsFor old before m said → LacksRoomIfFull (with_cost cost before) (outcome_of (next_of before m c).reply)
        → LacksRoomIfFull (with_cost (cost_of m c) before) (outcome_of (next_of before m c).reply)
    costs_so spoken m said s full =
        subst (λ (n : ℕ). LacksRoomIfFull (with_cost n before) (outcome_of (next_of before m c).reply)) (still spoken m (of_keys before m s.file s.state)).cost_is full

    after_so : (outcome : Outcome) → Said (printed_of replies text) cost old new before after → (m : State) → outcome ≡ outcome_of (next_of before m c).reply
        → LacksRoomIfFull (with_cost cost before) (outcome_of (next_of before m c).reply) → LacksRoomIfFull after outcome
    after_so outcome is m same full =
        subst (λ (a : SessionState). LacksRoomIfFull a outcome) (sym is.kept) (subst (λ (o : Outcome). LacksRoomIfFull (with_cost cost before) o) (sym same) full)

  pub does_reply : (c : Command) (answer : Result Outcome SessionFault) → before.failed ≡ false → SaysReply (printed_of replies text) cost old new before after answer
      → (IsSaid answer → (m : State) → IsOfKeys before m → IsStill before m c cost)
      → (IsSaid answer → (m : State) (said : List ℕ) → StandsFor old before m said → text ≡ text_of (next_of before m c).reply)
      → IfOk answer (IsOutcomeOf old before c)
      → (IsSaid answer → (m : State) (said : List ℕ) → StandsFor old before m said → LacksRoomIfFull (with_cost cost before) (outcome_of (next_of before m c).reply))
      → Does replies old new before after c answer
  does_reply c (Ok outcome) fresh is still told became full = record {
    file = record {
      any_moment = tt;
      told = told_same old.holds new.holds is.holds;
      refused = said_stays outcome is;
      unwritten = λ m keys none. speaking_stays (printed_of replies text) old new is.holds is.time;
      changed = λ m keys accepted. said_changed m c is (still tt m keys) (became.plain m keys accepted);
      unsaid = λ e. absurd cc;
    };
    text = record {
      said = grows_whole (printed_of replies text) old.said new.said is.says;
      silent = λ none. absurd none;
      part = λ m said s. front_whole old new said (printed_of replies text) (reply_text replies (next_of before m c).reply) s.said (ap (printed_of replies) (told tt m said s)) is.says;
      lacks = λ spoken m said s. costs_so c (Ok outcome) still told tt m said s (full tt m said s);
    };
    kept = record {
      done = λ m said s.
          said_went m c said outcome is (reply c (Ok outcome) still told tt m said s) (became.same m said s)
          (after_so c (Ok outcome) still told outcome is m (became.same m said s) (full tt m said s)) s;
      goes = λ m keys. said_goes m c outcome is keys (still tt m keys) (λ by_keys. became.told by_keys m keys);
      ready = said_ready is;
      failed = ap (λ (a : SessionState). a.failed) is.kept ∙ fresh;
      no_memory = λ e. absurd cc;
      cause = is.faults;
    };
    omits = omits_reply replies text cost old new before after (Ok outcome) is;
  }
  does_reply c (Err HostFault) fresh is still told became full = record {
    file = record {
      any_moment = λ m said s. read_steps m c said is.calls s;
      told = told_same old.holds new.holds is.calls.holds;
      refused = tt;
      unwritten = λ m keys none. reads_stay old new is.calls;
      changed = tt;
      unsaid = λ e. absurd cc;
    };
    text = record {
      said = grows_none old.said new.said is.calls.said;
      silent = λ none. is.calls.said;
      part = λ m said s. front_none old new said (reply_text replies (next_of before m c).reply) s.said is.calls.said;
      lacks = λ spoken. absurd spoken;
    };
    kept = record {
      done = tt;
      goes = tt;
      ready = tt;
      failed = is.failed;
      no_memory = λ e. absurd cc;
      cause = is.faults;
    };
    omits = omits_reply replies text cost old new before after (Err HostFault) is;
  }
  does_reply c (Err SayFault) fresh is still told became full = record {
    file = record {
      any_moment = λ m said s. speaks m c said is.time (reply c (Err SayFault) still told tt m said s) s;
      told = told_same old.holds new.holds is.holds;
      refused = tt;
      unwritten = λ m keys none. speaking_stays (printed_of replies text) old new is.holds is.time;
      changed = tt;
      unsaid = λ e m said s. unsaid_open m c said is (still tt m (of_keys before m s.file s.state)) s;
    };
    text = record {
      said = said_grows (printed_of replies text) old.said new.said is.says;
      silent = λ none. absurd none;
      part = λ m said s. front_part old new said (printed_of replies text) (reply_text replies (next_of before m c).reply) s.said (ap (printed_of replies) (told tt m said s)) is.says;
      lacks = λ spoken m said s. costs_so c (Err SayFault) still told tt m said s (full tt m said s);
    };
    kept = record {
      done = tt;
      goes = tt;
      ready = tt;
      failed = is.failed;
      no_memory = λ e. absurd cc;
      cause = is.faults;
    };
    omits = omits_reply replies text cost old new before after (Err SayFault) is;
  }
  does_reply c (Err NoMemory) fresh is still told became full = record {
    file = record {
      any_moment = λ m said s. read_steps m c said is.calls s;
      told = told_same old.holds new.holds is.calls.holds;
      refused = tt;
      unwritten = λ m keys none. reads_stay old new is.calls;
      changed = tt;
      unsaid = λ e. absurd cc;
    };
    text = record {
      said = grows_none old.said new.said is.calls.said;
      silent = λ none. is.calls.said;
      part = λ m said s. front_none old new said (reply_text replies (next_of before m c).reply) s.said is.calls.said;
      lacks = λ spoken. absurd spoken;
    };
    kept = record {
      done = tt;
      goes = tt;
      ready = tt;
      failed = ap (λ (a : SessionState). a.failed) is.kept ∙ fresh;
      no_memory = λ e. (is.kept, is.calls);
      cause = is.faults;
    };
    omits = omits_reply replies text cost old new before after (Err NoMemory) is;
  }

  -- where the kept keys tell what becomes of the command
  outcome_by_keys : (c : Command) (answer : Result Outcome SessionFault) → (IsSaid answer → (m : State) → IsOfKeys before m → IsStill before m c cost)
      → IfOk answer (λ outcome. (m : State) → IsOfKeys before m → outcome ≡ outcome_of (next_of before m c).reply) → IfOk answer (IsOutcomeOf old before c)
  outcome_by_keys c (Ok outcome) still same = record {
    same = λ m said s. same m (of_keys before m s.file s.state);
    told = λ by_keys. same;
    plain = λ m keys accepted. unchanged m c outcome (still tt m keys) (same m keys) accepted;
  }
  outcome_by_keys c (Err e) still same = tt

  pub does_says : (c : Command) (answer : Result Outcome SessionFault) → before.failed ≡ false → SaysReply (printed_of replies text) cost old new before after answer
      → (IsSaid answer → (m : State) → IsOfKeys before m → IsStill before m c cost)
      → (IsSaid answer → (m : State) (said : List ℕ) → StandsFor old before m said → text ≡ text_of (next_of before m c).reply)
      → IfOk answer (λ outcome. (m : State) → IsOfKeys before m → outcome ≡ outcome_of (next_of before m c).reply)
      → (IsSaid answer → (m : State) (said : List ℕ) → StandsFor old before m said → LacksRoomIfFull (with_cost cost before) (outcome_of (next_of before m c).reply))
      → Does replies old new before after c answer
  does_says c answer fresh is still told same full = does_reply c answer fresh is still told (outcome_by_keys c answer still same) full

-- ---- calls that read, and then a reply

module _ (text : List ℕ) (old mid new : View) (law : IsLawful mid) (calls : OnlyReads old mid) (disk : mid.disk_faults ≡ old.disk_faults) where
  spoken_before : (i t : List ℕ) → Leaves old i t → Speaking text old i t
  spoken_before i t left = (t, left, (0, sym (append-nil t)))

  left_before : (i t : List ℕ) → Leaves mid i t → Leaves old i t
  left_before i t left = ⊎_elim (λ (was : Leaves old i t). was) (λ (is : Leaves old i t). is) (leaves_back law calls.time i t left)

  time_before : Elapses mid new (Speaking text mid) → Elapses old new (Speaking text old)
  time_before time = elapses_join (Speaking text mid) (elapses_as (Speaking text old) (Leaves old) calls.time spoken_before) time (λ i t spoken. (spoken.0, left_before i spoken.0 spoken.1, spoken.2))

  reads_then_said : (cost : ℕ) (before after : SessionState) → Said text cost mid new before after → Said text cost old new before after
  reads_then_said cost before after is = record {
    time = time_before is.time;
    holds = is.holds ∙ calls.holds;
    says = subst (λ (o : Option (List ℕ)). Becomes (Longer text) o new.said) calls.said is.says;
    faults = (is.faults.0 ∙ disk, is.faults.1 ∙ calls.say_faults);
    kept = is.kept;
  }

  reads_not_said : (after : SessionState) → NotSaid text mid new after → NotSaid text old new after
  reads_not_said after is = record {
    time = time_before is.time;
    holds = is.holds ∙ calls.holds;
    says = subst (λ (o : Option (List ℕ)). Becomes (LongerByPart text) o new.said) calls.said is.says;
    some = is.some;
    faults = (is.faults.0 ∙ disk, subst (λ (n : ℕ). Rose n new.say_faults) calls.say_faults is.faults.1);
    failed = is.failed;
  }

  pub reads_then_says : {X : Type 0} (cost : ℕ) (before after : SessionState) (answer : Result X SessionFault) → SaysReply text cost mid new before after answer → SaysReply text cost old new before after answer
  reads_then_says cost before after (Ok x) is = reads_then_said cost before after is
  reads_then_says cost before after (Err HostFault) is = record {
    calls = reads_join law calls is.calls;
    faults = (subst (λ (n : ℕ). Rose n new.disk_faults) disk is.faults.0, is.faults.1 ∙ calls.say_faults);
    failed = is.failed;
  }
  reads_then_says cost before after (Err SayFault) is = reads_not_said after is
  reads_then_says cost before after (Err NoMemory) is = record {
    calls = reads_join law calls is.calls;
    faults = (is.faults.0 ∙ disk, is.faults.1 ∙ calls.say_faults);
    kept = is.kept;
  }

-- ---- nothing done

pub does_nothing : (replies : Replies) (v : View) (s : SessionState) (c : Command) → IsLawful v → IsReady v s → s.failed ≡ false → Does replies v v s s c (Err NoMemory)
does_nothing replies v s c law ready fresh =
    does_says replies v v s s [] 0 law law ready c (Err NoMemory) fresh (record { calls = reads_none v; faults = (refl, refl); kept = refl }) (λ said. absurd said) (λ said. absurd said) tt (λ said. absurd said)

-- A loop that puts and releases records, one after the other: what a stop leaves meanwhile, and what is there at its end.
use Rattle.std.proofs.Common.{◌≡◌, ◌∙◌, ℕ, ◌+◌, ◌-◌, ◌<◌, ◌≤◌, List, ◌∷◌, length, drop, get_or, Option, Some, None, refl, sym, ap, subst, arith}
use Rattle.std.proofs.lemmas.{List.{drop_all, drop_more, get_or-map, length-map}, List.Sums.{fold_more}, Option.{none-some, same_Some}}
use Rattle.rio_host.specs.Host.{Any, Becomes, Elapses, IsQuiet, OnlyWrites, View}
use Rattle.rio_host.proofs.Images.{becomes_join}
use Rattle.rio_chain.specs.{Becoming.{ChainBecomes}, Chains.{ChainState, HasChain, HoldsChain}, Segments.{Link}, Stops.{IsEither}}
use Rattle.rio_session.specs.{Changing.{ChangesInTime, Changing, IsUnderway, links_at}, Kept.{LinksChange}, SessionState.{SessionState}}
use Rattle.rio_session.specs.{Steps.{CanRun, CanStep, all_stepped, change_of, changes_of, stepped}, declared.steps.Step.{Step}}
use Rattle.rio_session.proofs.{Moments.{more_in_time, nothing_yet, one_more}, OnlyReplies.{told_same}}

-- the first k steps are done
pub record Making (start now : View) (before : ChainState) (steps : List Step) (k : ℕ) (chain : ChainState) : Type 0 where
  pub writes : OnlyWrites start now
  pub calm : now.disk_faults ≡ start.disk_faults
  pub quiet : IsQuiet now
  pub run : CanRun (drop k steps) chain.segments
  pub segments : all_stepped (drop k steps) chain.segments ≡ all_stepped steps before.segments
  pub spare : chain.spare ≡ before.spare - k
  pub spent : chain.spent ≡ before.spent
  pub holds : HoldsChain now chain.segments
  pub underway : (p : Changing) (s : SessionState) → s.segments ≡ before.segments → p.changes ≡ changes_of steps → IsUnderway p k start now s chain.segments

pub making_begins : (start : View) (before : ChainState) (steps : List Step) → IsQuiet start → HoldsChain start before.segments → CanRun steps before.segments → Making start start before steps 0 before
making_begins start before steps quiet holds run = record {
  writes = record { told = told_same start.holds start.holds refl; said = refl; reads = refl; say_faults = refl };
  calm = refl;
  quiet = quiet;
  run = run;
  segments = refl;
  spare = omega arith;
  spent = refl;
  holds = holds;
  underway = λ p s own is. subst (IsUnderway p 0 start start s) own (nothing_yet p start s);
}

module _ (start now : View) (before : ChainState) (steps : List Step) (k : ℕ) (chain : ChainState) (sofar : Making start now before steps k chain)
    (step : Step) (lt : k < length steps) (step_is : step ≡ get_or steps k step) where
  left : drop k steps ≡ step ∷ drop (k + 1) steps
  left = drop_more steps k step lt ∙ ap (λ (x : Step). x ∷ drop (k + 1) steps) (sym step_is)

  left_runs : CanRun (step ∷ drop (k + 1) steps) chain.segments
  left_runs = subst (λ (ss : List Step). CanRun ss chain.segments) left sofar.run

  pub can_step : CanStep chain.segments step
  can_step = left_runs.0

  module _ (new : View)
      (moments : (file : List ℕ) (links : List Link) → now.holds ≡ Some file → HasChain links chain.segments file → Elapses now new (IsEither now file links (change_of step links)))
      (writes : OnlyWrites now new) where
    pub step_writes : OnlyWrites start new
    step_writes = record {
      told = becomes_join Any Any Any start.holds now.holds new.holds (λ x y z p q. tt) sofar.writes.told writes.told;
      said = writes.said ∙ sofar.writes.said;
      reads = writes.reads ∙ sofar.writes.reads;
      say_faults = writes.say_faults ∙ sofar.writes.say_faults;
    }

    module _ (p : Changing) (s : SessionState) (own : s.segments ≡ before.segments) (is : p.changes ≡ changes_of steps) where
      within : k < length p.changes
      within = omega (arith, lt, ap length is, length-map steps change_of)

      next : (l : List Link) → links_at p (k + 1) l ≡ change_of step (links_at p k l)
      next l =
          let change : get_or p.changes k (change_of step) ≡ change_of step =
          ap (λ (cs : List LinksChange). get_or cs k (change_of step)) is ∙ get_or-map change_of steps k step (change_of step) lt ∙ ap change_of (sym step_is) in
          fold_more (λ (ls : List Link) (c : LinksChange). c ls) l p.changes k (change_of step) within ∙ ap (λ (c : LinksChange). c (links_at p k l)) change

      -- meanwhile
      pub step_in_time : ChangesInTime p start new s
      step_in_time = more_in_time p k start now new s chain.segments (sofar.underway p s own is) (change_of step) (omega (arith, within)) next moments writes.told writes.said

    module _ (after : ChainState) (becomes : ChainBecomes now new chain.segments after.segments (change_of step)) (quiet : IsQuiet new) (calm : new.disk_faults ≡ now.disk_faults)
        (is : after ≡ record chain { segments = stepped step chain.segments; spare = chain.spare - 1 }) where
      told_before : (o : Option (List ℕ)) → now.holds ≡ o → (file : List ℕ) → new.holds ≡ Some file → (x : List Link) × HasChain x after.segments file
      told_before None none file told = absurd (none-some file (sym (subst (λ (o : Option (List ℕ)). Becomes Any o new.holds) none writes.told) ∙ told))
      told_before (Some was) was_is file told =
          let c = sofar.holds was was_is in
          let b = becomes was c.0 was_is c.1 in
          (change_of step c.0, subst (HasChain (change_of step c.0) after.segments) (same_Some b.0 file (sym b.1 ∙ told)) b.2)

      segments_are : stepped step chain.segments ≡ after.segments
      segments_are = sym (ap (λ (c : ChainState). c.segments) is)

      pub step_done : Making start new before steps (k + 1) after
      step_done = record {
        writes = step_writes;
        calm = calm ∙ sofar.calm;
        quiet = quiet;
        run = subst (CanRun (drop (k + 1) steps)) segments_are left_runs.1;
        segments = ap (all_stepped (drop (k + 1) steps)) (sym segments_are) ∙ sym (ap (λ (ss : List Step). all_stepped ss chain.segments) left) ∙ sofar.segments;
        spare = omega (arith, ap (λ (c : ChainState). c.spare) is, sofar.spare);
        spent = ap (λ (c : ChainState). c.spent) is ∙ sofar.spent;
        holds = told_before now.holds refl;
        underway = λ p s own changes.
            one_more p k start now new s chain.segments (sofar.underway p s own changes) (change_of step) (omega (arith, within p s own changes)) (next p s own changes) moments writes.told writes.said
            after.segments becomes (calm, writes.say_faults);
      }

-- all of them
module _ (start now : View) (before : ChainState) (steps : List Step) (k : ℕ) (chain : ChainState) (sofar : Making start now before steps k chain) (all : k ≡ length steps) where
  pub all_segments : chain.segments ≡ all_stepped steps before.segments
  all_segments = sym (ap (λ (ss : List Step). all_stepped ss chain.segments) (drop_all k steps (omega (arith, all)))) ∙ sofar.segments

  module _ (p : Changing) (s : SessionState) (own : s.segments ≡ before.segments) (is : p.changes ≡ changes_of steps) where
    whole : k ≡ length p.changes
    whole = omega (arith, ap length is, length-map steps change_of, all)

    pub all_made : IsUnderway p (length p.changes) start now s chain.segments
    all_made = subst (λ (n : ℕ). IsUnderway p n start now s chain.segments) whole (sofar.underway p s own is)

    pub made_in_time : ChangesInTime p start now s
    made_in_time = (sofar.underway p s own is).time

-- The records of a file are changed, and then a text is said: what a stop leaves meanwhile.
use Rattle.std.proofs.Common.{◌≡◌, inl, inr, ⊎_elim, ℕ, List, [], ◌∷◌, ◌++◌, length, take, Option, Some, Err, refl, sym, ap, subst, ◌∙◌, arith}
use Rattle.std.proofs.{Math.Seq.{take-length}}
use Rattle.rio_host.specs.Host.{Any, Becomes, Elapses, IsLawful, IsQuiet, Longer, LongerByPart, Rose, Speaking, View}
use Rattle.rio_host.proofs.Moments.{elapses_as, elapses_join, says_quiet}
use Rattle.rio_chain.specs.{Becoming.{ChainBecomes}, Chains.{HasChain}, Segments.{IsChain, Link}, Stops.{IsEither, KeepsFront}}
use Rattle.rio_session.specs.Changing.{ChangedAndSaid, ChangedNotSaid, ChangesInTime, Changing, IsBetween, ReachesAll}
use Rattle.rio_session.specs.{Causes.{NoCountRose}, Kept.{LinksChange, all_done}, Says.{NotSaid, Said, SaysReply}, SessionState.{SessionState, with_cost}}
use Rattle.rio_session.specs.declared.fault.SessionFault.{SessionFault, TheVariants.{SayFault}}

-- ---- one change

module _ (change : LinksChange) (kept : SessionState) (text : List ℕ) (cost : ℕ) (old mid : View) (before : SessionState) where
  abbrev pub one_change : Changing
  one_change = record { changes = change ∷ []; kept = kept; text = text; cost = cost }

  -- it is reached on the file of before
  pub one_reached : ReachesAll one_change old before
  one_reached file links holds chain j low =
      let none : 0 ≡ j = omega arith in
      subst (λ (k : ℕ). (image : List ℕ) × IsChain (all_done (take k (change ∷ [])) links) image) none (file, chain.chain)

  one_between : (file said : List ℕ) (links : List Link) → HasChain links before.segments file → old.said ≡ Some said → (i t : List ℕ) → IsEither old file links (change links) i t → IsBetween one_change file said links i t
  one_between file said links chain told i t e = ⊎_elim
      (λ was. record {
        k = 0;
        within = omega arith;
        chain = was;
        reached = λ j low. absurd (omega (arith, low));
        spoken_is = inl (e.text said told);
        front = e.front;
      })
      (λ now. record {
        k = 1;
        within = omega arith;
        chain = now;
        reached = λ j low.
            let none : 0 ≡ j = omega (arith, low) in
            subst (λ (k : ℕ). (image : List ℕ) × IsChain (all_done (take k (change ∷ [])) links) image) none (file, chain.chain);
        spoken_is = inl (e.text said told);
        front = e.front;
      })
      e.links

  -- while it is done
  pub one_in_time : ((file : List ℕ) (links : List Link) → old.holds ≡ Some file → HasChain links before.segments file → Elapses old mid (IsEither old file links (change links)))
      → ChangesInTime one_change old mid before
  one_in_time first file said links holds told chain =
      elapses_as (IsBetween one_change file said links) (IsEither old file links (change links)) (first file links holds chain) (one_between file said links chain told)

-- ---- then the text

module _ (p : Changing) (old mid : View) (before stored : SessionState) (time : ChangesInTime p old mid before) (reached : ReachesAll p old before) (law : IsLawful mid) (quiet : IsQuiet mid)
    (same : mid.said ≡ old.said) (kept : stored ≡ p.kept) (done : ChainBecomes old mid before.segments stored.segments (all_done p.changes)) where
  spoken_then : (file said : List ℕ) (links : List Link) → old.holds ≡ Some file → old.said ≡ Some said → HasChain links before.segments file → (i t : List ℕ) → Speaking p.text mid i t → IsBetween p file said links i t
  spoken_then file said links holds told chain i t speaks =
      let f = done file links holds chain in
      let is : f.0 ≡ i = sym (quiet i speaks.0 f.0 speaks.1 f.1) in
      let now : IsChain (all_done (take (length p.changes) p.changes) links) f.0 = subst (λ (l : List LinksChange). IsChain (all_done l links) f.0) (sym (take-length p.changes)) f.2.chain in
      record {
        k = length p.changes;
        within = omega arith;
        chain = subst (λ (x : List ℕ). IsChain (all_done (take (length p.changes) p.changes) links) x) is now;
        reached = reached file links holds chain;
        spoken_is = inr (refl, (speaks.2.0, speaks.2.1 ∙ ap (λ (l : List ℕ). l ++ take speaks.2.0 p.text) (law.text i speaks.0 said speaks.1 (same ∙ told))));
        front = subst (λ (x : List ℕ). KeepsFront file x) is f.3;
      }

  -- while it is said
  said_then : (new : View) → Elapses mid new (Speaking p.text mid) → ChangesInTime p old new before
  said_then new speaks file said links holds told chain =
      elapses_join (Speaking p.text mid) (time file said links holds told chain) speaks (spoken_then file said links holds told chain)

  -- all of it
  pub changed_and_said : (new : View) (after : SessionState) → IsLawful new → Said p.text p.cost mid new stored after → Becomes Any old.holds mid.holds → NoCountRose old mid → ChangedAndSaid p old new before after
  changed_and_said new after lawful is told faults = record {
    time = said_then new is.time;
    reached = reached;
    holds = λ file links holds chain.
        let f = done file links holds chain in
        (f.0, is.holds ∙ f.1, subst (λ (s : SessionState). HasChain (all_done p.changes links) s.segments f.0) (sym is.kept) f.2, f.3);
    says = subst (λ (o : Option (List ℕ)). Becomes (Longer p.text) o new.said) same is.says;
    quiet = says_quiet p.text lawful quiet is.time is.holds;
    told = subst (λ (o : Option (List ℕ)). Becomes Any old.holds o) (sym is.holds) told;
    faults = (is.faults.0 ∙ faults.0, is.faults.1 ∙ faults.1);
    kept = is.kept ∙ ap (with_cost p.cost) kept;
  }

  -- or a prefix of the text
  pub changed_not_said : (new : View) (after : SessionState) → IsLawful new → NotSaid p.text mid new after → Becomes Any old.holds mid.holds → NoCountRose old mid → ChangedNotSaid p old new before after
  changed_not_said new after lawful is told faults = record {
    time = said_then new is.time;
    reached = reached;
    holds = λ file links holds chain.
        let f = done file links holds chain in
        (f.0, is.holds ∙ f.1, subst (λ (s : SessionState). HasChain (all_done p.changes links) s.segments f.0) kept f.2, f.3);
    quiet = says_quiet p.text lawful quiet is.time is.holds;
    told = subst (λ (o : Option (List ℕ)). Becomes Any old.holds o) (sym is.holds) told;
    says = subst (λ (o : Option (List ℕ)). Becomes (LongerByPart p.text) o new.said) same is.says;
    some = is.some;
    faults = (is.faults.0 ∙ faults.0, subst (λ (n : ℕ). Rose n new.say_faults) faults.1 is.faults.1);
    failed = is.failed;
  }

-- what is not said
pub not_said : (X : Type 0) (text : List ℕ) (cost : ℕ) (old new : View) (before after : SessionState) (fault : SessionFault) → fault ≡ SayFault → SaysReply {X = X} text cost old new before after (Err fault) → NotSaid text old new after
not_said X text cost old new before after fault is says = subst (λ (e : SessionFault). SaysReply {X = X} text cost old new before after (Err e)) is says

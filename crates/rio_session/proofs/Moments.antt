-- The changes of a file's records, one write after the other: the crash images meanwhile.
use Rattle.std.proofs.{Common.{◌≡◌, inl, inr, ⊎_elim, ℕ, ◌+◌, ◌≤◌, true, List, length, Some, refl, sym, ap, subst, ◌∙◌, arith}, Math.Seq.{take-length}, lemmas.Bool.{cases_lt}}
use Rattle.rio_host.specs.Host.{Any, Becomes, Elapses, Rose, View}
use Rattle.rio_host.proofs.{Images.{becomes_join}, Moments.{elapses_join}}
use Rattle.rio_chain.specs.{Becoming.{ChainBecomes}, Chains.{HasChain}, Segments.{IsChain, Link}, Stops.{IsEither, KeepsFront}, declared.segment.Segment.{Segment}}
use Rattle.rio_session.specs.{Causes.{DiskRose, NoCountRose}, Changing.{ChangesInTime, Changing, IsBetween, IsReached, IsUnderway, NotChanged, ReachesAll, links_at}}
use Rattle.rio_session.specs.{Kept.{LinksChange, all_done}, SessionState.{SessionState}}
use Rattle.rio_session.proofs.{Opened.{keeps_own}, OnlyReplies.{told_same}}

-- ---- before the first

pub nothing_yet : (p : Changing) (v : View) (s : SessionState) → IsUnderway p 0 v v s s.segments
nothing_yet p v s = record {
  within = omega arith;
  time = λ file said links holds told chain. record { later = omega arith; nothing_else = λ t i s le left. inl left; keeps = λ t i s le left. left };
  reached = λ file links holds chain j low. absurd (omega (arith, low));
  holds = λ file links holds chain. (file, holds, chain, keeps_own file);
  told = told_same v.holds v.holds refl;
  said = refl;
  faults = (refl, refl);
}

-- ---- one more

module _ (p : Changing) (i : ℕ) (old mid new : View) (before : SessionState) (segments : List Segment) (u : IsUnderway p i old mid before segments) (change : LinksChange)
    (more : i + 1 ≤ length p.changes) (next : (l : List Link) → links_at p (i + 1) l ≡ change (links_at p i l))
    (call : (file : List ℕ) (links : List Link) → mid.holds ≡ Some file → HasChain links segments file → Elapses mid new (IsEither mid file links (change links)))
    (told : Becomes Any mid.holds new.holds) (said : new.said ≡ mid.said) where
  module _ (file : List ℕ) (links : List Link) (holds : old.holds ≡ Some file) (chain : HasChain links before.segments file) where
    reached_more : IsReached p (i + 1) links
    reached_more j low = elim (cases_lt j i) [
      | inl earlier ↦ u.reached file links holds chain j earlier
      | inr last ↦
          let f = u.holds file links holds chain in
          let same : i ≡ j = omega (arith, low, last) in
          subst (λ (k : ℕ). (image : List ℕ) × IsChain (links_at p k links) image) same (f.0, f.2.chain)
    ]

    either_more : (text : List ℕ) → old.said ≡ Some text → (now : List ℕ) → KeepsFront file now → (image spoken : List ℕ) → IsEither mid now (links_at p i links) (change (links_at p i links)) image spoken
        → IsBetween p file text links image spoken
    either_more text printed now front image spoken e =
        let same : spoken ≡ text = e.text text (u.said ∙ printed) in
        ⊎_elim
        (λ (was : IsChain (links_at p i links) image). record {
          k = i;
          within = u.within;
          chain = was;
          reached = u.reached file links holds chain;
          spoken_is = inl same;
          front = λ n x low at. e.front n x low (front n x low at);
        })
        (λ (is : IsChain (change (links_at p i links)) image). record {
          k = i + 1;
          within = more;
          chain = subst (λ (l : List Link). IsChain l image) (sym (next links)) is;
          reached = reached_more;
          spoken_is = inl same;
          front = λ n x low at. e.front n x low (front n x low at);
        })
        e.links

  -- meanwhile
  pub more_in_time : ChangesInTime p old new before
  more_in_time file text links holds printed chain =
      let f = u.holds file links holds chain in
      elapses_join (IsEither mid f.0 (links_at p i links) (change (links_at p i links))) (u.time file text links holds printed chain) (call f.0 (links_at p i links) f.1 f.2)
      (either_more file links holds chain text printed f.0 f.3)

  told_on : Becomes Any old.holds new.holds
  told_on = becomes_join Any Any Any old.holds mid.holds new.holds (λ x y z a b. tt) u.told told

  -- when it is done
  pub one_more : (segments' : List Segment) → ChainBecomes mid new segments segments' change → NoCountRose mid new → IsUnderway p (i + 1) old new before segments'
  one_more segments' done faults = record {
    within = more;
    time = more_in_time;
    reached = reached_more;
    holds = λ file links holds chain.
        let f = u.holds file links holds chain in
        let g = done f.0 (links_at p i links) f.1 f.2 in
        (g.0, g.1, subst (λ (l : List Link). HasChain l segments' g.0) (sym (next links)) g.2, λ n x low at. g.3 n x low (f.3 n x low at));
    told = told_on;
    said = said ∙ u.said;
    faults = (faults.0 ∙ u.faults.0, faults.1 ∙ u.faults.1);
  }

  -- and when it fails
  pub one_failed : (after : SessionState) → DiskRose mid new → after.failed ≡ true → NotChanged p old new before after
  one_failed after faults failed = record {
    time = more_in_time;
    told = told_on;
    said = said ∙ u.said;
    faults = (subst (λ (n : ℕ). Rose n new.disk_faults) u.faults.0 faults.0, faults.1 ∙ u.faults.1);
    failed = failed;
  }

-- ---- all of them

module _ (p : Changing) (i : ℕ) (old mid : View) (before : SessionState) (segments : List Segment) (u : IsUnderway p i old mid before segments) (whole : i ≡ length p.changes) where
  all_are : (links : List Link) → links_at p i links ≡ all_done p.changes links
  all_are links = ap (λ (k : ℕ). links_at p k links) whole ∙ ap (λ (l : List LinksChange). all_done l links) (take-length p.changes)

  -- each was reached
  pub all_reached : ReachesAll p old before
  all_reached file links holds chain = subst (λ (k : ℕ). IsReached p k links) whole (u.reached file links holds chain)

  -- and the file is what they make of it
  pub all_held : ChainBecomes old mid before.segments segments (all_done p.changes)
  all_held file links holds chain =
      let f = u.holds file links holds chain in
      (f.0, f.1, subst (λ (l : List Link). HasChain l segments f.0) (all_are links) f.2, f.3)

-- A loop that releases records, one after the other: what a stop leaves meanwhile, and what is there at its end.
use Rattle.std.proofs.Common.{◌≡◌, ◌∙◌, ℕ, zero, suc, ◌+◌, ◌-◌, ◌<◌, ◌≤◌, Bool, true, false, ◌==◌, ◌||◌, List, [], ◌∷◌, length, map, take, get_or, Option, Some, None, Result, Ok, Err, OnOk, nat_lt, refl, sym, ap, subst, arith}
use Rattle.std.proofs.{lemmas.Bool.{eq-eqb, ltb-true, ne_eqb, or_parts}, lemmas.List.{get_or-map, length-map, take_all}}
use Rattle.std.proofs.lemmas.{List.Sums.{AllPass-from_list_all, fold_more}, Option.{none-some, same_Some}}
use Rattle.std.specs.List.{list_all, list_any}
use Rattle.rio_host.specs.Host.{Any, Becomes, Elapses, IsDiskCause, IsQuiet, OnlyWrites, View}
use Rattle.rio_host.proofs.Images.{becomes_join}
use Rattle.rio_chain.specs.{Becoming.{ChainBecomes}, Chains.{ChainState, HasChain, HasRecordSegment, HoldsChain}, Changes.{without_record}, Releasing.{without_segment}}
use Rattle.rio_chain.specs.{Segments.{Link}, Stops.{IsEither}, declared.segment.Segment.{Segment}}
use Rattle.rio_recover.specs.{Cleaning.{without_segments}, Closable.{begins_at}}
use Rattle.rio_recover.proofs.Released.{any_left, record_segment}
use Rattle.rio_session.specs.{Changing.{ChangesInTime, Changing, IsUnderway, links_at}, Kept.{LinksChange, all_done}, Releases.{AreApart, AreReleasable}, SessionState.{SessionState}}
use Rattle.rio_session.proofs.{Moments.{more_in_time, nothing_yet, one_more}, OnlyReplies.{told_same}}

-- ---- the places

-- a place isn't among those before it
apart_before : (places : List ℕ) → AreApart places → (k : ℕ) → k < length places → list_any (λ p. p == get_or places k 0) (take k places) ≡ false
apart_before [] apart k lt = absurd (omega (arith, lt))
apart_before (p ∷ places) apart zero lt = refl
apart_before (p ∷ places) apart (suc k) lt =
    let rest = apart_before places apart.1 k (omega (arith, lt)) in
    ap (λ (b : Bool). b || list_any (λ q. q == get_or places k 0) (take k places)) (other p places apart.0 k (omega (arith, lt))) ∙ rest
  where
    other : (p : ℕ) (places : List ℕ) → list_any (λ q. q == p) places ≡ false → (k : ℕ) → k < length places → (p == get_or places k 0) ≡ false
    other p [] none k lt = absurd (omega (arith, lt))
    other p (q ∷ places) none zero lt =
        let first = (or_parts (q == p) (list_any (λ r. r == p) places) none).0 in
        ne_eqb p q (λ same. let f : (q == p) ≡ true = eq-eqb q p (sym same) in let g = first in cc)
    other p (q ∷ places) none (suc k) lt = other p places (or_parts (q == p) (list_any (λ r. r == p) places) none).1 k (omega (arith, lt))

module _ (places : List ℕ) (segments : List Segment) (are : AreReleasable segments places) (k : ℕ) (lt : k < length places) where
  pub later : 100 < get_or places k 0
  later = ltb-true 100 (get_or places k 0) (AllPass-from_list_all (nat_lt 100) places are.later k 0 lt)

  pub record_there : (now : List Segment) → now ≡ without_segments (take k places) segments → HasRecordSegment now (get_or places k 0)
  record_there now is =
      let place = get_or places k 0 in
      let there = AllPass-from_list_all (λ p. list_any (begins_at p) segments) places are.there k 0 lt in
      subst (λ (ss : List Segment). HasRecordSegment ss place) (sym is)
      (record_segment place (without_segments (take k places) segments) (any_left place (take k places) (apart_before places are.apart k lt) segments ∙ there))

-- ---- the loop

pub record Releasing (start now : View) (before : ChainState) (places : List ℕ) (k : ℕ) (chain : ChainState) : Type 0 where
  pub writes : OnlyWrites start now
  pub calm : now.disk_faults ≡ start.disk_faults
  pub quiet : IsQuiet now
  pub segments : chain.segments ≡ without_segments (take k places) before.segments
  pub spare : chain.spare ≡ before.spare - k
  pub spent : chain.spent ≡ before.spent
  pub holds : HoldsChain now chain.segments
  pub underway : (p : Changing) (s : SessionState) → s.segments ≡ before.segments → p.changes ≡ map without_record places → IsUnderway p k start now s chain.segments

pub releasing_begins : (start : View) (before : ChainState) (places : List ℕ) → IsQuiet start → HoldsChain start before.segments → Releasing start start before places 0 before
releasing_begins start before places quiet holds = record {
  writes = record { told = told_same start.holds start.holds refl; said = refl; reads = refl; say_faults = refl };
  calm = refl;
  quiet = quiet;
  segments = refl;
  spare = omega arith;
  spent = refl;
  holds = holds;
  underway = λ p s own is. subst (λ (ss : List Segment). IsUnderway p 0 start start s ss) own (nothing_yet p start s);
}

writes_join : (a b c : View) → OnlyWrites a b → OnlyWrites b c → OnlyWrites a c
writes_join a b c first then = record {
  told = becomes_join Any Any Any a.holds b.holds c.holds (λ x y z p q. tt) first.told then.told;
  said = then.said ∙ first.said;
  reads = then.reads ∙ first.reads;
  say_faults = then.say_faults ∙ first.say_faults;
}

module _ (start now : View) (before : ChainState) (places : List ℕ) (k : ℕ) (chain : ChainState) (sofar : Releasing start now before places k chain) (lt : k < length places) (new : View)
    (moments : (file : List ℕ) (links : List Link) → now.holds ≡ Some file → HasChain links chain.segments file → Elapses now new (IsEither now file links (without_record (get_or places k 0) links)))
    (writes : OnlyWrites now new) where
  abbrev at : ℕ
  at = get_or places k 0

  pub writes_more : OnlyWrites start new
  writes_more = writes_join start now new sofar.writes writes

  module _ (p : Changing) (s : SessionState) (own : s.segments ≡ before.segments) (is : p.changes ≡ map without_record places) where
    within : k < length p.changes
    within = omega (arith, lt, ap length is, length-map places without_record)

    next : (l : List Link) → links_at p (k + 1) l ≡ without_record at (links_at p k l)
    next l =
        let change : get_or p.changes k (without_record 0) ≡ without_record (get_or places k 0) = ap (λ (cs : List LinksChange). get_or cs k (without_record 0)) is ∙ get_or-map without_record places k 0 (without_record 0) lt in
        fold_more (λ (ls : List Link) (c : LinksChange). c ls) l p.changes k (without_record 0) within ∙ ap (λ (c : LinksChange). c (links_at p k l)) change

    -- meanwhile
    pub release_in_time : ChangesInTime p start new s
    release_in_time = more_in_time p k start now new s chain.segments (sofar.underway p s own is) (without_record at) (omega (arith, within)) next moments writes.told writes.said

  module _ (after : ChainState) (becomes : ChainBecomes now new chain.segments after.segments (without_record (get_or places k 0))) (quiet : IsQuiet new) (calm : new.disk_faults ≡ now.disk_faults)
      (is : after ≡ record chain { segments = without_segment (get_or places k 0) chain.segments; spare = chain.spare - 1 }) where
    told_before : (o : Option (List ℕ)) → now.holds ≡ o → (file : List ℕ) → new.holds ≡ Some file → (x : List Link) × HasChain x after.segments file
    told_before None none file told = absurd (none-some file (sym (subst (λ (o : Option (List ℕ)). Becomes Any o new.holds) none writes.told) ∙ told))
    told_before (Some was) was_is file told =
        let c = sofar.holds was was_is in
        let b = becomes was c.0 was_is c.1 in
        (without_record at c.0, subst (HasChain (without_record at c.0) after.segments) (same_Some b.0 file (sym b.1 ∙ told)) b.2)

    pub released_more : Releasing start new before places (k + 1) after
    released_more = record {
      writes = writes_more;
      calm = calm ∙ sofar.calm;
      quiet = quiet;
      segments = ap (λ (c : ChainState). c.segments) is ∙ ap (without_segment at) sofar.segments ∙ sym (fold_more (λ ss p. without_segment p ss) before.segments places k 0 lt);
      spare = omega (arith, ap (λ (c : ChainState). c.spare) is, sofar.spare);
      spent = ap (λ (c : ChainState). c.spent) is ∙ sofar.spent;
      holds = told_before now.holds refl;
      underway = λ p s own changes.
          one_more p k start now new s chain.segments (sofar.underway p s own changes) (without_record at) (omega (arith, within p s own changes)) (next p s own changes) moments writes.told writes.said
          after.segments becomes (calm, writes.say_faults);
    }

-- all of them
module _ (start now : View) (before : ChainState) (places : List ℕ) (k : ℕ) (chain : ChainState) (sofar : Releasing start now before places k chain) (le : length places ≤ k) where
  pub all_segments : chain.segments ≡ without_segments places before.segments
  all_segments = sofar.segments ∙ ap (λ (ps : List ℕ). without_segments ps before.segments) (take_all k places le)

  module _ (p : Changing) (s : SessionState) (own : s.segments ≡ before.segments) (is : p.changes ≡ map without_record places) where
    whole : k ≡ length p.changes
    whole = let u = sofar.underway p s own is in omega (arith, u.within, ap length is, length-map places without_record, le)

    pub all_released : IsUnderway p (length p.changes) start now s chain.segments
    all_released = subst (λ (n : ℕ). IsUnderway p n start now s chain.segments) whole (sofar.underway p s own is)

    pub released_in_time : ChangesInTime p start now s
    released_in_time = (sofar.underway p s own is).time

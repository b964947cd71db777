-- A record is put, and then another one released: what is there between the two, and what a stop leaves meanwhile.
use Rattle.std.proofs.Common.{◌≡◌, ◌==◌, ℕ, ◌+◌, ◌≤◌, true, List, [], ◌∷◌, ◌++◌, length, take, Option, Some, Result, Ok, Err, refl, sym, ap, subst, ◌∙◌, arith}
use Rattle.std.proofs.lemmas.Bool.{eq-eqb, or_left, or_right}
use Rattle.std.specs.{Prelude.{OnOk}, List.{list_any}}
use Rattle.rio_host.specs.Host.{Elapses, IsDiskCause, OnlyWrites, View}
use Rattle.rio_key.specs.declared.head.KeyHead.{KeyHead}
use Rattle.rio_chain.specs.{Becoming.{ChainBecomes}, Chains.{HasChain, HasRecordSegment}, Changes.{with_record, without_record}, Placing.{with_segment}}
use Rattle.rio_chain.specs.{Segments.{Link}, Stops.{IsEither}, declared.segment.Segment.{Segment, TheVariants.{Record, Gap}}}
use Rattle.rio_recover.specs.Closable.{begins_at}
use Rattle.rio_recover.proofs.Released.{record_segment}
use Rattle.rio_session.specs.{Changing.{ChangesInTime, Changing, IsUnderway, links_at}, Kept.{LinksChange, all_done, released_link}, SessionState.{SessionState}}
use Rattle.rio_session.proofs.{Keeps.{begins_still}, Moments.{more_in_time, nothing_yet, one_more}}

-- ---- between the two

begins_there : (place n : ℕ) (front back : List Segment) → list_any (begins_at place) (front ++ Record place n ∷ back) ≡ true
begins_there place n [] back = or_left (place == place) (list_any (begins_at place) back) (eq-eqb place place refl)
begins_there place n (Record p m ∷ front) back = or_right (p == place) (list_any (begins_at place) (front ++ Record place n ∷ back)) (begins_there place n front back)
begins_there place n (Gap p m ∷ front) back = begins_there place n front back

-- a record is still one once another is put
pub record_stays : (place n q : ℕ) (segments : List Segment) → HasRecordSegment segments q → HasRecordSegment (with_segment place n segments) q
record_stays place n q segments has =
    let begins = subst (λ (ss : List Segment). list_any (begins_at q) ss ≡ true) (sym has.3) (begins_there q has.1 has.0 has.2) in
    record_segment q (with_segment place n segments) (begins_still q place n segments begins)

-- ---- the put

module _ (place : ℕ) (bytes : List ℕ) (rest : List LinksChange) (p : Changing) (s : SessionState) (segments : List Segment) (own : s.segments ≡ segments) (is : p.changes ≡ with_record place bytes ∷ rest) (old mid : View)
    (call : (file : List ℕ) (links : List Link) → old.holds ≡ Some file → HasChain links segments file → Elapses old mid (IsEither old file links (with_record place bytes links))) (writes : OnlyWrites old mid) where
  some : 0 + 1 ≤ length p.changes
  some = omega (arith, ap length is)

  first : (l : List Link) → links_at p (0 + 1) l ≡ with_record place bytes (links_at p 0 l)
  first l = ap (λ (cs : List LinksChange). all_done (take 1 cs) l) is

  own_call : (file : List ℕ) (links : List Link) → old.holds ≡ Some file → HasChain links s.segments file → Elapses old mid (IsEither old file links (with_record place bytes links))
  own_call file links holds chain = call file links holds (subst (λ (x : List Segment). HasChain links x file) own chain)

  -- meanwhile
  pub put_in_time : ChangesInTime p old mid s
  put_in_time = more_in_time p 0 old old mid s s.segments (nothing_yet p old s) (with_record place bytes) some first own_call writes.told writes.said

  -- when it is done
  pub put_is_done : (after : List Segment) → ChainBecomes old mid segments after (with_record place bytes) → mid.disk_faults ≡ old.disk_faults → IsUnderway p 1 old mid s after
  put_is_done after done calm =
      one_more p 0 old old mid s s.segments (nothing_yet p old s) (with_record place bytes) some first own_call writes.told writes.said after
      (λ file links holds chain. done file links holds (subst (λ (x : List Segment). HasChain links x file) own chain)) (calm, writes.say_faults)

  -- where nothing is released then
  pub all_is_done : (after : List Segment) → rest ≡ [] → ChainBecomes old mid segments after (with_record place bytes) → mid.disk_faults ≡ old.disk_faults → IsUnderway p (length p.changes) old mid s after
  all_is_done after none done calm =
      let one : 1 ≡ length p.changes = omega (arith, ap length is, ap length none) in
      subst (λ (k : ℕ). IsUnderway p k old mid s after) one (put_is_done after done calm)

-- ---- the release

module _ (place : ℕ) (bytes : List ℕ) (q : ℕ) (p : Changing) (s : SessionState) (is : p.changes ≡ with_record place bytes ∷ without_record q ∷ []) (old mid new : View) (segments : List Segment)
    (u : IsUnderway p 1 old mid s segments) (call : (file : List ℕ) (links : List Link) → mid.holds ≡ Some file → HasChain links segments file → Elapses mid new (IsEither mid file links (without_record q links)))
    (writes : OnlyWrites mid new) where
  both : 1 + 1 ≤ length p.changes
  both = omega (arith, ap length is)

  second : (l : List Link) → links_at p (1 + 1) l ≡ without_record q (links_at p 1 l)
  second l = ap (λ (cs : List LinksChange). all_done (take 2 cs) l) is ∙ sym (ap (λ (cs : List LinksChange). without_record q (all_done (take 1 cs) l)) is)

  -- meanwhile
  pub release_in_time : ChangesInTime p old new s
  release_in_time = more_in_time p 1 old mid new s segments u (without_record q) both second call writes.told writes.said

  -- when it is done
  pub release_is_done : (after : List Segment) → ChainBecomes mid new segments after (without_record q) → new.disk_faults ≡ mid.disk_faults → IsUnderway p (length p.changes) old new s after
  release_is_done after done calm =
      subst (λ (k : ℕ). IsUnderway p k old new s after) (sym (ap length is))
      (one_more p 1 old mid new s segments u (without_record q) both second call writes.told writes.said after done (calm, writes.say_faults))

-- ---- both

module _ (place : ℕ) (bytes : List ℕ) (before : Option KeyHead) (h : KeyHead) (there : before ≡ Some h) (segments amid after : List Segment) (old mid new : View)
    (put : (file : List ℕ) (links : List Link) → old.holds ≡ Some file → HasChain links segments file → Elapses old mid (IsEither old file links (with_record place bytes links))) (writes : OnlyWrites old mid)
    (done : ChainBecomes old mid segments amid (with_record place bytes)) (calm : mid.disk_faults ≡ old.disk_faults)
    (release : (file : List ℕ) (links : List Link) → mid.holds ≡ Some file → HasChain links amid file → Elapses mid new (IsEither mid file links (without_record h.seek links))) (writes' : OnlyWrites mid new) where
  module _ (p : Changing) (s : SessionState) (own : s.segments ≡ segments) (is : p.changes ≡ with_record place bytes ∷ released_link before) where
    both_are : p.changes ≡ with_record place bytes ∷ without_record h.seek ∷ []
    both_are = is ∙ ap (λ (o : Option KeyHead). with_record place bytes ∷ released_link o) there

    put_before : IsUnderway p 1 old mid s amid
    put_before = put_is_done place bytes (released_link before) p s segments own is old mid put writes amid done calm

    -- meanwhile
    pub both_in_time : ChangesInTime p old new s
    both_in_time = release_in_time place bytes h.seek p s both_are old mid new amid put_before release writes'

  -- when both are done
  pub both_are_done : {X E : Type 0} (r : Result X E) → OnOk r (ChainBecomes mid new amid after (without_record h.seek)) → IsDiskCause mid new r
      → OnOk r ((p : Changing) (s : SessionState) → s.segments ≡ segments → p.changes ≡ with_record place bytes ∷ released_link before → IsUnderway p (length p.changes) old new s after)
  both_are_done (Ok x) last cause = λ p s own is.
      release_is_done place bytes h.seek p s (both_are p s own is) old mid new amid (put_before p s own is) release writes' after last (cause.counted refl)
  both_are_done (Err e) last cause = tt

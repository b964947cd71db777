-- Segments without some of their records.
use Rattle.std.proofs.Common.{◌≡◌, ◌∙◌, ℕ, ◌<◌, ◌≤◌, Bool, true, false, cond, eqb, ◌||◌, List, [], ◌∷◌, ◌++◌, refl, sym, ap, subst, arith}
use Rattle.std.proofs.{lemmas.Bool.{eqb-true, ne_eqb, or_parts}}
use Rattle.std.specs.List.{list_any}
use Rattle.rio_chain.specs.{Adjoining.{AreSegments}, Chains.{HasRecordSegment}, Placing.{file_end}, Releasing.{with_free, without_segment}}
use Rattle.rio_chain.specs.declared.segment.Segment.{Segment, TheVariants.{Record, Gap}}
use Rattle.rio_chain.proofs.FewerRecords.{left_by_releases}
use Rattle.rio_recover.specs.{Cleaning.{AreRising, without_segments}, Closable.{begins_at}}

-- ---- where records begin

any_free : (q place n : ℕ) (segments : List Segment) → list_any (begins_at q) (with_free place n segments) ≡ list_any (begins_at q) segments
any_free q place n [] = refl
any_free q place n (Record p m ∷ segments) = refl
any_free q place n (Gap p m ∷ segments) = refl

-- another record stays
pub any_without : (q place : ℕ) → eqb place q ≡ false → (segments : List Segment) → list_any (begins_at q) (without_segment place segments) ≡ list_any (begins_at q) segments
any_without q place other [] = refl
any_without q place other (Record p n ∷ segments) = by (eqb p place) refl (any_without q place other segments)
  where
    by : (b : Bool) → eqb p place ≡ b → list_any (begins_at q) (without_segment place segments) ≡ list_any (begins_at q) segments → list_any (begins_at q) (cond b (with_free p n segments) (Record p n ∷ without_segment place segments)) ≡ (eqb p q || list_any (begins_at q) segments)
    by true e rest = any_free q p n segments ∙ sym (ap (λ (b : Bool). b || list_any (begins_at q) segments) (ap (λ (r : ℕ). eqb r q) (eqb-true p place e) ∙ other))
    by false e rest = ap (λ (b : Bool). eqb p q || b) rest
any_without q place other (Gap p n ∷ segments) = any_free q p n (without_segment place segments) ∙ any_without q place other segments

pub any_left : (q : ℕ) (places : List ℕ) → list_any (λ p. eqb p q) places ≡ false → (segments : List Segment) → list_any (begins_at q) (without_segments places segments) ≡ list_any (begins_at q) segments
any_left q [] none segments = refl
any_left q (p ∷ places) none segments =
    let parts = or_parts (eqb p q) (list_any (λ p. eqb p q) places) none in
    any_left q places parts.1 (without_segment p segments) ∙ any_without q p parts.0 segments

pub record_segment : (place : ℕ) (segments : List Segment) → list_any (begins_at place) segments ≡ true → HasRecordSegment segments place
record_segment place [] e = absurd cc
record_segment place (Record p n ∷ segments) e = by (eqb p place) refl e (record_segment place segments)
  where
    by : (b : Bool) → eqb p place ≡ b → (b || list_any (begins_at place) segments) ≡ true → (list_any (begins_at place) segments ≡ true → HasRecordSegment segments place) → HasRecordSegment (Record p n ∷ segments) place
    by true is e rest = ([], n, segments, ap (λ (q : ℕ). Record q n ∷ segments) (eqb-true p place is))
    by false is e rest = let r = rest e in (Record p n ∷ r.0, r.1, r.2, ap (λ (ss : List Segment). Record p n ∷ ss) r.3)
record_segment place (Gap p n ∷ segments) e = let r = record_segment place segments e in (Gap p n ∷ r.0, r.1, r.2, ap (λ (ss : List Segment). Gap p n ∷ ss) r.3)

-- ---- places that rise

pub rising_low : (p : ℕ) (front : List ℕ) (q : ℕ) (back : List ℕ) → AreRising p (front ++ q ∷ back) → (p < q) × (list_any (λ r. eqb r q) front ≡ false)
rising_low p [] q back are = (are.0, refl)
rising_low p (r ∷ front) q back are =
    let rest = rising_low r front q back are.1 in
    let lt = rest.0 in
    let other : eqb r q ≡ false = ne_eqb r q (omega (arith, lt)) in
    (omega (arith, lt, are.0), ap (λ (b : Bool). b || list_any (λ r. eqb r q) front) other ∙ rest.1)

-- ---- form and END

pub left_one : (place : ℕ) (segments : List Segment) → AreSegments segments → 100 < place → list_any (begins_at place) segments ≡ true
    → AreSegments (without_segment place segments) × (file_end (without_segment place segments) ≤ file_end segments)
left_one place segments shape later there =
    let r = record_segment place segments there in
    let l = left_by_releases r.0 r.2 place r.1 (subst AreSegments r.3 shape) later in
    subst (λ (ss : List Segment). AreSegments (without_segment place ss) × (file_end (without_segment place ss) ≤ file_end ss)) (sym r.3) (l.shape, l.end)

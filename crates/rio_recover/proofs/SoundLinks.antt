-- Links whose records tell their places, which rise; and what one record less makes of their records.
use Rattle.std.proofs.Common.{◌≡◌, ◌≢◌, ◌∙◌, ◌⊎◌, inl, inr, ⊎_elim, ℕ, ◌+◌, ◌≤◌, Bool, true, false, cond, ◌==◌, List, [], ◌∷◌, ◌++◌, length, refl, sym, ap, subst, arith}
use Rattle.std.proofs.lemmas.Bool.{eq-eqb, eqb-true}
use Rattle.rio_chain.specs.{Changes.{with_gap, without_record}, Segments.{GapAt, HoldsLinks, IsChain, Link, RecordAt}}
use Rattle.rio_chain.proofs.Words.{held_long}
use Rattle.rio_state.specs.{Closing.{name_in}, KeyedRecords.{KeyedRecord, first_place, keyed_records}, OneLess.{links_without}, OneMore.{HasOneMoreIn}}
use Rattle.rio_state.proofs.{Insertion.{behind}, LessRecords.{OwnRecord, gap_records, own_record, with_own}, Members.{In}}

-- each record has its own key, and stands behind those before it
abbrev pub Sound : ℕ → List Link → Type 0
Sound p [] = Unit {0}
Sound p (RecordAt q bytes ∷ links) = (p ≤ q) × OwnRecord q bytes × Sound (q + 1) links
Sound p (GapAt q n ∷ links) = Sound p links

sound_later : (p q : ℕ) (links : List Link) → p ≤ q → Sound q links → Sound p links
sound_later p q [] le s = tt
sound_later p q (RecordAt r bytes ∷ links) le s = (omega (arith, le, s.0), s.1, s.2)
sound_later p q (GapAt r n ∷ links) le s = sound_later p q links le s

sound_held : (file : List ℕ) (p : ℕ) (links : List Link) → HoldsLinks file p links → Sound p links
sound_held file p [] holds = tt
sound_held file p (RecordAt q bytes ∷ links) holds = (
  omega (arith, holds.0.0),
  own_record file p q bytes holds.0.0 holds.0.1,
  sound_later (q + 1) (p + length bytes) links (omega (arith, holds.0.0, held_long file p bytes holds.0.1)) (sound_held file (p + length bytes) links holds.1),
)
sound_held file p (GapAt q n ∷ links) holds = sound_later p (p + n) links (omega arith) (sound_held file (p + n) links holds.1)

-- the first of some records stands at the first place
abbrev pub StartsFirst : List KeyedRecord → Type 0
StartsFirst [] = Unit {0}
StartsFirst (r ∷ records) = r.head.seek ≡ first_place

pub sound_chain : (file : List ℕ) (links : List Link) → IsChain links file → Sound 100 links × StartsFirst (keyed_records links)
sound_chain file [] chain = (tt, tt)
sound_chain file (GapAt p n ∷ links) chain = let late = chain.links_are.0.1.later in absurd (omega (arith, late, chain.links_are.0.0))
sound_chain file (RecordAt p bytes ∷ links) chain =
    let s = sound_held file 100 (RecordAt p bytes ∷ links) chain.links_are in
    (s, subst StartsFirst (sym (with_own p bytes s.1 links)) (s.1.seek ∙ chain.links_are.0.0))

-- ---- one record less

late : (p : ℕ) (links : List Link) (r : KeyedRecord) → Sound p links → In r (keyed_records links) → p ≤ r.head.seek
late p [] r s i = absurd i
late p (RecordAt q bytes ∷ links) r s i = by (late (q + 1) links r s.2) (subst (λ (rs : List KeyedRecord). In r rs) (with_own q bytes s.1 links) i)
  where
    by : (In r (keyed_records links) → q + 1 ≤ r.head.seek) → (s.1.r ≡ r) ⊎ In r (keyed_records links) → p ≤ r.head.seek
    by later (inl same) = omega (arith, ap (λ (k : KeyedRecord). k.head.seek) same, s.1.seek, s.0)
    by later (inr j) = omega (arith, later j, s.0)
late p (GapAt q n ∷ links) r s i = late p links r s i

sound_gap : (p q n : ℕ) (links : List Link) → Sound p links → Sound p (with_gap q n links)
sound_gap p q n [] s = s
sound_gap p q n (RecordAt r bytes ∷ links) s = s
sound_gap p q n (GapAt r m ∷ links) s = s

pub sound_without : (place p : ℕ) (links : List Link) → Sound p links → Sound p (without_record place links)
sound_without place p [] s = tt
sound_without place p (RecordAt q bytes ∷ links) s = by (q == place) (sound_without place (q + 1) links s.2)
  where
    by : (b : Bool) → Sound (q + 1) (without_record place links) → Sound p (cond b (with_gap q (length bytes) links) (RecordAt q bytes ∷ without_record place links))
    by true rest = sound_gap p q (length bytes) links (sound_later p (q + 1) links (omega (arith, s.0)) s.2)
    by false rest = (s.0, s.1, rest)
sound_without place p (GapAt q n ∷ links) s = sound_gap p q n (without_record place links) (sound_without place p links s)

pub one_less : (p : ℕ) (links : List Link) (r : KeyedRecord) → Sound p links → In r (keyed_records links) → HasOneMoreIn (keyed_records (links_without links r)) (keyed_records links) r
one_less p [] r s i = absurd i
one_less p (RecordAt q bytes ∷ links) r s i =
    by s.1 (q == r.head.seek) refl (subst (λ (rs : List KeyedRecord). In r rs) (with_own q bytes s.1 links) i) (one_less (q + 1) links r s.2)
  where
    by : (o : OwnRecord q bytes) (b : Bool) → (q == r.head.seek) ≡ b → (o.r ≡ r) ⊎ In r (keyed_records links)
        → (In r (keyed_records links) → HasOneMoreIn (keyed_records (without_record r.head.seek links)) (keyed_records links) r)
        → HasOneMoreIn (keyed_records (cond b (with_gap q (length bytes) links) (RecordAt q bytes ∷ without_record r.head.seek links))) (keyed_records (RecordAt q bytes ∷ links)) r
    by o true e (inl same) rest =
        record { front = []; back = keyed_records links; before = gap_records q (length bytes) links; after = with_own q bytes o links ∙ ap (λ (k : KeyedRecord). k ∷ keyed_records links) same }
    by o true e (inr j) rest = absurd (omega (arith, late (q + 1) links r s.2 j, eqb-true q r.head.seek e))
    by o false e (inl same) rest = let f = sym (eq-eqb q r.head.seek (sym o.seek ∙ ap (λ (k : KeyedRecord). k.head.seek) same)) ∙ e in absurd cc
    by o false e (inr j) rest =
        let more = behind r o.r (keyed_records (without_record r.head.seek links)) (keyed_records links) (rest j) in
        subst (λ (rs : List KeyedRecord). HasOneMoreIn rs (keyed_records (RecordAt q bytes ∷ links)) r) (sym (with_own q bytes o (without_record r.head.seek links)))
        (subst (λ (rs : List KeyedRecord). HasOneMoreIn (o.r ∷ keyed_records (without_record r.head.seek links)) rs r) (sym (with_own q bytes o links)) more)
one_less p (GapAt q n ∷ links) r s i =
    subst (λ (rs : List KeyedRecord). HasOneMoreIn rs (keyed_records links) r) (sym (gap_records q n (without_record r.head.seek links))) (one_less p links r s i)

-- it is none of those that are left
pub gone : (p : ℕ) (links : List Link) (r : KeyedRecord) → Sound p links → In r (keyed_records (links_without links r)) → ⊥
gone p [] r s i = i
gone p (RecordAt q bytes ∷ links) r s i = by s.1 (q == r.head.seek) refl i (gone (q + 1) links r s.2)
  where
    by : (o : OwnRecord q bytes) (b : Bool) → (q == r.head.seek) ≡ b
        → In r (keyed_records (cond b (with_gap q (length bytes) links) (RecordAt q bytes ∷ without_record r.head.seek links)))
        → (In r (keyed_records (without_record r.head.seek links)) → ⊥) → ⊥
    by o true e i rest =
        let far = late (q + 1) links r s.2 (subst (λ (rs : List KeyedRecord). In r rs) (gap_records q (length bytes) links) i) in
        omega (arith, far, eqb-true q r.head.seek e)
    by o false e i rest =
        ⊎_elim
        (λ same. let f : true ≡ false = sym (eq-eqb q r.head.seek (sym o.seek ∙ ap (λ (k : KeyedRecord). k.head.seek) same)) ∙ e in absurd cc)
        rest
        (subst (λ (rs : List KeyedRecord). In r rs) (with_own q bytes o (without_record r.head.seek links)) i)
gone p (GapAt q n ∷ links) r s i = gone p links r s (subst (λ (rs : List KeyedRecord). In r rs) (gap_records q n (without_record r.head.seek links)) i)

-- without another record the first stays
pub first_less : (old new : List KeyedRecord) (r : KeyedRecord) → HasOneMoreIn new old r → r.head.seek ≢ first_place → StartsFirst old → (name_in new ≡ name_in old) × StartsFirst new
first_less old new r h other first = by h.front h.before h.after
  where
    by : (front : List KeyedRecord) → new ≡ front ++ h.back → old ≡ front ++ r ∷ h.back → (name_in new ≡ name_in old) × StartsFirst new
    by [] before after = absurd (other (subst StartsFirst after first))
    by (s ∷ front) before after = (ap name_in before ∙ sym (ap name_in after), subst StartsFirst (sym before) (subst StartsFirst after first))

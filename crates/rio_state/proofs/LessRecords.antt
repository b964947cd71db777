-- A record that is released is one less among the records of a file.
use Rattle.std.proofs.Common.{◌≡◌, ◌≢◌, ◌⊎◌, inl, inr, ℕ, ◌+◌, ◌≤◌, ◌∙◌, List, [], ◌∷◌, ◌++◌, codes, length, Bool, true, false, cond, ◌||◌, ◌==◌, Option, Some, refl, sym, ap, subst, arith}
use Rattle.std.proofs.lemmas.Bool.{eq-eqb, eqb-true}
use Rattle.std.specs.{List.{cons_option}, Str.{bytes_eq}}
use Rattle.rio_num.specs.Plain.{IsSpelledIn}
use Rattle.rio_key.specs.{Key.{SpellsKey}, declared.head.KeyHead.{KeyHead}}
use Rattle.rio_chain.specs.{Changes.{with_gap, without_record}, Segments.{GapAt, HoldsLinks, HoldsRecord, IsFirst, IsRecord, Link, RecordAt}}
use Rattle.rio_chain.proofs.{Keys.{spelled_one}, Words.{held_long}}
use Rattle.rio_state.specs.{Closing.{name_in}, KeyedRecords.{KeyedRecord, first_place, is_internal, is_top_key, keyed_records, record_in_link}}
use Rattle.rio_state.specs.{OneLess.{FirstIsKept, HasRecord, RecordLess, links_without}, OneMore.{HasOneMoreIn, keyed_bytes}}
use Rattle.rio_state.proofs.{Insertion.{behind}, Members.{In, in_contained}, MoreRecords.{keyed_link, own_key}, Stays.{not_top}}

-- ---- the records of links

-- the record at a place has the key that says the place
pub record OwnRecord (place : ℕ) (bytes : List ℕ) : Type 0 where
  pub r : KeyedRecord
  pub keyed : record_in_link (RecordAt place bytes) ≡ Some r
  pub seek : r.head.seek ≡ place
  pub bytes_are : r.bytes ≡ bytes
  pub spelled : IsSpelledIn (SpellsKey r.head) bytes
  pub parts : r.head.keylen + r.head.objlen ≡ length bytes

pub own_record : (file : List ℕ) (p q : ℕ) (bytes : List ℕ) → q ≡ p → HoldsRecord file p bytes → OwnRecord q bytes
own_record file p q bytes at held =
    let whole : IsRecord q bytes = subst (λ (k : ℕ). IsRecord k bytes) (sym at) held.whole in
    record { r = keyed_bytes whole.head bytes; keyed = keyed_link q bytes whole.head (own_key q bytes whole); seek = whole.seek; bytes_are = refl; spelled = whole.key; parts = whole.parts }

pub with_own : (q : ℕ) (bytes : List ℕ) (o : OwnRecord q bytes) (links : List Link) → keyed_records (RecordAt q bytes ∷ links) ≡ o.r ∷ keyed_records links
with_own q bytes o links = ap (λ (x : Option KeyedRecord). cons_option x (keyed_records links)) o.keyed

-- the records of links that begin at a place don't stand before it
pub record_late : (file : List ℕ) (p : ℕ) (links : List Link) (r : KeyedRecord) → HoldsLinks file p links → In r (keyed_records links) → p ≤ r.head.seek
record_late file p [] r holds i = absurd i
record_late file p (RecordAt q bytes ∷ links) r holds i =
    let o = own_record file p q bytes holds.0.0 holds.0.1 in
    by o (record_late file (p + length bytes) links r holds.1) (subst (λ (rs : List KeyedRecord). In r rs) (with_own q bytes o links) i)
  where
    by : (o : OwnRecord q bytes) → (In r (keyed_records links) → p + length bytes ≤ r.head.seek) → (o.r ≡ r) ⊎ In r (keyed_records links) → p ≤ r.head.seek
    by o later (inl same) = omega (arith, ap (λ (k : KeyedRecord). k.head.seek) same, o.seek, holds.0.0)
    by o later (inr j) = omega (arith, later j)
record_late file p (GapAt q n ∷ links) r holds i = omega (arith, record_late file (p + n) links r holds.1 i)

-- ---- one less

-- free bytes have no record
pub gap_records : (place n : ℕ) (links : List Link) → keyed_records (with_gap place n links) ≡ keyed_records links
gap_records place n [] = refl
gap_records place n (RecordAt p bytes ∷ links) = refl
gap_records place n (GapAt p m ∷ links) = refl

pub records_less : (file : List ℕ) (p : ℕ) (links : List Link) (r : KeyedRecord) → HoldsLinks file p links → In r (keyed_records links)
    → HasOneMoreIn (keyed_records (links_without links r)) (keyed_records links) r
records_less file p [] r holds i = absurd i
records_less file p (RecordAt q bytes ∷ links) r holds i =
    let o = own_record file p q bytes holds.0.0 holds.0.1 in
    by o (q == r.head.seek) refl (subst (λ (rs : List KeyedRecord). In r rs) (with_own q bytes o links) i) (records_less file (p + length bytes) links r holds.1)
  where
    by : (o : OwnRecord q bytes) (b : Bool) → (q == r.head.seek) ≡ b → (o.r ≡ r) ⊎ In r (keyed_records links)
        → (In r (keyed_records links) → HasOneMoreIn (keyed_records (without_record r.head.seek links)) (keyed_records links) r)
        → HasOneMoreIn (keyed_records (cond b (with_gap q (length bytes) links) (RecordAt q bytes ∷ without_record r.head.seek links))) (keyed_records (RecordAt q bytes ∷ links)) r
    by o true e (inl same) rest =
        record { front = []; back = keyed_records links; before = gap_records q (length bytes) links; after = with_own q bytes o links ∙ ap (λ (k : KeyedRecord). k ∷ keyed_records links) same }
    by o true e (inr j) rest =
        let late = record_late file (p + length bytes) links r holds.1 j in
        absurd (omega (arith, late, held_long file p bytes holds.0.1, eqb-true q r.head.seek e, holds.0.0))
    by o false e (inl same) rest = let f = sym (eq-eqb q r.head.seek (sym o.seek ∙ ap (λ (k : KeyedRecord). k.head.seek) same)) ∙ e in absurd cc
    by o false e (inr j) rest =
        let more = behind r o.r (keyed_records (without_record r.head.seek links)) (keyed_records links) (rest j) in
        subst (λ (rs : List KeyedRecord). HasOneMoreIn rs (keyed_records (RecordAt q bytes ∷ links)) r) (sym (with_own q bytes o (without_record r.head.seek links)))
        (subst (λ (rs : List KeyedRecord). HasOneMoreIn (o.r ∷ keyed_records (without_record r.head.seek links)) rs r) (sym (with_own q bytes o links)) more)
records_less file p (GapAt q n ∷ links) r holds i =
    subst (λ (rs : List KeyedRecord). HasOneMoreIn rs (keyed_records links) r) (sym (gap_records q n (without_record r.head.seek links))) (records_less file (p + n) links r holds.1 i)

pub record_less : RecordLess
record_less file links r has = records_less file 100 links r has.chain.links_are (in_contained r (keyed_records links) has.among)

-- ---- the first record

first_in_front : (old new : List KeyedRecord) (first r : KeyedRecord) (rest : List KeyedRecord) → HasOneMoreIn new old r → old ≡ first ∷ rest → (first ≡ r → ⊥) → name_in new ≡ name_in old
first_in_front old new first r rest h is apart = by h.front h.before (sym is ∙ h.after) h.after
  where
    by : (front : List KeyedRecord) → new ≡ front ++ h.back → first ∷ rest ≡ front ++ r ∷ h.back → old ≡ front ++ r ∷ h.back → name_in new ≡ name_in old
    by [] before both after = let same : first ≡ r = cc in absurd (apart same)
    by (s ∷ front) before both after = ap name_in before ∙ sym (ap name_in after)

pub first_is_kept : FirstIsKept
first_is_kept file links r has other = by links has (record_less file links r has)
  where
    by : (links : List Link) → HasRecord file links r → HasOneMoreIn (keyed_records (links_without links r)) (keyed_records links) r
        → name_in (keyed_records (links_without links r)) ≡ name_in (keyed_records links)
    by [] has less = let late = has.chain.ends.later in absurd (omega (arith, late))
    by (GapAt p n ∷ links) has less = let late = has.chain.links_are.0.1.later in absurd (omega (arith, late))
    by (RecordAt p bytes ∷ links) has less =
        let o = own_record file 100 p bytes has.chain.links_are.0.0 has.chain.links_are.0.1 in
        first_in_front (keyed_records (RecordAt p bytes ∷ links)) (keyed_records (links_without (RecordAt p bytes ∷ links) r)) o.r r (keyed_records links) less (with_own p bytes o links)
        (λ same. other (ap (λ (k : KeyedRecord). k.head.seek) (sym same) ∙ o.seek ∙ has.chain.links_are.0.0))

-- ---- the records of objects and trees

-- the first record of a file is one that the file itself needs
pub first_class : (file : List ℕ) (place : ℕ) (bytes : List ℕ) (o : OwnRecord place bytes) → IsFirst file bytes → o.r.head.class ≡ codes "TFile"
first_class file place bytes o f = ap (λ (h : KeyHead). h.class) (sym (spelled_one f.head o.r.head bytes f.key o.spelled)) ∙ f.class

pub first_internal : (file : List ℕ) (place : ℕ) (bytes : List ℕ) (o : OwnRecord place bytes) → IsFirst file bytes → is_internal o.r.head ≡ true
first_internal file place bytes o f = ap (λ (c : List ℕ). bytes_eq c (codes "TFile") || bytes_eq c (codes "TBasket")) (first_class file place bytes o f)

-- so those of objects and trees stand behind it
pub top_is_later : (file : List ℕ) (links : List Link) (r : KeyedRecord) → HasRecord file links r → is_top_key r.head ≡ true → r.head.seek ≢ first_place
top_is_later file [] r has top = let late = has.chain.ends.later in absurd (omega (arith, late))
top_is_later file (GapAt p n ∷ links) r has top = let late = has.chain.links_are.0.1.later in absurd (omega (arith, late))
top_is_later file (RecordAt p bytes ∷ links) r has top =
    let holds = has.chain.links_are in
    let o = own_record file 100 p bytes holds.0.0 holds.0.1 in
    by o holds (first_internal file p bytes o (holds.0.1.first refl))
    (subst (λ (rs : List KeyedRecord). In r rs) (with_own p bytes o links) (in_contained r (keyed_records (RecordAt p bytes ∷ links)) has.among))
  where
    by : (o : OwnRecord p bytes) → HoldsLinks file 100 (RecordAt p bytes ∷ links) → is_internal o.r.head ≡ true → (o.r ≡ r) ⊎ In r (keyed_records links) → r.head.seek ≢ first_place
    by o holds internal (inl same) at =
        let f : true ≡ false = sym top ∙ ap (λ (k : KeyedRecord). is_top_key k.head) (sym same) ∙ not_top o.r.head internal in
        absurd cc
    by o holds internal (inr j) at = absurd (omega (arith, at, record_late file (100 + length bytes) links r holds.1 j, held_long file 100 bytes holds.0.1))

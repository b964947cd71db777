-- No record of a file begins within the space that the rule finds for some bytes.
use Rattle.std.proofs.Common.{◌≡◌, ◌⊎◌, inl, inr, ⊎_elim, ℕ, zero, suc, ◌+◌, ◌<◌, ◌≤◌, ◌==◌, List, [], ◌∷◌, length, map, ap, subst, arith}
use Rattle.std.proofs.lemmas.Bool.{eqb-true}
use Rattle.rio_free.specs.{Gaps.{HasGapFor}, declared.gap.Gap.{Gap}}
use Rattle.rio_chain.specs.{Placing.{gaps_in, place_of}, Segments.{GapAt, HoldsLinks, IsChain, Link, RecordAt, end_from, link_length, segment_of}}
use Rattle.rio_chain.proofs.{Placed.{place_free}, PutChain.{map_end}, Words.{held_long}}
use Rattle.rio_state.specs.KeyedRecords.{KeyedRecord, keyed_records}
use Rattle.rio_state.proofs.{LessRecords.{OwnRecord, own_record, record_late, with_own}, Members.{In, none_from}}
use Rattle.rio_effect.specs.Batches.{IsFreeFrom}

-- ---- in a gap

module _ (file : List ℕ) (place n : ℕ) where
  -- no gap among links stands before the first of them
  gap_late : (p : ℕ) (links : List Link) → HoldsLinks file p links → HasGapFor (gaps_in (map segment_of links)) place n → p ≤ place
  gap_late p [] holds (k, x, lt, is, fits) = absurd (omega (arith, lt))
  gap_late p (RecordAt q bytes ∷ links) holds has = let le = gap_late (p + length bytes) links holds.1 has in omega (arith, le)
  gap_late p (GapAt q l ∷ links) holds (zero, x, lt, is, fits) = omega (arith, holds.0.0, ap (λ (g : Gap). g.place) is, fits.0)
  gap_late p (GapAt q l ∷ links) holds (suc k, x, lt, is, fits) = let le = gap_late (p + l) links holds.1 (k, x, omega (arith, lt), is, fits) in omega (arith, le)

  module _ (r : KeyedRecord) where
    -- a record begins before it or after it
    beside_gap : (p : ℕ) (links : List Link) → HoldsLinks file p links → In r (keyed_records links) → HasGapFor (gaps_in (map segment_of links)) place n → (r.head.seek < place) ⊎ (place + n ≤ r.head.seek)
    beside_gap p [] holds i has = absurd i
    beside_gap p (RecordAt q bytes ∷ links) holds i has =
        let o = own_record file p q bytes holds.0.0 holds.0.1 in
        by o (subst (λ (rs : List KeyedRecord). In r rs) (with_own q bytes o links) i) (λ j. beside_gap (p + length bytes) links holds.1 j has)
      where
        by : (o : OwnRecord q bytes) → (o.r ≡ r) ⊎ In r (keyed_records links) → (In r (keyed_records links) → (r.head.seek < place) ⊎ (place + n ≤ r.head.seek)) → (r.head.seek < place) ⊎ (place + n ≤ r.head.seek)
        by o (inl same) rest =
            let le = gap_late (p + length bytes) links holds.1 has in
            inl (omega (arith, le, ap (λ (k : KeyedRecord). k.head.seek) same, o.seek, holds.0.0, held_long file p bytes holds.0.1))
        by o (inr j) rest = rest j
    beside_gap p (GapAt q l ∷ links) holds i (zero, x, lt, is, fits) =
        let late = record_late file (p + l) links r holds.1 i in
        inr (omega (arith, late, holds.0.0, ap (λ (g : Gap). g.place) is, ap (λ (g : Gap). g.length) is, fits.0, fits.1))
    beside_gap p (GapAt q l ∷ links) holds i (suc k, x, lt, is, fits) = beside_gap (p + l) links holds.1 i (k, x, omega (arith, lt), is, fits)

-- ---- behind END

end_late : (p : ℕ) (links : List Link) → p ≤ end_from p links
end_late p [] = omega arith
end_late p (link ∷ links) = let le = end_late (p + link_length link) links in omega (arith, le)

before_end : (file : List ℕ) (r : KeyedRecord) (p : ℕ) (links : List Link) → HoldsLinks file p links → In r (keyed_records links) → r.head.seek < end_from p links
before_end file r p [] holds i = absurd i
before_end file r p (RecordAt q bytes ∷ links) holds i =
    let o = own_record file p q bytes holds.0.0 holds.0.1 in
    by o (subst (λ (rs : List KeyedRecord). In r rs) (with_own q bytes o links) i) (before_end file r (p + length bytes) links holds.1)
  where
    by : (o : OwnRecord q bytes) → (o.r ≡ r) ⊎ In r (keyed_records links) → (In r (keyed_records links) → r.head.seek < end_from (p + length bytes) links) → r.head.seek < end_from (p + length bytes) links
    by o (inl same) rest =
        let le = end_late (p + length bytes) links in
        omega (arith, le, ap (λ (k : KeyedRecord). k.head.seek) same, o.seek, holds.0.0, held_long file p bytes holds.0.1)
    by o (inr j) rest = rest j
before_end file r p (GapAt q l ∷ links) holds i = before_end file r (p + l) links holds.1 i

-- ---- at the place of the rule

beside_place : (file : List ℕ) (place n : ℕ) (r : KeyedRecord) (links : List Link) → IsChain links file → place ≡ place_of (map segment_of links) n → In r (keyed_records links) → (r.head.seek < place) ⊎ (place + n ≤ r.head.seek)
beside_place file place n r links chain at i =
    ⊎_elim
    (λ has. beside_gap file place n r 100 links chain.links_are i has)
    (λ end. let before = before_end file r 100 links chain.links_are i in inl (omega (arith, before, end, map_end 100 links)))
    (place_free (map segment_of links) n place (inl at))

pub space_free : (file : List ℕ) (links : List Link) (place n : ℕ) → IsChain links file → place ≡ place_of (map segment_of links) n → IsFreeFrom (keyed_records links) place n
space_free file links place n chain at p from to =
    none_from (λ r. r.head.seek == p) (keyed_records links) (λ r i same. outside (eqb-true r.head.seek p same) (beside_place file place n r links chain at i))
  where
    outside : {k : ℕ} → k ≡ p → (k < place) ⊎ (place + n ≤ k) → ⊥
    outside is (inl before) = omega (arith, is, before, from)
    outside is (inr after) = omega (arith, is, after, to)

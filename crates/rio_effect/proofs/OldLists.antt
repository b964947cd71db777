-- The class list that counted before: it stands after the first record of the file, and away from each place where a record can be put.
use Rattle.std.proofs.Common.{◌≡◌, ◌≢◌, ◌⊎◌, inl, inr, ⊎_elim, ℕ, zero, suc, ◌+◌, ◌<◌, ◌≤◌, ◌∙◌, List, [], ◌∷◌, length, map, Bool, true, false, cond, not, ◌&&◌, ◌||◌, ◌==◌, Option, Some, None, refl, sym, ap, subst, arith}
use Rattle.std.proofs.lemmas.{Bool.{ne_eqb, or_from}, Option.{same_Some}}
use Rattle.std.specs.Prelude.{nat_lt}
use Rattle.rio_free.specs.{Gaps.{HasGapFor}, declared.gap.Gap.{Gap}}
use Rattle.rio_chain.specs.{Placing.{IsPlaceFor, gaps_in}, Segments.{GapAt, HoldsLinks, IsChain, Link, RecordAt, end_from, link_length, segment_of}}
use Rattle.rio_chain.proofs.{Placed.{place_free}, PutChain.{map_end}, Words.{held_long}}
use Rattle.rio_state.specs.KeyedRecords.{KeyedRecord, first_place, info_key, is_info_key, is_internal, is_tree_key, is_tree_record, keyed_records, later_info, top_keys}
use Rattle.rio_state.specs.{Reads.{info_place}, Referred.{is_named_basket, is_referred}}
use Rattle.rio_state.proofs.{LessRecords.{OwnRecord, first_internal, own_record, record_late, with_own}, Members.{In}, Stays.{not_info}}
use Rattle.rio_effect.proofs.ClassEffect.{not_top}

-- ---- the record that counts

-- the class list that counts is one of the records, and a class list
pub record IsListAmong (records : List KeyedRecord) (r : KeyedRecord) : Type 0 where
  pub among : In r records
  pub key : is_info_key r.head ≡ true

pub info_among : (records : List KeyedRecord) (r : KeyedRecord) → info_key records ≡ Some r → IsListAmong records r
info_among [] r e = absurd cc
info_among (s ∷ rs) r e = by (is_info_key s.head) refl e (info_among rs r)
  where
    later : IsListAmong rs r → IsListAmong (s ∷ rs) r
    later l = record { among = inr l.among; key = l.key }

    own : is_info_key s.head ≡ true → s ≡ r → IsListAmong (s ∷ rs) r
    own is same = record { among = inl same; key = ap (λ (k : KeyedRecord). is_info_key k.head) (sym same) ∙ is }

    chosen : is_info_key s.head ≡ true → (b : Bool) (t : KeyedRecord) → info_key rs ≡ Some t → cond b (Some s) (Some t) ≡ Some r → (info_key rs ≡ Some r → IsListAmong rs r) → IsListAmong (s ∷ rs) r
    chosen is true t e f rest = own is (same_Some s r f)
    chosen is false t e f rest = later (rest (e ∙ f))

    of_two : is_info_key s.head ≡ true → (o : Option KeyedRecord) → info_key rs ≡ o → later_info s o ≡ Some r → (info_key rs ≡ Some r → IsListAmong rs r) → IsListAmong (s ∷ rs) r
    of_two is None e f rest = own is (same_Some s r f)
    of_two is (Some t) e f rest = chosen is (nat_lt t.head.cycle s.head.cycle) t e f rest

    by : (b : Bool) → is_info_key s.head ≡ b → cond b (later_info s (info_key rs)) (info_key rs) ≡ Some r → (info_key rs ≡ Some r → IsListAmong rs r) → IsListAmong (s ∷ rs) r
    by true is f rest = of_two is (info_key rs) refl f rest
    by false is f rest = later (rest f)

-- ---- the first record

pub list_is_later : (file : List ℕ) (links : List Link) (r : KeyedRecord) → IsChain links file → IsListAmong (keyed_records links) r → r.head.seek ≢ first_place
list_is_later file [] r chain l = let late = chain.ends.later in absurd (omega (arith, late))
list_is_later file (GapAt p n ∷ links) r chain l = let late = chain.links_are.0.1.later in absurd (omega (arith, late))
list_is_later file (RecordAt p bytes ∷ links) r chain l =
    let holds = chain.links_are in
    let o = own_record file 100 p bytes holds.0.0 holds.0.1 in
    by o holds (first_internal file p bytes o (holds.0.1.first refl)) (subst (λ (rs : List KeyedRecord). In r rs) (with_own p bytes o links) l.among)
  where
    by : (o : OwnRecord p bytes) → HoldsLinks file 100 (RecordAt p bytes ∷ links) → is_internal o.r.head ≡ true → (o.r ≡ r) ⊎ In r (keyed_records links) → r.head.seek ≢ first_place
    by o holds internal (inl same) at =
        let f : true ≡ false = sym l.key ∙ ap (λ (k : KeyedRecord). is_info_key k.head) (sym same) ∙ not_info o.r.head internal in
        absurd cc
    by o holds internal (inr j) at = absurd (omega (arith, at, record_late file (100 + length bytes) links r holds.1 j, held_long file 100 bytes holds.0.1))

-- ---- places where a record can be put

end_late : (p : ℕ) (links : List Link) → p ≤ end_from p links
end_late p [] = omega arith
end_late p (link ∷ links) = let le = end_late (p + link_length link) links in omega (arith, le)

module _ (file : List ℕ) (place n : ℕ) where
  -- no gap among links stands before the first of them
  gap_late : (p : ℕ) (links : List Link) → HoldsLinks file p links → HasGapFor (gaps_in (map segment_of links)) place n → p ≤ place
  gap_late p [] holds (k, x, lt, is, fits) = absurd (omega (arith, lt))
  gap_late p (RecordAt q bytes ∷ links) holds has = let le = gap_late (p + length bytes) links holds.1 has in omega (arith, le)
  gap_late p (GapAt q l ∷ links) holds (zero, x, lt, is, fits) = omega (arith, holds.0.0, ap (λ (g : Gap). g.place) is, fits.0)
  gap_late p (GapAt q l ∷ links) holds (suc k, x, lt, is, fits) = let le = gap_late (p + l) links holds.1 (k, x, omega (arith, lt), is, fits) in omega (arith, le)

  module _ (r : KeyedRecord) where
    gap_apart : (p : ℕ) (links : List Link) → HoldsLinks file p links → In r (keyed_records links) → HasGapFor (gaps_in (map segment_of links)) place n → r.head.seek ≢ place
    gap_apart p [] holds i has at = i
    gap_apart p (RecordAt q bytes ∷ links) holds i has at =
        let o = own_record file p q bytes holds.0.0 holds.0.1 in
        by o (subst (λ (rs : List KeyedRecord). In r rs) (with_own q bytes o links) i) (λ j. gap_apart (p + length bytes) links holds.1 j has at)
      where
        by : (o : OwnRecord q bytes) → (o.r ≡ r) ⊎ In r (keyed_records links) → (In r (keyed_records links) → ⊥) → ⊥
        by o (inl same) rest =
            let le = gap_late (p + length bytes) links holds.1 has in
            omega (arith, at, le, ap (λ (k : KeyedRecord). k.head.seek) same, o.seek, holds.0.0, held_long file p bytes holds.0.1)
        by o (inr j) rest = rest j
    gap_apart p (GapAt q l ∷ links) holds i (zero, x, lt, is, fits) at =
        let late = record_late file (p + l) links r holds.1 i in
        omega (arith, at, late, holds.0.0, holds.0.1.some, ap (λ (g : Gap). g.place) is, fits.0)
    gap_apart p (GapAt q l ∷ links) holds i (suc k, x, lt, is, fits) at = gap_apart (p + l) links holds.1 i (k, x, omega (arith, lt), is, fits) at

    before_end : (p : ℕ) (links : List Link) → HoldsLinks file p links → In r (keyed_records links) → r.head.seek < end_from p links
    before_end p [] holds i = absurd i
    before_end p (RecordAt q bytes ∷ links) holds i =
        let o = own_record file p q bytes holds.0.0 holds.0.1 in
        by o (subst (λ (rs : List KeyedRecord). In r rs) (with_own q bytes o links) i) (before_end (p + length bytes) links holds.1)
      where
        by : (o : OwnRecord q bytes) → (o.r ≡ r) ⊎ In r (keyed_records links) → (In r (keyed_records links) → r.head.seek < end_from (p + length bytes) links) → r.head.seek < end_from (p + length bytes) links
        by o (inl same) rest =
            let le = end_late (p + length bytes) links in
            omega (arith, le, ap (λ (k : KeyedRecord). k.head.seek) same, o.seek, holds.0.0, held_long file p bytes holds.0.1)
        by o (inr j) rest = rest j
    before_end p (GapAt q l ∷ links) holds i = before_end (p + l) links holds.1 i

    -- it isn't the place of a record
    pub place_apart : (links : List Link) → IsChain links file → IsPlaceFor (map segment_of links) n place → In r (keyed_records links) → r.head.seek ≢ place
    place_apart links chain at i =
        ⊎_elim
        (λ has. gap_apart 100 links chain.links_are i has)
        (λ end. let before = before_end 100 links chain.links_are i in let same = map_end 100 links in (λ is. omega (arith, is, end, before, same)))
        (place_free (map segment_of links) n place at)

-- and it stands behind the first one's
pub place_late : (file : List ℕ) (place n : ℕ) (links : List Link) → IsChain links file → IsPlaceFor (map segment_of links) n place → 100 ≤ place
place_late file place n links chain at =
    ⊎_elim (λ has. gap_late file place n 100 links chain.links_are has) (λ end. let late = end_late 100 links in let same = map_end 100 links in omega (arith, late, end, same)) (place_free (map segment_of links) n place at)

-- ---- the new list

-- Nothing refers to a class list where another counts, which stands at another place, and no tree names its place.
pub list_unreferred : (records : List KeyedRecord) (r s : KeyedRecord) → is_info_key s.head ≡ true → s.head.seek ≢ first_place → info_key records ≡ Some r → s.head.seek ≢ r.head.seek
    → is_named_basket records s ≡ false → is_referred records s ≡ false
list_unreferred records r s key late counts apart unnamed =
    let first = ne_eqb s.head.seek first_place late in
    let info : (s.head.seek == info_place (info_key records)) ≡ false = ap (λ (o : Option KeyedRecord). s.head.seek == info_place o) counts ∙ ne_eqb s.head.seek r.head.seek apart in
    or_from _ _ (or_from _ _ (or_from _ _ first info) (ap (λ b. b && (not (is_tree_key s.head) || is_tree_record (top_keys records) s)) (not_top s.head key))) unnamed

-- What a close needs, of what a session keeps.
use Rattle.std.proofs.Common.{◌≡◌, ◌≤◌, ◌<◌, ◌+◌, ◌==◌, ◌||◌, ◌^◌, true≢false, ℕ, Bool, true, false, leb, ltb, List, [], ◌∷◌, length, Option, Some, None, Bor, refl, sym, subst, ◌∙◌, arith}
use Rattle.std.proofs.{lemmas.Bool.{and_parts, eqb-true, leb-true, ltb-true, ne_eqb}, lemmas.List.Folds.{list_all_at}}
use Rattle.std.specs.{Prelude.{IfSome, slice_index_or}, List.{All, list_all, list_any}, Option.{option_copied}}
use Rattle.rio_num.specs.At.{place_len_of}
use Rattle.rio_key.specs.{Written.{FitsKey}, declared.head.KeyHead.{KeyHead}}
use Rattle.rio_dir.specs.Table.{heads_size}
use Rattle.rio_chain.specs.{Adjoining.{AreAdjacent, AreSegments, segments_end}, Placing.{file_end, record_count, with_segment}, Releasing.{without_segment}}
use Rattle.rio_chain.specs.declared.segment.Segment.{Segment, TheVariants.{Record, Gap}}
use Rattle.rio_state.specs.Sizes.{close_size}
use Rattle.rio_recover.specs.{Closable.{IsClosable, begins_at, is_fit_key, is_placed}, Whole.{HoldsDirectory}}
use Rattle.rio_session.proofs.Needs.{need_is_size}

-- ---- keys

fits_one : (h : KeyHead) → is_fit_key h ≡ true → FitsKey h
fits_one h e =
    let title = and_parts _ (length h.title == 0) e in
    let name = and_parts _ (leb (length h.name) 65535) title.0 in
    let class = and_parts _ (leb (length h.class) 65535) name.0 in
    let places = and_parts (ltb h.seek (256 ^ place_len_of h.version)) (ltb h.pdir (256 ^ place_len_of h.version)) class.0 in
    record {
      seek = ltb-true h.seek (256 ^ place_len_of h.version) places.0;
      pdir = ltb-true h.pdir (256 ^ place_len_of h.version) places.1;
      class = omega (arith, leb-true (length h.class) 65535 class.1);
      name = omega (arith, leb-true (length h.name) 65535 name.1);
      title = omega (arith, eqb-true (length h.title) 0 title.1);
    }

-- the keys can be written
pub fits_all : (heads : List KeyHead) → list_all is_fit_key heads ≡ true → All FitsKey heads
fits_all heads all k d lt = by (is_fit_key (slice_index_or heads k d)) refl
  where
    by : (b : Bool) → is_fit_key (slice_index_or heads k d) ≡ b → FitsKey (slice_index_or heads k d)
    by true e = fits_one (slice_index_or heads k d) e
    by false e = absurd (true≢false (sym all ∙ list_all_at is_fit_key heads k d lt e))

-- ---- room

-- there is room for the records of a close
pub need_low : (segments segments' : List Segment) (heads : List KeyHead) (info : Option KeyHead) (baskets name name' : List ℕ) → IsClosable segments heads info baskets name → segments' ≡ segments → name' ≡ name
    → file_end segments' + close_size name' (heads_size heads) (record_count segments') ≤ 1999999996
need_low segments segments' heads info baskets name name' kept same own =
    subst (λ (x : List Segment × List ℕ). file_end x.0 + close_size x.1 (heads_size heads) (record_count x.0) ≤ 1999999996) (λ i. (sym same i, sym own i))
    (omega (arith, kept.room, need_is_size name heads (record_count segments)))

-- ---- the class list

end_least : (from : ℕ) (segments : List Segment) → from ≤ segments_end from segments
end_least from [] = omega arith
end_least from (Record p k ∷ segments) = omega (arith, end_least (from + k) segments)
end_least from (Gap p k ∷ segments) = omega (arith, end_least (from + k) segments)

-- a record begins before END
pub begins_low : (from place : ℕ) (segments : List Segment) → AreAdjacent from segments → list_any (begins_at place) segments ≡ true → place ≤ segments_end from segments
begins_low from place [] shape e = absurd cc
begins_low from place (Gap p k ∷ segments) shape e = begins_low (from + k) place segments shape.1 e
begins_low from place (Record p k ∷ segments) shape e = by (p == place) refl (begins_low (from + k) place segments shape.1) e
  where
    by : (b : Bool) → (p == place) ≡ b → (list_any (begins_at place) segments ≡ true → place ≤ segments_end (from + k) segments) → (b || list_any (begins_at place) segments) ≡ true
        → place ≤ segments_end (from + k) segments
    by true is later e = omega (arith, shape.0.there, eqb-true p place is, end_least (from + k) segments)
    by false is later e = later e

-- so the place of the class list that is kept fits its word
pub list_low : (segments : List Segment) (heads : List KeyHead) (info : Option KeyHead) (baskets name : List ℕ) (own : Option (Bor KeyHead)) → AreSegments segments → IsClosable segments heads info baskets name
    → option_copied own ≡ info → IfSome own (λ h. h.now.seek < 2 ^ 32)
list_low segments heads info baskets name None shape kept is = tt
list_low segments heads info baskets name (Some h) shape kept is =
    let placed : is_placed segments h.now ≡ true = subst (λ (o : Option KeyHead). IfSome o (λ k. is_placed segments k ≡ true)) (sym is) kept.listed in
    omega (arith, begins_low 100 h.now.seek segments shape.adjacent placed, kept.room)

-- ---- the directory record

-- it is within the first record, and so before END
pub directory_low : (nbytes_name : ℕ) (segments : List Segment) → HoldsDirectory nbytes_name segments → nbytes_name + 160 ≤ file_end segments
directory_low nbytes_name [] within = absurd within
directory_low nbytes_name (Gap p n ∷ segments) within = absurd within
directory_low nbytes_name (Record p n ∷ segments) within = omega (arith, within, end_least (100 + n) segments)

first_stays : (nbytes_name place n : ℕ) (segments : List Segment) → HoldsDirectory nbytes_name segments → HoldsDirectory nbytes_name (with_segment place n segments)
first_stays nbytes_name place n [] within = absurd within
first_stays nbytes_name place n (Gap p k ∷ segments) within = absurd within
first_stays nbytes_name place n (Record p k ∷ segments) within = within

-- it is where a record is put
pub directory_stays : (nbytes_name place n : ℕ) (segments segments' : List Segment) → segments' ≡ with_segment place n segments → HoldsDirectory nbytes_name segments → HoldsDirectory nbytes_name segments'
directory_stays nbytes_name place n segments segments' put within = subst (HoldsDirectory nbytes_name) (sym put) (first_stays nbytes_name place n segments within)

other_stays : (nbytes_name place : ℕ) (segments : List Segment) → 100 < place → AreAdjacent 100 segments → HoldsDirectory nbytes_name segments → HoldsDirectory nbytes_name (without_segment place segments)
other_stays nbytes_name place [] later are within = absurd within
other_stays nbytes_name place (Gap p k ∷ segments) later are within = absurd within
other_stays nbytes_name place (Record p k ∷ segments) later are within =
    let other : (p == place) ≡ false = ne_eqb p place (omega (arith, are.0.there, later)) in rw other within

-- and where one is released that isn't the first
pub directory_left : (nbytes_name place : ℕ) (segments segments' : List Segment) → segments' ≡ without_segment place segments → 100 < place → AreAdjacent 100 segments → HoldsDirectory nbytes_name segments → HoldsDirectory nbytes_name segments'
directory_left nbytes_name place segments segments' left later are within = subst (HoldsDirectory nbytes_name) (sym left) (other_stays nbytes_name place segments later are within)

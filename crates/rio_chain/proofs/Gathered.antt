-- The gaps of segments are gathered one after the other.
use Rattle.std.proofs.Common.{◌≡◌, inl, ℕ, zero, suc, ◌+◌, ◌<◌, ◌≤◌, true, false, ltb, eqb, List, [], ◌∷◌, ◌++◌, append_assoc, length, take, drop, get_or, refl, sym, ap, subst, ◌∙◌, arith}
use Rattle.std.proofs.{lemmas.Bool.{ne_eqb, Decides.{nat_tests}}, lemmas.List.{append-nil, take-append-drop}, Math.Seq.{take-suc}}
use Rattle.rio_free.specs.{Gaps.{IsApart, gap_end, gap_of, given, joined}, declared.gap.Gap.{Gap as FreeGap}}
use Rattle.rio_chain.specs.declared.segment.Segment.{Segment, TheVariants.{Record, Gap}}
use Rattle.rio_chain.specs.Adjoining.{AreAdjacent, AreGapsApart, AreSegments, BeginsAt, segment_length, segment_place, segments_end}
use Rattle.rio_chain.specs.Placing.{file_end, gaps_in}
use Rattle.rio_chain.proofs.Placed.{adjacent_cut, end-append, end-le, gaps_append}

-- all gaps begin behind a place
abbrev pub Behind : ℕ → List FreeGap → Type 0
Behind low [] = Unit {0}
Behind low (g ∷ gaps) = low < g.place

pub behind : (p : ℕ) (front : List Segment) (place n low : ℕ) (rest : List FreeGap) → AreAdjacent p front → low < p → low < place → Behind low (gaps_in front ++ gap_of place n ∷ rest)
behind p [] place n low rest are lt last = last
behind p (Record q l ∷ front) place n low rest are lt last = behind (p + l) front place n low rest are.1 (omega (arith, lt)) last
behind p (Gap q l ∷ front) place n low rest are lt last = omega (arith, are.0.there, lt)

pub behind_all : (p low : ℕ) (segments : List Segment) → AreAdjacent p segments → low < p → Behind low (gaps_in segments)
behind_all p low [] are lt = tt
behind_all p low (Record q m ∷ segments) are lt = behind_all (p + m) low segments are.1 (omega (arith, lt))
behind_all p low (Gap q m ∷ segments) are lt = omega (arith, lt, are.0.there)

pub joined_far : (g : FreeGap) (gaps : List FreeGap) → Behind (gap_end g) gaps → joined g gaps ≡ g ∷ gaps
joined_far g [] far = refl
joined_far g (h ∷ gaps) far = let other : eqb (gap_end g) h.place ≡ false = ne_eqb _ _ (omega (arith, far)) in rw other refl

-- a gap behind the others stands at their end
pub given_last : (p : ℕ) (front : List Segment) (place n : ℕ) (back : List Segment) → AreAdjacent p front → AreGapsApart (front ++ Gap place n ∷ back) → segments_end p front ≡ place → given (gap_of place n) (gaps_in front) ≡ gaps_in front ++ gap_of place n ∷ []
given_last p [] place n back are apart is = refl
given_last p (Record q l ∷ front) place n back are apart is = given_last (p + l) front place n back are.1 apart is
given_last p (Gap q l ∷ []) place n back are apart is = absurd apart.0
given_last p (Gap q l ∷ Gap r m ∷ front) place n back are apart is = absurd apart.0
given_last p (Gap q l ∷ Record r m ∷ front) place n back are apart is =
    let le = end-le (p + l + m) front in
    let some : 4 ≤ m = are.1.0.some in
    let yes : ltb q place ≡ true = grind (arith, nat_tests, le, is, are.0.there, some) in
    let rest = given_last (p + l) (Record r m ∷ front) place n back are.1 apart.1 is in
    let far : Behind (q + l) (gaps_in front ++ gap_of place n ∷ []) = behind (p + l + m) front place n (q + l) [] are.1.1 (omega (arith, are.0.there, some)) (omega (arith, le, is, are.0.there, some)) in
    rw (yes, rest) (joined_far (gap_of q l) (gaps_in front ++ gap_of place n ∷ []) far)

-- and has no byte in common with them
pub gaps_below : (p : ℕ) (front : List Segment) → AreAdjacent p front → (k : ℕ) (d : FreeGap) → k < length (gaps_in front) → gap_end (get_or (gaps_in front) k d) ≤ segments_end p front
gaps_below p [] are k d lt = absurd (omega (arith, lt))
gaps_below p (Record q l ∷ front) are k d lt = gaps_below (p + l) front are.1 k d lt
gaps_below p (Gap q l ∷ front) are zero d lt = let le = end-le (p + l) front in omega (arith, le, are.0.there)
gaps_below p (Gap q l ∷ front) are (suc k) d lt = gaps_below (p + l) front are.1 k d (omega arith)

-- What the code knows at each segment.
pub record Gathering (segments : List Segment) (k : ℕ) (x : Segment) : Type 0 where
  pub front_end : ℕ
  pub none : (p n : ℕ) → x ≡ Record p n → gaps_in (take k segments) ≡ gaps_in (take (suc k) segments)
  pub apart : (p n : ℕ) → x ≡ Gap p n → IsApart (gap_of p n) (gaps_in (take k segments))
  pub some : (p n : ℕ) → x ≡ Gap p n → 1 ≤ n
  pub low : (p n : ℕ) → x ≡ Gap p n → p + n ≤ file_end segments
  pub gives : (p n : ℕ) → x ≡ Gap p n → given (gap_of p n) (gaps_in (take k segments)) ≡ gaps_in (take (suc k) segments)

pub gathering : (segments : List Segment) (k : ℕ) (x d : Segment) → AreSegments segments → k < length segments → x ≡ get_or segments k d → Gathering segments k x
gathering segments k x d shape lt read = record {
  front_end = segments_end 100 front;
  none = λ p n is. sym (more ∙ ap (λ (s : Segment). gaps_in front ++ gaps_in (s ∷ [])) is ∙ append-nil (gaps_in front));
  apart = λ p n is. λ j d within. inl (subst (λ (q : ℕ). gap_end (get_or (gaps_in front) j d) ≤ q) (place_is p n is) (gaps_below 100 front cut.0 j d within));
  some = λ p n is. let at = subst (BeginsAt (segments_end 100 front)) is cut.1.0 in omega (arith, at.some);
  low = λ p n is.
      let le = end-le (segments_end 100 front + segment_length x) back in
      omega (arith, place_is p n is, le, ap segment_length is, ap file_end whole, end-append 100 front (x ∷ back));
  gives = λ p n is.
      given_last 100 front p n back cut.0 (subst (λ (s : Segment). AreGapsApart (front ++ s ∷ back)) is (subst AreGapsApart whole shape.apart)) (place_is p n is)
      ∙ sym (more ∙ ap (λ (s : Segment). gaps_in front ++ gaps_in (s ∷ [])) is);
}
  where
    front : List Segment
    front = take k segments

    back : List Segment
    back = drop (suc k) segments

    next : take (suc k) segments ≡ take k segments ++ x ∷ []
    next = take-suc segments k d lt ∙ ap (λ (s : Segment). take k segments ++ s ∷ []) (sym read)

    whole : segments ≡ take k segments ++ x ∷ drop (suc k) segments
    whole = sym (take-append-drop (suc k) segments) ∙ ap (λ (l : List Segment). l ++ drop (suc k) segments) next ∙ append_assoc (take k segments) (x ∷ []) (drop (suc k) segments)

    more : gaps_in (take (suc k) segments) ≡ gaps_in (take k segments) ++ gaps_in (x ∷ [])
    more = ap gaps_in next ∙ gaps_append (take k segments) (x ∷ [])

    cut : AreAdjacent 100 (take k segments) × AreAdjacent (segments_end 100 (take k segments)) (x ∷ drop (suc k) segments)
    cut = adjacent_cut 100 (take k segments) (x ∷ drop (suc k) segments) (subst (AreAdjacent 100) whole shape.adjacent)

    place_is : (p n : ℕ) → x ≡ Gap p n → segments_end 100 (take k segments) ≡ p
    place_is p n is = sym (ap segment_place (sym is) ∙ cut.1.0.there)

-- the next segment ends at END or before
pub end_next : (k end : ℕ) (segments : List Segment) (d : Segment) → k < length segments → end + segment_length (get_or segments k d) ≤ segments_end end (drop k segments)
end_next k end [] d lt = absurd (omega (arith, lt))
end_next zero end (s ∷ segments) d lt = end-le (end + segment_length s) segments
end_next (suc k) end (s ∷ segments) d lt = end_next k end segments d (omega arith)

-- A record that becomes free, among links: what is free with it, what stands before that and behind it, and the gaps then.
use Rattle.std.proofs.Common.{◌≡◌, inl, ℕ, suc, ◌+◌, ◌-◌, ◌%◌, ◌<◌, ◌≤◌, Bool, true, false, cond, eqb, ltb, List, [], ◌∷◌, ◌++◌, length, map, Some, refl, sym, ap, subst, ◌∙◌, arith}
use Rattle.std.proofs.{lemmas.Bool.{eq-eqb, ne_eqb, Decides.{nat_tests}}, lemmas.List.{append-nil, map-append}}
use Rattle.rio_free.specs.{Gaps.{HasGapFor, gap_end, gap_of, gap_over, given, lies_in, taken}, declared.gap.Gap.{Gap as FreeGap}}
use Rattle.rio_chain.specs.declared.segment.Segment.{Segment, TheVariants.{Record, Gap}}
use Rattle.rio_chain.specs.Adjoining.{AreAdjacent, AreGapsApart, BeginsWithRecord, segment_length, segments_end}
use Rattle.rio_chain.specs.{Segments.{Link, RecordAt, GapAt, chain_end, link_length, end_from, segment_of}, Changes.{free_links, with_gap, without_record}}
use Rattle.rio_chain.specs.{Placing.{gaps_in}, Releasing.{with_free, without_segment}}
use Rattle.rio_chain.proofs.{Chains.{end-append, end-le}, Gathered.{Behind, behind, behind_all, joined_far}, Merged.{over_at}, Placed.{adjacent_cut, aligned_end, gaps_append, end-le as segments-end-le}, PutChain.{map_end, segment_of-length}}

-- ---- the segments of the links that are left

pub map_with_gap : (place n : ℕ) (links : List Link) → map segment_of (with_gap place n links) ≡ with_free place n (map segment_of links)
map_with_gap place n [] = refl
map_with_gap place n (RecordAt p bytes ∷ links) = refl
map_with_gap place n (GapAt p m ∷ links) = refl

pub map_without : (place : ℕ) (links : List Link) → map segment_of (without_record place links) ≡ without_segment place (map segment_of links)
map_without place [] = refl
map_without place (RecordAt p bytes ∷ links) = by (eqb p place) (map_without place links)
  where
    by : (b : Bool) → map segment_of (without_record place links) ≡ without_segment place (map segment_of links)
        → map segment_of (cond b (with_gap p (length bytes) links) (RecordAt p bytes ∷ without_record place links)) ≡ cond b (with_free p (length bytes) (map segment_of links)) (Record p (length bytes) ∷ without_segment place (map segment_of links))
    by true ih = map_with_gap p (length bytes) links
    by false ih = ap (λ (l : List Segment). Record p (length bytes) ∷ l) ih
map_without place (GapAt p n ∷ links) = map_with_gap p n (without_record place links) ∙ ap (with_free p n) (map_without place links)

-- ---- what becomes free

abbrev pub gaps_of : List Link → List FreeGap
gaps_of links = gaps_in (map segment_of links)

-- The links that are free with the record at a place, those before them and those behind them; and the gaps with the record's bytes.
pub record Freed (p place size : ℕ) (links : List Link) : Type 0 where
  pub front : List Link
  pub mid : List Link
  pub back : List Link
  pub start : ℕ
  pub n : ℕ
  pub is : links ≡ front ++ (mid ++ back)
  pub after : without_record place links ≡ front ++ free_links start n back
  pub start_is : start ≡ end_from p front
  pub long : end_from start mid ≡ start + n
  pub low : start ≤ place
  pub high : place < start + n
  pub some : 4 ≤ n
  pub aligned : n % 4 ≡ 0
  pub gives : given (gap_of place size) (gaps_of links) ≡ gaps_of front ++ gap_of start n ∷ gaps_of back
  pub later : BeginsWithRecord (map segment_of links) → p < place → p < start

given_alone : (g : FreeGap) (gaps : List FreeGap) → Behind (gap_end g) gaps → given g gaps ≡ g ∷ gaps
given_alone g [] far = refl
given_alone g (h ∷ gaps) far = let no : ltb h.place g.place ≡ false = grind (arith, nat_tests, far) in rw no (joined_far g (h ∷ gaps) far)

gap_joins : (q m place n : ℕ) (rest : List Link) → with_gap q m (free_links place n rest) ≡ free_links q (m + n) rest
gap_joins q m place n [] = refl
gap_joins q m place n (l ∷ rest) = refl

-- ---- the record first

module _ (place : ℕ) (bytes : List ℕ) where
  same : eqb place place ≡ true
  same = eq-eqb place place refl

  here : (p : ℕ) (back : List Link) → AreAdjacent p (map segment_of (RecordAt place bytes ∷ back)) → AreGapsApart (map segment_of back) → Freed p place (length bytes) (RecordAt place bytes ∷ back)
  here p [] are apart = record {
    front = [];
    mid = RecordAt place bytes ∷ [];
    back = [];
    start = place;
    n = length bytes;
    is = refl;
    after = rw same refl;
    start_is = are.0.there;
    long = refl;
    low = omega arith;
    high = omega (arith, are.0.some);
    some = are.0.some;
    aligned = are.0.aligned;
    gives = refl;
    later = λ first lt. absurd (omega (arith, lt, are.0.there));
  }
  here p (RecordAt q others ∷ back) are apart = record {
    front = [];
    mid = RecordAt place bytes ∷ [];
    back = RecordAt q others ∷ back;
    start = place;
    n = length bytes;
    is = refl;
    after = rw same refl;
    start_is = are.0.there;
    long = refl;
    low = omega arith;
    high = omega (arith, are.0.some);
    some = are.0.some;
    aligned = are.0.aligned;
    gives = given_alone (gap_of place (length bytes)) (gaps_of back) (behind_all (p + length bytes + length others) (place + length bytes) (map segment_of back) are.1.1 (omega (arith, are.0.there, are.1.0.some)));
    later = λ first lt. absurd (omega (arith, lt, are.0.there));
  }
  here p (GapAt q m ∷ []) are apart = absurd apart.0
  here p (GapAt q m ∷ GapAt r k ∷ back) are apart = absurd apart.0
  here p (GapAt q m ∷ RecordAt r others ∷ back) are apart =
      let no : ltb q place ≡ false = grind (arith, nat_tests, are.0.there, are.1.0.there) in
      let touches : eqb (place + length bytes) q ≡ true = eq-eqb _ _ (omega (arith, are.0.there, are.1.0.there)) in
      record {
        front = [];
        mid = RecordAt place bytes ∷ GapAt q m ∷ [];
        back = RecordAt r others ∷ back;
        start = place;
        n = length bytes + m;
        is = refl;
        after = rw same refl;
        start_is = are.0.there;
        long = omega arith;
        low = omega arith;
        high = omega (arith, are.0.some);
        some = omega (arith, are.0.some);
        aligned = omega (arith, are.0.aligned, are.1.0.aligned);
        gives = rw (no, touches) refl;
        later = λ first lt. absurd (omega (arith, lt, are.0.there));
      }

-- ---- a link more in front

more : (p q place size : ℕ) (others : List ℕ) (links : List Link) → 4 ≤ length others → eqb q place ≡ false → Freed (p + length others) place size links → Freed p place size (RecordAt q others ∷ links)
more p q place size others links some other f = record {
  front = RecordAt q others ∷ f.front;
  mid = f.mid;
  back = f.back;
  start = f.start;
  n = f.n;
  is = ap (λ (l : List Link). RecordAt q others ∷ l) f.is;
  after = rw other (ap (λ (l : List Link). RecordAt q others ∷ l) f.after);
  start_is = f.start_is;
  long = f.long;
  low = f.low;
  high = f.high;
  some = f.some;
  aligned = f.aligned;
  gives = f.gives;
  later = λ first lt. omega (arith, some, f.start_is, end-le (p + length others) f.front);
}

module _ (p q m place size : ℕ) (links : List Link) (there : q ≡ p) (some : 4 ≤ m) (aligned : m % 4 ≡ 0) (are : AreAdjacent (p + m) (map segment_of links)) (first : BeginsWithRecord (map segment_of links)) (before : q < place) (f : Freed (p + m) place size links) where
  earlier : ltb q place ≡ true
  earlier = grind (arith, nat_tests, before)

  -- the gap is free with the record
  merges : f.front ≡ [] → Freed p place size (GapAt q m ∷ links)
  merges e =
      let at : f.start ≡ p + m = f.start_is ∙ ap (end_from (p + m)) e in
      let touches : eqb (q + m) f.start ≡ true = eq-eqb _ _ (omega (arith, at, there)) in
      let gives : given (gap_of place size) (gaps_of links) ≡ gap_of f.start f.n ∷ gaps_of f.back = f.gives ∙ ap (λ (l : List Link). gaps_of l ++ gap_of f.start f.n ∷ gaps_of f.back) e in
      record {
        front = [];
        mid = GapAt q m ∷ f.mid;
        back = f.back;
        start = q;
        n = m + f.n;
        is = ap (λ (l : List Link). GapAt q m ∷ l) (f.is ∙ ap (λ (l : List Link). l ++ (f.mid ++ f.back)) e);
        after = ap (with_gap q m) (f.after ∙ ap (λ (l : List Link). l ++ free_links f.start f.n f.back) e) ∙ gap_joins q m f.start f.n f.back;
        start_is = there;
        long = omega (arith, f.long, at, there, ap (λ (s : ℕ). end_from s f.mid) (let e' : f.start ≡ q + m = omega (arith, at, there) in e'));
        low = omega (arith, before);
        high = omega (arith, f.high, at, there);
        some = omega (arith, some);
        aligned = omega (arith, aligned, f.aligned);
        gives = rw (earlier, gives, touches) refl;
        later = λ first lt. absurd first;
      }

  -- it stands apart
  stays : (r : ℕ) (others : List ℕ) (front : List Link) → f.front ≡ RecordAt r others ∷ front → Freed p place size (GapAt q m ∷ links)
  stays r others front e =
      let cut : AreAdjacent (p + m) (map segment_of (RecordAt r others ∷ front)) =
      (adjacent_cut (p + m) (map segment_of (RecordAt r others ∷ front)) (map segment_of (f.mid ++ f.back))
      (subst (AreAdjacent (p + m)) (ap (map segment_of) (f.is ∙ ap (λ (l : List Link). l ++ (f.mid ++ f.back)) e) ∙ map-append segment_of (RecordAt r others ∷ front) (f.mid ++ f.back)) are)).0 in
      let at : f.start ≡ end_from (p + m + length others) front = f.start_is ∙ ap (end_from (p + m)) e in
      let le = end-le (p + m + length others) front in
      let far : Behind (q + m) (gaps_of front ++ gap_of f.start f.n ∷ gaps_of f.back) =
      behind (p + m + length others) (map segment_of front) f.start f.n (q + m) (gaps_of f.back) cut.1 (omega (arith, there, cut.0.some)) (omega (arith, there, cut.0.some, at, le)) in
      let gives : given (gap_of place size) (gaps_of links) ≡ gaps_of front ++ gap_of f.start f.n ∷ gaps_of f.back = f.gives ∙ ap (λ (l : List Link). gaps_of l ++ gap_of f.start f.n ∷ gaps_of f.back) e in
      record {
        front = GapAt q m ∷ RecordAt r others ∷ front;
        mid = f.mid;
        back = f.back;
        start = f.start;
        n = f.n;
        is = ap (λ (l : List Link). GapAt q m ∷ l) (f.is ∙ ap (λ (l : List Link). l ++ (f.mid ++ f.back)) e);
        after = ap (with_gap q m) (f.after ∙ ap (λ (l : List Link). l ++ free_links f.start f.n f.back) e);
        start_is = at;
        long = f.long;
        low = f.low;
        high = f.high;
        some = f.some;
        aligned = f.aligned;
        gives = rw (earlier, gives) (joined_far (gap_of q m) (gaps_of front ++ gap_of f.start f.n ∷ gaps_of f.back) far);
        later = λ first lt. absurd first;
      }

  beside : Freed p place size (GapAt q m ∷ links)
  beside = by f.front refl
    where
      by : (front : List Link) → f.front ≡ front → Freed p place size (GapAt q m ∷ links)
      by [] e = merges e
      by (RecordAt r others ∷ front) e = stays r others front e
      by (GapAt r k ∷ front) e = absurd (subst (λ (l : List Link). BeginsWithRecord (map segment_of l)) (f.is ∙ ap (λ (l : List Link). l ++ (f.mid ++ f.back)) e) first)

-- ---- the record anywhere

module _ (place : ℕ) (bytes : List ℕ) (back : List Link) where
  reaches : (p : ℕ) (front : List Link) → AreAdjacent p (map segment_of (front ++ RecordAt place bytes ∷ back)) → p ≤ place
  reaches p [] are = omega (arith, are.0.there)
  reaches p (l ∷ front) are = omega (arith, reaches (p + segment_length (segment_of l)) front are.1)

  pub freed : (p : ℕ) (front : List Link) → AreAdjacent p (map segment_of (front ++ RecordAt place bytes ∷ back)) → AreGapsApart (map segment_of (front ++ RecordAt place bytes ∷ back))
      → Freed p place (length bytes) (front ++ RecordAt place bytes ∷ back)
  freed p [] are apart = here place bytes p back are apart
  freed p (RecordAt q others ∷ front) are apart =
      let le = reaches (p + length others) front are.1 in
      let other : eqb q place ≡ false = ne_eqb _ _ (omega (arith, le, are.0.there, are.0.some)) in
      more p q place (length bytes) others (front ++ RecordAt place bytes ∷ back) are.0.some other (freed (p + length others) front are.1 apart)
  freed p (GapAt q m ∷ front) are apart =
      let le = reaches (p + m) front are.1 in
      let before : q < place = omega (arith, le, are.0.there, are.0.some) in
      beside p q m place (length bytes) (front ++ RecordAt place bytes ∷ back) are.0.there are.0.some are.0.aligned are.1 apart.0 before (freed (p + m) front are.1 apart.1)

-- ---- what the code finds and does then

gap_there : (gaps : List FreeGap) (g : FreeGap) (rest : List FreeGap) → HasGapFor (gaps ++ g ∷ rest) g.place g.length
gap_there [] g rest = (0, g, omega arith, refl, (refl, inl refl))
gap_there (h ∷ gaps) g rest = let more = gap_there gaps g rest in (suc more.0, more.1, omega (arith, more.2), more.3, more.4)

-- a gap behind all others goes out
taken_last : (p : ℕ) (front : List Segment) (start n : ℕ) → AreAdjacent p front → segments_end p front ≤ start → taken start n (gaps_in front ++ gap_of start n ∷ []) ≡ gaps_in front
taken_last p [] start n are le =
    let same : eqb start start ≡ true = eq-eqb start start refl in
    let none : eqb (n - n) 0 ≡ true = eq-eqb _ _ (omega arith) in
    rw (same, none) refl
taken_last p (Record q m ∷ front) start n are le = taken_last (p + m) front start n are.1 le
taken_last p (Gap q m ∷ front) start n are le =
    let reach = segments-end-le (p + m) front in
    let other : eqb q start ≡ false = ne_eqb _ _ (omega (arith, reach, le, are.0.there, are.0.some)) in
    rw other (ap (λ (l : List FreeGap). gap_of q m ∷ l) (taken_last (p + m) front start n are.1 le))

-- The gap that the bytes are in once they are given; where it ends before END it stays, and else it goes out and END is lowered to it.
pub record Spot (place size : ℕ) (links : List Link) : Type 0 where
  pub f : Freed 100 place size links
  pub over : gap_over place (given (gap_of place size) (gaps_of links)) ≡ Some (gap_of f.start f.n)
  pub within : f.start + f.n ≤ chain_end links
  pub start_aligned : f.start % 4 ≡ 0
  pub fit : HasGapFor (given (gap_of place size) (gaps_of links)) f.start f.n
  pub alone : chain_end links ≤ f.start + f.n → f.back ≡ []
  pub lowered : chain_end links ≤ f.start + f.n → (taken f.start f.n (given (gap_of place size) (gaps_of links)) ≡ gaps_of (without_record place links)) × (chain_end (without_record place links) ≡ f.start)
  pub followed : f.start + f.n < chain_end links → (link : Link) × (others : List Link) × (f.back ≡ link ∷ others)
  pub gap : f.start + f.n < chain_end links → (given (gap_of place size) (gaps_of links) ≡ gaps_of (without_record place links)) × (chain_end (without_record place links) ≡ chain_end links)
  pub end : chain_end (without_record place links) ≤ chain_end links

module _ (place size : ℕ) (links : List Link) (are : AreAdjacent 100 (map segment_of links)) (f : Freed 100 place size links) where
  cut : AreAdjacent 100 (map segment_of f.front) × AreAdjacent (segments_end 100 (map segment_of f.front)) (map segment_of (f.mid ++ f.back))
  cut = adjacent_cut 100 (map segment_of f.front) (map segment_of (f.mid ++ f.back)) (subst (AreAdjacent 100) (ap (map segment_of) f.is ∙ map-append segment_of f.front (f.mid ++ f.back)) are)

  front_end : segments_end 100 (map segment_of f.front) ≡ f.start
  front_end = map_end 100 f.front ∙ sym f.start_is

  -- what stands behind begins where what is free ends
  back_are : AreAdjacent (f.start + f.n) (map segment_of f.back)
  back_are =
      let rest : AreAdjacent f.start (map segment_of f.mid ++ map segment_of f.back) =
      subst (AreAdjacent f.start) (map-append segment_of f.mid f.back) (subst (λ (p : ℕ). AreAdjacent p (map segment_of (f.mid ++ f.back))) front_end cut.1) in
      subst (λ (p : ℕ). AreAdjacent p (map segment_of f.back)) (map_end f.start f.mid ∙ f.long) (adjacent_cut f.start (map segment_of f.mid) (map segment_of f.back) rest).1

  end_is : chain_end links ≡ end_from (f.start + f.n) f.back
  end_is = ap chain_end f.is ∙ end-append 100 f.front (f.mid ++ f.back) ∙ ap (λ (p : ℕ). end_from p (f.mid ++ f.back)) (sym f.start_is) ∙ end-append f.start f.mid f.back ∙ ap (λ (p : ℕ). end_from p f.back) f.long

  after_end : chain_end (without_record place links) ≡ end_from f.start (free_links f.start f.n f.back)
  after_end = ap chain_end f.after ∙ end-append 100 f.front (free_links f.start f.n f.back) ∙ ap (λ (p : ℕ). end_from p (free_links f.start f.n f.back)) (sym f.start_is)

  after_gaps : gaps_of (without_record place links) ≡ gaps_of f.front ++ gaps_of (free_links f.start f.n f.back)
  after_gaps = ap gaps_of f.after ∙ ap gaps_in (map-append segment_of f.front (free_links f.start f.n f.back)) ∙ gaps_append (map segment_of f.front) (map segment_of (free_links f.start f.n f.back))

  over : gap_over place (given (gap_of place size) (gaps_of links)) ≡ Some (gap_of f.start f.n)
  over =
      let yes : lies_in place (gap_of f.start f.n) ≡ true = grind (arith, nat_tests, f.low, f.high) in
      ap (gap_over place) f.gives ∙ over_at 100 place (map segment_of f.front) (gap_of f.start f.n) (gaps_of f.back) cut.0 (omega (arith, front_end, f.low)) yes

  lined : f.start % 4 ≡ 0
  lined = subst (λ (p : ℕ). p % 4 ≡ 0) front_end (aligned_end 100 (map segment_of f.front) cut.0 refl)

  fit : HasGapFor (given (gap_of place size) (gaps_of links)) f.start f.n
  fit = subst (λ (l : List FreeGap). HasGapFor l f.start f.n) (sym f.gives) (gap_there (gaps_of f.front) (gap_of f.start f.n) (gaps_of f.back))

  spot_of : (back : List Link) → f.back ≡ back → Spot place size links
  spot_of [] e = record {
    f = f;
    over = over;
    within = omega (arith, end);
    start_aligned = lined;
    fit = fit;
    alone = λ le. e;
    lowered = λ le. (
      ap (taken f.start f.n) (f.gives ∙ ap (λ (l : List Link). gaps_of f.front ++ gap_of f.start f.n ∷ gaps_of l) e)
          ∙ taken_last 100 (map segment_of f.front) f.start f.n cut.0 (omega (arith, front_end))
          ∙ sym (after_gaps ∙ ap (λ (l : List Link). gaps_of f.front ++ gaps_of (free_links f.start f.n l)) e ∙ append-nil (gaps_of f.front)),
      after,
    );
    followed = λ lt. absurd (omega (arith, lt, end));
    gap = λ lt. absurd (omega (arith, lt, end));
    end = omega (arith, after, end);
  }
    where
      end : chain_end links ≡ f.start + f.n
      end = end_is ∙ ap (end_from (f.start + f.n)) e

      after : chain_end (without_record place links) ≡ f.start
      after = after_end ∙ ap (λ (l : List Link). end_from f.start (free_links f.start f.n l)) e
  spot_of (link ∷ others) e = record {
    f = f;
    over = over;
    within = omega (arith, end, more);
    start_aligned = lined;
    fit = fit;
    alone = λ le. absurd (omega (arith, le, end, more, first));
    lowered = λ le. absurd (omega (arith, le, end, more, first));
    followed = λ lt. (link, others, e);
    gap = λ lt. (
      f.gives ∙ ap (λ (l : List Link). gaps_of f.front ++ gap_of f.start f.n ∷ gaps_of l) e
          ∙ sym (after_gaps ∙ ap (λ (l : List Link). gaps_of f.front ++ gaps_of (free_links f.start f.n l)) e),
      after,
    );
    end = omega (arith, after);
  }
    where
      end : chain_end links ≡ end_from (f.start + f.n) (link ∷ others)
      end = end_is ∙ ap (end_from (f.start + f.n)) e

      more : f.start + f.n + link_length link ≤ end_from (f.start + f.n) (link ∷ others)
      more = end-le (f.start + f.n + link_length link) others

      first : 4 ≤ link_length link
      first = let b = (subst (λ (l : List Link). AreAdjacent (f.start + f.n) (map segment_of l)) e back_are).0 in omega (arith, b.some, segment_of-length link)

      after : chain_end (without_record place links) ≡ chain_end links
      after = after_end ∙ ap (λ (l : List Link). end_from f.start (free_links f.start f.n l)) e ∙ sym end

pub spot : (place : ℕ) (bytes : List ℕ) (front back : List Link) → AreAdjacent 100 (map segment_of (front ++ RecordAt place bytes ∷ back)) → AreGapsApart (map segment_of (front ++ RecordAt place bytes ∷ back)) → Spot place (length bytes) (front ++ RecordAt place bytes ∷ back)
spot place bytes front back are apart =
    let f = freed place bytes back 100 front are apart in
    spot_of place (length bytes) (front ++ RecordAt place bytes ∷ back) are f f.back refl

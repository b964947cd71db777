-- Records one behind the other, beside a file: their lengths, and the segments that they make one after the other.
use Rattle.std.proofs.Common.{◌≡◌, ◌⊎◌, inl, inr, ⊎_elim, ℕ, suc, ◌+◌, ◌-◌, ◌%◌, ◌^◌, ◌<◌, ◌≤◌, true, false, eqb, List, [], ◌∷◌, ◌++◌, Option, Some, None, length, map, take, drop, drop-cons, get_or, refl, sym, ap, subst, ◌∙◌, append_assoc, length-drop, length-take-le, arith}
use Rattle.std.proofs.lemmas.{Bool.{eq-eqb, ne_eqb}, List.{nil_from_length, take-append-drop, take_all}, List.Sums.{sum_by-cons}}
use Rattle.std.specs.Prelude.{MatchOption, sum}
use Rattle.rio_free.specs.Gaps.{HasGapFor, gap_of}
use Rattle.rio_chain.specs.{declared.segment.Segment.{Segment, TheVariants.{Record, Gap}}, Adjoining.{AreAdjacent, AreSegments}}
use Rattle.rio_chain.specs.{Batches.{AreLengths, AreRecords, AreRecordsFrom, cut_by, first_length}, Chains.{HasChain}, Segments.{IsRecord, Link}}
use Rattle.rio_chain.specs.Placing.{HasRest, HasRoomAt, IsFree, file_end, gaps_in, rest_of_gap, with_segment, with_segments, word_behind}
use Rattle.rio_chain.proofs.Placed.{Split, adjacent_cut, end-le, end_grows, end_segments, end_shape, gap_end_same, gap_shape, split, split_low}
use Rattle.rio_chain.proofs.{PutChain.{Putting, putting}, Puts.{joined}, Words.{whole_long, whole_small}}

-- ---- bytes that are cut

pub sum_more : (n : ℕ) (lengths : List ℕ) → sum (n ∷ lengths) ≡ n + sum lengths
sum_more n lengths = sum_by-cons (λ (x : ℕ). x) n lengths

-- what is left behind the first part
left_long : (n : ℕ) (lengths bytes : List ℕ) → length bytes ≡ sum (n ∷ lengths) → length (drop n bytes) ≡ sum lengths
left_long n lengths bytes long = omega (arith, long, sum_more n lengths, length-drop n bytes)

first_long : (n : ℕ) (lengths bytes : List ℕ) → length bytes ≡ sum (n ∷ lengths) → length (take n bytes) ≡ n
first_long n lengths bytes long = length-take-le n bytes (omega (arith, long, sum_more n lengths))

pub cut_lengths : (lengths bytes : List ℕ) → length bytes ≡ sum lengths → map length (cut_by lengths bytes) ≡ lengths
cut_lengths [] bytes long = refl
cut_lengths (n ∷ lengths) bytes long =
    let first = first_long n lengths bytes long in
    let rest = cut_lengths lengths (drop n bytes) (left_long n lengths bytes long) in
    λ i. first i ∷ rest i

pub cut_joined : (lengths bytes : List ℕ) → length bytes ≡ sum lengths → joined (cut_by lengths bytes) ≡ bytes
unfolding joined
cut_joined [] bytes long = sym (nil_from_length bytes long)
cut_joined (n ∷ lengths) bytes long =
    ap (λ (l : List ℕ). take n bytes ++ l) (cut_joined lengths (drop n bytes) (left_long n lengths bytes long)) ∙ take-append-drop n bytes

cut_some : (place : ℕ) (lengths bytes : List ℕ) → length bytes ≡ sum lengths → AreRecordsFrom place (cut_by lengths bytes) → AreLengths lengths
cut_some place [] bytes long whole = tt
cut_some place (n ∷ lengths) bytes long whole =
    let first = first_long n lengths bytes long in
    let four = whole_long place (take n bytes) whole.0 in
    (omega (arith, four, first), omega (arith, whole.0.aligned, first), cut_some (place + length (take n bytes)) lengths (drop n bytes) (left_long n lengths bytes long) whole.1)

pub lengths_of : (place : ℕ) (lengths bytes : List ℕ) → AreRecords place lengths bytes → AreLengths lengths
lengths_of place lengths bytes r = cut_some place lengths bytes r.long r.whole

-- the first record and the others
pub record FirstCut (place : ℕ) (lengths bytes : List ℕ) : Type 0 where
  pub first : List ℕ
  pub others : List (List ℕ)
  pub cut_is : cut_by lengths bytes ≡ first ∷ others
  pub long : length first ≡ first_length lengths

pub first_cut : (place : ℕ) (lengths bytes : List ℕ) → AreRecords place lengths bytes → FirstCut place lengths bytes
first_cut place [] bytes r = absurd (let some = r.some in omega (arith, some))
first_cut place (n ∷ lengths) bytes r = record { first = take n bytes; others = cut_by lengths (drop n bytes); cut_is = refl; long = first_long n lengths bytes r.long }

pub all_long : (place : ℕ) (lengths bytes : List ℕ) → AreRecords place lengths bytes → 4 ≤ length bytes
all_long place [] bytes r = absurd (let some = r.some in omega (arith, some))
all_long place (n ∷ lengths) bytes r =
    let long = r.long in
    let four = whole_long place (take n bytes) r.whole.0 in
    let first = first_long n lengths bytes r.long in
    omega (arith, long, four, first, sum_more n lengths)

pub first_small : (place : ℕ) (lengths bytes : List ℕ) → AreRecords place lengths bytes → first_length lengths < 2 ^ 31
first_small place [] bytes r = omega arith
first_small place (n ∷ lengths) bytes r =
    let small = whole_small place (take n bytes) r.whole.0 in
    let first = first_long n lengths bytes r.long in
    omega (arith, small, first)

-- what is put, by the bytes of all records
pub putting_all : (file : List ℕ) (links : List Link) (segments : List Segment) (place : ℕ) (lengths bytes tail : List ℕ) (rest : Option ℕ) → HasChain links segments file → AreRecords place lengths bytes
    → MatchOption rest (place ≡ file_end segments) (λ k. HasRest segments place (length bytes) k) → tail ≡ drop 4 (bytes ++ word_behind rest) → Putting file links place (first_length lengths) (cut_by lengths bytes) tail
putting_all file links segments place lengths bytes tail rest has r rest_is tail_is =
    let f = first_cut place lengths bytes r in
    let same : joined (f.first ∷ f.others) ≡ bytes = ap joined (sym f.cut_is) ∙ cut_joined lengths bytes r.long in
    let whole = subst (λ (rs : List (List ℕ)). AreRecordsFrom place rs) f.cut_is r.whole in
    let known = subst (λ (b : List ℕ). MatchOption rest (place ≡ file_end segments) (λ k. HasRest segments place (length b) k)) (sym same) rest_is in
    let behind = tail_is ∙ ap (λ (b : List ℕ). drop 4 (b ++ word_behind rest)) (sym same) in
    let p = putting file links segments place f.first f.others tail rest has whole known behind in
    subst (λ (rs : List (List ℕ)). Putting file links place (first_length lengths) rs tail) (sym f.cut_is)
    (subst (λ (n : ℕ). Putting file links place n (f.first ∷ f.others) tail) f.long p)

-- ---- one record

pub one_cut : (n : ℕ) (bytes : List ℕ) → n ≡ length bytes → cut_by (n ∷ []) bytes ≡ bytes ∷ []
one_cut n bytes is = ap (λ (b : List ℕ). b ∷ []) (take_all n bytes (omega (arith, is)))

pub one_record : (place n : ℕ) (bytes : List ℕ) → n ≡ length bytes → IsRecord place bytes → AreRecords place (n ∷ []) bytes
one_record place n bytes is whole = record {
  some = omega arith;
  long = omega (arith, is, sum_more n []);
  whole = subst (λ (rs : List (List ℕ)). AreRecordsFrom place rs) (sym (one_cut n bytes is)) (whole, tt);
}

-- ---- room for several

-- none, or as many as a gap has at least
IsSome : ℕ → Type 0
IsSome n = (n ≡ 0) ⊎ (4 ≤ n)

sum_some : (lengths : List ℕ) → AreLengths lengths → IsSome (sum lengths)
unfolding IsSome
sum_some [] are = inl refl
sum_some (n ∷ lengths) are = inr (omega (arith, are.0, sum_more n lengths))

both_some : (m n : ℕ) → IsSome m → IsSome n → IsSome (m + n)
unfolding IsSome
both_some m n (inl none) one = ⊎_elim (λ zero. inl (omega (arith, none, zero))) (λ four. inr (omega (arith, four))) one
both_some m n (inr four) one = inr (omega (arith, four))

-- the gap, among the gaps
gap_among : (front back : List Segment) (place m n : ℕ) → (m ≡ n) ⊎ (n + 3 < m) → HasGapFor (gaps_in (front ++ Gap place m ∷ back)) place n
gap_among [] back place m n fit = (0, gap_of place m, omega arith, refl, (refl, fit))
gap_among (Record q l ∷ front) back place m n fit = gap_among front back place m n fit
gap_among (Gap q l ∷ front) back place m n fit =
    let later = gap_among front back place m n fit in
    (suc later.0, later.1, omega (arith, later.2), later.3, later.4)

with_gap_in_front : (p : ℕ) (front back : List Segment) (place m n : ℕ) → AreAdjacent p (front ++ Gap place m ∷ back)
    → with_segment place n (front ++ Gap place m ∷ back) ≡ front ++ Record place n ∷ rest_of_gap (place + n) (m - n) back
with_gap_in_front p [] back place m n are = let same : eqb place place ≡ true = eq-eqb place place refl in rw same refl
with_gap_in_front p (Record q l ∷ front) back place m n are = ap (λ (s : List Segment). Record q l ∷ s) (with_gap_in_front (p + l) front back place m n are.1)
with_gap_in_front p (Gap q l ∷ front) back place m n are =
    let cut = adjacent_cut (p + l) front (Gap place m ∷ back) are.1 in
    let le = end-le (p + l) front in
    let other : eqb q place ≡ false = ne_eqb _ _ (omega (arith, le, cut.1.0.there, are.0.there, are.0.some)) in
    rw other (ap (λ (s : List Segment). Gap q l ∷ s) (with_gap_in_front (p + l) front back place m n are.1))

-- there is room for all of the lengths, if there are any
abbrev pub HasRoomFor : List Segment → ℕ → List ℕ → Type 0
HasRoomFor segments place [] = Unit {0}
HasRoomFor segments place (n ∷ lengths) = HasRoomAt segments place (sum (n ∷ lengths))

-- a record of the first length is put where there is room for all
pub record Noted (segments : List Segment) (place n : ℕ) (lengths : List ℕ) : Type 0 where
  pub free : IsFree segments n place
  pub shape : AreSegments (with_segment place n segments)
  pub grows : file_end segments ≤ file_end (with_segment place n segments)
  pub low : file_end (with_segment place n segments) ≤ file_end segments + n
  pub within : place + n ≤ file_end (with_segment place n segments)
  pub room : HasRoomFor (with_segment place n segments) (place + n) lengths

module _ (segments : List Segment) (place n : ℕ) (lengths : List ℕ) (shape : AreSegments segments) (are : AreLengths (n ∷ lengths)) where
  noted_at_end : place ≡ file_end segments → Noted segments place n lengths
  noted_at_end is =
      let after = end_segments segments place n shape is in
      let grows = end_grows segments place n shape is in
      record {
        free = inr is;
        shape = subst AreSegments (sym after) (end_shape segments n shape are.0 are.1);
        grows = omega (arith, grows);
        low = omega (arith, grows);
        within = omega (arith, grows, is);
        room = by lengths (ap (λ (p : ℕ). p + n) is ∙ sym grows);
      }
    where
      by : (ns : List ℕ) → place + n ≡ file_end (with_segment place n segments) → HasRoomFor (with_segment place n segments) (place + n) ns
      by [] e = tt
      by (k ∷ ns) e = inl e

  module _ (rest : ℕ) (has : HasRest segments place (sum (n ∷ lengths)) rest) where
    abbrev left : ℕ
    left = sum lengths + rest

    abbrev m : ℕ
    m = sum (n ∷ lengths) + rest

    parts : m ≡ n + left
    parts = omega (arith, sum_more n lengths)

    some_left : IsSome left
    unfolding IsSome
    some_left = both_some (sum lengths) rest (sum_some lengths are.2) has.3

    fit : (m ≡ n) ⊎ (n + 3 < m)
    unfolding IsSome
    fit = ⊎_elim (λ none. inl (omega (arith, parts, none))) (λ four. inr (omega (arith, parts, four))) some_left

    gap_free : HasGapFor (gaps_in segments) place n
    gap_free = subst (λ (s : List Segment). HasGapFor (gaps_in s) place n) (sym has.2) (gap_among has.0 has.1 place m n fit)

    after : with_segment place n segments ≡ has.0 ++ Record place n ∷ rest_of_gap (place + n) left has.1
    after =
        ap (with_segment place n) has.2
        ∙ with_gap_in_front 100 has.0 has.1 place m n (subst (AreAdjacent 100) has.2 shape.adjacent)
        ∙ ap (λ (k : ℕ). has.0 ++ Record place n ∷ rest_of_gap (place + n) k has.1) (let e : m - n ≡ left = omega (arith, parts) in e)

    -- what is left of it is a gap, where a further record is to be put
    pub left_rest : (k : ℕ) (ns : List ℕ) → k ∷ ns ≡ lengths → HasRest (with_segment place n segments) (place + n) (sum (k ∷ ns)) rest
    left_rest k ns same =
        let all = ap (λ (ls : List ℕ). sum ls) (sym same) in
        let long : 4 ≤ left = subst (λ (ls : List ℕ). AreLengths ls → 4 ≤ sum ls + rest) same (λ some. omega (arith, some.0, sum_more k ns)) are.2 in
        let other : eqb left 0 ≡ false = ne_eqb left 0 (omega (arith, long)) in
        let gap : rest_of_gap (place + n) left has.1 ≡ Gap (place + n) left ∷ has.1 = rw other refl in
        let stands : with_segment place n segments ≡ (has.0 ++ Record place n ∷ []) ++ Gap (place + n) left ∷ has.1 =
        after ∙ ap (λ (s : List Segment). has.0 ++ Record place n ∷ s) gap ∙ sym (append_assoc has.0 (Record place n ∷ []) (Gap (place + n) left ∷ has.1)) in
        let room : HasRest (with_segment place n segments) (place + n) (sum lengths) rest = (has.0 ++ Record place n ∷ [], has.1, stands, has.3) in
        subst (λ (s : ℕ). HasRest (with_segment place n segments) (place + n) s rest) all room

    left_room : (ns : List ℕ) → ns ≡ lengths → HasRoomFor (with_segment place n segments) (place + n) ns
    left_room [] same = tt
    left_room (k ∷ ns) same = inr (rest, left_rest k ns same)

    gap_cut : Split segments place n
    gap_cut = split 100 segments place n shape.adjacent gap_free

    -- a gap doesn't move END
    pub gap_keeps_end : file_end (with_segment place n segments) ≡ file_end segments
    gap_keeps_end = gap_end_same segments place n gap_cut shape are.0 are.1

    noted_in_gap : Noted segments place n lengths
    noted_in_gap =
        let low = split_low segments place n gap_cut shape in
        record {
          free = inl gap_free;
          shape = gap_shape segments place n gap_cut shape are.0 are.1;
          grows = omega (arith, gap_keeps_end);
          low = omega (arith, gap_keeps_end);
          within = omega (arith, gap_keeps_end, low);
          room = left_room lengths refl;
        }

  pub noted : HasRoomFor segments place (n ∷ lengths) → Noted segments place n lengths
  noted (inl is) = noted_at_end is
  noted (inr gap) = noted_in_gap gap.0 gap.1

-- END never falls
pub ends_grow : (lengths : List ℕ) (place : ℕ) (segments : List Segment) → AreSegments segments → AreLengths lengths → HasRoomFor segments place lengths → file_end segments ≤ file_end (with_segments place lengths segments)
ends_grow [] place segments shape are room = omega arith
ends_grow (n ∷ lengths) place segments shape are room =
    let one = noted segments place n lengths shape are room in
    let later = ends_grow lengths (place + n) (with_segment place n segments) one.shape are.2 one.room in
    omega (arith, one.grows, later)

-- ---- one of several, in turn

-- What is known while records are put one after the other: these lengths are left.
pub record NotingAt (segments : List Segment) (place : ℕ) (lengths : List ℕ) : Type 0 where
  pub shape : AreSegments segments
  pub are : AreLengths lengths
  pub room : HasRoomFor segments place lengths
  pub low : file_end (with_segments place lengths segments) ≤ 1999999996

-- and what a step needs and leaves
pub record NextNoted (segments : List Segment) (place n : ℕ) (lengths : List ℕ) : Type 0 where
  pub free : IsFree segments n place
  pub low : file_end (with_segment place n segments) ≤ 1999999996
  pub aligned : n % 4 ≡ 0
  pub some : 4 ≤ n
  pub within : place + n ≤ 1999999996
  pub left : NotingAt (with_segment place n segments) (place + n) lengths

pub next_noted : (segments : List Segment) (place n : ℕ) (lengths : List ℕ) → NotingAt segments place (n ∷ lengths) → NextNoted segments place n lengths
next_noted segments place n lengths a =
    let one = noted segments place n lengths a.shape a.are a.room in
    let grow = ends_grow lengths (place + n) (with_segment place n segments) one.shape a.are.2 one.room in
    record {
      free = one.free;
      low = omega (arith, grow, a.low);
      aligned = a.are.1;
      some = a.are.0;
      within = omega (arith, one.within, grow, a.low);
      left = record { shape = one.shape; are = a.are.2; room = one.room; low = a.low };
    }

one_dropped : (lengths : List ℕ) (k : ℕ) → k < length lengths → drop k lengths ≡ get_or lengths k 0 ∷ drop (k + 1) lengths
one_dropped lengths k lt =
    let next : suc k ≡ k + 1 = omega arith in
    drop-cons lengths k 0 lt ∙ ap (λ (j : ℕ). get_or lengths k 0 ∷ drop j lengths) next

-- the next length is the one at this index
pub next_at : (segments : List Segment) (place : ℕ) (lengths : List ℕ) (k : ℕ) → k < length lengths → NotingAt segments place (drop k lengths) → NextNoted segments place (get_or lengths k 0) (drop (k + 1) lengths)
next_at segments place lengths k lt a =
    next_noted segments place (get_or lengths k 0) (drop (k + 1) lengths) (subst (λ (ls : List ℕ). NotingAt segments place ls) (one_dropped lengths k lt) a)

pub segments_next : (segments : List Segment) (place : ℕ) (lengths : List ℕ) (k : ℕ) → k < length lengths
    → with_segments place (drop k lengths) segments ≡ with_segments (place + get_or lengths k 0) (drop (k + 1) lengths) (with_segment place (get_or lengths k 0) segments)
segments_next segments place lengths k lt = ap (λ (ls : List ℕ). with_segments place ls segments) (one_dropped lengths k lt)

-- there is room for as many bytes as are given, by what is left behind them
pub room_by_rest : (segments : List Segment) (place n m : ℕ) (rest : Option ℕ) → n ≡ m → MatchOption rest (place ≡ file_end segments) (λ k. HasRest segments place n k) → HasRoomAt segments place m
room_by_rest segments place n m None same end = inl end
room_by_rest segments place n m (Some k) same gap = inr (k, subst (λ (s : ℕ). HasRest segments place s k) same gap)

-- there is room for all where there is room for their sum
pub room_for_all : (segments : List Segment) (place : ℕ) (lengths : List ℕ) → HasRoomAt segments place (sum lengths) → HasRoomFor segments place lengths
room_for_all segments place [] room = tt
room_for_all segments place (n ∷ lengths) room = room

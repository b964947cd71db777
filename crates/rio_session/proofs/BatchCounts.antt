-- Keys and segments with several more, and the room for several records at one place.
use Rattle.std.proofs.Common.{◌≡◌, ◌⊎◌, inl, inr, ℕ, ◌+◌, ◌-◌, ◌%◌, ◌<◌, ◌≤◌, Bool, true, List, [], ◌∷◌, ◌++◌, length, map, refl, sym, ap, subst, ◌∙◌, arith}
use Rattle.std.proofs.{lemmas.Bool.{and_from, and_parts, eqb-true}, lemmas.List.Sums.{sum_by-cons}}
use Rattle.std.specs.{Prelude.{sum}, List.{list_all}}
use Rattle.rio_key.specs.{declared.head.KeyHead.{KeyHead}, Written.{written_key}}
use Rattle.rio_dir.specs.Table.{heads_size, with_head, with_heads}
use Rattle.rio_chain.specs.{Adjoining.{AreSegments}, Batches.{AreLengths}, declared.segment.Segment.{Segment, TheVariants.{Gap}}}
use Rattle.rio_chain.specs.Placing.{HasRoomAt, IsFree, file_end, place_of, record_count, with_segment, with_segments}
use Rattle.rio_chain.proofs.{Placed.{place_free, split}, PutsEnds.{ends_alike}, PutsNoted.{noted, sum_more}}
use Rattle.rio_machine.specs.Limits.{head_length}
use Rattle.rio_state.specs.{Closing.{end_limit}, Sizes.{close_size}}
use Rattle.rio_close.proofs.Fitting.{count_with}
use Rattle.rio_judge.specs.declared.work.StoredObject.{StoredObject}
use Rattle.rio_recover.specs.Closable.{is_sized}
use Rattle.rio_session.specs.{Due.{due_of, need_with}, Fills.{FilledTree}, Puts.{AreKeysFor}}
use Rattle.rio_session.proofs.{FillSums.{need_by_due}, Keeps.{all_with, length_with, size_with}, Places.{sum_one}}

-- ---- several keys more

pub length_with_all : (hs heads : List KeyHead) → length (with_heads hs heads) ≡ length heads + length hs
length_with_all [] heads = omega arith
length_with_all (h ∷ hs) heads = omega (arith, length_with h heads, length_with_all hs (with_head h heads))

pub all_with_all : (test : KeyHead → Bool) (hs heads : List KeyHead) → list_all test hs ≡ true → list_all test heads ≡ true → list_all test (with_heads hs heads) ≡ true
all_with_all test [] heads new all = all
all_with_all test (h ∷ hs) heads new all =
    let parts = and_parts (test h) (list_all test hs) new in
    all_with_all test hs (with_head h heads) parts.1 (all_with test h heads parts.0 all)

pub size_with_all : (hs heads : List KeyHead) → heads_size (with_heads hs heads) ≡ heads_size heads + heads_size hs
size_with_all [] heads = omega arith
size_with_all (h ∷ hs) heads = omega (arith, size_with h heads, size_with_all hs (with_head h heads), sum_by-cons (λ (k : KeyHead). length (written_key k)) h hs)

-- ---- several segments more

pub count_with_all : (lengths : List ℕ) (place : ℕ) (segments : List Segment) → record_count (with_segments place lengths segments) ≡ record_count segments + length lengths
count_with_all [] place segments = omega arith
count_with_all (n ∷ lengths) place segments = omega (arith, count_with place n segments, count_with_all lengths (place + n) (with_segment place n segments))

-- ---- the keys of objects

-- how long they are together
abbrev pub heads_length : List StoredObject → ℕ
heads_length os = sum (map (λ o. head_length o.class o.name) os)

pub keys_sized : (os : List StoredObject) (hs : List KeyHead) → AreKeysFor os hs → list_all is_sized hs ≡ true
keys_sized [] [] are = refl
keys_sized [] (h ∷ hs) are = absurd are
keys_sized (o ∷ os) [] are = absurd are
keys_sized (o ∷ os) (h ∷ hs) are = and_from (is_sized h) (list_all is_sized hs) are.0 (keys_sized os hs are.3)

pub keys_counted : (os : List StoredObject) (hs : List KeyHead) → AreKeysFor os hs → length hs ≡ length os
keys_counted [] [] are = refl
keys_counted [] (h ∷ hs) are = absurd are
keys_counted (o ∷ os) [] are = absurd are
keys_counted (o ∷ os) (h ∷ hs) are = omega (arith, keys_counted os hs are.3)

pub keys_long : (os : List StoredObject) (hs : List KeyHead) → AreKeysFor os hs → heads_size hs ≡ heads_length os
keys_long [] [] are = refl
keys_long [] (h ∷ hs) are = absurd are
keys_long (o ∷ os) [] are = absurd are
keys_long (o ∷ os) (h ∷ hs) are =
    let long : length (written_key h) ≡ head_length o.class o.name = eqb-true (length (written_key h)) (head_length h.class h.name) are.0 ∙ ap (λ (x : List ℕ × List ℕ). head_length x.0 x.1) (λ i. (are.1 i, are.2 i)) in
    let more : heads_length (o ∷ os) ≡ head_length o.class o.name + heads_length os = sum_more (head_length o.class o.name) (map (λ (x : StoredObject). head_length x.class x.name) os) in
    omega (arith, long, keys_long os hs are.3, sum_by-cons (λ (k : KeyHead). length (written_key k)) h hs, more)

-- what a close needs with the keys of these objects more
pub need_with_all : (name : List ℕ) (heads : List KeyHead) (trees : List FilledTree) (hs : List KeyHead) (os : List StoredObject) (count : ℕ) → AreKeysFor os hs
    → need_with name (with_heads hs heads) count trees ≡ (due_of trees).bytes + close_size name (heads_size heads + heads_length os) (count + (due_of trees).baskets)
need_with_all name heads trees hs os count are =
    need_by_due name (with_heads hs heads) count trees
    ∙ ap (λ (n : ℕ). (due_of trees).bytes + close_size name n (count + (due_of trees).baskets)) (size_with_all hs heads ∙ ap (λ (n : ℕ). heads_size heads + n) (keys_long os hs are))

-- ---- the place of the rule

gap_rest : (m n : ℕ) → (m ≡ n) ⊎ (n + 3 < m) → (m ≡ n + (m - n)) × ((m - n ≡ 0) ⊎ (4 ≤ m - n))
gap_rest m n (inl same) = (omega (arith, same), inl (omega (arith, same)))
gap_rest m n (inr more) = (omega (arith, more), inr (omega (arith, more)))

-- there is room for so many bytes
pub place_rooms : (segments : List Segment) (n place : ℕ) → AreSegments segments → place ≡ place_of segments n → HasRoomAt segments place n
place_rooms segments n place shape is = by (place_free segments n place (inl is))
  where
    by : IsFree segments n place → HasRoomAt segments place n
    by (inr end) = inl end
    by (inl gap) =
        let cut = split 100 segments place n shape.adjacent gap in
        let rest = gap_rest cut.m n cut.fit in
        inr (cut.m - n, (cut.front, cut.back, cut.is ∙ ap (λ (k : ℕ). cut.front ++ Gap place k ∷ cut.back) rest.0, rest.1))

-- where bytes at the place leave room, they end before the limit
pub placed_within : (segments : List Segment) (n need : ℕ) → AreSegments segments → 4 ≤ n → n % 4 ≡ 0 → file_end (with_segment (place_of segments n) n segments) + need ≤ end_limit → place_of segments n + n ≤ end_limit
placed_within segments n need shape some aligned fits =
    let place : ℕ = place_of segments n in
    let room = subst (λ (k : ℕ). HasRoomAt segments place k) (sym (sum_one n)) (place_rooms segments n place shape refl) in
    let one = noted segments place n [] shape (some, aligned, tt) room in
    omega (arith, one.within, fits)

-- and several records of so many bytes together leave the same room
pub several_fit : (segments : List Segment) (place n need : ℕ) (lengths : List ℕ) → AreSegments segments → AreLengths lengths → 0 < length lengths → n ≡ sum lengths → place ≡ place_of segments n
    → file_end (with_segment (place_of segments n) n segments) + need ≤ end_limit → file_end (with_segments place lengths segments) + need ≤ end_limit
several_fit segments place n need lengths shape are some is at fits =
    let room = subst (λ (k : ℕ). HasRoomAt segments place k) is (place_rooms segments n place shape at) in
    let ends = ends_alike segments place lengths shape are some room in
    let same : file_end (with_segment place (sum lengths) segments) ≡ file_end (with_segment (place_of segments n) n segments) = λ i. file_end (with_segment (at i) (sym is i) segments) in
    omega (arith, ends, same, fits)

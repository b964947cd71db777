-- Whether there is room for a record.
use Rattle.std.proofs.Common.{◌≡◌, ℕ, ◌+◌, ◌-◌, ◌%◌, ◌<◌, ◌≤◌, true, false, List, [], ◌∷◌, sum, Option, Some, None, ap, arith}
use Rattle.std.proofs.lemmas.Bool.{le-ltb, lt-ltb, ltb-false, ltb-true}
use Rattle.rio_free.specs.Gaps.{best_place}
use Rattle.rio_chain.specs.{Adjoining.{AreSegments}, Placing.{FreeSpace, end_after, file_end, laid_at, place_of, space_of, with_segment}}
use Rattle.rio_chain.specs.declared.segment.Segment.{Segment}
use Rattle.rio_chain.proofs.{Laying.{laid_put}, Placed.{end-le}}
use Rattle.rio_state.specs.Closing.{end_limit, is_full, lay_all}

laid_least : (n : ℕ) (found : Option ℕ) (space : FreeSpace) → space.end ≤ (laid_at found n space).end
laid_least n (Some place) space = omega arith
laid_least n None space = omega arith

-- a record doesn't make a file end before
pub end_stays : (n : ℕ) (segments : List Segment) → file_end segments ≤ end_after (n ∷ []) (space_of segments)
end_stays n segments = laid_least n (best_place n (space_of segments).gaps) (space_of segments)

laid_most : (n : ℕ) (found : Option ℕ) (space : FreeSpace) → (laid_at found n space).end ≤ space.end + n
laid_most n (Some place) space = omega arith
laid_most n None space = omega arith

pub end_most : (n : ℕ) (segments : List Segment) → end_after (n ∷ []) (space_of segments) ≤ file_end segments + n
end_most n segments = laid_most n (best_place n (space_of segments).gaps) (space_of segments)

some_end : (n : ℕ) (segments : List Segment) → 100 ≤ end_after (n ∷ []) (space_of segments)
some_end n segments = omega (arith, end-le 100 segments, end_stays n segments)

pub has_room : (segments : List Segment) (n need limit : ℕ) → limit ≡ end_limit - need → end_after (n ∷ []) (space_of segments) ≤ limit → is_full segments (n ∷ []) need ≡ false
unfolding is_full lay_all
has_room segments n need limit is le = le-ltb end_limit (end_after (n ∷ []) (space_of segments) + need) (omega (arith, is, le, some_end n segments))

pub no_room : (segments : List Segment) (n need limit : ℕ) → limit ≡ end_limit - need → limit < end_after (n ∷ []) (space_of segments) → is_full segments (n ∷ []) need ≡ true
unfolding is_full lay_all
no_room segments n need limit is lt = lt-ltb end_limit (end_after (n ∷ []) (space_of segments) + need) (omega (arith, is, lt))

pub room_is : (segments : List Segment) (n need : ℕ) → is_full segments (n ∷ []) need ≡ false → end_after (n ∷ []) (space_of segments) + need ≤ end_limit
unfolding is_full lay_all
room_is segments n need is = ltb-false end_limit (end_after (n ∷ []) (space_of segments) + need) is

pub full_is : (segments : List Segment) (n need : ℕ) → is_full segments (n ∷ []) need ≡ true → end_limit < end_after (n ∷ []) (space_of segments) + need
unfolding is_full lay_all
full_is segments n need is = ltb-true end_limit (end_after (n ∷ []) (space_of segments) + need) is

pub sum_one : (n : ℕ) → sum (n ∷ []) ≡ n
sum_one n = omega arith

-- ---- a record at the place of the rule

pub placed_end : (segments : List Segment) (n need : ℕ) → AreSegments segments → 4 ≤ n → n % 4 ≡ 0 → is_full segments (n ∷ []) need ≡ false
    → file_end (with_segment (place_of segments n) n segments) + need ≤ end_limit
placed_end segments n need shape some aligned room =
    let put = ap (λ (s : FreeSpace). s.end) (laid_put segments n shape some aligned).1 in
    let end : file_end (with_segment (place_of segments n) n segments) ≡ end_after (n ∷ []) (space_of segments) = put in
    omega (arith, end, room_is segments n need room)

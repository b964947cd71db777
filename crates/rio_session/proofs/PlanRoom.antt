-- Whether there is room for records that are planned, one after the other.
use Rattle.std.proofs.Common.{◌≡◌, ℕ, suc, ◌+◌, ◌-◌, ◌<◌, ◌≤◌, true, false, List, [], ◌∷◌, length, refl, ap, arith}
use Rattle.std.proofs.lemmas.Bool.{le-ltb, lt-ltb, ltb-false, ltb-true}
use Rattle.rio_chain.specs.{Placing.{FreeSpace, end_after, laid, places_of, space_of}, declared.segment.Segment.{Segment}}
use Rattle.rio_chain.proofs.{Laying.{end_grows}, Placed.{end-le}}
use Rattle.rio_state.specs.Closing.{end_limit, is_full, lay_all}

pub plan_has_room : (segments : List Segment) (lengths : List ℕ) (need limit : ℕ) → limit ≡ end_limit - need → end_after lengths (space_of segments) ≤ limit → is_full segments lengths need ≡ false
unfolding is_full lay_all
plan_has_room segments lengths need limit is le = le-ltb end_limit (end_after lengths (space_of segments) + need) (omega (arith, is, le, end-le 100 segments, end_grows lengths (space_of segments)))

pub plan_lacks_room : (segments : List Segment) (lengths : List ℕ) (need limit : ℕ) → limit ≡ end_limit - need → limit < end_after lengths (space_of segments) → is_full segments lengths need ≡ true
unfolding is_full lay_all
plan_lacks_room segments lengths need limit is lt = lt-ltb end_limit (end_after lengths (space_of segments) + need) (omega (arith, is, lt))

pub plan_room_is : (segments : List Segment) (lengths : List ℕ) (need : ℕ) → is_full segments lengths need ≡ false → end_after lengths (space_of segments) + need ≤ end_limit
unfolding is_full lay_all
plan_room_is segments lengths need is = ltb-false end_limit (end_after lengths (space_of segments) + need) is

pub plan_full_is : (segments : List Segment) (lengths : List ℕ) (need : ℕ) → is_full segments lengths need ≡ true → end_limit < end_after lengths (space_of segments) + need
unfolding is_full lay_all
plan_full_is segments lengths need is = ltb-true end_limit (end_after lengths (space_of segments) + need) is

-- there is one place for each
pub as_many_places : (lengths : List ℕ) (space : FreeSpace) → length (places_of lengths space) ≡ length lengths
as_many_places [] space = refl
as_many_places (n ∷ lengths) space = ap suc (as_many_places lengths (laid n space))

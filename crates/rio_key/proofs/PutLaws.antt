-- Puts, one after the other.
use Rattle.std.proofs.{Common.{◌≡◌, ℕ, ◌-◌, List, [], ◌++◌, length, append_assoc, length-append, arith}, lemmas.List.{append-nil}}
use Rattle.rio_num.specs.Room.{Room, with_more}

pub with_more-with_more : (r : Room) (a b : List ℕ) → with_more (with_more r a) b ≡ with_more r (a ++ b)
with_more-with_more r a b =
    let spare : r.spare - length a - length b ≡ r.spare - length (a ++ b) = omega (arith, length-append a b) in
    λ i. record { bytes = append_assoc r.bytes a b i; spare = spare i }

pub with_more-nil : (r : Room) → with_more r [] ≡ r
with_more-nil r = let spare : r.spare - 0 ≡ r.spare = omega arith in λ i. record { bytes = append-nil r.bytes i; spare = spare i }

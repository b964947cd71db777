-- The row that room was made for can be added, once the full baskets were put.
use Rattle.std.proofs.Common.{◌≡◌, ℕ, ◌<◌, ◌≤◌, length, max, true, false, Some, refl, arith}
use Rattle.std.proofs.lemmas.Bool.{Decides.{nat_tests}}
use Rattle.std.specs.Prelude.{IsTrue, nat_le, nat_lt}
use Rattle.rio_tree.specs.declared.basket_at.BasketAt.{BasketAt}
use Rattle.rio_fill.specs.{Fill.{branch_put, takes}, Laws.{RowMayBeAdded}, Room.{branch_reserved, may_be_added}}

room_there : (n : ℕ) → nat_lt 0 (max n 1) ≡ true
room_there n = let lt : 0 < max n 1 = omega arith in grind (arith, nat_tests)

spare_there : (m n : ℕ) → nat_le n (max m n) ≡ true
spare_there m n = let le : n ≤ max m n = omega arith in grind (arith, nat_tests)

pub row_may_be_added : RowMayBeAdded
row_may_be_added b entry sized = (taken, full)
  where
    taken : takes b entry ≡ true → IsTrue (may_be_added (branch_reserved b (Some entry)) entry)
    taken fits =
        let rooms = room_there b.room.rooms in
        let spare = spare_there b.room.spare (length entry) in
        rw (fits, fits, sized, rooms, spare) refl

    full : (at : BasketAt) → takes b entry ≡ false → IsTrue (may_be_added (branch_put at (branch_reserved b (Some entry))) entry)
    full at fits =
        let rooms = room_there b.next.rooms in
        let spare = spare_there b.next.spare (length entry) in
        rw (fits, sized, rooms, spare) refl

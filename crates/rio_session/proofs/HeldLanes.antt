-- What is held of the branches of a tree, branch after branch.
use Rattle.std.proofs.Common.{◌≡◌, ◌≢◌, ℕ, zero, suc, ◌+◌, ◌<◌, ◌≤◌, Bool, List, [], ◌∷◌, length, take, slice_get, slice_set, Option, Some, None, is_some, IsTrue, refl, sym, ap, subst, ◌∙◌, arith}
use Rattle.std.proofs.{Math.Seq.{take-length}, lemmas.Option.{same_Some}}
use Rattle.rio_chain.specs.Segments.{Link}
use Rattle.rio_entry.proofs.Walks.{later_basket}
use Rattle.rio_key.specs.BasketEntries.{entries_in}
use Rattle.rio_entry.specs.{Lanes.{AreLanes as AreFileLanes, IsHeld as IsFileHeld}, StoredEntries.{StoredEntries}, declared.lane.Lane.{Lane}}
use Rattle.rio_fill.specs.Fill.{BranchFill, TreeFill, count_before, entry_count}
use Rattle.std.specs.Option.{option_map}
use Rattle.rio_leaf.specs.declared.branch.BranchDef.{BranchDef}
use Rattle.rio_tree.specs.{Header.{has_offsets}, Index.{basket_number}, declared.basket_at.BasketAt.{BasketAt}, declared.head.Branch.{Branch}}
use Rattle.rio_session.specs.HeldBaskets.{AreLanes, HoldEntry, HoldsEntry, HoldsEntryAt, IsHeld, IsLane, IsLaneAt}

-- an element of a list in which one is another
set_at : {A : Type 0} (xs : List A) (k j : ℕ) (new x : A) (P : ℕ → A → Type 0) → slice_get (slice_set xs k new) j ≡ Some x → P k new → (j ≢ k → slice_get xs j ≡ Some x → P j x) → P j x
set_at [] k zero new x P is one others = absurd cc
set_at [] k (suc j) new x P is one others = absurd cc
set_at (y ∷ ys) zero zero new x P is one others = subst (P 0) (same_Some new x is) one
set_at (y ∷ ys) zero (suc j) new x P is one others = others (λ e. omega (arith, e)) is
set_at (y ∷ ys) (suc k) zero new x P is one others = others (λ e. omega (arith, e)) is
set_at (y ∷ ys) (suc k) (suc j) new x P is one others = set_at ys k j new x (λ i. P (suc i)) is one (λ ne. others (λ e. ne (omega (arith, e))))

module _ (links : List Link) (t : TreeFill) (e : ℕ) where
  pub lanes_set : (lanes : List Lane) (k : ℕ) (new : Lane) → AreLanes links e t.branches lanes → IsLaneAt links e t k new → AreLanes links e t.branches (slice_set lanes k new)
  lanes_set lanes k new are one = λ j b lane is held.
      set_at lanes k j new lane (λ i l. (d : BranchFill) → slice_get t.branches i ≡ Some d → IsLane links e d l) held one (λ other was d same. are j d lane same was) b is

  pub lane_at : (lanes : List Lane) (k : ℕ) (lane : Lane) → AreLanes links e t.branches lanes → slice_get lanes k ≡ Some lane → IsLaneAt links e t k lane
  lane_at lanes k lane are there = λ b is. are k b lane is there

  pub holds_set : (lanes : List Lane) (k : ℕ) (new : Lane) → HoldEntry links (entry_count t) e k t.branches lanes → HoldsEntryAt links e t k new → HoldEntry links (entry_count t) e (k + 1) t.branches (slice_set lanes k new)
  holds_set lanes k new so_far one = λ j b lane lt is held.
      set_at lanes k j new lane (λ i l. (d : BranchFill) → slice_get t.branches i ≡ Some d → e < count_before (entry_count t) d → HoldsEntry links e d l) held one
      (λ other was d same. so_far j d lane (omega (arith, lt, other)) same was) b is

  pub lanes_later : (lanes : List Lane) → AreLanes links e t.branches lanes → AreLanes links (e + 1) t.branches lanes
  lanes_later lanes are = λ k b lane is there.
      let one = are k b lane is there in
      let more = later_basket e b.baskets in
      record { number = omega (arith, one.number, more); held = one.held }

-- ---- the basket of one branch

pub lane_kept : (links : List Link) (e : ℕ) (b : BranchFill) (lane : Lane) → HoldsEntry links e b lane → IsLane links e b lane
lane_kept links e b lane h = let number = h.number in record { number = omega (arith, number); held = h.held }

-- it is held, as it was looked for among these baskets
pub lane_held : (links : List Link) (t : TreeFill) (e k : ℕ) (def : BranchDef) (baskets : List BasketAt) (offsets : Bool) (old new : Lane) → Some def ≡ option_map (λ b. b.def) (slice_get t.branches k)
    → Some baskets ≡ option_map (λ b. b.baskets) (slice_get t.branches k) → offsets ≡ has_offsets def.shape → (old.number ≤ basket_number e baskets → new.number ≡ basket_number e baskets)
    → (IsHeld links offsets baskets old.number old.basket → IsHeld links offsets baskets new.number new.basket) → IsTrue (is_some new.basket) → IsLaneAt links e t k old → (b : BranchFill) → slice_get t.branches k ≡ Some b → HoldsEntry links e b new
lane_held links t e k def baskets offsets old new def_is baskets_are offsets_are number held some lane b is =
    let own = same_Some def b.def (def_is ∙ ap (option_map (λ (c : BranchFill). c.def)) is) in
    let those = same_Some baskets b.baskets (baskets_are ∙ ap (option_map (λ (c : BranchFill). c.baskets)) is) in
    let with_offsets : offsets ≡ has_offsets b.def.shape = offsets_are ∙ ap (λ (d : BranchDef). has_offsets d.shape) own in
    let was = lane b is in
    let low : old.number ≤ basket_number e baskets = subst (λ (l : List BasketAt). old.number ≤ basket_number e l) (sym those) was.number in
    let held_then = held (subst (λ (p : Bool × List BasketAt). IsHeld links p.0 p.1 old.number old.basket) (λ i. (sym with_offsets i, sym those i)) was.held) in
    record {
      number = number low ∙ ap (basket_number e) those;
      some = some;
      held = subst (λ (p : Bool × List BasketAt). IsHeld links p.0 p.1 new.number new.basket) (λ i. (with_offsets i, those i)) held_then;
    }

-- an entry in the open basket needs none
pub none_held : (t : TreeFill) (e k first : ℕ) → Some first ≡ option_map (count_before (entry_count t)) (slice_get t.branches k) → first ≤ e → (b : BranchFill) → slice_get t.branches k ≡ Some b → e < count_before (entry_count t) b → ⊥
none_held t e k first first_is le b is low =
    let same : first ≡ count_before (entry_count t) b = same_Some first (count_before (entry_count t) b) (first_is ∙ ap (option_map (count_before (entry_count t))) is) in
    omega (arith, same, le, low)

-- ---- before the first row

abbrev many : ℕ → Branch → List Branch
many zero b = b ∷ []
many (suc k) b = b ∷ many k b

many_at : (k : ℕ) (b : Branch) → slice_get (many k b) k ≡ Some b
many_at zero b = refl
many_at (suc k) b = many_at k b

-- a branch with these baskets
abbrev branch_with : BranchFill → Bool → List BasketAt → Branch
branch_with b offsets baskets = record { def = b.def; class_version = b.class_version; entries = 0; offsets = offsets; baskets = baskets; counted_by = b.counted_by; refused = None }

-- lanes that hold nothing, whatever file they are of
pub fresh_lanes : (links : List Link) (e : ℕ) (branches : List BranchFill) (lanes : List Lane) → ((file : List ℕ) (e : ℕ) (bs : List Branch) → AreFileLanes file e bs lanes) → AreLanes links e branches lanes
fresh_lanes links e branches lanes empty = λ k b lane is there.
    let offsets = has_offsets b.def.shape in
    let none = (empty [] e (many k (branch_with b offsets [])) k (branch_with b offsets []) lane (many_at k (branch_with b offsets [])) there).0 in
    let first : lane.number ≡ 0 = omega (arith, none) in
    record { number = omega (arith, first); held = by k b lane there first lane.basket refl }
  where
    by : (k : ℕ) (b : BranchFill) (lane : Lane) → slice_get lanes k ≡ Some lane → lane.number ≡ 0 → (o : Option StoredEntries) → lane.basket ≡ o → IsHeld links (has_offsets b.def.shape) b.baskets lane.number o
    by k b lane there first None is = tt
    by k b lane there first (Some found) is = λ at stands bytes among.
        let offsets = has_offsets b.def.shape in
        let own : BasketAt = record { seek = 0; bytes = length bytes; first = 0 } in
        let other = branch_with b offsets (own ∷ []) in
        let held = (empty bytes e (many k other) k other lane (many_at k other) there).1 in
        let same = subst (λ (o : Option StoredEntries). IsFileHeld bytes other lane.number o) is held in
        same own (ap (slice_get (own ∷ [])) first) ∙ ap (entries_in offsets) (take-length bytes)

-- What stays of a tree whose branches are changed.
use Rattle.std.proofs.{Common.{◌≡◌, ◌&&◌, ℕ, zero, suc, ◌<◌, List, [], ◌∷◌, ◌++◌, length, map, take, drop, slice_get, true, false, refl, sym, ap, subst, ◌∙◌, arith}, lemmas.Bool.{and_parts}}
use Rattle.std.proofs.lemmas.List.{append-nil, drop_all, take_all}
use Rattle.std.specs.{Option.{option_map_or}, Prelude.{nat_lt, not, ◌==◌}}
use Rattle.rio_leaf.specs.declared.branch.BranchDef.{BranchDef}
use Rattle.rio_tree.specs.{WrittenLaws.{stated_defs}, declared.basket_at.BasketAt.{BasketAt}, declared.head.Branch.{Branch}}
use Rattle.rio_fill.specs.Fill.{BranchFill, branch_fill_of, branch_put, branches_added, changed_at, count_before, defs_of, has_no_entries, has_room_at, may_be_put}
use Rattle.rio_fill.specs.{Heads.{AreFillable}, Room.{without_room}}

-- all items are written through the slice
pub all_written : {X : Type 0} (len : ℕ) (slice new old : List X) → slice ≡ old → len ≡ length old → length new ≡ length slice → take len (new ++ drop (length new) old) ≡ new
all_written len slice new old same whole kept =
    let same_length = ap length same in
    ap (λ (rest : List _). take len (new ++ rest)) (drop_all (length new) old (omega (arith, kept, same_length)))
    ∙ ap (take len) (append-nil new)
    ∙ take_all len new (omega (arith, kept, same_length, whole))

-- ---- the definitions of the branches

pub defs_put : (at : BasketAt) (bs : List BranchFill) (k : ℕ) → defs_of (changed_at (branch_put at) bs k) ≡ defs_of bs
defs_put at [] k = refl
defs_put at (b ∷ bs) zero = refl
defs_put at (b ∷ bs) (suc k) = ap (λ (ds : List BranchDef). b.def ∷ ds) (defs_put at bs k)

pub defs_added : (bs : List BranchFill) (row : List (List ℕ)) → defs_of (branches_added bs row) ≡ defs_of bs
defs_added [] row = refl
defs_added (b ∷ bs) [] = refl
defs_added (b ∷ bs) (entry ∷ row) = ap (λ (ds : List BranchDef). b.def ∷ ds) (defs_added bs row)

pub defs_begun : (bs : List Branch) → defs_of (map branch_fill_of bs) ≡ stated_defs bs
defs_begun [] = refl
defs_begun (b ∷ bs) = ap (λ (ds : List BranchDef). b.def ∷ ds) (defs_begun bs)

defs_without : (bs : List BranchFill) → defs_of (map without_room bs) ≡ defs_of bs
defs_without [] = refl
defs_without (b ∷ bs) = ap (λ (ds : List BranchDef). b.def ∷ ds) (defs_without bs)

pub defs_same : (new old : List BranchFill) → map without_room new ≡ map without_room old → defs_of new ≡ defs_of old
defs_same new old e = sym (defs_without new) ∙ ap defs_of e ∙ defs_without old

pub fillable : (new old : List BranchFill) → defs_of new ≡ defs_of old → AreFillable (defs_of old) → AreFillable (defs_of new)
fillable new old e fit = subst AreFillable (sym e) fit

-- ---- room for a place

pub room_within : (bs : List BranchFill) (k : ℕ) → has_room_at bs k ≡ true → k < length bs
room_within [] k e = absurd cc
room_within (b ∷ bs) zero e = omega arith
room_within (b ∷ bs) (suc k) e = let more = room_within bs k e in omega arith

pub put_has_room : (count : ℕ) (at : BasketAt) (bs : List BranchFill) (k : ℕ) → option_map_or (may_be_put count at) (slice_get bs k) false ≡ true → has_room_at bs k ≡ true
put_has_room count at [] k e = absurd cc
put_has_room count at (b ∷ bs) zero e =
    let outer = and_parts (not (has_no_entries b)) ((at.first == count_before count b) && nat_lt 0 b.rooms) e in
    (and_parts (at.first == count_before count b) (nat_lt 0 b.rooms) outer.1).1
put_has_room count at (b ∷ bs) (suc k) e = put_has_room count at bs k e

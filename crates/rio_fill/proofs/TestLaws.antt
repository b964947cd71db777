-- What the helpers of the tests need.
use Rattle.std.proofs.Common.{◌≡◌, ℕ, zero, suc, ◌+◌, ◌*◌, ◌<◌, List, [], ◌∷◌, ◌++◌, length, max, drop, slice_get, Bool, true, false, Option, Some, None, refl, sym, ap, subst, ◌∙◌, append_assoc, arith}
use Rattle.std.proofs.{lemmas.Bool.{and_from, and_parts, eq-eqb, Decides.{nat_tests}}, lemmas.List.{append-nil}}
use Rattle.std.specs.{List.{list_all}, Option.{option_map, option_map_or}, Prelude.{is_some, not, nat_lt, option_and_then, if◌then◌else◌}}
use Rattle.rio_tree.specs.declared.basket_at.BasketAt.{BasketAt}
use Rattle.rio_fill.specs.Fill.{BranchFill, TreeFill, bit_of, count_before, defs_of, entry_count, full_flags, has_no_entries, may_be_put, may_put, takes}
use Rattle.rio_fill.specs.{Heads.{are_places}, Prepare.{are_sized, is_sized}, Room.{branch_reserved, branches_reserved, may_add, reserved}}
use Rattle.rio_fill.proofs.RoomLaws.{row_may_be_added}

-- ---- an open basket that may be put

abbrev pub place_of : ℕ → BranchFill → Option BasketAt
place_of count b = if has_no_entries b then None else Some (record { bytes = 1; first = count_before count b; seek = count_before count b })

abbrev pub place_at : ℕ → List BranchFill → ℕ → Option BasketAt
place_at count bs k = option_and_then (place_of count) (slice_get bs k)

room_made : (n : ℕ) → nat_lt 0 (max n 1) ≡ true
room_made n = let lt : 0 < max n 1 = omega arith in grind (arith, nat_tests)

place_fits : (count : ℕ) (b : BranchFill) (at : BasketAt) → nat_lt 0 b.rooms ≡ true → place_of count b ≡ Some at → may_be_put count at b ≡ true
place_fits count b at room e = by (has_no_entries b) refl e
  where
    there : BasketAt
    there = record { bytes = 1; first = count_before count b; seek = count_before count b }

    by : (t : Bool) → has_no_entries b ≡ t → (if t then None else Some there) ≡ Some at → may_be_put count at b ≡ true
    by true is e = absurd cc
    by false is e =
        let same : there ≡ at = cc in
        subst (λ (a : BasketAt). may_be_put count a b ≡ true) same
        (and_from _ _ (ap not is) (and_from _ _ (eq-eqb (count_before count b) (count_before count b) refl) room))

pub place_may_be_put : (count : ℕ) (bs : List BranchFill) (k : ℕ) (at : BasketAt) → place_at count (branches_reserved bs None) k ≡ Some at
    → option_map_or (may_be_put count at) (slice_get (branches_reserved bs None) k) false ≡ true
place_may_be_put count [] k at e = absurd cc
place_may_be_put count (b ∷ bs) zero at e = place_fits count (branch_reserved b None) at (room_made b.rooms) e
place_may_be_put count (b ∷ bs) (suc k) at e = place_may_be_put count bs k at e

-- ---- a row that no basket is full for

none_set : (t : Bool) (rest : ℕ) → bit_of (not t) + 2 * rest ≡ 0 → (t ≡ true) × (rest ≡ 0)
none_set true rest e = (refl, omega (arith, e))
none_set false rest e = absurd (omega (arith, e))

pub unflagged_row_may_be_added : (bs : List BranchFill) (row : List (List ℕ)) → are_sized (defs_of bs) row ≡ true → full_flags bs row ≡ 0 → may_add (branches_reserved bs (Some row)) row ≡ true
unflagged_row_may_be_added [] [] sized e = refl
unflagged_row_may_be_added [] (entry ∷ row) sized e = absurd cc
unflagged_row_may_be_added (b ∷ bs) [] sized e = absurd cc
unflagged_row_may_be_added (b ∷ bs) (entry ∷ row) sized e =
    let parts = and_parts (is_sized b.def.shape entry) (are_sized (defs_of bs) row) sized in
    let flags = none_set (takes b entry) (full_flags bs row) e in
    and_from _ _ ((row_may_be_added b entry parts.0).0 flags.0) (unflagged_row_may_be_added bs row parts.1 flags.1)

-- ---- a walk over the branches

wanted : (count : ℕ) (b : BranchFill) (bs : List BranchFill) (rest : List BasketAt) (at : BasketAt) → place_of count b ≡ Some at → are_places count (b ∷ bs) (at ∷ rest) ≡ are_places count bs rest
wanted count b bs rest at e = by (has_no_entries b) refl e
  where
    there : BasketAt
    there = record { bytes = 1; first = count_before count b; seek = count_before count b }

    by : (t : Bool) → has_no_entries b ≡ t → (if t then None else Some there) ≡ Some at → are_places count (b ∷ bs) (at ∷ rest) ≡ are_places count bs rest
    by true is e = absurd cc
    by false is e =
        let same : there ≡ at = cc in
        let begins = eq-eqb (count_before count b) (count_before count b) refl in
        subst (λ (a : BasketAt). are_places count (b ∷ bs) (a ∷ rest) ≡ are_places count bs rest) same (rw (is, begins) refl)

pub place_goes_on : (count : ℕ) (bs : List BranchFill) (k : ℕ) (rest : List BasketAt) (at : BasketAt) → place_at count bs k ≡ Some at
    → are_places count (drop k bs) (at ∷ rest) ≡ are_places count (drop (suc k) bs) rest
place_goes_on count [] k rest at e = absurd cc
place_goes_on count (b ∷ bs) zero rest at e = wanted count b bs rest at e
place_goes_on count (b ∷ bs) (suc k) rest at e = place_goes_on count bs k rest at e

unwanted : (count : ℕ) (b : BranchFill) (bs : List BranchFill) (rest : List BasketAt) → place_of count b ≡ None → are_places count (b ∷ bs) rest ≡ are_places count bs rest
unwanted count b bs rest e = by (has_no_entries b) refl e
  where
    there : BasketAt
    there = record { bytes = 1; first = count_before count b; seek = count_before count b }

    by : (t : Bool) → has_no_entries b ≡ t → (if t then None else Some there) ≡ None → are_places count (b ∷ bs) rest ≡ are_places count bs rest
    by true is e = rw is refl
    by false is e = absurd cc

pub no_place_goes_on : (count : ℕ) (bs : List BranchFill) (k : ℕ) (rest : List BasketAt) → place_at count bs k ≡ None → are_places count (drop k bs) rest ≡ are_places count (drop (suc k) bs) rest
no_place_goes_on count [] zero rest e = refl
no_place_goes_on count [] (suc k) rest e = refl
no_place_goes_on count (b ∷ bs) zero rest e = unwanted count b bs rest e
no_place_goes_on count (b ∷ bs) (suc k) rest e = no_place_goes_on count bs k rest e

-- ---- how many entries are open

abbrev pub count_at : List BranchFill → ℕ → Option ℕ
count_at bs k = option_map (λ b. length b.entries) (slice_get bs k)

pub no_branch_left : (bs : List BranchFill) (k : ℕ) → count_at bs k ≡ None → drop k bs ≡ []
no_branch_left [] zero e = refl
no_branch_left [] (suc k) e = refl
no_branch_left (b ∷ bs) zero e = absurd cc
no_branch_left (b ∷ bs) (suc k) e = no_branch_left bs k e

pub empty_goes_on : (bs : List BranchFill) (k n : ℕ) → count_at bs k ≡ Some n → n ≡ 0 → list_all has_no_entries (drop k bs) ≡ list_all has_no_entries (drop (suc k) bs)
empty_goes_on [] k n e none = absurd cc
empty_goes_on (b ∷ bs) zero n e none =
    let same : length b.entries ≡ n = cc in
    let test = eq-eqb (length b.entries) 0 (same ∙ none) in
    rw test refl
empty_goes_on (b ∷ bs) (suc k) n e none = empty_goes_on bs k n e none

-- ---- what a call needs

pub put_is_allowed : (t new : TreeFill) (k : ℕ) (at : BasketAt) → new ≡ reserved t None → place_at (entry_count new) new.branches k ≡ Some at → may_put new k at ≡ true
put_is_allowed t new k at e there =
    let P : TreeFill → Type 0 = λ f. place_at (entry_count f) f.branches k ≡ Some at → may_put f k at ≡ true in
    subst P (sym e) (place_may_be_put (entry_count t) t.branches k at) there

pub add_is_allowed : (t new : TreeFill) (row : List (List ℕ)) → new ≡ reserved t (Some row) → are_sized (defs_of t.branches) row ≡ true → full_flags t.branches row ≡ 0 → may_add new.branches row ≡ true
add_is_allowed t new row e sized none = ap (λ (f : TreeFill). may_add f.branches row) e ∙ unflagged_row_may_be_added t.branches row sized none

-- ---- the places so far

abbrev pub Placed : ℕ → List BranchFill → ℕ → List BasketAt → Type 0
Placed count bs k ats = (rest : List BasketAt) → are_places count (drop k bs) rest ≡ are_places count bs (ats ++ rest)

not_some : (o : Option ℕ) → is_some o ≡ false → o ≡ None
not_some None e = refl
not_some (Some x) e = absurd cc

pub all_placed : (count : ℕ) (bs : List BranchFill) (k : ℕ) (ats : List BasketAt) → Placed count bs k ats → is_some (count_at bs k) ≡ false → are_places count bs ats ≡ true
all_placed count bs k ats so_far none =
    ap (are_places count bs) (sym (append-nil ats))
    ∙ sym (so_far [])
    ∙ ap (λ (l : List BranchFill). are_places count l []) (no_branch_left bs k (not_some (count_at bs k) none))

pub one_placed : (count : ℕ) (bs : List BranchFill) (k : ℕ) (ats : List BasketAt) (at : BasketAt) → Placed count bs k ats → place_at count bs k ≡ Some at → Placed count bs (suc k) (ats ++ at ∷ [])
one_placed count bs k ats at so_far e = λ rest. sym (place_goes_on count bs k rest at e) ∙ so_far (at ∷ rest) ∙ ap (are_places count bs) (sym (append_assoc ats (at ∷ []) rest))

pub none_placed : (count : ℕ) (bs : List BranchFill) (k : ℕ) (ats : List BasketAt) → Placed count bs k ats → place_at count bs k ≡ None → Placed count bs (suc k) ats
none_placed count bs k ats so_far e = λ rest. sym (no_place_goes_on count bs k rest e) ∙ so_far rest

-- Once room is made, the baskets that a row or a save needs may be put, and the row may be added; and what is kept then is the same but for the room.
use Rattle.std.proofs.Common.{◌≡◌, ℕ, suc, ◌+◌, ◌-◌, ◌==◌, ◌&&◌, ◌||◌, ◌≤◌, max, List, [], ◌∷◌, ◌++◌, length, map, nat_le, nat_lt, Bool, true, false, not, Option, Some, None, refl, sym, ap, ◌∙◌, arith}
use Rattle.std.proofs.lemmas.Bool.{and_from, and_parts, lt-ltb}
use Rattle.std.specs.List.{list_all}
use Rattle.rio_key.specs.OpenBasket.{entries_length}
use Rattle.rio_chain.specs.{Changes.{with_record}, Placing.{place_of, with_segment}, declared.segment.Segment.{Segment}}
use Rattle.rio_tree.specs.declared.basket_at.BasketAt.{BasketAt}
use Rattle.rio_effect.specs.TreeRecords.{basket_at, length_of_basket, record_of_basket}
use Rattle.rio_fill.specs.{Fill.{BranchFill, TreeFill, all_saved, branch_added, branch_put, branches_added, count_before, defs_of, has_no_entries, may_be_put, row_added, takes}, Prepare.{are_sized, is_sized}, Room.{branch_reserved, branches_reserved, entries_behind, may_add, reserved, without_room}}
use Rattle.rio_fill.proofs.RoomLaws.{row_may_be_added}
use Rattle.rio_session.specs.{Fillings.{branches_become, full_list, open_list, put_open, words_of_open}, Fills.{bare}, Measures.{flags_for, flags_in}}
use Rattle.rio_session.specs.Noted.{are_firsts, branches_put, can_be_noted, filled_then, flagged, saved_then}

room_made : (n : ℕ) → nat_lt 0 (max n 1) ≡ true
room_made n = lt-ltb 0 (max n 1) (omega arith)

-- ---- for a row

taken_nothing : (b : BranchFill) (entry : List ℕ) → takes b entry ≡ false → has_no_entries b ≡ false
taken_nothing b entry full = by (has_no_entries b) refl
  where
    by : (t : Bool) → has_no_entries b ≡ t → t ≡ false
    by true is = let taken : takes b entry ≡ true = ap (λ (u : Bool). u || (nat_le (entries_length b.entries + length entry) 32000 && nat_lt (length b.entries) 8192)) is in absurd cc
    by false is = refl

row_branch : (count : ℕ) (at : BasketAt) (b : BranchFill) (entry : List ℕ) → takes b entry ≡ false → (at.first == count_before count b) ≡ true → may_be_put count at (branch_reserved b (Some entry)) ≡ true
row_branch count at b entry full first =
    let some = taken_nothing b entry full in
    let room = room_made b.rooms in
    rw (full, some, first, room) refl

row_first : (count : ℕ) (b : BranchFill) (entry : List ℕ) → takes b entry ≡ false → (cs ds : List BranchFill) (ats : List BasketAt) → ((xs : List BasketAt) → are_firsts count xs cs ≡ true → can_be_noted count xs ds ≡ true)
    → are_firsts count ats (b ∷ cs) ≡ true → can_be_noted count ats (branch_reserved b (Some entry) ∷ ds) ≡ true
row_first count b entry full cs ds [] rest firsts = absurd cc
row_first count b entry full cs ds (at ∷ ats) rest firsts =
    let two = and_parts (at.first == count_before count b) (are_firsts count ats cs) firsts in
    and_from _ _ (row_branch count at b entry full two.0) (rest ats two.1)

pub can_row : (count : ℕ) (bs : List BranchFill) (row : List (List ℕ)) (ats : List BasketAt) → length row ≡ length bs → are_firsts count ats (flagged bs (full_list bs row)) ≡ true
    → can_be_noted count ats (flagged (branches_reserved bs (Some row)) (full_list bs row)) ≡ true
can_row count [] row ats same firsts = firsts
can_row count (b ∷ bs) [] ats same firsts = absurd (omega (arith, same))
can_row count (b ∷ bs) (entry ∷ row) ats same firsts = by (λ xs f. can_row count bs row xs (omega (arith, same)) f) (takes b entry) refl firsts
  where
    by : ((xs : List BasketAt) → are_firsts count xs (flagged bs (full_list bs row)) ≡ true → can_be_noted count xs (flagged (branches_reserved bs (Some row)) (full_list bs row)) ≡ true)
        → (t : Bool) → takes b entry ≡ t → are_firsts count ats (flagged (b ∷ bs) (not t ∷ full_list bs row)) ≡ true
        → can_be_noted count ats (flagged (branch_reserved b (Some entry) ∷ branches_reserved bs (Some row)) (not t ∷ full_list bs row)) ≡ true
    by rest true is f = rest ats f
    by rest false is f = row_first count b entry is (flagged bs (full_list bs row)) (flagged (branches_reserved bs (Some row)) (full_list bs row)) ats rest f

may_first : (count : ℕ) (b : BranchFill) (entry : List ℕ) → is_sized b.def.shape entry ≡ true → takes b entry ≡ false → (cs bs : List BranchFill) (fs : List Bool) (row : List (List ℕ)) (ats : List BasketAt)
    → ((xs : List BasketAt) → are_firsts count xs cs ≡ true → may_add (branches_put xs fs bs) row ≡ true) → are_firsts count ats (b ∷ cs) ≡ true
    → may_add (branches_put ats (true ∷ fs) (branch_reserved b (Some entry) ∷ bs)) (entry ∷ row) ≡ true
may_first count b entry sized full cs bs fs row [] rest firsts = absurd cc
may_first count b entry sized full cs bs fs row (at ∷ ats) rest firsts =
    let two = and_parts (at.first == count_before count b) (are_firsts count ats cs) firsts in
    and_from _ _ ((row_may_be_added b entry sized).1 at full) (rest ats two.1)

pub may_row : (count : ℕ) (bs : List BranchFill) (row : List (List ℕ)) (ats : List BasketAt) → are_sized (defs_of bs) row ≡ true → are_firsts count ats (flagged bs (full_list bs row)) ≡ true
    → may_add (branches_put ats (full_list bs row) (branches_reserved bs (Some row))) row ≡ true
may_row count [] [] ats sized firsts = refl
may_row count [] (entry ∷ row) ats sized firsts = absurd cc
may_row count (b ∷ bs) [] ats sized firsts = absurd cc
may_row count (b ∷ bs) (entry ∷ row) ats sized firsts =
    let two = and_parts (is_sized b.def.shape entry) (are_sized (defs_of bs) row) sized in
    by two.0 (λ xs f. may_row count bs row xs two.1 f) (takes b entry) refl firsts
  where
    by : is_sized b.def.shape entry ≡ true → ((xs : List BasketAt) → are_firsts count xs (flagged bs (full_list bs row)) ≡ true → may_add (branches_put xs (full_list bs row) (branches_reserved bs (Some row))) row ≡ true)
        → (t : Bool) → takes b entry ≡ t → are_firsts count ats (flagged (b ∷ bs) (not t ∷ full_list bs row)) ≡ true
        → may_add (branches_put ats (not t ∷ full_list bs row) (branch_reserved b (Some entry) ∷ branches_reserved bs (Some row))) (entry ∷ row) ≡ true
    by sized rest true is f = and_from _ _ ((row_may_be_added b entry sized).0 is) (rest ats f)
    by sized rest false is f = may_first count b entry sized is (flagged bs (full_list bs row)) (branches_reserved bs (Some row)) (full_list bs row) row ats rest f

-- ---- for a save

save_branch : (count : ℕ) (at : BasketAt) (b : BranchFill) → has_no_entries b ≡ false → (at.first == count_before count b) ≡ true → may_be_put count at (branch_reserved b None) ≡ true
save_branch count at b some first = let room = room_made b.rooms in rw (some, first, room) refl

save_first : (count : ℕ) (b : BranchFill) → has_no_entries b ≡ false → (cs ds : List BranchFill) (ats : List BasketAt) → ((xs : List BasketAt) → are_firsts count xs cs ≡ true → can_be_noted count xs ds ≡ true)
    → are_firsts count ats (b ∷ cs) ≡ true → can_be_noted count ats (branch_reserved b None ∷ ds) ≡ true
save_first count b some cs ds [] rest firsts = absurd cc
save_first count b some cs ds (at ∷ ats) rest firsts =
    let two = and_parts (at.first == count_before count b) (are_firsts count ats cs) firsts in
    and_from _ _ (save_branch count at b some two.0) (rest ats two.1)

pub can_save : (count : ℕ) (bs : List BranchFill) (ats : List BasketAt) → are_firsts count ats (flagged bs (open_list bs)) ≡ true → can_be_noted count ats (flagged (branches_reserved bs None) (open_list bs)) ≡ true
can_save count [] ats firsts = firsts
can_save count (b ∷ bs) ats firsts = by (λ xs f. can_save count bs xs f) (has_no_entries b) refl firsts
  where
    by : ((xs : List BasketAt) → are_firsts count xs (flagged bs (open_list bs)) ≡ true → can_be_noted count xs (flagged (branches_reserved bs None) (open_list bs)) ≡ true)
        → (t : Bool) → has_no_entries b ≡ t → are_firsts count ats (flagged (b ∷ bs) (not t ∷ open_list bs)) ≡ true
        → can_be_noted count ats (flagged (branch_reserved b None ∷ branches_reserved bs None) (not t ∷ open_list bs)) ≡ true
    by rest true is f = rest ats f
    by rest false is f = save_first count b is (flagged bs (open_list bs)) (flagged (branches_reserved bs None) (open_list bs)) ats rest f

closed_first : (count : ℕ) (b : BranchFill) (cs bs : List BranchFill) (fs : List Bool) (ats : List BasketAt) → ((xs : List BasketAt) → are_firsts count xs cs ≡ true → list_all has_no_entries (branches_put xs fs bs) ≡ true)
    → are_firsts count ats (b ∷ cs) ≡ true → list_all has_no_entries (branches_put ats (true ∷ fs) (branch_reserved b None ∷ bs)) ≡ true
closed_first count b cs bs fs [] rest firsts = absurd cc
closed_first count b cs bs fs (at ∷ ats) rest firsts =
    let two = and_parts (at.first == count_before count b) (are_firsts count ats cs) firsts in rest ats two.1

-- no basket is open then
pub all_closed : (count : ℕ) (bs : List BranchFill) (ats : List BasketAt) → are_firsts count ats (flagged bs (open_list bs)) ≡ true → list_all has_no_entries (branches_put ats (open_list bs) (branches_reserved bs None)) ≡ true
all_closed count [] ats firsts = refl
all_closed count (b ∷ bs) ats firsts = by (λ xs f. all_closed count bs xs f) (has_no_entries b) refl firsts
  where
    by : ((xs : List BasketAt) → are_firsts count xs (flagged bs (open_list bs)) ≡ true → list_all has_no_entries (branches_put xs (open_list bs) (branches_reserved bs None)) ≡ true)
        → (t : Bool) → has_no_entries b ≡ t → are_firsts count ats (flagged (b ∷ bs) (not t ∷ open_list bs)) ≡ true
        → list_all has_no_entries (branches_put ats (not t ∷ open_list bs) (branch_reserved b None ∷ branches_reserved bs None)) ≡ true
    by rest true is f = and_from _ _ is (rest ats f)
    by rest false is f = closed_first count b (flagged bs (open_list bs)) (branches_reserved bs None) (open_list bs) ats rest f

-- ---- without the room

bare_reserved : (b : BranchFill) (entry : Option (List ℕ)) → without_room (branch_reserved b entry) ≡ without_room b
bare_reserved b None = refl
bare_reserved b (Some entry) = by (takes b entry) refl
  where
    by : (t : Bool) → takes b entry ≡ t → without_room (branch_reserved b (Some entry)) ≡ without_room b
    by true is = rw is refl
    by false is = rw is refl

pub all_reserved : (bs : List BranchFill) (row : List (List ℕ)) → length row ≡ length bs → map without_room (branches_reserved bs (Some row)) ≡ map without_room bs
all_reserved [] row same = refl
all_reserved (b ∷ bs) [] same = absurd (omega (arith, same))
all_reserved (b ∷ bs) (entry ∷ row) same =
    let first = bare_reserved b (Some entry) in
    let rest = all_reserved bs row (omega (arith, same)) in
    λ i. first i ∷ rest i

pub none_reserved : (bs : List BranchFill) → map without_room (branches_reserved bs None) ≡ map without_room bs
none_reserved [] = refl
none_reserved (b ∷ bs) = ap (λ (l : List BranchFill). without_room b ∷ l) (none_reserved bs)

pub bare_put : (ats : List BasketAt) (fs : List Bool) (bs : List BranchFill) → map without_room (branches_put ats fs bs) ≡ branches_put ats fs (map without_room bs)
bare_put ats fs [] = refl
bare_put ats [] (b ∷ bs) = refl
bare_put ats (false ∷ fs) (b ∷ bs) = ap (λ (l : List BranchFill). without_room b ∷ l) (bare_put ats fs bs)
bare_put [] (true ∷ fs) (b ∷ bs) = ap (λ (l : List BranchFill). without_room b ∷ l) (bare_put [] fs bs)
bare_put (at ∷ ats) (true ∷ fs) (b ∷ bs) = ap (λ (l : List BranchFill). without_room (branch_put at b) ∷ l) (bare_put ats fs bs)

one_added : (b : BranchFill) (entry : List ℕ) → branch_added (without_room b) entry ≡ without_room (branch_added b entry)
one_added b entry =
    let none : 0 - length entry ≡ 0 = omega arith in
    λ i. record (without_room (branch_added b entry)) { room = record { rooms = 0; spare = none i } }

pub bare_added : (bs : List BranchFill) (row : List (List ℕ)) → branches_added (map without_room bs) row ≡ map without_room (branches_added bs row)
bare_added [] row = refl
bare_added (b ∷ bs) [] = refl
bare_added (b ∷ bs) (entry ∷ row) = let first = one_added b entry in let rest = bare_added bs row in λ i. first i ∷ rest i

reserved_long : (bs : List BranchFill) (row : Option (List (List ℕ))) → length (branches_reserved bs row) ≡ length bs
reserved_long [] row = refl
reserved_long (b ∷ bs) row = ap suc (reserved_long bs (entries_behind row 1))

pub reserved_flags : (bs : List BranchFill) (row : Option (List (List ℕ))) (flags : ℕ) → flags_for (branches_reserved bs row) flags ≡ flags_for bs flags
reserved_flags bs row flags = ap (λ (n : ℕ). flags_in n flags) (reserved_long bs row)

-- what is kept of a tree with a row more, seen without the room
pub kept_filled : (ats : List BasketAt) (flags : ℕ) (row : List (List ℕ)) (t : TreeFill) → length row ≡ length t.branches
    → bare (filled_then ats flags row (reserved t (Some row))) ≡ row_added (branches_become (branches_put ats (flags_for t.branches flags) (bare t).branches) (bare t)) row
kept_filled ats flags row t same =
    let fs = flags_for t.branches flags in
    let made = branches_reserved t.branches (Some row) in
    let branches : map without_room (branches_added (branches_put ats (flags_for made flags) made) row) ≡ branches_added (branches_put ats fs (map without_room t.branches)) row =
    sym (bare_added (branches_put ats (flags_for made flags) made) row)
    ∙ ap (λ (l : List BranchFill). branches_added l row) (bare_put ats (flags_for made flags) made)
    ∙ ap (λ (l : List Bool). branches_added (branches_put ats l (map without_room made)) row) (reserved_flags t.branches (Some row) flags)
    ∙ ap (λ (l : List BranchFill). branches_added (branches_put ats fs l) row) (all_reserved t.branches row same) in
    λ i. record { saved = t.saved; pending = t.pending + 1; branches = branches i }

-- and of one that is saved
pub kept_saved : (ats : List BasketAt) (flags : ℕ) (t : TreeFill) → bare (saved_then ats flags (reserved t None)) ≡ all_saved (branches_become (branches_put ats (flags_for t.branches flags) (bare t).branches) (bare t))
kept_saved ats flags t =
    let fs = flags_for t.branches flags in
    let made = branches_reserved t.branches None in
    let branches : map without_room (branches_put ats (flags_for made flags) made) ≡ branches_put ats fs (map without_room t.branches) =
    bare_put ats (flags_for made flags) made
    ∙ ap (λ (l : List Bool). branches_put ats l (map without_room made)) (reserved_flags t.branches None flags)
    ∙ ap (branches_put ats fs) (none_reserved t.branches) in
    λ i. record { saved = t.saved + t.pending; pending = 0; branches = branches i }

-- ---- the puts are the same

pub put_bare : (datime : ℕ) (tree : List ℕ) (count : ℕ) (segments : List Segment) (bs : List BranchFill) (fs : List Bool)
    → put_open datime tree count segments (map without_room bs) fs ≡ record (put_open datime tree count segments bs fs) { branches = map without_room (put_open datime tree count segments bs fs).branches }
put_bare datime tree count segments [] fs = refl
put_bare datime tree count segments (b ∷ bs) [] = refl
put_bare datime tree count segments (b ∷ bs) (false ∷ fs) =
    let rest = put_bare datime tree count segments bs fs in
    λ i. record { lengths = (rest i).lengths; changes = (rest i).changes; segments = (rest i).segments; branches = without_room b ∷ (rest i).branches }
put_bare datime tree count segments (b ∷ bs) (true ∷ fs) =
    let words = words_of_open tree datime b in
    let n = length_of_basket words in
    let place = place_of segments n in
    let put = without_room (branch_put (basket_at place (count_before count b) words) b) in
    let rest = put_bare datime tree count (with_segment place n segments) bs fs in
    λ i. record { lengths = n ∷ (rest i).lengths; changes = with_record place (record_of_basket place words) ∷ (rest i).changes; segments = (rest i).segments; branches = put ∷ (rest i).branches }

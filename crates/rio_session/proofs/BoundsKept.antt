-- The bounds of what is kept of a tree stay while rows come and baskets are put.
use Rattle.std.proofs.Common.{◌≡◌, ℕ, suc, ◌+◌, ◌==◌, ◌&&◌, ◌||◌, ◌≤◌, ◌<◌, ◌^◌, List, [], ◌∷◌, ◌++◌, length, map, nat_le, nat_lt, Bool, true, false, not, refl, sym, ap, subst, ◌∙◌, arith}
use Rattle.std.proofs.lemmas.{Bool.{and_from, and_parts, leb-true, ltb-true, ne_eqb}, List.{append-nil, length-append, length-map}, List.Elements.{All-from_recursion, All-head, All-tail, recursion_from_All}, List.Folds.{concat-append, list_all-append}, List.Sums.{sum_by-cons}}
use Rattle.std.specs.List.{AllByRecursion, concat, list_all, sum_by}
use Rattle.rio_num.specs.Word.{begins_name, goes_on_name, is_name_text}
use Rattle.rio_leaf.specs.{Stated.{all_leaves, are_branches_behind, has_branch, is_stated_branch, is_stated_shape}, declared.branch.BranchDef.{BranchDef}}
use Rattle.rio_key.specs.OpenBasket.{entries_length, takes_entry}
use Rattle.rio_tree.specs.{HeaderLength.{basket_count, header_size}, WrittenLaws.{stated_defs}, declared.basket_at.BasketAt.{BasketAt}, declared.head.Branch.{Branch}, declared.head.TreeHead.{TreeHead}}
use Rattle.rio_fill.specs.{Fill.{BranchFill, TreeFill, branch_added, branch_fill_of, branch_put, branches_added, defs_of, fill_of, takes}, Heads.{AreFillable}, Laws.{IsSmall}, Prepare.{is_sized}, Room.{may_add, may_be_added, without_room}}
use Rattle.rio_session.specs.{Due.{written_count}, Measures.{IsBoundedBranch, IsBoundedTree, IsSmallRow, flags_for}}
use Rattle.rio_session.specs.Noted.{CanBeFilledThen, CanBeNoted, CanBeSavedThen, branches_put, filled_then, noted, saved_then}
use Rattle.rio_session.proofs.Summed.{written_more}

-- ---- a tree that is begun

name_short : (name : List ℕ) → is_name_text name ≡ true → length name ≤ 100
name_short [] is = absurd cc
name_short (b ∷ bs) is =
    let two = and_parts (begins_name b && list_all goes_on_name bs) (nat_le (length (b ∷ bs)) 100) is in
    leb-true (length (b ∷ bs)) 100 two.1

names_short : (before : List BranchDef) (bs : List Branch) → are_branches_behind before (stated_defs bs) ≡ true → AllByRecursion IsBoundedBranch (map branch_fill_of bs)
names_short before [] are = tt
names_short before (b ∷ bs) are =
    let two = and_parts (is_stated_branch before b.def) (are_branches_behind (before ++ b.def ∷ []) (stated_defs bs)) are in
    let front = and_parts (is_name_text b.def.name && not (has_branch before b.def.name)) (is_stated_shape (all_leaves before) b.def.shape) two.0 in
    let name = and_parts (is_name_text b.def.name) (not (has_branch before b.def.name)) front.0 in (
      record { named = name_short b.def.name name.0; small = record { count = omega arith; bytes = omega arith }; sized = refl },
      names_short (before ++ b.def ∷ []) bs two.1,
    )

begun_defs : (bs : List Branch) → defs_of (map branch_fill_of bs) ≡ stated_defs bs
begun_defs [] = refl
begun_defs (b ∷ bs) = ap (λ (ds : List BranchDef). b.def ∷ ds) (begun_defs bs)

begun_written : (bs : List Branch) → written_count (map branch_fill_of bs) ≡ sum_by (λ b. length b.baskets) bs
begun_written [] = refl
begun_written (b ∷ bs) = omega (arith, written_more (branch_fill_of b) (map branch_fill_of bs), begun_written bs, sum_by-cons (λ (x : Branch). length x.baskets) b bs)

-- what is kept of a tree with this header, and nothing pending
pub bounded_begun : (name : List ℕ) (head : TreeHead) → length name ≤ 100 → AreFillable (stated_defs head.branches) → basket_count head < 2 ^ 32 → header_size name (stated_defs head.branches) < 2 ^ 30 → IsBoundedTree name (fill_of head)
bounded_begun name head short fillable few low =
    let stated = and_parts (not (length (stated_defs head.branches) == 0)) (are_branches_behind [] (stated_defs head.branches)) fillable.stated in
    record {
      named = short;
      few = omega (arith, fillable.few, length-map head.branches branch_fill_of, length-map head.branches (λ (b : Branch). b.def));
      each = All-from_recursion IsBoundedBranch (map branch_fill_of head.branches) (names_short [] head.branches stated.1);
      written = omega (arith, few, begun_written head.branches);
      header = subst (λ (ds : List BranchDef). header_size name ds < 2 ^ 30) (sym (begun_defs head.branches)) low;
    }

-- ---- without the room

-- the bounds hang on no room
bare_defs : (bs : List BranchFill) → defs_of (map without_room bs) ≡ defs_of bs
bare_defs [] = refl
bare_defs (b ∷ bs) = ap (λ (ds : List BranchDef). b.def ∷ ds) (bare_defs bs)

bare_written : (bs : List BranchFill) → written_count (map without_room bs) ≡ written_count bs
bare_written [] = refl
bare_written (b ∷ bs) = omega (arith, written_more (without_room b) (map without_room bs), bare_written bs, written_more b bs)

bare_length : (bs : List BranchFill) → length (map without_room bs) ≡ length bs
bare_length [] = refl
bare_length (b ∷ bs) = ap suc (bare_length bs)

bare_branch : (b : BranchFill) → IsBoundedBranch b → IsBoundedBranch (without_room b)
bare_branch b is = record { named = is.named; small = is.small; sized = is.sized }

full_branch : (b : BranchFill) → IsBoundedBranch (without_room b) → IsBoundedBranch b
full_branch b is = record { named = is.named; small = is.small; sized = is.sized }

bare_each : (bs : List BranchFill) → AllByRecursion IsBoundedBranch bs → AllByRecursion IsBoundedBranch (map without_room bs)
bare_each [] all = tt
bare_each (b ∷ bs) all = (bare_branch b all.0, bare_each bs all.1)

full_each : (bs : List BranchFill) → AllByRecursion IsBoundedBranch (map without_room bs) → AllByRecursion IsBoundedBranch bs
full_each [] all = tt
full_each (b ∷ bs) all = (full_branch b all.0, full_each bs all.1)

pub bounded_alike : (name : List ℕ) (old new : TreeFill) → map without_room new.branches ≡ map without_room old.branches → IsBoundedTree name old → IsBoundedTree name new
bounded_alike name old new same is =
    let defs : defs_of old.branches ≡ defs_of new.branches = sym (bare_defs old.branches) ∙ ap defs_of (sym same) ∙ bare_defs new.branches in
    let all = subst (AllByRecursion IsBoundedBranch) (sym same) (bare_each old.branches (recursion_from_All IsBoundedBranch old.branches is.each)) in
    record {
      named = is.named;
      few = omega (arith, is.few, bare_length old.branches, bare_length new.branches, ap length same);
      each = All-from_recursion IsBoundedBranch new.branches (full_each new.branches all);
      written = omega (arith, is.written, bare_written old.branches, bare_written new.branches, ap written_count same);
      header = subst (λ (ds : List BranchDef). header_size name ds < 2 ^ 30) defs is.header;
    }

pub header_alike : (name : List ℕ) (old new : TreeFill) → map without_room new.branches ≡ map without_room old.branches → header_size name (defs_of old.branches) ≡ header_size name (defs_of new.branches)
header_alike name old new same = ap (header_size name) (sym (bare_defs old.branches) ∙ ap defs_of (sym same) ∙ bare_defs new.branches)

-- ---- baskets are put

pub put_defs : (ats : List BasketAt) (fs : List Bool) (bs : List BranchFill) → defs_of (branches_put ats fs bs) ≡ defs_of bs
put_defs ats fs [] = refl
put_defs ats [] (b ∷ bs) = refl
put_defs ats (false ∷ fs) (b ∷ bs) = ap (λ (ds : List BranchDef). b.def ∷ ds) (put_defs ats fs bs)
put_defs [] (true ∷ fs) (b ∷ bs) = ap (λ (ds : List BranchDef). b.def ∷ ds) (put_defs [] fs bs)
put_defs (at ∷ ats) (true ∷ fs) (b ∷ bs) = ap (λ (ds : List BranchDef). b.def ∷ ds) (put_defs ats fs bs)

put_long : (ats : List BasketAt) (fs : List Bool) (bs : List BranchFill) → length (branches_put ats fs bs) ≡ length bs
put_long ats fs [] = refl
put_long ats [] (b ∷ bs) = refl
put_long ats (false ∷ fs) (b ∷ bs) = ap suc (put_long ats fs bs)
put_long [] (true ∷ fs) (b ∷ bs) = ap suc (put_long [] fs bs)
put_long (at ∷ ats) (true ∷ fs) (b ∷ bs) = ap suc (put_long ats fs bs)

put_branch : (at : BasketAt) (b : BranchFill) → IsBoundedBranch b → IsBoundedBranch (branch_put at b)
put_branch at b is = record { named = is.named; small = record { count = omega arith; bytes = omega arith }; sized = refl }

put_each : (ats : List BasketAt) (fs : List Bool) (bs : List BranchFill) → AllByRecursion IsBoundedBranch bs → AllByRecursion IsBoundedBranch (branches_put ats fs bs)
put_each ats fs [] all = tt
put_each ats [] (b ∷ bs) all = all
put_each ats (false ∷ fs) (b ∷ bs) all = (all.0, put_each ats fs bs all.1)
put_each [] (true ∷ fs) (b ∷ bs) all = (all.0, put_each [] fs bs all.1)
put_each (at ∷ ats) (true ∷ fs) (b ∷ bs) all = (put_branch at b all.0, put_each ats fs bs all.1)

pub bounded_noted : (name : List ℕ) (ats : List BasketAt) (flags : ℕ) (t : TreeFill) → IsBoundedTree name t → CanBeNoted ats flags t → IsBoundedTree name (noted ats flags t)
bounded_noted name ats flags t is can =
    let fs = flags_for t.branches flags in
    record {
      named = is.named;
      few = omega (arith, is.few, put_long ats fs t.branches);
      each = All-from_recursion IsBoundedBranch (branches_put ats fs t.branches) (put_each ats fs t.branches (recursion_from_All IsBoundedBranch t.branches is.each));
      written = can.written;
      header = subst (λ (ds : List BranchDef). header_size name ds < 2 ^ 30) (sym (put_defs ats fs t.branches)) is.header;
    }

-- ---- a row comes

entry_more : (entries : List (List ℕ)) (entry : List ℕ) → entries_length (entries ++ entry ∷ []) ≡ entries_length entries + length entry
entry_more entries entry =
    ap length (concat-append entries (entry ∷ [])) ∙ length-append (concat entries) (concat (entry ∷ [])) ∙ ap (λ (n : ℕ). length (concat entries) + n) (ap length (append-nil entry))

small_more : (entries : List (List ℕ)) (entry : List ℕ) → length entry ≤ 16777216 → takes_entry entries (length entry) ≡ true → IsSmall (entries ++ entry ∷ [])
small_more [] entry short may = record { count = omega arith; bytes = omega (arith, entry_more [] entry, short) }
small_more (e ∷ es) entry short may =
    let some : (length (e ∷ es) == 0) ≡ false = ne_eqb (length (e ∷ es)) 0 (λ none. omega (arith, none)) in
    let room = nat_le (entries_length (e ∷ es) + length entry) 32000 && nat_lt (length (e ∷ es)) 8192 in
    let two = and_parts (nat_le (entries_length (e ∷ es) + length entry) 32000) (nat_lt (length (e ∷ es)) 8192) (ap (λ (t : Bool). t || room) (sym some) ∙ may) in
    record {
      count = omega (arith, length-append (e ∷ es) (entry ∷ []), ltb-true (length (e ∷ es)) 8192 two.1);
      bytes = omega (arith, entry_more (e ∷ es) entry, leb-true (entries_length (e ∷ es) + length entry) 32000 two.0);
    }

added_branch : (b : BranchFill) (entry : List ℕ) → IsBoundedBranch b → length entry ≤ 16777216 → may_be_added b entry ≡ true → IsBoundedBranch (branch_added b entry)
added_branch b entry is short may =
    let room = nat_lt 0 b.room.rooms && nat_le (length entry) b.room.spare in
    let two = and_parts (takes b entry && is_sized b.def.shape entry) room may in
    let one = and_parts (takes b entry) (is_sized b.def.shape entry) two.0 in
    record {
      named = is.named;
      small = small_more b.entries entry short one.0;
      sized = list_all-append (is_sized b.def.shape) b.entries (entry ∷ []) ∙ and_from _ _ is.sized (and_from _ _ one.1 refl);
    }

added_each : (bs : List BranchFill) (row : List (List ℕ)) → AllByRecursion IsBoundedBranch bs → IsSmallRow row → may_add bs row ≡ true → AllByRecursion IsBoundedBranch (branches_added bs row)
added_each [] row all small may = tt
added_each (b ∷ bs) [] all small may = all
added_each (b ∷ bs) (entry ∷ row) all small may =
    let two = and_parts (may_be_added b entry) (may_add bs row) may in (
      added_branch b entry all.0 (All-head (λ e. length e ≤ 16777216) entry row small) two.0,
      added_each bs row all.1 (All-tail (λ e. length e ≤ 16777216) entry row small) two.1,
    )

pub added_defs : (bs : List BranchFill) (row : List (List ℕ)) → defs_of (branches_added bs row) ≡ defs_of bs
added_defs [] row = refl
added_defs (b ∷ bs) [] = refl
added_defs (b ∷ bs) (entry ∷ row) = ap (λ (ds : List BranchDef). b.def ∷ ds) (added_defs bs row)

added_long : (bs : List BranchFill) (row : List (List ℕ)) → length (branches_added bs row) ≡ length bs
added_long [] row = refl
added_long (b ∷ bs) [] = refl
added_long (b ∷ bs) (entry ∷ row) = ap suc (added_long bs row)

added_written : (bs : List BranchFill) (row : List (List ℕ)) → written_count (branches_added bs row) ≡ written_count bs
added_written [] row = refl
added_written (b ∷ bs) [] = refl
added_written (b ∷ bs) (entry ∷ row) = omega (arith, written_more (branch_added b entry) (branches_added bs row), added_written bs row, written_more b bs)

pub bounded_filled : (name : List ℕ) (ats : List BasketAt) (flags : ℕ) (row : List (List ℕ)) (t : TreeFill) → IsBoundedTree name t → CanBeFilledThen ats flags row t → IsBoundedTree name (filled_then ats flags row t)
bounded_filled name ats flags row t is can =
    let put = bounded_noted name ats flags t is can.noted_first in
    let bs = (noted ats flags t).branches in
    record {
      named = is.named;
      few = omega (arith, put.few, added_long bs row);
      each = All-from_recursion IsBoundedBranch (branches_added bs row) (added_each bs row (recursion_from_All IsBoundedBranch bs put.each) can.small can.room);
      written = omega (arith, put.written, added_written bs row);
      header = subst (λ (ds : List BranchDef). header_size name ds < 2 ^ 30) (sym (added_defs bs row)) put.header;
    }

pub bounded_saved : (name : List ℕ) (ats : List BasketAt) (flags : ℕ) (t : TreeFill) → IsBoundedTree name t → CanBeSavedThen ats flags t → IsBoundedTree name (saved_then ats flags t)
bounded_saved name ats flags t is can =
    let put = bounded_noted name ats flags t is can.noted_first in
    record { named = put.named; few = put.few; each = put.each; written = put.written; header = put.header }

-- ---- the header says the same branches

pub noted_header : (name : List ℕ) (ats : List BasketAt) (flags : ℕ) (t : TreeFill) → header_size name (defs_of t.branches) ≡ header_size name (defs_of (noted ats flags t).branches)
noted_header name ats flags t = ap (header_size name) (sym (put_defs ats (flags_for t.branches flags) t.branches))

pub filled_header : (name : List ℕ) (ats : List BasketAt) (flags : ℕ) (row : List (List ℕ)) (t : TreeFill) → header_size name (defs_of t.branches) ≡ header_size name (defs_of (filled_then ats flags row t).branches)
filled_header name ats flags row t = noted_header name ats flags t ∙ ap (header_size name) (sym (added_defs (noted ats flags t).branches row))

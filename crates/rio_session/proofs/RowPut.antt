-- A row is added to a tree of a session: it may be, and what is kept then is what the fill makes of it.
use Rattle.std.proofs.Common.{◌≡◌, ◌∙◌, ◌==◌, ◌&&◌, ℕ, zero, suc, ◌+◌, ◌<◌, ◌^◌, Bool, true, false, not, List, [], ◌∷◌, length, map, Option, Some, refl, sym, ap, subst, arith}
use Rattle.std.proofs.lemmas.{List.{length-map}, Option.{same_Some}, Slice.Eq.{bytes_eq-Decides}}
use Rattle.std.specs.{Prelude.{if◌then◌else◌, slice_get}, List.{find}}
use Rattle.rio_leaf.specs.declared.branch.BranchDef.{BranchDef}
use Rattle.rio_dir.specs.Table.{heads_size}
use Rattle.rio_chain.specs.{Adjoining.{AreSegments}, Placing.{record_count}, declared.segment.Segment.{Segment}}
use Rattle.rio_tree.specs.declared.basket_at.BasketAt.{BasketAt}
use Rattle.rio_tree_table.specs.{Table.{is_of_name, renumbered, renumbered_if, with_rows}, declared.table.KeptTree.{KeptTree}}
use Rattle.rio_fill.proofs.Kept.{defs_added}
use Rattle.rio_fill.specs.{Fill.{BranchFill, TreeFill, count_before, defs_of, entry_count, row_added, takes}, Prepare.{are_sized}, Room.{branches_reserved, may_add, reserved, without_room}}
use Rattle.rio_recover.specs.{TreeTable.{is_name_before}, Whole.{HoldsDirectory}}
use Rattle.rio_state.specs.Closing.{end_limit}
use Rattle.rio_session.specs.{Due.{IsClosableWith, due_of, due_of_fill, written_count}, Fillings.{BasketsPut, Done, branches_become, filling_with, full_list, put_open}, Fills.{AreAfterName, AreNamesOrdered, FilledTree, bare, bare_tree, changed_tree, is_tree_of, kept_tree_of, with_change}}
use Rattle.rio_session.specs.{Measures.{flags_for, flags_in}, Noted.{ArePlanned, CanBeFilledThen, IsTreeAt, are_firsts, branches_put, can_be_noted, filled_then, flagged, noted}}
use Rattle.rio_session.specs.{RowPlans.{IsNamedAt, IsRowOf, IsRowPlan, due_changed, need_of_row}, SessionState.{SessionState}, Steps.{CanRun, all_stepped, changes_of}, TreeWorks.{due_behind}, declared.fill.RowPlan.{RowPlan}, declared.open_tree.Due.{Due}}
use Rattle.rio_session.proofs.{Bare.{all_due, defs_bare}, BasketsPlaced.{defs_put, puts_are}, FillKept.{directory_puts, row_kept}, FillLists.{sum_mapped}, FillRoom.{changed_due, many_lengths}, FillSums.{size_bounds, sum_without}}
use Rattle.rio_session.proofs.{FilledTable.{behind_not_of, before_not_of, changed_named}, FilledTrees.{found_name}, Needs.{baskets_counted}, PlanRoom.{plan_room_is}, PutCounts.{written_put}}
use Rattle.rio_session.proofs.RoomMade.{all_reserved, bare_put, can_row, kept_filled, may_row, reserved_flags}

-- ---- the tree at a number

pub mapped_at : {A B : Type 0} (f : A → B) (xs : List A) (at : ℕ) (y : B) → slice_get (map f xs) at ≡ Some y → (x : A) × (slice_get xs at ≡ Some x) × (f x ≡ y)
mapped_at f [] zero y is = absurd cc
mapped_at f [] (suc at) y is = absurd cc
mapped_at f (x ∷ xs) zero y is = (x, refl, same_Some (f x) y is)
mapped_at f (x ∷ xs) (suc at) y is = mapped_at f xs at y is

pub changed_there : (at : ℕ) (f : TreeFill → TreeFill) (ts : List FilledTree) (t : FilledTree) → slice_get ts at ≡ Some t → slice_get (changed_tree at f ts) at ≡ Some (record t { fill = f t.fill })
changed_there zero f [] t is = absurd cc
changed_there (suc at) f [] t is = absurd cc
changed_there zero f (u ∷ us) t is = ap (λ (v : FilledTree). let o : Option FilledTree = Some (record v { fill = f v.fill }) in o) (same_Some u t is)
changed_there (suc at) f (u ∷ us) t is = changed_there at f us t is

-- two changes are one
pub changed_twice : (at : ℕ) (f g : TreeFill → TreeFill) (ts : List FilledTree) → changed_tree at f (changed_tree at g ts) ≡ changed_tree at (λ t. f (g t)) ts
changed_twice zero f g [] = refl
changed_twice (suc at) f g [] = refl
changed_twice zero f g (t ∷ ts) = refl
changed_twice (suc at) f g (t ∷ ts) = ap (λ (l : List FilledTree). t ∷ l) (changed_twice at f g ts)

-- seen without the rooms
pub bare_changed : (at : ℕ) (f g : TreeFill → TreeFill) (ts : List FilledTree) (t : FilledTree) → slice_get ts at ≡ Some t → bare (f t.fill) ≡ g (bare t.fill) → map bare_tree (changed_tree at f ts) ≡ changed_tree at g (map bare_tree ts)
bare_changed zero f g [] t is same = absurd cc
bare_changed (suc at) f g [] t is same = absurd cc
bare_changed zero f g (u ∷ us) t is same =
    let one : bare (f u.fill) ≡ g (bare u.fill) = subst (λ (v : FilledTree). bare (f v.fill) ≡ g (bare v.fill)) (sym (same_Some u t is)) same in
    λ i. record { name = u.name; fill = one i } ∷ map bare_tree us
bare_changed (suc at) f g (u ∷ us) t is same = ap (λ (l : List FilledTree). bare_tree u ∷ l) (bare_changed at f g us t is same)

-- so many rows it has
pub rows_seen : (other s : SessionState) → s ≡ other → (trees : List FilledTree) → s.trees ≡ map bare_tree trees → (at : ℕ) (t : FilledTree) → slice_get other.trees at ≡ Some t
    → (saved pending : ℕ) → ((u : FilledTree) → slice_get trees at ≡ Some u → (saved ≡ u.fill.saved) × (pending ≡ u.fill.pending)) → (saved ≡ t.fill.saved) × (pending ≡ t.fill.pending)
rows_seen other s view_is trees same at t there saved pending told =
    let m = mapped_at bare_tree trees at t (ap (λ (l : List FilledTree). slice_get l at) (sym same) ∙ ap (λ (x : SessionState). slice_get x.trees at) view_is ∙ there) in
    let two = told m.0 m.1 in
    (two.0 ∙ ap (λ (v : FilledTree). v.fill.saved) m.2, two.1 ∙ ap (λ (v : FilledTree). v.fill.pending) m.2)

-- ---- order

after_back : (name : List ℕ) (at : ℕ) (f : TreeFill → TreeFill) (ts : List FilledTree) → AreAfterName name (changed_tree at f ts) → AreAfterName name ts
after_back name zero f [] are = tt
after_back name (suc at) f [] are = tt
after_back name zero f (t ∷ ts) are = are
after_back name (suc at) f (t ∷ ts) are = (are.0, after_back name at f ts are.1)

-- trees are in order if they are with one changed
pub ordered_back : (at : ℕ) (f : TreeFill → TreeFill) (ts : List FilledTree) → AreNamesOrdered (changed_tree at f ts) → AreNamesOrdered ts
ordered_back zero f [] are = tt
ordered_back (suc at) f [] are = tt
ordered_back zero f (t ∷ ts) are = are
ordered_back (suc at) f (t ∷ ts) are = (after_back t.name at f ts are.0, ordered_back at f ts are.1)

after_bare : (name : List ℕ) (ts : List FilledTree) → AreAfterName name ts → AreAfterName name (map bare_tree ts)
after_bare name [] are = tt
after_bare name (t ∷ ts) are = (are.0, after_bare name ts are.1)

-- and so they are without the rooms
pub ordered_bare : (ts : List FilledTree) → AreNamesOrdered ts → AreNamesOrdered (map bare_tree ts)
ordered_bare [] are = tt
ordered_bare (t ∷ ts) are = (after_bare t.name ts are.0, ordered_bare ts are.1)

after_there : (name : List ℕ) (ts : List FilledTree) → AreAfterName name ts → (at : ℕ) (t : FilledTree) → slice_get ts at ≡ Some t → is_name_before name t.name ≡ true
after_there name [] are zero t is = absurd cc
after_there name [] are (suc at) t is = absurd cc
after_there name (u ∷ us) are zero t is = subst (λ (v : FilledTree). is_name_before name v.name ≡ true) (same_Some u t is) are.0
after_there name (u ∷ us) are (suc at) t is = after_there name us are.1 at t is

-- ---- the trees that commands are judged by

-- none of those behind a name has it
none_renumbered : (name : List ℕ) (saved pending : ℕ) (ts : List FilledTree) → AreAfterName name ts → with_rows name saved pending (map kept_tree_of ts) ≡ map kept_tree_of ts
none_renumbered name saved pending [] are = refl
none_renumbered name saved pending (t ∷ ts) are =
    let other : is_of_name name (kept_tree_of t) ≡ false = behind_not_of name t are.0 in
    let one = ap (λ (b : Bool). if b then renumbered saved pending (kept_tree_of t) else kept_tree_of t) other in
    let rest = none_renumbered name saved pending ts are.1 in
    λ i. one i ∷ rest i

pub rows_changed : (at : ℕ) (f : TreeFill → TreeFill) (ts : List FilledTree) (t : FilledTree) → AreNamesOrdered ts → slice_get ts at ≡ Some t → defs_of (f t.fill).branches ≡ defs_of t.fill.branches
    → with_rows t.name (f t.fill).saved (f t.fill).pending (map kept_tree_of ts) ≡ map kept_tree_of (changed_tree at f ts)
rows_changed zero f [] t are is defs = absurd cc
rows_changed (suc at) f [] t are is defs = absurd cc
rows_changed zero f (u ∷ us) t are is defs =
    subst (λ (v : FilledTree). with_rows v.name (f v.fill).saved (f v.fill).pending (map kept_tree_of (u ∷ us)) ≡ map kept_tree_of (changed_tree zero f (u ∷ us))) same own
  where
    same : u ≡ t
    same = same_Some u t is

    its_defs : defs_of (f u.fill).branches ≡ defs_of u.fill.branches
    its_defs = subst (λ (v : FilledTree). defs_of (f v.fill).branches ≡ defs_of v.fill.branches) (sym same) defs

    first : renumbered_if u.name (f u.fill).saved (f u.fill).pending (kept_tree_of u) ≡ kept_tree_of (record u { fill = f u.fill })
    first =
        ap (λ (b : Bool). if b then renumbered (f u.fill).saved (f u.fill).pending (kept_tree_of u) else kept_tree_of u) ((bytes_eq-Decides u.name u.name).1 refl)
        ∙ (λ i. record { name = u.name; branches = sym its_defs i; saved = (f u.fill).saved; pending = (f u.fill).pending })

    own : with_rows u.name (f u.fill).saved (f u.fill).pending (map kept_tree_of (u ∷ us)) ≡ map kept_tree_of (changed_tree zero f (u ∷ us))
    own = let rest = none_renumbered u.name (f u.fill).saved (f u.fill).pending us are.0 in λ i. first i ∷ rest i
rows_changed (suc at) f (u ∷ us) t are is defs =
    let before = after_there u.name us are.0 at t is in
    let other : is_of_name t.name (kept_tree_of u) ≡ false = before_not_of t.name u before in
    let one = ap (λ (b : Bool). if b then renumbered (f t.fill).saved (f t.fill).pending (kept_tree_of u) else kept_tree_of u) other in
    let rest = rows_changed at f us t are.1 is defs in
    λ i. one i ∷ rest i

-- ---- branches without the rooms

pub full_bare : (bs : List BranchFill) (row : List (List ℕ)) → full_list (map without_room bs) row ≡ full_list bs row
full_bare [] row = refl
full_bare (b ∷ bs) [] = ap (λ (l : List Bool). false ∷ l) (full_bare bs [])
full_bare (b ∷ bs) (e ∷ row) = ap (λ (l : List Bool). not (takes b e) ∷ l) (full_bare bs row)

pub flags_bare : (bs : List BranchFill) (flags : ℕ) → flags_for (map without_room bs) flags ≡ flags_for bs flags
flags_bare bs flags = ap (λ (n : ℕ). flags_in n flags) (length-map bs without_room)

pub firsts_bare : (count : ℕ) (ats : List BasketAt) (bs : List BranchFill) (fs : List Bool) → are_firsts count ats (flagged (map without_room bs) fs) ≡ are_firsts count ats (flagged bs fs)
firsts_bare count ats [] fs = refl
firsts_bare count ats (b ∷ bs) [] = refl
firsts_bare count ats (b ∷ bs) (false ∷ fs) = firsts_bare count ats bs fs
firsts_bare count [] (b ∷ bs) (true ∷ fs) = refl
firsts_bare count (at ∷ ats) (b ∷ bs) (true ∷ fs) = ap (λ (c : Bool). (at.first == count_before count b) && c) (firsts_bare count ats bs fs)

-- ---- the row

-- what is planned for a row of the tree of a name, which stands at the number
pub record IsPlannedAt (s : SessionState) (name : List ℕ) (at : ℕ) (row : List (List ℕ)) (plan : RowPlan) (t : FilledTree) : Type 0 where
  pub named : IsNamedAt s name at t
  pub of : IsRowOf t row
  pub low : t.fill.saved + t.fill.pending + 1 < 2 ^ 63
  pub planned : IsRowPlan s t row plan

-- of the tree as it is kept, with rooms
module _ (s : SessionState) (name : List ℕ) (at : ℕ) (row : List (List ℕ)) (plan : RowPlan) (u : FilledTree) (h : IsPlannedAt s name at row plan (bare_tree u)) where
  abbrev bs : List BranchFill
  bs = u.fill.branches

  abbrev ats : List BasketAt
  ats = plan.baskets.ats

  abbrev fs : List Bool
  fs = full_list u.fill.branches row

  abbrev put : BasketsPut
  put = put_open s.datime u.name (entry_count u.fill) s.segments (map without_room u.fill.branches) (full_list (map without_room u.fill.branches) row)

  planned : ArePlanned (entry_count u.fill) put s.segments (map without_room u.fill.branches) (full_list (map without_room u.fill.branches) row) plan.baskets.steps.items plan.baskets.ats
  planned = h.planned.planned

  own_name : u.name ≡ name
  own_name = found_name name (bare_tree u) s.trees h.named.found

  found : find (is_tree_of u.name) s.trees ≡ Some (bare_tree u)
  found = subst (λ (n : List ℕ). find (is_tree_of n) s.trees ≡ Some (bare_tree u)) (sym own_name) h.named.found

  each : length row ≡ length u.fill.branches
  each = h.of.each ∙ length-map bs without_room

  flags_are : flags_for u.fill.branches plan.flags ≡ full_list u.fill.branches row
  flags_are = sym (flags_bare bs plan.flags) ∙ h.planned.flags ∙ full_bare bs row

  reserved_are : flags_for (branches_reserved u.fill.branches (Some row)) plan.flags ≡ full_list u.fill.branches row
  reserved_are = reserved_flags bs (Some row) plan.flags ∙ flags_are

  firsts : are_firsts (entry_count u.fill) plan.baskets.ats (flagged u.fill.branches (full_list u.fill.branches row)) ≡ true
  firsts =
      sym (firsts_bare (entry_count u.fill) ats bs fs)
      ∙ ap (λ (l : List Bool). are_firsts (entry_count u.fill) ats (flagged (map without_room bs) l)) (sym (full_bare bs row))
      ∙ planned.firsts

  sized : are_sized (defs_of u.fill.branches) row ≡ true
  sized = ap (λ (ds : List BranchDef). are_sized ds row) (sym (defs_bare bs)) ∙ h.of.sized

  abbrev made : TreeFill
  made = reserved u.fill (Some row)

  -- the branches then, without the rooms
  put_branches : branches_put plan.baskets.ats (full_list u.fill.branches row) (map without_room u.fill.branches) ≡ put.branches
  put_branches = ap (λ (l : List Bool). branches_put ats l (map without_room bs)) (sym (full_bare bs row)) ∙ planned.branches_are

  noted_branches : map without_room (noted plan.baskets.ats plan.flags (reserved u.fill (Some row))).branches ≡ put.branches
  noted_branches =
      bare_put ats (flags_for made.branches plan.flags) made.branches
      ∙ ap (λ (l : List Bool). branches_put ats l (map without_room made.branches)) reserved_are
      ∙ ap (branches_put ats fs) (all_reserved bs row each)
      ∙ put_branches

  -- what the saves write then
  abbrev row_due : Due
  row_due = due_changed (due_of s.trees) (due_of_fill u.name (bare u.fill)) (due_behind (bare_tree u) row)

  -- how many baskets were written then
  module _ (kept : IsClosableWith s.segments s.heads s.trees s.info s.name) where
    written_low : written_count (noted plan.baskets.ats plan.flags (reserved u.fill (Some row))).branches < 2 ^ 32
    written_low =
        let lengths = (filling_with s u.name row (bare_tree u).fill).lengths in
        let room = plan_room_is s.segments lengths (need_of_row s (bare_tree u) row) h.planned.room in
        let records = size_bounds s.name (heads_size s.heads) (record_count s.segments + length lengths + row_due.baskets) end_limit (omega (arith, room)) in
        omega (
          arith,
          records.1,
          sym (sum_mapped (λ (b : BranchFill). length b.baskets) without_room (noted ats plan.flags made).branches),
          ap written_count noted_branches,
          written_put s.datime u.name (entry_count u.fill) s.segments (map without_room bs) (full_list (map without_room bs) row),
          many_lengths s.datime u.name (entry_count u.fill) s.segments (map without_room bs) (full_list (map without_room bs) row),
          sum_without (λ (v : FilledTree). written_count v.fill.branches) u.name (bare_tree u) s.trees found,
          baskets_counted s.trees,
          kept.closable.count,
        )

    pub can_be_filled : CanBeFilledThen plan.baskets.ats plan.flags row (reserved u.fill (Some row))
    can_be_filled = record {
      noted_first = record {
        places = ap (λ (l : List Bool). can_be_noted (entry_count u.fill) ats (flagged made.branches l)) reserved_are ∙ can_row (entry_count u.fill) bs row ats each firsts;
        written = written_low;
      };
      few = omega (arith, h.low);
      small = h.of.small;
      room = ap (λ (l : List Bool). may_add (branches_put ats l made.branches) row) reserved_are ∙ may_row (entry_count u.fill) bs row ats sized firsts;
    }

  -- ---- what is kept then

  abbrev change : TreeFill → TreeFill
  change f = row_added (branches_become put.branches f) row

  abbrev grown : TreeFill → TreeFill
  grown f = filled_then plan.baskets.ats plan.flags row (reserved f (Some row))

  grown_is : bare (grown u.fill) ≡ change (bare u.fill)
  grown_is =
      kept_filled ats plan.flags row u.fill each
      ∙ ap (λ (cs : List BranchFill). row_added (branches_become cs (bare u.fill)) row) (ap (λ (l : List Bool). branches_put ats l (map without_room bs)) flags_are ∙ put_branches)

  grown_defs : defs_of (grown u.fill).branches ≡ defs_of u.fill.branches
  grown_defs =
      let its = full_list (map without_room bs) row in
      sym (defs_bare (grown u.fill).branches)
      ∙ ap (λ (f : TreeFill). defs_of f.branches) grown_is
      ∙ defs_added put.branches row
      ∙ defs_put (entry_count u.fill) (map without_room bs) its put.branches (puts_are s.datime u.name (entry_count u.fill) s.segments (map without_room bs) its)
      ∙ defs_bare bs

  module _ (trees : List FilledTree) (same : s.trees ≡ map bare_tree trees) (there : slice_get trees at ≡ Some u) (ordered : AreNamesOrdered trees) where
    abbrev after : List FilledTree
    after = changed_tree at (filled_then plan.baskets.ats plan.flags row) (changed_tree at (λ f. reserved f (Some row)) trees)

    once : after ≡ changed_tree at grown trees
    once = changed_twice at (filled_then ats plan.flags row) (λ f. reserved f (Some row)) trees

    in_order : AreNamesOrdered s.trees
    in_order = subst AreNamesOrdered (sym same) (ordered_bare trees ordered)

    pub trees_are : map bare_tree after ≡ (filling_with s u.name row (bare_tree u).fill).kept.trees
    trees_are =
        ap (map bare_tree) once
        ∙ bare_changed at grown change trees u there grown_is
        ∙ changed_named u.name change (map bare_tree trees) (ordered_bare trees ordered) at (bare_tree u) (subst (λ (l : List FilledTree). slice_get l at ≡ Some (bare_tree u)) same h.named.there) refl
        ∙ ap (with_change u.name change) (sym same)

    pub kept_rows : (kept : List KeptTree) → kept ≡ map kept_tree_of trees → (saved pending : ℕ) → saved ≡ u.fill.saved → pending ≡ u.fill.pending + 1 → with_rows name saved pending kept ≡ map kept_tree_of after
    kept_rows kept kept_are saved pending saved_is pending_is =
        let one = rows_changed at grown trees u ordered there grown_defs in
        (λ i. with_rows (sym own_name i) (saved_is i) (pending_is i) (kept_are i)) ∙ one ∙ ap (map kept_tree_of) (sym once)

    pub due_then : plan.due ≡ due_of after
    due_then = h.planned.due ∙ sym (changed_due s (bare_tree u) row h.of.each in_order found) ∙ ap due_of (sym trees_are) ∙ all_due after

    module _ (segments : List Segment) (segments_are : segments ≡ all_stepped plan.baskets.steps.items s.segments) where
      put_segments : segments ≡ put.segments
      put_segments = segments_are ∙ planned.segments_are

      pub closable_then : AreSegments s.segments → IsClosableWith s.segments s.heads s.trees s.info s.name → IsClosableWith segments s.heads (map bare_tree after) s.info s.name
      closable_then form kept =
          subst (λ (x : List Segment × List FilledTree). IsClosableWith x.0 s.heads x.1 s.info s.name) (λ i. (sym put_segments i, sym trees_are i))
          (row_kept s (bare_tree u) row h.of.each found kept in_order form h.low h.planned.room)

      pub directory_then : (nbytes_name : ℕ) → HoldsDirectory nbytes_name s.segments → HoldsDirectory nbytes_name segments
      directory_then nbytes_name holds =
          subst (HoldsDirectory nbytes_name) (sym put_segments)
          (directory_puts nbytes_name s.datime u.name (entry_count u.fill) s.segments (map without_room bs) (full_list (map without_room bs) row) holds)

      pub view_then : record s { segments = segments; trees = map bare_tree after } ≡ (filling_with s u.name row (bare_tree u).fill).kept
      view_then = λ i. record s { segments = put_segments i; trees = trees_are i }

-- ---- by what a session is seen as

-- The session is one as which it is seen.
module _ (other s : SessionState) (view_is : s ≡ other) (trees : List FilledTree) (same : s.trees ≡ map bare_tree trees) (name : List ℕ) (at : ℕ) (row : List (List ℕ)) (plan : RowPlan)
    (can : (t : FilledTree) × IsNamedAt other name at t × IsRowOf t row × (t.fill.saved + t.fill.pending + 1 < 2 ^ 63) × IsRowPlan other t row plan) where
  of_view : (u : FilledTree) × (slice_get trees at ≡ Some u) × IsPlannedAt s name at row plan (bare_tree u)
  of_view =
      let t = can.0 in
      let h : IsPlannedAt s name at row plan t = record {
        named = subst (λ (x : SessionState). IsNamedAt x name at t) (sym view_is) can.1;
        of = can.2;
        low = can.3;
        planned = subst (λ (x : SessionState). IsRowPlan x t row plan) (sym view_is) can.4;
      } in
      let m = mapped_at bare_tree trees at t (subst (λ (l : List FilledTree). slice_get l at ≡ Some t) same h.named.there) in
      (m.0, m.1, subst (IsPlannedAt s name at row plan) (sym m.2) h)

  abbrev w : FilledTree
  w = of_view.0

  its_plan : IsPlannedAt s name at row plan (bare_tree of_view.0)
  its_plan = of_view.2

  same_tree : (t : FilledTree) → IsNamedAt other name at t → bare_tree of_view.0 ≡ t
  same_tree t named = same_Some (bare_tree w) t (sym its_plan.named.found ∙ subst (λ (x : SessionState). find (is_tree_of name) x.trees ≡ Some t) (sym view_is) named.found)

  done_as : (t : FilledTree) → IsNamedAt other name at t → filling_with s of_view.0.name row (bare_tree of_view.0).fill ≡ filling_with other name row t.fill
  done_as t named =
      let tree = same_tree t named in
      let named_so = own_name s name at row plan w its_plan in
      λ i. filling_with (view_is i) (named_so i) row (tree i).fill

  pub row_can : IsClosableWith s.segments s.heads s.trees s.info s.name → IsTreeAt (changed_tree at (λ t. reserved t (Some row)) trees) at (CanBeFilledThen plan.baskets.ats plan.flags row)
  row_can kept = (record w { fill = reserved w.fill (Some row) }, changed_there at (λ t. reserved t (Some row)) trees w of_view.1, can_be_filled s name at row plan w its_plan kept)

  pub row_runs : CanRun plan.baskets.steps.items s.segments
  row_runs = its_plan.planned.planned.run

  module _ (now : List FilledTree) (now_is : now ≡ changed_tree at (filled_then plan.baskets.ats plan.flags row) (changed_tree at (λ f. reserved f (Some row)) trees)) (now_ordered : AreNamesOrdered now) where
    ordered_before : AreNamesOrdered trees
    ordered_before = ordered_back at (λ f. reserved f (Some row)) trees (ordered_back at (filled_then plan.baskets.ats plan.flags row) (changed_tree at (λ f. reserved f (Some row)) trees) (subst AreNamesOrdered now_is now_ordered))

    pub row_trees : (kept : List KeptTree) → kept ≡ map kept_tree_of trees → (saved pending : ℕ) → ((t : FilledTree) → slice_get now at ≡ Some t → (saved ≡ t.fill.saved) × (pending ≡ t.fill.pending))
        → with_rows name saved pending kept ≡ map kept_tree_of now
    row_trees kept kept_are saved pending told =
        let first : FilledTree = record w { fill = reserved w.fill (Some row) } in
        let last : FilledTree = record w { fill = filled_then plan.baskets.ats plan.flags row (reserved w.fill (Some row)) } in
        let here = changed_there at (filled_then plan.baskets.ats plan.flags row) (changed_tree at (λ f. reserved f (Some row)) trees) first (changed_there at (λ f. reserved f (Some row)) trees w of_view.1) in
        let two = told last (subst (λ (l : List FilledTree). slice_get l at ≡ Some last) (sym now_is) here) in
        kept_rows s name at row plan w its_plan trees same of_view.1 ordered_before kept kept_are saved pending two.0 two.1 ∙ ap (map kept_tree_of) (sym now_is)

    pub row_due_is : plan.due ≡ due_of now
    row_due_is = due_then s name at row plan w its_plan trees same of_view.1 ordered_before ∙ ap due_of (sym now_is)

    module _ (segments : List Segment) (segments_are : segments ≡ all_stepped plan.baskets.steps.items s.segments) where
      pub row_closable : AreSegments s.segments → IsClosableWith s.segments s.heads s.trees s.info s.name → IsClosableWith segments s.heads (map bare_tree now) s.info s.name
      row_closable form kept =
          subst (λ (l : List FilledTree). IsClosableWith segments s.heads (map bare_tree l) s.info s.name) (sym now_is) (closable_then s name at row plan w its_plan trees same of_view.1 ordered_before segments segments_are form kept)

      pub row_directory : (nbytes_name : ℕ) → HoldsDirectory nbytes_name s.segments → HoldsDirectory nbytes_name segments
      row_directory nbytes_name holds = directory_then s name at row plan w its_plan trees same of_view.1 ordered_before segments segments_are nbytes_name holds

      pub row_view : (t : FilledTree) → IsNamedAt other name at t → record s { segments = segments; trees = map bare_tree now } ≡ (filling_with other name row t.fill).kept
      row_view t named =
          (λ i. record s { segments = segments; trees = map bare_tree (now_is i) })
          ∙ view_then s name at row plan w its_plan trees same of_view.1 ordered_before segments segments_are
          ∙ ap (λ (d : Done). d.kept) (done_as t named)

  pub row_changes : (t : FilledTree) → IsNamedAt other name at t → (filling_with other name row t.fill).changes ≡ changes_of plan.baskets.steps.items
  row_changes t named = ap (λ (d : Done). d.changes) (sym (done_as t named)) ∙ sym its_plan.planned.planned.changes

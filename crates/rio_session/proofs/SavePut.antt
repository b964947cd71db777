-- A tree of a session is saved: it may be, and what is kept then is what the save makes of it.
use Rattle.std.proofs.Common.{◌≡◌, ◌∙◌, ℕ, ◌+◌, ◌-◌, ◌<◌, ◌≤◌, ◌^◌, true, List, length, map, Bool, Some, None, refl, sym, ap, subst, arith}
use Rattle.std.proofs.lemmas.Option.{same_Some}
use Rattle.std.specs.{Prelude.{slice_get}, List.{find, list_all}}
use Rattle.rio_key.specs.{Written.{written_key}, declared.head.KeyHead.{KeyHead}}
use Rattle.rio_dir.specs.Table.{AreOrdered, head_of, heads_size, is_at_cycle, with_head, without_head}
use Rattle.rio_chain.specs.{Adjoining.{AreSegments}, Placing.{place_of, record_count, with_segment}, declared.segment.Segment.{Segment}}
use Rattle.rio_tree.specs.declared.{basket_at.BasketAt.{BasketAt}, head.TreeHead.{TreeHead}}
use Rattle.rio_tree_table.specs.{Table.{with_rows}, declared.table.KeptTree.{KeptTree}}
use Rattle.rio_fill.specs.{Fill.{BranchFill, TreeFill, all_saved, defs_of, entry_count, has_no_entries}, Room.{branches_reserved, reserved, without_room}}
use Rattle.rio_judge.proofs.KeysOfState.{first_is_found, none_above_first}
use Rattle.rio_recover.specs.Whole.{HoldsDirectory}
use Rattle.rio_state.specs.Closing.{end_limit}
use Rattle.rio_effect.specs.TreeRecords.{header_key, header_record}
use Rattle.rio_session.specs.{Due.{IsClosableWith, due_of, written_count}, Fillings.{BasketsPut, Done, branches_become, open_list}, Fills.{AreNamesOrdered, FilledTree, bare, bare_tree, changed_tree, is_tree_of, kept_tree_of, places_of_trees, with_change}}
use Rattle.rio_session.specs.{Measures.{flags_for}, Noted.{CanBeSavedThen, IsTreeAt, are_firsts, branches_put, can_be_noted, flagged, noted, saved_then}}
use Rattle.rio_session.specs.{RowPlans.{IsNamedAt}, SavePlans.{IsSavePlan, due_of_save, head_now, need_of_save, next_key, put_now, saving_now}, SessionState.{SessionState}, Steps.{CanRun, all_stepped, changes_of}, declared.save.SavePlan.{SavePlan}}
use Rattle.rio_session.proofs.{Bare.{all_due, defs_bare}, BasketsPlaced.{defs_put, puts_are}, CloseRoom.{directory_left, directory_stays}, FillKept.{directory_puts}, FillLists.{sum_mapped}, FillRoom.{many_lengths}, FillSums.{size_bounds, sum_without}}
use Rattle.rio_session.proofs.{FilledTable.{changed_named}, FilledTrees.{found_name}, Keeps.{size_with}, KeepsGone.{bytes_less, key_later}, Needs.{baskets_counted}, PlanRoom.{plan_room_is}, PutCounts.{written_put}}
use Rattle.rio_session.proofs.{RoomMade.{all_closed, bare_put, can_save, kept_saved, none_reserved, reserved_flags}, RowPut.{bare_changed, changed_there, changed_twice, firsts_bare, flags_bare, mapped_at, ordered_back, ordered_bare, rows_changed}}
use Rattle.rio_session.proofs.{SaveBare.{open_bare}, SaveRoom.{both_shape, save_closable, saved_due, tree_named}, SaveStands.{none_without}}

-- what is planned for the tree of a key, which stands at the number
pub record IsSavedAt (s : SessionState) (k : KeyHead) (at : ℕ) (plan : SavePlan) (t : FilledTree) : Type 0 where
  pub named : IsNamedAt s k.name at t
  pub first : head_of k.name None s.heads ≡ Some k
  pub planned : IsSavePlan s t k plan

-- ---- the key of the next header

key_names : (place datime : ℕ) (name : List ℕ) (cycle : ℕ) (head : TreeHead) → (header_key place datime name cycle head).name ≡ name
unfolding header_key
key_names place datime name cycle head = refl

key_cycles : (place datime : ℕ) (name : List ℕ) (cycle : ℕ) (head : TreeHead) → (header_key place datime name cycle head).cycle ≡ cycle
unfolding header_key
key_cycles place datime name cycle head = refl

-- ---- of the tree as it is kept, with rooms

module _ (s : SessionState) (k : KeyHead) (at : ℕ) (plan : SavePlan) (u : FilledTree) (own_name : u.name ≡ k.name) (h : IsSavedAt s k at plan (tree_named k (bare u.fill))) where
  abbrev bs : List BranchFill
  bs = u.fill.branches

  abbrev ats : List BasketAt
  ats = plan.made.ats

  abbrev flags : ℕ
  flags = plan.made.flags

  abbrev fs : List Bool
  fs = open_list u.fill.branches

  abbrev its : List Bool
  its = open_list (map without_room u.fill.branches)

  abbrev v : FilledTree
  v = tree_named k (bare u.fill)

  abbrev put : BasketsPut
  put = put_now s (tree_named k (bare u.fill))

  abbrev head : TreeHead
  head = head_now s (tree_named k (bare u.fill))

  flags_are : flags_for u.fill.branches plan.made.flags ≡ open_list u.fill.branches
  flags_are = sym (flags_bare bs flags) ∙ h.planned.made.flags ∙ open_bare bs

  reserved_are : flags_for (branches_reserved u.fill.branches None) plan.made.flags ≡ open_list u.fill.branches
  reserved_are = reserved_flags bs None flags ∙ flags_are

  firsts : are_firsts (entry_count u.fill) plan.made.ats (flagged u.fill.branches (open_list u.fill.branches)) ≡ true
  firsts =
      sym (firsts_bare (entry_count u.fill) ats bs fs)
      ∙ ap (λ (l : List Bool). are_firsts (entry_count u.fill) ats (flagged (map without_room bs) l)) (sym (open_bare bs))
      ∙ h.planned.made.firsts

  abbrev made : TreeFill
  made = reserved u.fill None

  put_branches : branches_put plan.made.ats (open_list u.fill.branches) (map without_room u.fill.branches) ≡ put.branches
  put_branches = ap (λ (l : List Bool). branches_put ats l (map without_room bs)) (sym (open_bare bs)) ∙ h.planned.made.branches

  noted_branches : map without_room (noted plan.made.ats plan.made.flags (reserved u.fill None)).branches ≡ put.branches
  noted_branches =
      bare_put ats (flags_for made.branches flags) made.branches
      ∙ ap (λ (l : List Bool). branches_put ats l (map without_room made.branches)) reserved_are
      ∙ ap (branches_put ats fs) (none_reserved bs)
      ∙ put_branches

  -- how many baskets were written then
  module _ (kept : IsClosableWith s.segments s.heads s.trees s.info s.name) where
    written_low : written_count (noted plan.made.ats plan.made.flags (reserved u.fill None)).branches < 2 ^ 32
    written_low =
        let room = plan_room_is s.segments (saving_now s v k).lengths (need_of_save s v k) h.planned.room in
        let heads = with_head (next_key s v k) (without_head k.name k.cycle s.heads) in
        let records = size_bounds s.name (heads_size heads) (record_count s.segments + length put.lengths + (due_of_save s v).baskets) end_limit (omega (arith, room)) in
        omega (
          arith,
          records.1,
          sym (sum_mapped (λ (b : BranchFill). length b.baskets) without_room (noted ats flags made).branches),
          ap written_count noted_branches,
          written_put s.datime k.name (entry_count u.fill) s.segments (map without_room bs) its,
          many_lengths s.datime k.name (entry_count u.fill) s.segments (map without_room bs) its,
          sum_without (λ (w : FilledTree). written_count w.fill.branches) k.name v s.trees h.named.found,
          baskets_counted s.trees,
          kept.closable.count,
        )

    pub can_be_saved : CanBeSavedThen plan.made.ats plan.made.flags (reserved u.fill None)
    can_be_saved = record {
      noted_first = record {
        places = ap (λ (l : List Bool). can_be_noted (entry_count u.fill) ats (flagged made.branches l)) reserved_are ∙ can_save (entry_count u.fill) bs ats firsts;
        written = written_low;
      };
      closed = ap (λ (l : List Bool). list_all has_no_entries (branches_put ats l made.branches)) reserved_are ∙ all_closed (entry_count u.fill) bs ats firsts;
    }

  -- ---- what is kept then

  abbrev change : TreeFill → TreeFill
  change f = all_saved (branches_become put.branches f)

  abbrev grown : TreeFill → TreeFill
  grown f = saved_then plan.made.ats plan.made.flags (reserved f None)

  grown_is : bare (grown u.fill) ≡ change (bare u.fill)
  grown_is =
      kept_saved ats flags u.fill
      ∙ ap (λ (cs : List BranchFill). all_saved (branches_become cs (bare u.fill))) (ap (λ (l : List Bool). branches_put ats l (map without_room bs)) flags_are ∙ put_branches)

  grown_defs : defs_of (grown u.fill).branches ≡ defs_of u.fill.branches
  grown_defs =
      sym (defs_bare (grown u.fill).branches)
      ∙ ap (λ (f : TreeFill). defs_of f.branches) grown_is
      ∙ defs_put (entry_count u.fill) (map without_room bs) its put.branches (puts_are s.datime k.name (entry_count u.fill) s.segments (map without_room bs) its)
      ∙ defs_bare bs

  module _ (trees : List FilledTree) (same : s.trees ≡ map bare_tree trees) (there : slice_get trees at ≡ Some u) (ordered : AreNamesOrdered trees) where
    abbrev after : List FilledTree
    after = changed_tree at (saved_then plan.made.ats plan.made.flags) (changed_tree at (λ f. reserved f None) trees)

    once : after ≡ changed_tree at grown trees
    once = changed_twice at (saved_then ats flags) (λ f. reserved f None) trees

    in_order : AreNamesOrdered s.trees
    in_order = subst AreNamesOrdered (sym same) (ordered_bare trees ordered)

    bare_there : slice_get (map bare_tree trees) at ≡ Some v
    bare_there = subst (λ (l : List FilledTree). slice_get l at ≡ Some v) same h.named.there

    pub trees_are : map bare_tree after ≡ (saving_now s (tree_named k (bare u.fill)) k).kept.trees
    trees_are =
        ap (map bare_tree) once
        ∙ bare_changed at grown change trees u there grown_is
        ∙ changed_named k.name change (map bare_tree trees) (ordered_bare trees ordered) at v bare_there refl
        ∙ ap (with_change k.name change) (sym same)

    pub kept_rows : (kept : List KeptTree) → kept ≡ map kept_tree_of trees → (saved pending : ℕ) → saved ≡ u.fill.saved + u.fill.pending → pending ≡ 0 → with_rows k.name saved pending kept ≡ map kept_tree_of after
    kept_rows kept kept_are saved pending saved_is pending_is =
        let one = rows_changed at grown trees u ordered there grown_defs in
        (λ i. with_rows (sym own_name i) (saved_is i) (pending_is i) (kept_are i)) ∙ one ∙ ap (map kept_tree_of) (sym once)

    module _ (form : AreSegments s.segments) (kept : IsClosableWith s.segments s.heads s.trees s.info s.name) where
      pub due_then : plan.due ≡ due_of after
      due_then = h.planned.due ∙ sym (saved_due s k (bare u.fill) h.named.found h.first kept in_order form) ∙ ap due_of (sym trees_are) ∙ all_due after

      module _ (segments : List Segment) (segments_are : segments ≡ all_stepped plan.made.steps.items s.segments) (heads : List KeyHead) (heads_are : heads ≡ with_head plan.made.head (without_head k.name k.cycle s.heads)) where
        done_segments : segments ≡ (saving_now s v k).kept.segments
        done_segments = segments_are ∙ h.planned.made.steps_are.segments_are

        done_heads : heads ≡ (saving_now s v k).kept.heads
        done_heads = heads_are ∙ ap (λ (j : KeyHead). with_head j (without_head k.name k.cycle s.heads)) h.planned.made.head_is

        pub closable_then : IsClosableWith segments heads (map bare_tree after) s.info s.name
        closable_then =
            subst (λ (x : List Segment × (List KeyHead × List FilledTree)). IsClosableWith x.0 x.1.0 x.1.1 s.info s.name) (λ i. (sym done_segments i, (sym done_heads i, sym trees_are i)))
            (save_closable s k (bare u.fill) h.named.found h.first kept in_order form h.planned.named h.planned.room)

        pub directory_then : (nbytes_name : ℕ) → HoldsDirectory nbytes_name s.segments → HoldsDirectory nbytes_name segments
        directory_then nbytes_name holds =
            let n = length (header_record 0 s.datime k.name (k.cycle + 1) head) in
            let place = place_of put.segments n in
            let both = with_segment place n put.segments in
            let later = key_later s.segments s.heads s.info (places_of_trees s.trees) s.name k form kept.closable (first_is_found k.name s.heads k h.first) in
            let shape : AreSegments both = both_shape s k (bare u.fill) h.named.found h.first kept in_order form in
            directory_left nbytes_name k.seek both segments done_segments later shape.adjacent
            (directory_stays nbytes_name place n put.segments both refl (directory_puts nbytes_name s.datime k.name (entry_count u.fill) s.segments (map without_room bs) its holds))

        pub view_then : record s { segments = segments; heads = heads; trees = map bare_tree after } ≡ (saving_now s (tree_named k (bare u.fill)) k).kept
        view_then = λ i. record s { segments = done_segments i; heads = done_heads i; trees = trees_are i }

  -- ---- its key

  -- how many bytes are written of the keys
  pub bytes_then : heads_size (with_head plan.made.head (without_head k.name k.cycle s.heads)) ≡ heads_size s.heads - length (written_key k) + length (written_key plan.made.head)
  bytes_then = omega (arith, size_with plan.made.head (without_head k.name k.cycle s.heads), bytes_less s.heads k (first_is_found k.name s.heads k h.first))

  pub bytes_low : heads_size (with_head plan.made.head (without_head k.name k.cycle s.heads)) ≤ end_limit
  bytes_low =
      let room = plan_room_is s.segments (saving_now s v k).lengths (need_of_save s v k) h.planned.room in
      let own = ap (λ (j : KeyHead). heads_size (with_head j (without_head k.name k.cycle s.heads))) h.planned.made.head_is in
      let b = size_bounds s.name (heads_size (with_head (next_key s v k) (without_head k.name k.cycle s.heads))) (record_count s.segments + length put.lengths + (due_of_save s v).baskets) end_limit (omega (arith, room)) in
      omega (arith, own, b.0)

  -- no key has its name and cycle
  pub key_unused : AreOrdered s.heads → find (is_at_cycle plan.made.head.name plan.made.head.cycle) (without_head k.name k.cycle s.heads) ≡ None
  key_unused in_order =
      let n = length (header_record 0 s.datime k.name (k.cycle + 1) head) in
      let place = place_of put.segments n in
      let names = ap (λ (j : KeyHead). j.name) h.planned.made.head_is ∙ key_names place s.datime k.name (k.cycle + 1) head in
      let cycles = ap (λ (j : KeyHead). j.cycle) h.planned.made.head_is ∙ key_cycles place s.datime k.name (k.cycle + 1) head in
      let none = none_above_first s.heads k.name k (k.cycle + 1) in_order h.first (omega arith) in
      (λ i. find (is_at_cycle (names i) (cycles i)) (without_head k.name k.cycle s.heads)) ∙ none_without (is_at_cycle k.name (k.cycle + 1)) (is_at_cycle k.name k.cycle) s.heads none

-- ---- by what a session is seen as

-- The session is one as which it is seen.
module _ (other s : SessionState) (view_is : s ≡ other) (trees : List FilledTree) (same : s.trees ≡ map bare_tree trees) (k : KeyHead) (at : ℕ) (plan : SavePlan)
    (can : (t : FilledTree) × IsNamedAt other k.name at t × (head_of k.name None other.heads ≡ Some k) × IsSavePlan other t k plan) where
  -- the tree with its rooms
  record HasSaved : Type 0 where
    tree : FilledTree
    there : slice_get trees at ≡ Some tree
    name_is : tree.name ≡ k.name
    planned : IsSavedAt s k at plan (tree_named k (bare tree.fill))

  of_view : HasSaved
  of_view =
      let t = can.0 in
      let h : IsSavedAt s k at plan t = record {
        named = subst (λ (x : SessionState). IsNamedAt x k.name at t) (sym view_is) can.1;
        first = ap (λ (x : SessionState). head_of k.name None x.heads) view_is ∙ can.2;
        planned = subst (λ (x : SessionState). IsSavePlan x t k plan) (sym view_is) can.3;
      } in
      let m = mapped_at bare_tree trees at t (subst (λ (l : List FilledTree). slice_get l at ≡ Some t) same h.named.there) in
      let name : m.0.name ≡ k.name = ap (λ (x : FilledTree). x.name) m.2 ∙ found_name k.name t s.trees h.named.found in
      let as_named : t ≡ tree_named k (bare m.0.fill) = sym m.2 ∙ (λ i. record { name = name i; fill = bare m.0.fill }) in
      record { tree = m.0; there = m.1; name_is = name; planned = subst (IsSavedAt s k at plan) as_named h }

  abbrev w : FilledTree
  w = of_view.tree

  abbrev p : IsSavedAt s k at plan (tree_named k (bare of_view.tree.fill))
  p = of_view.planned

  same_tree : (t : FilledTree) → IsNamedAt other k.name at t → tree_named k (bare of_view.tree.fill) ≡ t
  same_tree t named = same_Some (tree_named k (bare w.fill)) t (sym p.named.found ∙ subst (λ (x : SessionState). find (is_tree_of k.name) x.trees ≡ Some t) (sym view_is) named.found)

  done_as : (t : FilledTree) → IsNamedAt other k.name at t → saving_now s (tree_named k (bare of_view.tree.fill)) k ≡ saving_now other t k
  done_as t named =
      let tree = same_tree t named in
      λ i. saving_now (view_is i) (tree i) k

  pub save_can : IsClosableWith s.segments s.heads s.trees s.info s.name → IsTreeAt (changed_tree at (λ t. reserved t None) trees) at (CanBeSavedThen plan.made.ats plan.made.flags)
  save_can kept = (record w { fill = reserved w.fill None }, changed_there at (λ t. reserved t None) trees w of_view.there, can_be_saved s k at plan w of_view.name_is p kept)

  pub save_runs : CanRun plan.made.steps.items s.segments
  save_runs = p.planned.made.steps_are.run

  pub save_bytes : heads_size (with_head plan.made.head (without_head k.name k.cycle s.heads)) ≡ heads_size s.heads - length (written_key k) + length (written_key plan.made.head)
  save_bytes = bytes_then s k at plan w of_view.name_is p

  pub save_bytes_low : heads_size (with_head plan.made.head (without_head k.name k.cycle s.heads)) ≤ end_limit
  save_bytes_low = bytes_low s k at plan w of_view.name_is p

  pub own_bytes : heads_size (without_head k.name k.cycle s.heads) + length (written_key k) ≡ heads_size s.heads
  own_bytes = bytes_less s.heads k (first_is_found k.name s.heads k p.first)

  pub save_unused : AreOrdered s.heads → find (is_at_cycle plan.made.head.name plan.made.head.cycle) (without_head k.name k.cycle s.heads) ≡ None
  save_unused in_order = key_unused s k at plan w of_view.name_is p in_order

  module _ (now : List FilledTree) (now_is : now ≡ changed_tree at (saved_then plan.made.ats plan.made.flags) (changed_tree at (λ f. reserved f None) trees)) (now_ordered : AreNamesOrdered now) where
    ordered_before : AreNamesOrdered trees
    ordered_before = ordered_back at (λ f. reserved f None) trees (ordered_back at (saved_then plan.made.ats plan.made.flags) (changed_tree at (λ f. reserved f None) trees) (subst AreNamesOrdered now_is now_ordered))

    pub save_trees : (kept : List KeptTree) → kept ≡ map kept_tree_of trees → (saved pending : ℕ) → ((t : FilledTree) → slice_get now at ≡ Some t → (saved ≡ t.fill.saved) × (pending ≡ t.fill.pending))
        → with_rows k.name saved pending kept ≡ map kept_tree_of now
    save_trees kept kept_are saved pending told =
        let first = record w { fill = reserved w.fill None } in
        let last : FilledTree = record w { fill = saved_then plan.made.ats plan.made.flags (reserved w.fill None) } in
        let here = changed_there at (saved_then plan.made.ats plan.made.flags) (changed_tree at (λ f. reserved f None) trees) first (changed_there at (λ f. reserved f None) trees w of_view.there) in
        let two = told last (subst (λ (l : List FilledTree). slice_get l at ≡ Some last) (sym now_is) here) in
        kept_rows s k at plan w of_view.name_is p trees same of_view.there ordered_before kept kept_are saved pending two.0 two.1 ∙ ap (map kept_tree_of) (sym now_is)

    module _ (form : AreSegments s.segments) (kept : IsClosableWith s.segments s.heads s.trees s.info s.name) where
      pub save_due : plan.due ≡ due_of now
      save_due = due_then s k at plan w of_view.name_is p trees same of_view.there ordered_before form kept ∙ ap due_of (sym now_is)

      module _ (segments : List Segment) (segments_are : segments ≡ all_stepped plan.made.steps.items s.segments) (heads : List KeyHead) (heads_are : heads ≡ with_head plan.made.head (without_head k.name k.cycle s.heads)) where
        pub save_closed : IsClosableWith segments heads (map bare_tree now) s.info s.name
        save_closed =
            subst (λ (l : List FilledTree). IsClosableWith segments heads (map bare_tree l) s.info s.name) (sym now_is)
            (closable_then s k at plan w of_view.name_is p trees same of_view.there ordered_before form kept segments segments_are heads heads_are)

        pub save_directory : (nbytes_name : ℕ) → HoldsDirectory nbytes_name s.segments → HoldsDirectory nbytes_name segments
        save_directory nbytes_name holds = directory_then s k at plan w of_view.name_is p trees same of_view.there ordered_before form kept segments segments_are heads heads_are nbytes_name holds

        pub save_view : (t : FilledTree) → IsNamedAt other k.name at t → record s { segments = segments; heads = heads; trees = map bare_tree now } ≡ (saving_now other t k).kept
        save_view t named =
            (λ i. record s { segments = segments; heads = heads; trees = map bare_tree (now_is i) })
            ∙ view_then s k at plan w of_view.name_is p trees same of_view.there ordered_before form kept segments segments_are heads heads_are
            ∙ ap (λ (d : Done). d.kept) (done_as t named)

  pub save_changes : (t : FilledTree) → IsNamedAt other k.name at t → (saving_now other t k).changes ≡ changes_of plan.made.steps.items
  save_changes t named = ap (λ (d : Done). d.changes) (sym (done_as t named)) ∙ sym p.planned.made.steps_are.changes

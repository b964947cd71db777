-- What is planned for a row of a tree, which is kept with rooms: it is a plan of the tree as it is seen without them.
use Rattle.std.proofs.Common.{◌≡◌, ◌∙◌, ℕ, ◌+◌, ◌-◌, ◌<◌, ◌≤◌, ◌^◌, Bool, true, false, List, [], ◌∷◌, ◌++◌, length, map, Some, refl, sym, ap, subst, arith}
use Rattle.std.proofs.lemmas.{List.{append-nil, length-map}, List.Elements.{All-from_recursion}, Option.{same_Some}}
use Rattle.std.specs.{List.{All, AllByRecursion, find}, Option.{option_map}, Prelude.{sum}}
use Rattle.rio_chain.specs.{Adjoining.{AreSegments}, Placing.{FreeSpace, end_after, place_of, places_of, space_of, with_segment}, Plans.{IsFull}, declared.fault.PlanFault.{PlanFault, TheVariants.{Full, NoMemory}}, declared.segment.Segment.{Segment}}
use Rattle.rio_chain.proofs.Laying.{end_grows, laid_put}
use Rattle.rio_close.proofs.Fitting.{place_low}
use Rattle.rio_effect.specs.TreeRecords.{length_of_basket}
use Rattle.rio_fill.specs.{Fill.{BranchFill, entry_count, full_flags, row_added}, Room.{without_room}}
use Rattle.rio_state.specs.Closing.{end_limit, is_full}
use Rattle.rio_session.specs.{Due.{due_of, due_of_fill}, Fillings.{BasketsPut, branches_become, filling_with, full_list, put_open, words_of_open}, Fills.{FilledTree, bare, bare_tree, is_tree_of}}
use Rattle.rio_session.specs.{Measures.{flags_for}, Noted.{ArePlanned, PlansBaskets, flagged, lengths_of_flagged}, RowPlans.{IsRowPlan, LacksRowRoom, due_changed, need_of_due, need_of_row}, SessionState.{SessionState}}
use Rattle.rio_session.specs.{TreeWorks.{due_behind}, declared.fill.RowPlan.{RowPlan}, declared.open_baskets.PlannedBaskets.{PlannedBaskets}, declared.open_tree.Due.{Due}}
use Rattle.rio_session.proofs.{Bare.{all_due, bare_found, due_bare}, FillSums.{sum_without}, Measured.{flags_of_row}, PlanRoom.{as_many_places, plan_has_room, plan_lacks_room}, PutOpen.{put_lengths}, PutsKept.{basket_aligned, basket_some}}
use Rattle.rio_session.proofs.{RoomMade.{bare_added, bare_put, put_bare}, RowPut.{firsts_bare, flags_bare, full_bare}}

-- ---- places

-- where records are placed below the limit, their places fit a word
places_low : (datime : ℕ) (tree : List ℕ) (count : ℕ) (segments : List Segment) (bs : List BranchFill) (flags : List Bool) → AreSegments segments
    → end_after (put_open datime tree count segments bs flags).lengths (space_of segments) ≤ 1999999996 → AllByRecursion (λ p. p < 2 ^ 32) (places_of (put_open datime tree count segments bs flags).lengths (space_of segments))
places_low datime tree count segments [] flags shape end = tt
places_low datime tree count segments (b ∷ bs) [] shape end = tt
places_low datime tree count segments (b ∷ bs) (true ∷ flags) shape end =
    let words = words_of_open tree datime b in
    let n = length_of_basket words in
    let place = place_of segments n in
    let put = laid_put segments n shape (basket_some words) (basket_aligned words) in
    let lengths = (put_open datime tree count (with_segment place n segments) bs flags).lengths in
    let later : end_after lengths (space_of (with_segment place n segments)) ≤ 1999999996 = subst (λ (x : FreeSpace). end_after lengths x ≤ 1999999996) (sym put.1) end in
    let low : place < 2 ^ 32 = omega (arith, place_low segments place n shape refl, end_grows (n ∷ lengths) (space_of segments), end) in
    let rest = places_low datime tree count (with_segment place n segments) bs flags put.0 later in
    (low, subst (λ (x : FreeSpace). AllByRecursion (λ p. p < 2 ^ 32) (places_of lengths x)) put.1 rest)
places_low datime tree count segments (b ∷ bs) (false ∷ flags) shape end = places_low datime tree count segments bs flags shape end

-- as many as there are baskets
flagged_long : (tree : List ℕ) (bs : List BranchFill) → length (lengths_of_flagged tree bs) ≡ length bs
flagged_long tree [] = refl
flagged_long tree (b ∷ bs) = let rest = flagged_long tree bs in omega (arith, rest)

-- ---- a tree without its rooms

branches_seen : (u : FilledTree) (row : List (List ℕ))
    → (put_open 0 u.name (entry_count u.fill) [] (map without_room u.fill.branches) (full_list (map without_room u.fill.branches) row)).branches
    ≡ map without_room (put_open 0 u.name (entry_count u.fill) [] u.fill.branches (full_list u.fill.branches row)).branches
branches_seen u row =
    ap (λ (fs : List Bool). (put_open 0 u.name (entry_count u.fill) [] (map without_room u.fill.branches) fs).branches) (full_bare u.fill.branches row)
    ∙ ap (λ (p : BasketsPut). p.branches) (put_bare 0 u.name (entry_count u.fill) [] u.fill.branches (full_list u.fill.branches row))

due_behind_bare : (u : FilledTree) (row : List (List ℕ)) → due_behind (bare_tree u) row ≡ due_behind u row
due_behind_bare u row =
    let cs = (put_open 0 u.name (entry_count u.fill) [] u.fill.branches (full_list u.fill.branches row)).branches in
    ap (λ (l : List BranchFill). due_of_fill u.name (row_added (branches_become l (bare u.fill)) row)) (branches_seen u row)
    ∙ ap (λ (l : List BranchFill). due_of_fill u.name (record { saved = u.fill.saved; pending = u.fill.pending + 1; branches = l })) (bare_added cs row)
    ∙ due_bare u.name (row_added (branches_become cs u.fill) row)

-- baskets that are planned
planned_bare : (datime : ℕ) (tree : List ℕ) (count : ℕ) (segments : List Segment) (bs : List BranchFill) (fs : List Bool) (planned : PlannedBaskets)
    → ArePlanned count (put_open datime tree count segments bs fs) segments bs fs planned.steps.items planned.ats
    → ArePlanned count (put_open datime tree count segments (map without_room bs) fs) segments (map without_room bs) fs planned.steps.items planned.ats
planned_bare datime tree count segments bs fs planned are =
    let same = sym (put_bare datime tree count segments bs fs) in
    record {
      run = are.run;
      changes = are.changes ∙ ap (λ (p : BasketsPut). p.changes) same;
      segments_are = are.segments_are ∙ ap (λ (p : BasketsPut). p.segments) same;
      branches_are = sym (bare_put planned.ats fs bs) ∙ ap (map without_room) are.branches_are ∙ ap (λ (p : BasketsPut). p.branches) same;
      long = are.long ∙ ap (λ (p : BasketsPut). length p.lengths) same;
      firsts = firsts_bare count planned.ats bs fs ∙ are.firsts;
    }

-- ---- the plan

module _ (s : SessionState) (trees : List FilledTree) (same : s.trees ≡ map bare_tree trees) (name : List ℕ) (u : FilledTree) (here : find (is_tree_of name) trees ≡ Some u) where
  pub seen : (t : FilledTree) → find (is_tree_of name) s.trees ≡ Some t → bare_tree u ≡ t
  seen t found = same_Some (bare_tree u) t (sym (ap (find (is_tree_of name)) same ∙ bare_found name trees ∙ ap (option_map bare_tree) here) ∙ found)

  pub as_many : (t : FilledTree) → find (is_tree_of name) s.trees ≡ Some t → (row : List (List ℕ)) → length row ≡ length t.fill.branches → length row ≡ length u.fill.branches
  as_many t found row each =
      subst (λ (v : FilledTree). length row ≡ length v.fill.branches) (sym (seen t found)) each ∙ length-map u.fill.branches without_room

  -- what its save writes is among what all write
  pub own_bytes : (due_of_fill u.name u.fill).bytes ≤ (due_of s.trees).bytes
  own_bytes =
      let less = sum_without (λ (v : FilledTree). (due_of_fill v.name v.fill).bytes) name u trees here in
      omega (arith, less, ap (λ (l : List FilledTree). (due_of l).bytes) same, ap (λ (d : Due). d.bytes) (all_due trees))

  pub own_baskets : (due_of_fill u.name u.fill).baskets ≤ (due_of s.trees).baskets
  own_baskets =
      let less = sum_without (λ (v : FilledTree). (due_of_fill v.name v.fill).baskets) name u trees here in
      omega (arith, less, ap (λ (l : List FilledTree). (due_of l).baskets) same, ap (λ (d : Due). d.baskets) (all_due trees))

  module _ (row : List (List ℕ)) (flags : ℕ) (flags_are : flags ≡ full_flags u.fill.branches row) (lengths : List ℕ)
      (lengths_are : (datime count : ℕ) (segments : List Segment) → lengths ≡ (put_open datime u.name count segments u.fill.branches (flags_for u.fill.branches flags)).lengths) where
    abbrev bs : List BranchFill
    bs = u.fill.branches

    abbrev fs : List Bool
    fs = flags_for u.fill.branches flags

    -- the flags are those of the row
    flags_so : flags_for u.fill.branches flags ≡ full_list u.fill.branches row
    flags_so = ap (flags_for bs) flags_are ∙ flags_of_row bs row

    flags_seen : flags_for u.fill.branches flags ≡ full_list (map without_room u.fill.branches) row
    flags_seen = flags_so ∙ sym (full_bare bs row)

    pub enough : (places : List ℕ) (space : FreeSpace) → places ≡ places_of lengths space → length (flagged u.fill.branches (flags_for u.fill.branches flags)) ≤ length places
    enough places space are =
        omega (
          arith,
          ap length are,
          as_many_places lengths space,
          ap length (lengths_are 0 0 []),
          ap length (put_lengths u.name 0 0 bs fs []),
          flagged_long u.name (flagged bs fs),
        )

    pub fit_words : (segments : List Segment) → AreSegments segments → end_after lengths (space_of segments) ≤ 1999999996 → (places : List ℕ) → places ≡ places_of lengths (space_of segments) → All (λ p. p < 2 ^ 32) places
    fit_words segments shape end places are =
        let own = lengths_are 0 0 segments in
        let low = places_low 0 u.name 0 segments bs fs shape (subst (λ (l : List ℕ). end_after l (space_of segments) ≤ 1999999996) own end) in
        All-from_recursion (λ p. p < 2 ^ 32) places
        (subst (AllByRecursion (λ p. p < 2 ^ 32)) (ap (λ (l : List ℕ). places_of l (space_of segments)) (sym own) ∙ sym are) low)

    lengths_seen : (filling_with s u.name row (bare_tree u).fill).lengths ≡ lengths
    lengths_seen =
        ap (λ (l : List Bool). (put_open s.datime u.name (entry_count u.fill) s.segments (map without_room bs) l).lengths) (sym flags_seen)
        ∙ ap (λ (p : BasketsPut). p.lengths) (put_bare s.datime u.name (entry_count u.fill) s.segments bs fs)
        ∙ sym (lengths_are s.datime (entry_count u.fill) s.segments)

    module _ (due : Due) (due_is : due ≡ due_changed (due_of s.trees) (due_of_fill u.name u.fill) (due_behind u row)) (need : ℕ) (need_is : need ≡ need_of_due s due (length lengths)) where
      due_seen : due ≡ due_changed (due_of s.trees) (due_of_fill u.name (bare u.fill)) (due_behind (bare_tree u) row)
      due_seen = due_is ∙ (λ i. due_changed (due_of s.trees) (sym (due_bare u.name u.fill) i) (sym (due_behind_bare u row) i))

      need_seen : need ≡ need_of_row s (bare_tree u) row
      need_seen = need_is ∙ (λ i. need_of_due s (due_seen i) (length (sym lengths_seen i)))

      full_seen : (b : Bool) → is_full s.segments lengths need ≡ b → is_full s.segments (filling_with s u.name row (bare_tree u).fill).lengths (need_of_row s (bare_tree u) row) ≡ b
      full_seen b is = subst (λ (x : List ℕ × ℕ). is_full s.segments x.0 x.1 ≡ b) (λ i. (sym lengths_seen i, need_seen i)) is

      pub row_plan : (limit : ℕ) → limit ≡ end_limit - need → (places : List ℕ) → places ≡ places_of lengths (space_of s.segments) → end_after lengths (space_of s.segments) ≤ limit → AreSegments s.segments
          → (planned : PlannedBaskets) → PlansBaskets s.datime u flags places planned.steps.items planned.ats
          → (t : FilledTree) → find (is_tree_of name) s.trees ≡ Some t → IsRowPlan s t row (record { flags = flags; baskets = planned; due = due })
      row_plan limit limit_is places are end shape planned plans t found =
          let count = entry_count u.fill in
          let put = put_open s.datime u.name count s.segments bs fs in
          let own = lengths_are s.datime count s.segments in
          let low : end_after put.lengths (space_of s.segments) ≤ 1999999996 = omega (arith, ap (λ (l : List ℕ). end_after l (space_of s.segments)) own, end, limit_is) in
          let placed : places ≡ places_of put.lengths (space_of s.segments) ++ [] =
          are ∙ ap (λ (l : List ℕ). places_of l (space_of s.segments)) own ∙ sym (append-nil (places_of put.lengths (space_of s.segments))) in
          let as_put : ArePlanned count put s.segments bs fs planned.steps.items planned.ats = plans s.segments [] shape placed low in
          let as_seen = planned_bare s.datime u.name count s.segments bs fs planned as_put in
          subst (λ (v : FilledTree). IsRowPlan s v row (record { flags = flags; baskets = planned; due = due })) (seen t found) (record {
            flags = flags_bare bs flags ∙ flags_seen;
            planned = subst (λ (l : List Bool). ArePlanned count (put_open s.datime u.name count s.segments (map without_room bs) l) s.segments (map without_room bs) l planned.steps.items planned.ats) flags_seen as_seen;
            due = due_seen;
            room = full_seen false (plan_has_room s.segments lengths need limit limit_is end);
          })

      pub row_lacks : (limit : ℕ) → limit ≡ end_limit - need → (fault : PlanFault) → IsFull s.segments lengths limit fault → (t : FilledTree) → find (is_tree_of name) s.trees ≡ Some t → LacksRowRoom s t row fault
      row_lacks limit limit_is NoMemory full t found = tt
      row_lacks limit limit_is (Full end wanted) full t found =
          subst (λ (v : FilledTree). LacksRowRoom s v row (Full end wanted)) (seen t found)
          (full_seen true (plan_lacks_room s.segments lengths need limit limit_is full.0), full.1, full.2 ∙ ap sum (sym lengths_seen))

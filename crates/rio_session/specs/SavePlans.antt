-- What is planned for a save.
use Rattle.std.specs.{Prelude.{◌≡◌, ◌≤◌, ◌<◌, ℕ, ◌+◌, ◌-◌, ◌^◌, List, length, sum, true, false}, List.{All}}
use Rattle.rio_key.specs.declared.head.KeyHead.{KeyHead}
use Rattle.rio_dir.specs.Table.{heads_size, with_head, without_head}
use Rattle.rio_chain.specs.{Adjoining.{AreSegments}, Chains.{HasRecordSegment}, Placing.{end_after, file_end, place_of, places_of, record_count, space_of}}
use Rattle.rio_chain.specs.declared.fault.PlanFault.{PlanFault, TheVariants.{Full, NoMemory}}
use Rattle.rio_tree.specs.declared.head.TreeHead.{TreeHead}
use Rattle.rio_fill.specs.Fill.{all_saved, entry_count}
use Rattle.rio_state.specs.{Closing.{is_full}, Sizes.{close_size}}
use Rattle.rio_effect.specs.TreeRecords.{header_key, header_record}
use Rattle.rio_session.specs.{Due.{IsBranchSound, due_of, due_of_fill}, Fillings.{BasketsPut, Done, branches_become, open_list, put_open, saving_with}, Fills.{FilledTree, header_of}}
use Rattle.rio_session.specs.{Measures.{flags_for}, Noted.{are_firsts, branches_put, flagged}, RowPlans.{due_changed}, SessionState.{SessionState}, TreeWorks.{AreStepsOf}}
use Rattle.rio_session.specs.declared.{open_tree.Due.{Due}, save.SaveMade.{SaveMade}, save.SavePlan.{SavePlan}}

-- ---- what is done

-- the open baskets of the tree are put
abbrev pub put_now : SessionState → FilledTree → BasketsPut
put_now s t = put_open s.datime t.name (entry_count t.fill) s.segments t.fill.branches (open_list t.fill.branches)

-- what its next header says
abbrev pub head_now : SessionState → FilledTree → TreeHead
head_now s t = header_of (all_saved (branches_become (put_now s t).branches t.fill))

-- and its key, where this one is that of the header before
abbrev pub next_key : SessionState → FilledTree → KeyHead → KeyHead
next_key s t h =
    let n = length (header_record 0 s.datime t.name (h.cycle + 1) (head_now s t)) in header_key (place_of (put_now s t).segments n) s.datime t.name (h.cycle + 1) (head_now s t)

abbrev pub saving_now : SessionState → FilledTree → KeyHead → Done
saving_now s t h = saving_with s t.name t.fill h

-- ---- records

-- The places are those of the rule, and END stays within its limit. The header before has a record other than the first, and there is a next
-- cycle.
pub record CanPlanSave (s : SessionState) (t : FilledTree) (h : KeyHead) (places : List ℕ) : Type 0 where
  pub form : AreSegments s.segments
  pub sound : All (IsBranchSound t.fill.saved t.fill.pending) t.fill.branches
  pub places_are : places ≡ places_of (saving_now s t h).lengths (space_of s.segments)
  pub low : end_after (saving_now s t h).lengths (space_of s.segments) ≤ 1999999996
  pub there : HasRecordSegment s.segments h.seek
  pub later : 100 < h.seek
  pub next : h.cycle < 2 ^ 16 - 1

-- The steps do the save, and so the tree is kept then, and its key.
pub record IsSaveMade (s : SessionState) (t : FilledTree) (h : KeyHead) (made : SaveMade) : Type 0 where
  pub flags : flags_for t.fill.branches made.flags ≡ open_list t.fill.branches
  pub steps_are : AreStepsOf (saving_now s t h) s.segments made.steps.items
  pub branches : branches_put made.ats (open_list t.fill.branches) t.fill.branches ≡ (put_now s t).branches
  pub firsts : are_firsts (entry_count t.fill) made.ats (flagged t.fill.branches (open_list t.fill.branches)) ≡ true
  pub head_is : made.head ≡ next_key s t h

-- ---- room

-- what all saves write behind it: this one is no longer due
abbrev pub due_of_save : SessionState → FilledTree → Due
due_of_save s t = due_changed (due_of s.trees) (due_of_fill t.name t.fill) (record { bytes = 0; baskets = 0 })

-- what a close needs then
abbrev pub need_of_save : SessionState → FilledTree → KeyHead → ℕ
need_of_save s t h =
    (due_of_save s t).bytes
    + close_size s.name (heads_size (with_head (next_key s t h) (without_head h.name h.cycle s.heads))) (record_count s.segments + length (put_now s t).lengths + (due_of_save s t).baskets)

pub record IsSavePlan (s : SessionState) (t : FilledTree) (h : KeyHead) (plan : SavePlan) : Type 0 where
  pub named : length h.name ≤ 100
  pub made : IsSaveMade s t h plan.made
  pub due : plan.due ≡ due_of_save s t
  pub room : is_full s.segments (saving_now s t h).lengths (need_of_save s t h) ≡ false

-- there is no room, or no memory
abbrev pub LacksSaveRoom : SessionState → FilledTree → KeyHead → PlanFault → Type 0
LacksSaveRoom s t h (Full end wanted) =
    (is_full s.segments (saving_now s t h).lengths (need_of_save s t h) ≡ true) × (end ≡ file_end s.segments) × (wanted ≡ sum (saving_now s t h).lengths)
LacksSaveRoom s t h NoMemory = Unit {0}

-- What it is to make, fill and save a tree.
use Rattle.std.specs.Prelude.{◌≡◌, ℕ, List, []}
use Rattle.rio_chain.specs.declared.segment.Segment.{Segment}
use Rattle.rio_fill.specs.Fill.{entry_count, row_added}
use Rattle.rio_session.specs.{Changing.{Changing}, Due.{due_of_fill}, Fillings.{Done, branches_become, full_list, put_open}, Fills.{FilledTree}}
use Rattle.rio_session.specs.{Steps.{CanRun, all_stepped, changes_of}, declared.open_tree.Due.{Due}, declared.steps.Step.{Step}}

-- ---- what is planned

-- what a command does by what is done, with what is printed then
abbrev pub doing : Done → List ℕ → ℕ → Changing
doing d text cost = record { changes = d.changes; kept = d.kept; text = text; cost = cost }

-- The steps make these changes of the segments, and can be done.
pub record AreStepsOf (d : Done) (segments : List Segment) (steps : List Step) : Type 0 where
  pub run : CanRun steps segments
  pub changes : changes_of steps ≡ d.changes
  pub segments_are : all_stepped steps segments ≡ d.kept.segments

-- ---- a fill

-- what a close writes of a tree with this row, once the baskets are put that don't take its entries
abbrev pub due_behind : FilledTree → List (List ℕ) → Due
due_behind t entries =
    let put = put_open 0 t.name (entry_count t.fill) [] t.fill.branches (full_list t.fill.branches entries) in
    due_of_fill t.name (row_added (branches_become put.branches t.fill) entries)

-- What is planned for a row.
use Rattle.std.specs.{Prelude.{◌≡◌, ◌≤◌, ◌<◌, ℕ, ◌+◌, ◌-◌, ◌*◌, ◌^◌, ◌==◌, List, length, sum, Bool, true, false, Option, Some, None, Result, IfOk, slice_get, if◌then◌else◌}, List.{find, sum_by}}
use Rattle.rio_chain.specs.{Placing.{file_end, record_count}, declared.fault.PlanFault.{PlanFault, TheVariants.{Full, NoMemory}}}
use Rattle.rio_dir.specs.Table.{heads_size}
use Rattle.rio_num.specs.{Answers.{GivesUnless}, Word.{is_item_text}}
use Rattle.rio_machine.specs.declared.entry_fault.EntryFault.{EntryFault, TheVariants.{NoMemory as OutOfMemory}}
use Rattle.rio_fill.specs.{Fill.{defs_of, entry_count}, Prepare.{are_sized, row_prepared}}
use Rattle.rio_judge.specs.declared.work.NewRow.{NewRow}
use Rattle.rio_machine.specs.{Limits.{branch_limit}, Rows.{entries_of}, State.{Row, State}, declared.command.Command.{Command, TheVariants.{Fill}}}
use Rattle.rio_step.specs.Refusing.{fill_row, refusal_of}
use Rattle.rio_state.specs.{Closing.{is_full}, Sizes.{close_size}}
use Rattle.rio_session.specs.{Due.{due_of, due_of_fill}, Fillings.{filling_with, full_list, put_open}, Fills.{FilledTree, is_tree_of}}
use Rattle.rio_session.specs.{Items.{IsOfKeys}, Measures.{IsSmallRow, flags_for}, Noted.{ArePlanned}, SessionState.{SessionState}, TreeWorks.{due_behind}}
use Rattle.rio_session.specs.declared.{fill.RowPlan.{RowPlan}, open_tree.Due.{Due}}

-- ---- sums

-- what all saves write, where this of one tree is another one
abbrev pub due_changed : Due → Due → Due → Due
due_changed all before after = record { bytes = all.bytes - before.bytes + after.bytes; baskets = all.baskets - before.baskets + after.baskets }

-- what a close needs then, with so many records more
abbrev pub need_of_due : SessionState → Due → ℕ → ℕ
need_of_due s due more = due.bytes + close_size s.name (heads_size s.heads) (record_count s.segments + more + due.baskets)

-- ---- a row

-- how many bytes an entry may cost of the file's room, where so many rows are pending
abbrev pub entry_cost : List ℕ → ℕ → ℕ
entry_cost entry pending = 2 * length entry + 5 + (if pending == 0 then 330 else 0)

-- and a row
abbrev pub row_cost : List (List ℕ) → ℕ → ℕ
row_cost entries pending = sum_by (λ entry. 2 * length entry + 5) entries + (if pending == 0 then 330 * length entries else 0)

-- The entries are such as a row of the tree has, one of each branch.
pub record IsRowOf (t : FilledTree) (entries : List (List ℕ)) : Type 0 where
  pub each : length entries ≡ length t.fill.branches
  pub few : length entries ≤ branch_limit
  pub small : IsSmallRow entries
  pub sized : are_sized (defs_of t.fill.branches) entries ≡ true

-- the tree of the name, which stands at the number
pub record IsNamedAt (s : SessionState) (name : List ℕ) (at : ℕ) (t : FilledTree) : Type 0 where
  pub found : find (is_tree_of name) s.trees ≡ Some t
  pub there : slice_get s.trees at ≡ Some t

-- what a close needs with the row pending
abbrev pub need_of_row : SessionState → FilledTree → List (List ℕ) → ℕ
need_of_row s t entries = need_of_due s (due_changed (due_of s.trees) (due_of_fill t.name t.fill) (due_behind t entries)) (length (filling_with s t.name entries t.fill).lengths)

-- The baskets that don't take the entries are put, at the places of the rule, and there is room for what a close needs then.
pub record IsRowPlan (s : SessionState) (t : FilledTree) (entries : List (List ℕ)) (plan : RowPlan) : Type 0 where
  pub flags : flags_for t.fill.branches plan.flags ≡ full_list t.fill.branches entries
  pub planned : ArePlanned (entry_count t.fill) (put_open s.datime t.name (entry_count t.fill) s.segments t.fill.branches (full_list t.fill.branches entries)) s.segments t.fill.branches (full_list t.fill.branches entries)
      plan.baskets.steps.items plan.baskets.ats
  pub due : plan.due ≡ due_changed (due_of s.trees) (due_of_fill t.name t.fill) (due_behind t entries)
  pub room : is_full s.segments (filling_with s t.name entries t.fill).lengths (need_of_row s t entries) ≡ false

-- there is no room, or no memory
abbrev pub LacksRowRoom : SessionState → FilledTree → List (List ℕ) → PlanFault → Type 0
LacksRowRoom s t entries (Full end wanted) =
    (is_full s.segments (filling_with s t.name entries t.fill).lengths (need_of_row s t entries) ≡ true) × (end ≡ file_end s.segments) × (wanted ≡ sum (filling_with s t.name entries t.fill).lengths)
LacksRowRoom s t entries NoMemory = Unit {0}

-- ---- the fill

-- this is what came of making the entries of the row
pub record IsPreparedOf (s : SessionState) (t : FilledTree) (r : NewRow) (found : Result (List (List ℕ)) EntryFault) : Type 0 where
  pub exact : GivesUnless OutOfMemory (λ entries. entries) found (row_prepared s.classes (defs_of t.fill.branches) r.row)
  pub sized : IfOk found (λ entries. are_sized (defs_of t.fill.branches) entries ≡ true)
  pub few : length t.fill.branches ≤ branch_limit

-- The command fills the tree with a row of these entries, for each state that the kept keys stand for, and nothing but want of room refuses it.
pub record IsFillOf (s : SessionState) (r : NewRow) (entries : List (List ℕ)) (c : Command) : Type 0 where
  pub row : Row
  pub fill : c ≡ Fill r.name row
  pub named : is_item_text r.name ≡ true
  pub free : (m : State) → IsOfKeys s m → refusal_of m (Fill r.name row) None ≡ None
  pub made : (m : State) (t : FilledTree) → IsOfKeys s m → find (is_tree_of r.name) s.trees ≡ Some t → entries_of m.classes (defs_of t.fill.branches) (fill_row m row) ≡ entries

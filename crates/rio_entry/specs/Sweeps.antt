-- A row of a tree, gone through from branch to branch: which branches are still read, and their values.
use Rattle.std.specs.{Prelude.{ℕ, List, [], ◌∷◌, ◌++◌, Option, Some, None, is_some}, Option.{option_or}}
use Rattle.rio_format.specs.{declared.class.ClassDef.{ClassDef}, declared.value.Value.{Value}}
use Rattle.rio_tree.specs.{declared.head.Branch.{Branch}, declared.refusal.BranchRefusal.{BranchRefusal, TheVariants.{NoCounter, BadEntry}}}
use Rattle.rio_entry.specs.{declared.tree_row.TreeRow.{TreeRow}, Counters.{counters_are_read, values_or_none}, Refusals.{refused_first, refused_unless}}
use Rattle.rio_entry.specs.BranchRows.{values_of_branch}

-- ---- refusals

-- the refusal with which a branch comes to an entry, behind branches that are refused so there
abbrev pub refusal_before : List (Option BranchRefusal) → Branch → Option BranchRefusal → Option BranchRefusal
refusal_before refused b r = option_or (refused_first r) (option_or (refused_unless (counters_are_read refused b) NoCounter) r)

-- and with which it goes on, where it has these values, or none
abbrev pub refusal_behind : Option BranchRefusal → Option (List Value) → Option BranchRefusal
refusal_behind r read = option_or r (refused_unless (is_some read) BadEntry)

-- the values of a branch that is still read
abbrev pub values_kept : Option BranchRefusal → Option (List Value) → List Value
values_kept None read = values_or_none read
values_kept (Some r) read = []

-- ---- sweeps

-- a row with one branch more, which comes with a refusal and has these values, or none
abbrev pub with_branch : TreeRow → Option BranchRefusal → Option (List Value) → TreeRow
with_branch row r read = record {
  refusals = row.refusals ++ refusal_behind r read ∷ [];
  values = row.values ++ values_kept (refusal_behind r read) read ∷ [];
}

abbrev pub sweep_one : List ℕ → List ClassDef → ℕ → List Branch → TreeRow → Branch → Option BranchRefusal → TreeRow
sweep_one file classes e before row b r =
    with_branch row (refusal_before row.refusals b r) (values_of_branch file classes e before row.values b)

-- each branch behind others, with the refusal with which it comes
abbrev pub sweep_behind : List ℕ → List ClassDef → ℕ → List Branch → TreeRow → List Branch → List (Option BranchRefusal) → TreeRow
sweep_behind file classes e before row [] rs = row
sweep_behind file classes e before row (b ∷ bs) [] = row
sweep_behind file classes e before row (b ∷ bs) (r ∷ rs) =
    sweep_behind file classes e (before ++ b ∷ []) (sweep_one file classes e before row b r) bs rs

abbrev pub empty_row : TreeRow
empty_row = record { refusals = []; values = [] }

-- the row at an entry, of branches that come with these refusals
unfoldable pub sweep : List ℕ → List ClassDef → ℕ → List Branch → List (Option BranchRefusal) → TreeRow
sweep file classes e branches rs = sweep_behind file classes e [] empty_row branches rs

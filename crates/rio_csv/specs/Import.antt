-- The commands of an import: a tree, a fill for each row of a text, and a save after each so many rows.
use Rattle.std.specs.Prelude.{ℕ, ◌+◌, ◌%◌, ◌<◌, max, List, [], ◌∷◌, ◌++◌, Bool, true, false, not, ◌==◌, ◌&&◌, Option, None, IsSome, option_map}
use Rattle.rio_csv.specs.Rows.{rows_in}
use Rattle.rio_csv.specs.declared.import.NextCommand.{NextCommand, TheVariants.{Tree as TreeNext, Row as RowNext, Save as SaveNext, Failed}}
use Rattle.rio_leaf.specs.declared.branch.BranchDef.{BranchDef}
use Rattle.rio_machine.specs.declared.command.Command.{Command, TheVariants.{Tree as MakeTree, Fill, Save}}
use Rattle.rio_format.specs.declared.value.Value.{Value}

-- whether the tree is saved after so many rows: after each `every` of them, and never where that is 0
abbrev pub is_save_due : ℕ → ℕ → Bool
is_save_due every count = not (every == 0) && (count % every == 0)

abbrev pub save_if : Bool → List ℕ → List Command
save_if true name = Save name ∷ []
save_if false name = []

-- the commands of rows, behind so many others; a bad row counts like any other
unfoldable pub row_commands : List ℕ → ℕ → ℕ → List (List Value) → List Command
row_commands name every count [] = []
row_commands name every count (row ∷ rows) =
    Fill name row ∷ (save_if (is_save_due every (count + 1)) name ++ row_commands name every (count + 1) rows)

-- the commands of an import of a text into a new tree
abbrev pub import_script : List ℕ → List BranchDef → ℕ → List ℕ → List Command
import_script name branches every text = MakeTree name branches ∷ row_commands name every 0 (rows_in branches text)

-- ---- one command after the other

-- what is left, behind so many rows since the last save, when this comes next; None where a row was lost
abbrev pub commands_left : NextCommand → List ℕ → List BranchDef → ℕ → ℕ → Option (List (List Value)) → Option (List Command)
commands_left TreeNext name branches every since rows = option_map (λ rs. MakeTree name branches ∷ row_commands name every since rs) rows
commands_left RowNext name branches every since rows = option_map (row_commands name every since) rows
commands_left SaveNext name branches every since rows = option_map (λ rs. Save name ∷ row_commands name every since rs) rows
commands_left Failed name branches every since rows = None

-- what comes behind a row
abbrev pub next_behind : Bool → NextCommand
next_behind true = SaveNext
next_behind false = RowNext

-- there are rows unless one was lost
abbrev pub HasRows : NextCommand → Option (List (List Value)) → Type 0
HasRows TreeNext rows = IsSome rows
HasRows RowNext rows = IsSome rows
HasRows SaveNext rows = IsSome rows
HasRows Failed rows = Unit {0}

-- the rows since the last save are fewer than there are from one save to the next; none where there are no saves
abbrev pub IsSince : ℕ → ℕ → Type 0
IsSince every since = since < max every 1

-- What there is to sum up of a tree in a closed file: how many entries, branches and baskets it has, and the integers of its rows.
use Rattle.std.specs.Prelude.{ℕ, ◌+◌, pos, List, [], ◌∷◌, length, drop, map, Option, Some, None, Result, Ok, Err, unwrap_or, if◌then◌else◌}
use Rattle.std.specs.{Int.{int_wrap, w128}, List.{range_with_len}}
use Rattle.rio_num.specs.Reading.{◌>>=◌}
use Rattle.rio_format.specs.{declared.class.ClassDef.{ClassDef}, TreeClasses.{tree_classes}}
use Rattle.rio_key.specs.{declared.head.KeyHead.{KeyHead}, Key.{is_compressed}}
use Rattle.rio_head.specs.declared.fault.HeadFault.{HeadFault}
use Rattle.rio_machine.specs.State.{Row}
use Rattle.rio_tree.specs.{declared.head.Branch.{Branch}, declared.head.TreeHead.{TreeHead}}
use Rattle.rio_entry.specs.SavedRows.{row_there}
use Rattle.rio_gen.specs.Summary.{sum_of_rows}
use Rattle.rio_report.specs.{Described.{described_file}, Dump.{stored_tree}, Scan.{tree_key}}
use Rattle.rio_report.specs.declared.summary.TreeSummary.{TreeSummary}

-- the classes that are declared in a file: those behind the classes of trees, which it describes first
abbrev pub declared_in : List ClassDef → List ClassDef
declared_in classes = drop (length tree_classes) classes

-- The rows of so many entries, each as a state has it: all branches have the entry, and it is read and fits them. An entry without
-- such a row counts as an empty one.
abbrev pub rows_there : List ℕ → List ClassDef → List Branch → ℕ → List Row
rows_there file classes branches entries = map (λ e. unwrap_or (row_there file classes branches e) []) (range_with_len 0 entries)

-- how many baskets some branches have
abbrev pub basket_count : List Branch → ℕ
basket_count [] = 0
basket_count (b ∷ bs) = length b.baskets + basket_count bs

-- So much of a tree: its first entries alone are summed up. The sum is one modulo 2^128.
abbrev pub summary_to : List ℕ → List ClassDef → List Branch → ℕ → ℕ → ℕ → TreeSummary
summary_to file classes branches entries baskets e = record {
  entries = entries;
  branches = length branches;
  baskets = baskets;
  sum = int_wrap w128 (sum_of_rows (rows_there file classes branches e));
}

-- of a tree with this header in a file that describes these classes
abbrev pub summary_of_head : List ℕ → List ClassDef → TreeHead → TreeSummary
summary_of_head file classes head =
    summary_to file (declared_in classes) head.branches head.entries (basket_count head.branches) head.entries

-- of no tree
abbrev pub no_summary : TreeSummary
no_summary = record { entries = 0; branches = 0; baskets = 0; sum = pos 0 }

abbrev pub summary_or_none : List ℕ → List ClassDef → Result TreeHead (List ℕ) → TreeSummary
summary_or_none file classes (Ok head) = summary_of_head file classes head
summary_or_none file classes (Err text) = no_summary

-- of the tree of a key; a record that isn't read is no tree
abbrev pub key_summary : List ℕ → List ClassDef → KeyHead → TreeSummary
key_summary file classes key = if is_compressed key then no_summary else summary_or_none file classes (stored_tree file classes key)

abbrev pub found_summary : List ℕ → List ClassDef → Option KeyHead → TreeSummary
found_summary file classes None = no_summary
found_summary file classes (Some key) = key_summary file classes key

-- of the tree of a name in a file, or the first rule that the file breaks
unfoldable pub summarized_file : List ℕ → List ℕ → Result TreeSummary HeadFault
summarized_file name file = do
  described ← described_file file
  Ok (found_summary file described.classes (tree_key name described.closed.keys))

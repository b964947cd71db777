-- What the verbs scan and export say of a file: export says the rows as CSV.
use Rattle.std.specs.Prelude.{◌≡◌, ℕ, ◌++◌, List, [], ◌∷◌, codes, Option, Some, None, Result, Ok, Err, Bool, if◌then◌else◌}
use Rattle.std.specs.{List.{filter, flat_map, list_any, range_with_len}, Fmt.{decimal}}
use Rattle.rio_num.specs.{Printed.{item_text, name_text}, Reading.{◌>>=◌}}
use Rattle.rio_format.specs.declared.class.ClassDef.{ClassDef}
use Rattle.rio_key.specs.{declared.head.KeyHead.{KeyHead}, Key.{is_compressed}}
use Rattle.rio_head.specs.declared.fault.HeadFault.{HeadFault}
use Rattle.rio_machine.specs.{RefusalText.{refusal_text}, declared.refusal.Refusal.{Refusal, TheVariants.{NoSuchName, NotATree}}}
use Rattle.rio_step.specs.Refusing.{row_seen_in}
use Rattle.rio_tree.specs.{declared.head.Branch.{Branch}, declared.head.TreeHead.{TreeHead}}
use Rattle.rio_tree.specs.{Texts.{branch_refusal_name}, declared.refusal.BranchRefusal.{BranchRefusal}}
use Rattle.rio_report.specs.{declared.described.Described.{Described}, Described.{described_file}, Dump.{is_tree, stored_tree}, Item.{with_greatest_cycle}}
use Rattle.rio_dir.specs.Table.{is_of_name}
use Rattle.rio_entry.specs.{BranchRows.{row_at, rows_of}, Refusals.{refusals_of}}
use Rattle.rio_report.specs.RowForms.{RowForm, refused_by, row_had, row_text, rows_refusal}

-- ---- the key

-- the key of the tree of a name, of the greatest cycle, the first of several
abbrev pub tree_key : List ℕ → List KeyHead → Option KeyHead
tree_key name keys = with_greatest_cycle name (filter is_tree keys)

abbrev pub or_no_tree : Bool → Option KeyHead → Result KeyHead Refusal
or_no_tree named (Some key) = Ok key
or_no_tree named None = if named then Err NotATree else Err NoSuchName

-- or why there is none: no key has the name, or none of the name is a tree's
abbrev pub found_tree : List ℕ → List KeyHead → Result KeyHead Refusal
found_tree name keys = or_no_tree (list_any (is_of_name name) keys) (tree_key name keys)

-- ---- the branches that aren't read

-- nothing is said of a branch that is read
abbrev pub refused_line : Branch → Option BranchRefusal → List ℕ
refused_line b None = []
refused_line b (Some refusal) = codes "branch " ++ name_text b.def.name ++ codes " refused " ++ branch_refusal_name refusal ++ codes "\n"

-- a line for each that isn't read, in order
abbrev pub refused_lines : List Branch → List (Option BranchRefusal) → List ℕ
refused_lines [] refused = []
refused_lines (b ∷ bs) [] = []
refused_lines (b ∷ bs) (r ∷ rs) = refused_line b r ++ refused_lines bs rs

-- ---- the rows

-- the line of the row at an entry
abbrev pub row_line : RowForm → List ℕ → List ClassDef → List Branch → List (Option BranchRefusal) → ℕ → List ℕ
row_line form file classes branches refused e = row_text form.csv e (row_had classes form.class (row_at file classes branches refused e))

-- the row at an entry can be had in the form
abbrev pub IsHad : RowForm → List ℕ → List ClassDef → List Branch → List (Option BranchRefusal) → ℕ → Type 0
IsHad form file classes branches refused e = refused_by (row_seen_in classes form.class (row_at file classes branches refused e)) ≡ None

-- a line for each of so many entries
abbrev pub row_lines : RowForm → List ℕ → List ClassDef → List Branch → List (Option BranchRefusal) → ℕ → List ℕ
row_lines form file classes branches refused entries = flat_map (row_line form file classes branches refused) (range_with_len 0 entries)

-- ---- the tree

-- ok scan NAME COUNT
abbrev pub scanned_count : List ℕ → ℕ → List ℕ
scanned_count name entries = codes "ok scan " ++ name_text name ++ codes " " ++ decimal entries ++ codes "\n"

-- CSV has no such line
abbrev pub count_line : Bool → List ℕ → ℕ → List ℕ
count_line csv name entries = if csv then [] else scanned_count name entries

-- why it is refused, or else this
abbrev pub refused_or : Option Refusal → List ℕ → List ℕ
refused_or (Some refusal) text = refusal_text refusal
refused_or None text = text

-- the refused branches, and then why the rows can't be had, or how many there are and each of them
abbrev pub lines_refusing : RowForm → List (Option BranchRefusal) → List ℕ → List ClassDef → List ℕ → TreeHead → List ℕ
lines_refusing form refused file classes name head =
    refused_lines head.branches refused
    ++ refused_or (rows_refusal classes form.class (rows_of file classes head.branches refused head.entries))
    (count_line form.csv name head.entries ++ row_lines form file classes head.branches refused head.entries)

unfoldable pub tree_lines : RowForm → List ℕ → List ClassDef → List ℕ → TreeHead → List ℕ
tree_lines form file classes name head = lines_refusing form (refusals_of file classes head.entries head.branches) file classes name head

-- NAME;CYCLE and what is said in place of a tree that isn't read
abbrev pub unread_line : KeyHead → List ℕ → List ℕ
unread_line key text = item_text key.name key.cycle ++ codes " " ++ text ++ codes "\n"

abbrev pub lines_or_unread : RowForm → List ℕ → List ClassDef → KeyHead → Result TreeHead (List ℕ) → List ℕ
lines_or_unread form file classes key (Ok head) = tree_lines form file classes key.name head
lines_or_unread form file classes key (Err text) = unread_line key text

-- what is said of a key of a tree
abbrev pub key_scan : RowForm → List ℕ → List ClassDef → KeyHead → List ℕ
key_scan form file classes key =
    if is_compressed key then unread_line key (codes "compressed")
    else lines_or_unread form file classes key (stored_tree file classes key)

abbrev pub scan_lines : RowForm → List ℕ → List ClassDef → Result KeyHead Refusal → List ℕ
scan_lines form file classes (Ok key) = key_scan form file classes key
scan_lines form file classes (Err refusal) = refusal_text refusal

-- ---- the file

abbrev pub scan_text : RowForm → List ℕ → List ℕ → Described → List ℕ
scan_text form file name described = scan_lines form file described.classes (found_tree name described.closed.keys)

-- what is said of the tree of a name in a file, or the first rule that the file breaks
unfoldable pub scanned_file : RowForm → List ℕ → List ℕ → Result (List ℕ) HeadFault
scanned_file form name file = do
  described ← described_file file
  Ok (scan_text form file name described)

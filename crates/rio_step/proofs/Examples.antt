-- Some scripts, and what they are read as; and what is said.
use Rattle.std.proofs.Common.{◌≡◌, ℕ, pos, List, [], ◌∷◌, ◌++◌, true, Some, None, refl}
use Rattle.std.specs.{Prelude.{codes}, Fmt.{digits}}
use Rattle.rio_num.specs.Printed.{name_text}
use Rattle.rio_token.specs.{Reading.{list_at, mark_at, more_at, num_at, num_between_at, some_at, word_at, word_that_at, end_at}, Tokens.{scan_of}}
use Rattle.rio_token.specs.Words.{decimal, written}
use Rattle.rio_leaf.specs.{declared.branch.BranchDef.{BranchDef}, declared.branch.Shape.TheVariants.{Leaves, Class as Objects}}
use Rattle.rio_leaf.specs.{declared.leaf.Dim.{Dim, TheVariants.{One, Fixed, Counted}}, declared.leaf.Leaf.{Leaf}}
use Rattle.rio_format.specs.declared.value.Value.{Value, Bool as Truth, Null}
use Rattle.rio_model.specs.ValueGrammar.{class_version_at, enclosed_at, enclosed_by, object_at, part_at, value_in_text, word_value, word_value_at}
use Rattle.rio_machine.specs.{RefusalText.{refusal_text}, declared.command.Command.TheVariants.{Bad, Batch, Delete, Tree as MakeTree, Save, Get, Scan, Ls}}
use Rattle.rio_machine.specs.declared.command.PutItem.{PutItem}
use Rattle.rio_machine.specs.declared.refusal.Refusal.TheVariants.{BadLine, KindChanged, Full}
use Rattle.rio_step.specs.ReplyText.{text_of}
use Rattle.rio_step.specs.Script.{asked_class_at, asked_version_at, batch_command_at, batch_put_at, command_at, commands_from, cycle_at, delete_command_at, get_command_at, line_command, put_command_at, save_command_at, scan_command_at, script_of, tree_command_at}
use Rattle.rio_step.specs.Step.{object_listed, tree_listed, object_put, objects_put, item_deleted, row_added, rows_saved, items_listed}
use Rattle.rio_step.specs.TreeGrammar.{branch_at, branch_class_at, branch_leaf_at, branch_leaves_at, further_at, glued_at, glued_mark_at, items_at, leaf_dim_at, leaf_dimension, tree_leaf_at}

-- ---- scripts

-- an object that ends too early is bad at the line's length; an empty line is counted
bad_lines : script_of (codes "put s TObjString{\n\nfrob x\n") ≡ Bad 1 17 ∷ Bad 3 0 ∷ []
unfolding scan_of commands_from line_command command_at put_command_at word_that_at value_in_text word_value_at object_at class_version_at enclosed_at enclosed_by list_at some_at part_at mark_at word_at
bad_lines = refl

-- comments are counted; a carriage return before a line feed is dropped, and one at the end can't stand
other_lines : script_of (codes "# ls\nls\r\n\r\n ls \nls\r") ≡ Ls ∷ Ls ∷ Bad 5 2 ∷ []
unfolding scan_of commands_from line_command command_at end_at
other_lines = refl

names_and_numbers : script_of (codes "delete s;2\ndelete s;02\nget L\nget L;3 as 32768\nscan T as P#2\nsave T") ≡
    Delete (codes "s") 2 ∷ Bad 2 9 ∷ Get (codes "L") None None ∷ Bad 4 11 ∷ Scan (codes "T") (Some (record { name = codes "P"; version = pos 2 })) ∷ Save (codes "T") ∷ []
unfolding scan_of commands_from line_command command_at delete_command_at get_command_at cycle_at asked_version_at scan_command_at asked_class_at save_command_at word_that_at num_at num_between_at mark_at end_at decimal written
names_and_numbers = refl

put_of : List ℕ → Value → PutItem
put_of name v = record { name = name; value = v }

-- a batch has a put, and braces; no comma stands behind its last put
batches : script_of (codes "batch { a null, b true}\nbatch {}\nbatch {a null,}\nbatch a null\nbatch {a null") ≡
    Batch (put_of (codes "a") Null ∷ put_of (codes "b") (Truth true) ∷ []) ∷ Bad 2 7 ∷ Bad 3 14 ∷ Bad 4 6 ∷ Bad 5 13 ∷ []
unfolding scan_of commands_from line_command command_at batch_command_at batch_put_at word_that_at value_in_text word_value word_value_at word_at some_at more_at mark_at end_at put_of
batches = refl

leaf : List ℕ → ℕ → Dim → Leaf
leaf name letter dim = record { name = name; letter = letter; dim = dim }

branch : List ℕ → List Leaf → BranchDef
branch name leaves = record { name = name; shape = Leaves leaves }

-- a counter in an earlier branch
trees : script_of (codes "tree V n=n/I v=v[n]/F:w[3]/B o=class:P") ≡
    MakeTree (codes "V") (branch (codes "n") (leaf (codes "n") 73 One ∷ []) ∷ branch (codes "v") (leaf (codes "v") 70 (Counted (codes "n") 1) ∷ leaf (codes "w") 66 (Fixed 3) ∷ [])
    ∷ record { name = codes "o"; shape = Objects (codes "P") } ∷ []) ∷ []
unfolding scan_of commands_from line_command command_at tree_command_at items_at further_at branch_at branch_leaves_at branch_class_at branch_leaf_at tree_leaf_at leaf_dim_at leaf_dimension glued_at glued_mark_at word_that_at end_at decimal written branch leaf
trees = refl

-- no counter, a blank in a branch, a text with a dimension, a leaf twice, and no branch
bad_trees : script_of (codes "tree V v=v[n]/F\ntree V v= v/F\ntree V c=c[3]/C\ntree V a=a/I b=a/I\ntree V") ≡ Bad 1 11 ∷ Bad 2 10 ∷ Bad 3 14 ∷ Bad 4 15 ∷ Bad 5 6 ∷ []
unfolding scan_of commands_from line_command command_at tree_command_at items_at further_at branch_at branch_leaves_at branch_class_at branch_leaf_at tree_leaf_at leaf_dim_at leaf_dimension glued_at glued_mark_at word_that_at end_at decimal written
bad_trees = refl

-- a leaf may be called `class`, but where one is, only a class can stand behind the word
class_leaves : script_of (codes "tree V a=class/I\ntree V a=class/I b=class/I\ntree V a=class/I b=class:P") ≡
    MakeTree (codes "V") (branch (codes "a") (leaf (codes "class") 73 One ∷ []) ∷ []) ∷ Bad 2 24
    ∷ MakeTree (codes "V") (branch (codes "a") (leaf (codes "class") 73 One ∷ []) ∷ record { name = codes "b"; shape = Objects (codes "P") } ∷ []) ∷ []
unfolding scan_of commands_from line_command command_at tree_command_at items_at further_at branch_at branch_leaves_at branch_class_at branch_leaf_at tree_leaf_at leaf_dim_at leaf_dimension glued_at glued_mark_at word_that_at end_at decimal written branch leaf
class_leaves = refl

-- ---- what is said

refusals_said : refusal_text (BadLine 1 17) ++ refusal_text (KindChanged (codes "f")) ++ refusal_text (Full 1999999000 1000) ≡ codes "no 1 BadLine 1 17\nno 13 KindChanged f\nno 19 Full 1999999000 1000\n"
unfolding name_text digits
refusals_said = refl

replies_said : text_of (object_put (codes "s") 1) ++ text_of (objects_put ((codes "a", 1) ∷ (codes "a", 2) ∷ [])) ++ text_of (item_deleted (codes "s") 2) ++ text_of (row_added (codes "T") 3) ++ text_of (rows_saved (codes "T") 2 4)
    ++ text_of (items_listed (((codes "T", 3), tree_listed 4 2) ∷ ((codes "s", 2), object_listed (codes "TObjString")) ∷ []))
    ≡ codes "ok put s;1\nok batch a;1 a;2\nok delete s;2\nok fill T 3\nok save T;2 4\nok ls 2\nT;3 TTree 4 2\ns;2 TObjString\n"
unfolding text_of name_text digits
replies_said = refl

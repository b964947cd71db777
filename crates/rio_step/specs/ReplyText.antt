-- Replies as they are said: lines.
use Rattle.std.specs.{Prelude.{ℕ, ◌+◌, List, [], ◌∷◌, ◌++◌, codes, length}, Fmt.{decimal, signed_decimal}, List.{flat_map}}
use Rattle.rio_num.specs.Printed.{item_text, name_text, numbered}
use Rattle.rio_format.specs.declared.value.Value as value
use Rattle.rio_model.specs.ValueText.{text_of_value}
use Rattle.rio_machine.specs.{RefusalText.{refusal_text}, State.{NameAndCycle, Row}}
use Rattle.rio_step.specs.Step.{Listed, object_listed, tree_listed, Reply, class_declared, object_put, objects_put, item_deleted, tree_made, row_added, rows_saved, object_told, rows_told, items_listed, refused}

-- a row, as a list
abbrev pub row_text : Row → List ℕ
row_text row = text_of_value (value.List row)

-- NUMBER ROW of each row, numbered from this one on
abbrev pub row_lines : ℕ → List Row → List ℕ
row_lines n [] = []
row_lines n (row ∷ rows) = decimal n ++ codes " " ++ row_text row ++ codes "\n" ++ row_lines (n + 1) rows

abbrev pub listed_text : Listed → List ℕ
listed_text (object_listed class) = name_text class
listed_text (tree_listed saved pending) = codes "TTree" ++ numbered saved ++ numbered pending

-- NAME;CYCLE CLASS, or NAME;CYCLE TTree SAVED PENDING
abbrev pub item_lines : List (NameAndCycle × Listed) → List ℕ
item_lines items = flat_map (λ e. item_text e.0.0 e.0.1 ++ codes " " ++ listed_text e.1 ++ codes "\n") items

unfoldable pub text_of : Reply → List ℕ
text_of (class_declared name version) = codes "ok class " ++ name_text name ++ codes " " ++ signed_decimal version ++ codes "\n"
text_of (object_put name cycle) = codes "ok put " ++ item_text name cycle ++ codes "\n"
text_of (objects_put items) = codes "ok batch" ++ flat_map (λ item. codes " " ++ item_text item.0 item.1) items ++ codes "\n"
text_of (item_deleted name cycle) = codes "ok delete " ++ item_text name cycle ++ codes "\n"
text_of (tree_made name cycle) = codes "ok tree " ++ item_text name cycle ++ codes "\n"
text_of (row_added name entry) = codes "ok fill " ++ name_text name ++ numbered entry ++ codes "\n"
text_of (rows_saved name cycle entries) = codes "ok save " ++ item_text name cycle ++ numbered entries ++ codes "\n"
text_of (object_told name cycle v) = codes "ok get " ++ item_text name cycle ++ codes " " ++ text_of_value v ++ codes "\n"
text_of (rows_told name rows) = codes "ok scan " ++ name_text name ++ numbered (length rows) ++ codes "\n" ++ row_lines 0 rows
text_of (items_listed items) = codes "ok ls" ++ numbered (length items) ++ codes "\n" ++ item_lines items
text_of (refused refusal) = refusal_text refusal

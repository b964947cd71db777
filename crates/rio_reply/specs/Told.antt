-- What is told by a key: a line of a listing, and what its record holds.
use Rattle.std.specs.{Prelude.{ℕ, ℤ, List, ◌++◌, codes, length, Some, Result, Ok, Err}, List.{flat_map}}
use Rattle.rio_format.specs.{declared.class.ClassDef.{ClassDef}, declared.value.Value.{Value}, Texts.{object_fault_text}, declared.fault.ObjFault.{ObjFault}}
use Rattle.rio_key.specs.declared.head.KeyHead.{KeyHead}
use Rattle.rio_num.specs.{Printed.{item_text, numbered}, Reading.{◌>>=◌}}
use Rattle.rio_model.specs.{Mapping.{Mapped, as_version}, ValueText.{text_of_value}}
use Rattle.rio_tree_table.specs.declared.table.KeptTree.{KeptTree}
use Rattle.rio_step.specs.{ItemKeys.{told_by_key}, KeptItems.{listed_by, told_of_item}, ReplyText.{listed_text, text_of}, Step.{object_told}}

-- NAME;CYCLE CLASS
abbrev pub listed_line : KeyHead → List ℕ
listed_line head = item_text head.name head.cycle ++ codes " " ++ listed_text (told_by_key head).1 ++ codes "\n"

-- how many keys there are, and the line of each
unfoldable pub listing_of : List KeyHead → List ℕ
listing_of heads = codes "ok ls" ++ numbered (length heads) ++ codes "\n" ++ flat_map listed_line heads

-- NAME;CYCLE TTree SAVED PENDING
abbrev pub tree_line : KeyHead → KeptTree → List ℕ
tree_line head tree = item_text head.name head.cycle ++ codes " " ++ listed_text (listed_by (Some tree) head) ++ codes "\n"

-- the line of an object or, under the name of one of these trees, of a tree
abbrev pub item_line : List KeptTree → KeyHead → List ℕ
item_line trees head = item_text head.name head.cycle ++ codes " " ++ listed_text (told_of_item trees head).1 ++ codes "\n"

-- how many keys there are, and the line of each
unfoldable pub item_listing_of : List KeptTree → List KeyHead → List ℕ
item_listing_of trees heads = codes "ok ls" ++ numbered (length heads) ++ codes "\n" ++ flat_map (item_line trees) heads

-- fault, the fault's kind and its numbers
abbrev pub fault_text : ObjFault → List ℕ
fault_text e = codes "fault " ++ object_fault_text e

-- the value that was read, or why there is none
abbrev pub value_or_fault : Result Value ObjFault → List ℕ
value_or_fault (Ok v) = text_of_value v
value_or_fault (Err e) = fault_text e

-- what a get says of a record: the object that was read, or that it has no reading
abbrev pub told_of : KeyHead → Result Value ObjFault → List ℕ
told_of head read = codes "ok get " ++ item_text head.name head.cycle ++ codes " " ++ value_or_fault read ++ codes "\n"

-- ---- in a version of the class

-- what a get says of an object as the class that the key names has it in the version, or why the object can't be had so
abbrev pub told_as : List ClassDef → KeyHead → ℤ → Value → Mapped (List ℕ)
told_as classes head version v = as_version classes head.class version v >>= λ w. Ok (text_of (object_told head.name head.cycle w))

-- what it says of a record: of the object that was read, or that it has no reading
abbrev pub record_told_as : List ClassDef → KeyHead → ℤ → Result Value ObjFault → Mapped (List ℕ)
record_told_as classes head version (Ok v) = told_as classes head version v
record_told_as classes head version (Err e) = Ok (told_of head (Err e))

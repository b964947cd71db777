-- What the verb dump says of a file.
use Rattle.std.specs.{Prelude.{ℕ, Bool, ◌++◌, List, codes, Option, Some, None, Result, Ok, Err, if◌then◌else◌}, List.{flat_map}, Str.{bytes_eq}, Fmt.{decimal}}
use Rattle.rio_num.specs.{Printed.{item_text, name_text}, Reading.{◌>>=◌}}
use Rattle.rio_format.specs.{declared.class.ClassDef.{ClassDef}, declared.value.Value.{Value}, Objects.{value_at}, declared.fault.ObjFault.{ObjFault}}
use Rattle.rio_key.specs.{declared.head.KeyHead.{KeyHead}, Key.{is_compressed}}
use Rattle.rio_head.specs.declared.fault.HeadFault.{HeadFault}
use Rattle.rio_machine.specs.{RefusalText.{refusal_text}, declared.refusal.Refusal.{Refusal}}
use Rattle.rio_model.specs.ClassText.{text_of_class}
use Rattle.rio_reply.specs.Told.{fault_text, value_or_fault}
use Rattle.rio_tree.specs.{declared.fault.TreeFault.{TreeFault, TheVariants.{MissingMember, NoMemory as OutOfMemory}}, declared.head.TreeHead.{TreeHead}}
use Rattle.rio_tree.specs.Header.{tree_head_in}
use Rattle.rio_report.specs.{declared.described.Described.{Described}, declared.item.Item.{Item}}
use Rattle.rio_report.specs.{Described.{described_file}, Item.{found_item}}
use Rattle.rio_dir.specs.Closed.{data_at}

-- The value of a key: its record is at SeekKey and Nbytes long, as far as the file goes, and places count from its first byte.
abbrev pub stored_value : List ℕ → List ClassDef → KeyHead → Result Value ObjFault
stored_value file classes key = value_at classes key.class key.keylen (data_at file key.seek key).rest

-- ---- trees

abbrev pub is_tree : KeyHead → Bool
is_tree key = bytes_eq key.class (codes "TTree")

-- the kind of a fault, and the member that the tree lacks
abbrev pub tree_fault_text : TreeFault → List ℕ
tree_fault_text (MissingMember member) = codes "MissingMember " ++ name_text member
tree_fault_text OutOfMemory = codes "NoMemory"

-- the header of a tree, or what is said in its place
abbrev pub header_or_text : Result TreeHead TreeFault → Result TreeHead (List ℕ)
header_or_text (Ok head) = Ok head
header_or_text (Err e) = Err (codes "fault " ++ tree_fault_text e)

-- the header of the tree whose record has this value, or what is said in its place
abbrev pub header_of_value : Result Value ObjFault → Result TreeHead (List ℕ)
header_of_value (Ok v) = header_or_text (tree_head_in v)
header_of_value (Err e) = Err (fault_text e)

-- the header of the tree of a key, or what is said in its place
abbrev pub stored_tree : List ℕ → List ClassDef → KeyHead → Result TreeHead (List ℕ)
stored_tree file classes key = header_of_value (stored_value file classes key)

-- TTree ENTRIES
abbrev pub tree_text : Result TreeHead (List ℕ) → List ℕ
tree_text (Ok head) = codes "TTree " ++ decimal head.entries
tree_text (Err text) = text

-- ---- lines

-- what is said of what a key holds: of a tree how many entries it has
abbrev pub content_text : List ℕ → List ClassDef → KeyHead → List ℕ
content_text file classes key =
    if is_compressed key then codes "compressed"
    else if is_tree key then tree_text (stored_tree file classes key)
    else value_or_fault (stored_value file classes key)

-- NAME;CYCLE and what the key holds
abbrev pub stored_line : List ℕ → List ClassDef → KeyHead → List ℕ
stored_line file classes key = item_text key.name key.cycle ++ codes " " ++ content_text file classes key ++ codes "\n"

abbrev pub class_line : ClassDef → List ℕ
class_line class = text_of_class class ++ codes "\n"

-- all classes in the file's order, and then all keys in the key list's
unfoldable pub dump_lines : List ℕ → List ClassDef → List KeyHead → List ℕ
dump_lines file classes keys = flat_map class_line classes ++ flat_map (stored_line file classes) keys

-- the line of one key, or why there is none
abbrev pub item_line : List ℕ → List ClassDef → Result KeyHead Refusal → List ℕ
item_line file classes (Ok key) = stored_line file classes key
item_line file classes (Err refusal) = refusal_text refusal

abbrev pub dump_text : List ℕ → Option Item → Described → List ℕ
dump_text file None described = dump_lines file described.classes described.closed.keys
dump_text file (Some item) described = item_line file described.classes (found_item item described.closed.keys)

-- what is said of a file, or the first rule that it breaks
unfoldable pub dumped_file : Option Item → List ℕ → Result (List ℕ) HeadFault
dumped_file item file = do
  described ← described_file file
  Ok (dump_text file item described)

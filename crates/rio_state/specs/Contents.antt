-- What stands in the record of a class list and of an object: over the record's bytes, so that it is the same for a walk through
-- the file and for its key list.
use Rattle.std.specs.{Prelude.{◌≡◌, ◌≤◌, ◌+◌, List, [], drop, length, codes, Bool, ◌&&◌, not, Option, Some, None, Result, Ok, Err, if◌then◌else◌}, Result.{result_unwrap_or}}
use Rattle.rio_num.specs.Room.{is_padding}
use Rattle.rio_format.specs.{declared.class.ClassDef.{ClassDef}, declared.value.Value.{Value}, Frames.{Step}, declared.fault.ObjFault.{ObjFault}}
use Rattle.rio_format.specs.{ClassList.{class_list_at}, Fits.{fits}, Objects.{first_at}, Slots.{can_be_put}, TreeClasses.{tree_classes, written_classes}}
use Rattle.rio_model.specs.StateClasses.{StateClasses}
use Rattle.rio_machine.specs.Limits.{has_long_list, is_too_deep, is_too_long}
use Rattle.rio_state.specs.KeyedRecords.{KeyedRecord, record_data}

-- ---- classes

-- the classes that the data of a class list describe, or the first fault; bytes behind the list are ignored
abbrev pub described_in : KeyedRecord → Result (List ClassDef) ObjFault
described_in r = class_list_at r.head.keylen (record_data r)

abbrev pub classes_behind : Result (List ClassDef) ObjFault → List ClassDef
classes_behind (Ok classes) = drop (length tree_classes) classes
classes_behind (Err e) = []

-- the classes of a state by the class list that counts, if there is one: those behind the classes of trees
abbrev pub state_classes : Option KeyedRecord → List ClassDef
state_classes None = []
state_classes (Some info) = classes_behind (described_in info)

-- the classes that a file describes by the class list that counts, those of trees too; none where it has no list
abbrev pub described_classes : Option KeyedRecord → List ClassDef
described_classes None = []
described_classes (Some info) = result_unwrap_or (described_in info) []

-- The classes of a file: all that it describes, and those that are declared in it. Headers of trees are read by the first, objects
-- and rows by the second.
pub record FileClasses : Type 0 where
  pub described : List ClassDef
  pub declared : List ClassDef

abbrev pub file_classes : Option KeyedRecord → FileClasses
file_classes info = record { described = described_classes info; declared = state_classes info }

-- A class list stands for declared classes: it describes the classes of trees and then those, which class commands can have
-- declared from no classes on, and its cycle isn't higher than so many commands make it.
pub record IsStateList (info : KeyedRecord) (classes : List ClassDef) : Type 0 where
  pub class : info.head.class ≡ codes "TList"
  pub list : described_in info ≡ Ok (written_classes classes)
  pub declared : StateClasses classes
  pub cycle : info.head.cycle ≤ length classes + 1

-- the classes have a reading: a file without a class list has no classes
abbrev pub HasStateClasses : Option KeyedRecord → Type 0
HasStateClasses None = Unit {0}
HasStateClasses (Some info) = IsStateList info (state_classes (Some info))

-- ---- objects

-- a value that a put takes and stores in data of this length, by classes and by the record's class
abbrev pub can_be_stored : List ClassDef → KeyedRecord → Value → Bool
can_be_stored classes r v =
    fits classes r.head.class v && can_be_put classes r.head.class
    && not (is_too_long r.head.objlen) && not (is_too_deep v) && not (has_long_list v)

abbrev pub stored_in : List ClassDef → KeyedRecord → Step Value → Option Value
stored_in classes r (Ok x) = if is_padding x.1.at.rest && can_be_stored classes r x.0 then Some x.0 else None
stored_in classes r (Err e) = None

-- The object that a record stands for, if it does: its data spell a value of its class, and at most three zero bytes follow.
-- The value fits, is one that a put takes and passes no limit. Places in the data count from the key's first byte.
unfoldable pub object_in : List ClassDef → KeyedRecord → Option Value
object_in classes r = stored_in classes r (first_at classes r.head.class r.head.keylen (record_data r))

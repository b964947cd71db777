-- The classes that a file's class list stands for.
use Rattle.std.specs.Prelude.{◌≡◌, ◌≤◌, ◌+◌, List, length, Option, Some, None, IfSome}
use Rattle.rio_format.specs.{declared.class.ClassDef.{ClassDef}, TreeClasses.{written_classes}}
use Rattle.rio_key.specs.declared.head.KeyHead.{KeyHead}
use Rattle.rio_model.specs.StateClasses.{StateClasses}
use Rattle.rio_state.specs.{Contents.{FileClasses, HasStateClasses, file_classes}, KeyedRecords.{KeyedRecord}}
use Rattle.rio_recover.specs.declared.classes.ListedClasses.{ListedClasses}

abbrev pub classes_in : ListedClasses → FileClasses
classes_in classes = record { described = classes.described; declared = classes.registry }

-- these are the classes of a file with this class list that counts, or they have no reading
abbrev pub AreClassesOf : Option KeyedRecord → Option ListedClasses → Type 0
AreClassesOf info None = ¬ HasStateClasses info
AreClassesOf info (Some classes) = HasStateClasses info × (classes_in classes ≡ file_classes info)

-- the classes of trees, and then those of a state
abbrev pub AreListedForState : List ClassDef → Type 0
AreListedForState classes = (declared : List ClassDef) × (classes ≡ written_classes declared) × StateClasses declared

-- the cycle of the class list that counts, if there is one, is at most one more than there are classes
abbrev pub HasListCycle : Option KeyHead → List ClassDef → Type 0
HasListCycle info classes = IfSome info (λ h. h.cycle ≤ length classes + 1)

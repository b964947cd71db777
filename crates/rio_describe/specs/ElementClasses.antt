-- The classes of elements: their names, the versions in which they are written, and what they add.
use Rattle.std.specs.Prelude.{ℕ, ℤ, pos, List, [], ◌∷◌, codes}
use Rattle.rio_format.specs.{declared.value.Part.{Part}, declared.value.Value.{Int}, Bodies.{part}, WrittenElements.{count_parts}}
use Rattle.rio_describe.specs.declared.element.ElementClass.{ElementClass, TheVariants.{Base, BasicType, BasicPointer, Text, Object, ObjectAny, ObjectPointer, ObjectAnyPointer}}

abbrev pub element_class_name : ElementClass → List ℕ
element_class_name (Base version) = codes "TStreamerBase"
element_class_name BasicType = codes "TStreamerBasicType"
element_class_name (BasicPointer owner counter) = codes "TStreamerBasicPointer"
element_class_name Text = codes "TStreamerString"
element_class_name Object = codes "TStreamerObject"
element_class_name ObjectAny = codes "TStreamerObjectAny"
element_class_name ObjectPointer = codes "TStreamerObjectPointer"
element_class_name ObjectAnyPointer = codes "TStreamerObjectAnyPointer"

-- the version in which objects of the class are written
abbrev pub element_class_version : ElementClass → ℤ
element_class_version (Base version) = pos 3
element_class_version BasicType = pos 2
element_class_version (BasicPointer owner counter) = pos 2
element_class_version Text = pos 2
element_class_version Object = pos 2
element_class_version ObjectAny = pos 2
element_class_version ObjectPointer = pos 2
element_class_version ObjectAnyPointer = pos 1

-- what the class adds
abbrev pub added_parts : ElementClass → List Part
added_parts (Base version) = part (codes "fBaseVersion") (Int version) ∷ []
added_parts BasicType = []
added_parts (BasicPointer owner counter) = count_parts owner.now counter.now
added_parts Text = []
added_parts Object = []
added_parts ObjectAny = []
added_parts ObjectPointer = []
added_parts ObjectAnyPointer = []

-- The bytes of the class list that is written for declared classes.
use Rattle.std.specs.Prelude.{ℕ, ◌+◌, min, List}
use Rattle.rio_format.specs.{declared.class.ClassDef.{ClassDef}, Descriptions.{description_classes}, TreeClasses.{written_classes}, Written.{written_form}, WrittenList.{class_list_value}}

-- what is written from this place on for these classes
abbrev pub class_list_bytes : ℕ → List ClassDef → List ℕ
class_list_bytes start classes = written_form description_classes start (class_list_value classes)

-- how long the list of a file may be
abbrev pub length_limit : ℕ
length_limit = 16777216

-- a length that is told as far as the limit, and as one above it where it is more
abbrev pub told_length : ℕ → ℕ
told_length n = min n (length_limit + 1)

-- what is written for declared classes, whose first byte has the place: the classes of trees, and then these
abbrev pub written_list : ℕ → List ClassDef → List ℕ
written_list start declared = class_list_bytes start (written_classes declared)

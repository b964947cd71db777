-- The class list that is written for classes, read again.
use Rattle.std.specs.{Prelude.{◌≡◌, ◌≤◌, ℕ, ◌+◌, ◌-◌, ◌*◌, ◌^◌, codes, List, ◌++◌, length, Ok, Bool, true, ◌==◌, ◌&&◌, nat_lt, IsTrue}, List.{list_all}}
use Rattle.rio_format.specs.{declared.class.Base.{Base}, declared.class.ClassDef.{ClassDef}, declared.class.Member.{Member}, declared.kind.Kind.{Kind, TheVariants.{Fixed, Other}}, Depth.{depth_of}}
use Rattle.rio_format.specs.{ClassList.{class_list_at, classes_of}, Descriptions.{description_classes}, Fits.{Fits, fits_signed}, Laws.{has_versions}}
use Rattle.rio_format.specs.{Objects.{SpellsObject, depth_limit, value_at}, Prims.{width_of}, TreeClasses.{tree_classes, written_classes}, WrittenBytes.{class_list_bytes}, WrittenList.{class_list_value}}
use Rattle.rio_model.specs.{ClassGrammar.{checksum_of}, Stated.{has_stated_parts, is_stated_class}}

abbrev pub is_base_number : Base → Bool
is_base_number b = fits_signed 32 b.version

-- its checksum and the versions of its bases have 32 bits, as those of every class that a program has
abbrev pub has_class_numbers : ClassDef → Bool
has_class_numbers c = nat_lt c.sum (2 ^ 32) && list_all is_base_number c.bases

-- a class that a declaration can give
abbrev pub is_described : ClassDef → Bool
is_described c = has_stated_parts c && has_class_numbers c

-- the list of such classes describes them, all and in order
abbrev pub WrittenListIsRead : Type 0
WrittenListIsRead = (classes : List ClassDef) → list_all is_described classes ≡ true → classes_of (class_list_value classes) ≡ classes

-- ---- numbers that an element can hold

-- the bytes of an array, and a code, are an i32
abbrev pub kind_has_numbers : Kind → Bool
kind_has_numbers (Fixed prim count) = nat_lt (width_of prim * count) (2 ^ 31)
kind_has_numbers (Other code) = fits_signed 32 code
kind_has_numbers kind = true

abbrev pub member_has_numbers : Member → Bool
member_has_numbers m = kind_has_numbers m.kind

-- its checksum is a u32, and its other numbers are i32
abbrev pub has_numbers : ClassDef → Bool
has_numbers c = nat_lt c.sum (2 ^ 32) && fits_signed 32 c.version && list_all is_base_number c.bases && list_all member_has_numbers c.members

abbrev pub HaveNumbers : List ClassDef → Type 0
HaveNumbers classes = IsTrue (list_all has_numbers classes)

-- classes that declarations can give have them
abbrev pub DescribedHaveNumbers : Type 0
DescribedHaveNumbers = (classes : List ClassDef) → list_all is_described classes ≡ true → HaveNumbers classes

-- the classes of trees have them, so all classes that are written have them if the declared ones do
abbrev pub WrittenHaveNumbers : Type 0
WrittenHaveNumbers = (declared : List ClassDef) → HaveNumbers declared → HaveNumbers (written_classes declared)

-- the class list of classes with such numbers fits the classes that describe it
abbrev pub WrittenListFits : Type 0
WrittenListFits = (classes : List ClassDef) → HaveNumbers classes → Fits description_classes (codes "TList") (class_list_value classes)

-- it isn't too deep
abbrev pub WrittenListIsShallow : Type 0
WrittenListIsShallow = (classes : List ClassDef) → depth_of (class_list_value classes) ≤ depth_limit

-- the versions of its objects can be written
abbrev pub WrittenListHasVersions : Type 0
WrittenListHasVersions = (classes : List ClassDef) → IsTrue (has_versions (class_list_value classes))

-- ---- bytes

-- places up to the end of the list can be written
abbrev pub HasPlaces : ℕ → List ClassDef → Type 0
HasPlaces start classes = start + length (class_list_bytes start classes) ≤ 2 ^ 30 - 2

-- the bytes of the list spell it
abbrev pub WrittenListIsSpelled : Type 0
WrittenListIsSpelled = (classes : List ClassDef) (start : ℕ) → HaveNumbers classes → HasPlaces start classes
    → SpellsObject description_classes start (codes "TList") (class_list_value classes) (class_list_bytes start classes)

-- they are read as the list, whatever follows
abbrev pub WrittenBytesAreRead : Type 0
WrittenBytesAreRead = (classes : List ClassDef) (start : ℕ) (more : List ℕ) → HaveNumbers classes → HasPlaces start classes
    → value_at description_classes (codes "TList") start (class_list_bytes start classes ++ more) ≡ Ok (class_list_value classes)

-- and so as the classes, if declarations can give them
abbrev pub WrittenClassesAreRead : Type 0
WrittenClassesAreRead = (classes : List ClassDef) (start : ℕ) (more : List ℕ) → list_all is_described classes ≡ true → HasPlaces start classes
    → class_list_at start (class_list_bytes start classes ++ more) ≡ Ok classes

-- ---- the classes of trees

-- they are classes that a declaration can give, each with the checksum of its declaration
abbrev pub TreeClassesAreStated : Type 0
TreeClassesAreStated = list_all is_stated_class tree_classes ≡ true

-- declarations can give all classes that are written, if they can give the declared ones
abbrev pub WrittenAreDescribed : Type 0
WrittenAreDescribed = (declared : List ClassDef) → list_all is_described declared ≡ true → list_all is_described (written_classes declared) ≡ true

-- each description of the objects in a class list has the checksum of its declaration
abbrev pub DescriptionsHaveSums : Type 0
DescriptionsHaveSums = list_all (λ c. c.sum == checksum_of c) description_classes ≡ true

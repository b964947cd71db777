-- The elements that are written for the bases and members of a class.
use Rattle.std.specs.Prelude.{ℕ, ◌+◌, ◌*◌, ℤ, pos, List, [], ◌∷◌, ◌++◌, length, map, codes, Bool, false, ◌||◌, Option, option_map, if◌then◌else◌}
use Rattle.std.specs.{Option.{option_map_or, option_or}, Str.{bytes_eq}}
use Rattle.rio_format.specs.{Classes.{newest_in}, declared.class.Base.{Base}, declared.class.ClassDef.{ClassDef}, declared.class.Member.{Member}}
use Rattle.rio_format.specs.declared.kind.Kind.{Kind, TheVariants.{Plain, Counter, Fixed, Counted, Text as Texted, Inline, Pointer, Other}}
use Rattle.rio_format.specs.{declared.kind.Primitive.{Primitive, TheVariants.{I8, I16, I32, I64, U8, U16, U32, U64, Bool as Boolean, F32, F64}}, declared.value.Part.{Part}, declared.value.Value.{Int, Text}}
use Rattle.rio_format.specs.{Bodies.{headed_version, part}, Prims.{width_of}, Slots.{has_base}}

-- what is written for a base or a member
pub record WrittenElement : Type 0 where
  -- the element's own class and its version
  pub class : List ℕ
  pub version : ℤ
  -- the name of the base or the member
  pub name : List ℕ
  -- the code of its type, its size in bytes, and how many values an array has, in how many dimensions
  pub code : ℤ
  pub size : ℕ
  pub count : ℕ
  pub dimensions : ℕ
  pub type_name : List ℕ
  -- what the element's own class adds
  pub added : List Part

-- an element of this class and version that is no array and says nothing else
abbrev pub element : List ℕ → ℤ → List ℕ → ℤ → ℕ → List ℕ → WrittenElement
element class version name code size type_name = record {
  class = class;
  version = version;
  name = name;
  code = code;
  size = size;
  count = 0;
  dimensions = 0;
  type_name = type_name;
  added = [];
}

-- ---- bases

abbrev pub base_code : List ℕ → ℕ
base_code class = if bytes_eq class (codes "TObject") then 66 else if bytes_eq class (codes "TNamed") then 67 else 0

abbrev pub base_element : Base → WrittenElement
base_element b =
    record (element (codes "TStreamerBase") (pos 3) b.name (pos (base_code b.name)) 0 (codes "BASE")) { added = part (codes "fBaseVersion") (Int b.version) ∷ [] }

-- ---- numbers

-- the code of single values
abbrev pub primitive_code : Primitive → ℕ
primitive_code I8 = 1
primitive_code I16 = 2
primitive_code I32 = 3
primitive_code I64 = 16
primitive_code U8 = 11
primitive_code U16 = 12
primitive_code U32 = 13
primitive_code U64 = 17
primitive_code Boolean = 18
primitive_code F32 = 5
primitive_code F64 = 8

-- the name of their type
abbrev pub primitive_name : Primitive → List ℕ
primitive_name I8 = codes "char"
primitive_name I16 = codes "short"
primitive_name I32 = codes "int"
primitive_name I64 = codes "Long64_t"
primitive_name U8 = codes "unsigned char"
primitive_name U16 = codes "unsigned short"
primitive_name U32 = codes "unsigned int"
primitive_name U64 = codes "ULong64_t"
primitive_name Boolean = codes "bool"
primitive_name F32 = codes "float"
primitive_name F64 = codes "double"

-- the name of a pointer's type
abbrev pub starred : List ℕ → List ℕ
starred name = name ++ codes "*"

abbrev pub basic_element : List ℕ → ℤ → ℕ → List ℕ → WrittenElement
basic_element name code size type_name = element (codes "TStreamerBasicType") (pos 2) name code size type_name

abbrev pub plain_element : List ℕ → Primitive → WrittenElement
plain_element name prim = basic_element name (pos (primitive_code prim)) (width_of prim) (primitive_name prim)

abbrev pub counter_element : List ℕ → WrittenElement
counter_element name = basic_element name (pos 6) 4 (codes "int")

-- an array of so many values
abbrev pub fixed_element : List ℕ → Primitive → ℕ → WrittenElement
fixed_element name prim count =
    record (basic_element name (pos (primitive_code prim + 20)) (width_of prim * count) (primitive_name prim)) { count = count; dimensions = 1 }

-- which member of which class counts the values
abbrev pub count_parts : ClassDef → List ℕ → List Part
count_parts owner counter = part (codes "fCountVersion") (Int owner.version) ∷ part (codes "fCountName") (Text counter) ∷ part (codes "fCountClass") (Text owner.name) ∷ []

-- an array of the class that another member counts
abbrev pub counted_element : ClassDef → List ℕ → Primitive → List ℕ → WrittenElement
counted_element owner name prim counter =
    record (element (codes "TStreamerBasicPointer") (pos 2) name (pos (primitive_code prim + 40)) 0 (starred (primitive_name prim))) { added = count_parts owner counter }

-- ---- texts, objects and pointers

abbrev pub text_element : List ℕ → WrittenElement
text_element name = element (codes "TStreamerString") (pos 2) name (pos 65) 0 (codes "TString")

-- the built-in version of a class, or else the newest one that is declared: a list may describe a built-in class too
abbrev pub built_in_or_newest : List ClassDef → List ℕ → Option ℤ
built_in_or_newest classes class = option_or (headed_version class) (option_map (λ c. c.version) (newest_in classes class))

-- whether the class is TObject, or has it among its bases in its newest version
unfoldable pub reaches_object : List ClassDef → List ℕ → Bool
reaches_object classes class =
    bytes_eq class (codes "TObject") || option_map_or (λ version. has_base (length classes + 1) classes (codes "TObject") class version) (built_in_or_newest classes class) false

-- an object within the object, by whether it reaches TObject
abbrev pub inline_element : Bool → List ℕ → List ℕ → WrittenElement
inline_element reaches name class =
    if reaches then element (codes "TStreamerObject") (pos 2) name (pos 61) 0 class else element (codes "TStreamerObjectAny") (pos 2) name (pos 62) 0 class

-- a pointer, by whether its class reaches TObject
abbrev pub pointer_element : Bool → List ℕ → List ℕ → WrittenElement
pointer_element reaches name class =
    if reaches then element (codes "TStreamerObjectPointer") (pos 2) name (pos 64) 0 (starred class)
    else element (codes "TStreamerObjectAnyPointer") (pos 1) name (pos 69) 0 (starred class)

-- ---- the elements of a class

-- a member of the class, among these classes
abbrev pub kind_element : List ClassDef → ClassDef → List ℕ → Kind → WrittenElement
kind_element classes owner name (Plain prim) = plain_element name prim
kind_element classes owner name Counter = counter_element name
kind_element classes owner name (Fixed prim count) = fixed_element name prim count
kind_element classes owner name (Counted prim counter) = counted_element owner name prim counter
kind_element classes owner name Texted = text_element name
kind_element classes owner name (Inline class) = inline_element (reaches_object classes class) name class
kind_element classes owner name (Pointer class) = pointer_element (reaches_object classes class) name class
kind_element classes owner name (Other code) = basic_element name code 0 []

abbrev pub member_element : List ClassDef → ClassDef → Member → WrittenElement
member_element classes owner m = kind_element classes owner m.name m.kind

-- its bases and then its members, in order
unfoldable pub written_elements : List ClassDef → ClassDef → List WrittenElement
written_elements classes c = map base_element c.bases ++ map (member_element classes c) c.members

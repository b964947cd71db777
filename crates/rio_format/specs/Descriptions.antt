-- The classes of the objects that describe classes. A class list is a TList that points to them, so it is read as any object
-- by these descriptions, each in the one version that is known.
use Rattle.std.specs.Prelude.{ℕ, ℤ, pos, List, [], ◌∷◌, codes, Bool, is_some}
use Rattle.rio_format.specs.{Classes.{find_in}, declared.class.Base.{Base}, declared.class.ClassDef.{ClassDef}, declared.class.Member.{Member}}
use Rattle.rio_format.specs.{declared.kind.Kind.TheVariants.{Plain, Fixed, Text, Pointer}, declared.kind.Primitive.TheVariants.{I32, U32}, Bodies.{member}}

-- A class with one base. The sum is that of its declaration, "class NAME VERSION : BASE { NAME: KIND, NAME: KIND }": 0 at
-- first, and behind each byte three times the sum before it, plus the byte, modulo 2^32. A header of version 0 picks a class by
-- it.
abbrev pub describing : List ℕ → ℤ → ℕ → Base → List Member → ClassDef
describing name version sum base members = record { name = name; version = version; sum = sum; bases = base ∷ []; members = members }

-- the name of a class and its title
abbrev pub named_base : Base
named_base = record { name = codes "TNamed"; version = pos 1 }

-- a class: its checksum, its version, and its elements behind a pointer
abbrev pub info_class : ClassDef
info_class = describing (codes "TStreamerInfo") (pos 9) 1978760737 named_base (member (codes "fCheckSum") (Plain U32) ∷ member (codes "fClassVersion") (Plain I32) ∷ member (codes "fElements") (Pointer (codes "TObjArray")) ∷ [])

-- what all elements have: the code of their type, their size and dimensions, and the type's name
abbrev pub element_class : ClassDef
element_class = describing (codes "TStreamerElement") (pos 4) 1842746706 named_base (member (codes "fType") (Plain I32) ∷ member (codes "fSize") (Plain I32) ∷ member (codes "fArrayLength") (Plain I32) ∷ member (codes "fArrayDim") (Plain I32) ∷ member (codes "fMaxIndex") (Fixed I32 5) ∷ member (codes "fTypeName") Text ∷ [])

abbrev pub element_base : Base
element_base = record { name = codes "TStreamerElement"; version = pos 4 }

-- elements that have nothing else
abbrev pub bare_element : List ℕ → ℤ → ℕ → ClassDef
bare_element name version sum = describing name version sum element_base []

-- a base of a class
abbrev pub base_element_class : ClassDef
base_element_class = describing (codes "TStreamerBase") (pos 3) 2469373253 element_base (member (codes "fBaseVersion") (Plain I32) ∷ [])

-- an array that another member counts
abbrev pub counted_element_class : ClassDef
counted_element_class = describing (codes "TStreamerBasicPointer") (pos 2) 1505910659 element_base (member (codes "fCountVersion") (Plain I32) ∷ member (codes "fCountName") Text ∷ member (codes "fCountClass") Text ∷ [])

abbrev pub bare_elements : List ClassDef
bare_elements = bare_element (codes "TStreamerBasicType") (pos 2) 3946468268 ∷ bare_element (codes "TStreamerObject") (pos 2) 333481419 ∷ bare_element (codes "TStreamerObjectAny") (pos 2) 1280426895 ∷ bare_element (codes "TStreamerObjectPointer") (pos 2) 377212202 ∷ bare_element (codes "TStreamerObjectAnyPointer") (pos 1) 1518833227 ∷ bare_element (codes "TStreamerString") (pos 2) 1968605749 ∷ []

-- the classes of elements
abbrev pub element_classes : List ClassDef
element_classes = base_element_class ∷ counted_element_class ∷ bare_elements

-- whether an element may be an object of this class in this version
abbrev pub is_element : List ℕ → ℤ → Bool
is_element class version = is_some (find_in element_classes class version)

-- the classes of all these objects
unfoldable pub description_classes : List ClassDef
description_classes = info_class ∷ element_class ∷ element_classes

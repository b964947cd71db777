-- The class list that is written for a list of classes, as the value of a TList.
use Rattle.std.specs.Prelude.{ℕ, ◌+◌, pos, List, [], ◌∷◌, length, map, codes}
use Rattle.rio_format.specs.{declared.class.ClassDef.{ClassDef}, declared.value.Part.{Part}, declared.value.Value.{Value, Int, Text, List as Items, Object, Pointed}}
use Rattle.rio_format.specs.{Bodies.{part}, WrittenElements.{WrittenElement, written_elements}}

-- ---- the bases that all of them have

abbrev pub number_part : List ℕ → ℕ → Part
number_part name number = part name (Int (pos number))

-- a TObject
unfoldable pub plain_object : Value
plain_object = Object (codes "TObject") (pos 1) (number_part (codes "fUniqueID") 0 ∷ number_part (codes "fBits") 0 ∷ [])

-- a TNamed
unfoldable pub titled_object : List ℕ → List ℕ → Value
titled_object name title = Object (codes "TNamed") (pos 1) (part [] plain_object ∷ part (codes "fName") (Text name) ∷ part (codes "fTitle") (Text title) ∷ [])

-- ---- elements

-- the greatest index in each dimension, of which there is one at most
abbrev pub index_list : ℕ → Value
index_list count = Items (Int (pos count) ∷ Int (pos 0) ∷ Int (pos 0) ∷ Int (pos 0) ∷ Int (pos 0) ∷ [])

-- what an element says as a TStreamerElement
unfoldable pub element_parts : WrittenElement → List Part
element_parts e =
    part [] (titled_object e.name []) ∷ part (codes "fType") (Int e.code) ∷ number_part (codes "fSize") e.size ∷ number_part (codes "fArrayLength") e.count
    ∷ number_part (codes "fArrayDim") e.dimensions ∷ part (codes "fMaxIndex") (index_list e.count) ∷ part (codes "fTypeName") (Text e.type_name) ∷ []

-- an object of the element's own class, with what that class adds
unfoldable pub element_object : WrittenElement → Value
element_object e = Object e.class e.version (part [] (Object (codes "TStreamerElement") (pos 4) (element_parts e)) ∷ e.added)

-- pointers to objects that have the labels from this one on
unfoldable pub pointers_from : ℕ → List Value → List Value
pointers_from label [] = []
pointers_from label (v ∷ vs) = Pointed label v ∷ pointers_from (label + 1) vs

-- ---- classes

-- a TObjArray
unfoldable pub array_object : List Value → Value
array_object items = Object (codes "TObjArray") (pos 3) (part [] plain_object ∷ part (codes "fName") (Text []) ∷ number_part (codes "fLowerBound") 0 ∷ part (codes "items") (Items items) ∷ [])

-- a class with a pointer to its elements
unfoldable pub info_object : ClassDef → Value → Value
info_object c elements =
    Object (codes "TStreamerInfo") (pos 9) (part [] (titled_object c.name []) ∷ number_part (codes "fCheckSum") c.sum ∷ part (codes "fClassVersion") (Int c.version) ∷ part (codes "fElements") elements ∷ [])

-- the pointer to a class, which has this label; its elements have the next ones
unfoldable pub class_pointer : List ClassDef → ℕ → ClassDef → Value
class_pointer classes label c =
    Pointed label (info_object c (Pointed (label + 1) (array_object (pointers_from (label + 2) (map element_object (written_elements classes c))))))

-- how many labels a class takes: one for each element, and for itself and its array
abbrev pub label_count : ClassDef → ℕ
label_count c = length c.bases + length c.members + 2

-- an item of a list: a pointer, and an option, which is empty
abbrev pub linked : Value → Value
linked pointer = Items (pointer ∷ Text [] ∷ [])

-- items with pointers to classes that have the labels from this one on
unfoldable pub class_links : List ClassDef → ℕ → List ClassDef → List Value
class_links classes label [] = []
class_links classes label (c ∷ cs) = linked (class_pointer classes label c) ∷ class_links classes (label + label_count c) cs

-- ---- the list

-- a TList
unfoldable pub list_object : List Value → Value
list_object items = Object (codes "TList") (pos 5) (part [] plain_object ∷ part (codes "fName") (Text []) ∷ part (codes "items") (Items items) ∷ [])

-- the list of all these classes, in order
unfoldable pub class_list_value : List ClassDef → Value
class_list_value classes = list_object (class_links classes 0 classes)

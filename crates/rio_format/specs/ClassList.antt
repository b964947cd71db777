-- The classes that a class list describes.
use Rattle.std.specs.{Prelude.{ℕ, pos, List, [], map, codes, slice_get, Option, option_map, option_and_then, Result, Ok}, List.{filter_map}}
use Rattle.std.specs.Option.{option_map_or}
use Rattle.rio_num.specs.Reading.{◌>>=◌}
use Rattle.rio_format.specs.{declared.class.ClassDef.{ClassDef}, declared.value.Part.{Part}, declared.value.Value.{Value}, Accessors.{part_of, parts_of}}
use Rattle.rio_format.specs.{Descriptions.{description_classes}, Elements.{Element, element_of, bases_of, members_of}, Objects.{value_at}}
use Rattle.rio_format.specs.{ValueParts.{items_in, list_of, text_in_part, signed_of, unsigned_of, parts_behind, base_parts}, declared.fault.ObjFault.{ObjFault}}

-- The items behind the pointer to a class's elements. There are none where it isn't a pointer to a TObjArray that begins there.
abbrev pub element_items : List Part → List Value
element_items info = option_map_or (list_of (codes "items")) (option_and_then (parts_behind (codes "TObjArray") (pos 3)) (part_of (codes "fElements") info)) []

abbrev pub elements_of : List Part → List (Option Element)
elements_of info = map element_of (element_items info)

-- a class, by the parts of its TStreamerInfo and those of its TNamed
abbrev pub class_with : List Part → List Part → ClassDef
class_with info named = record {
  name = text_in_part (codes "fName") named;
  version = signed_of (codes "fClassVersion") info;
  sum = unsigned_of (codes "fCheckSum") info;
  bases = bases_of (elements_of info);
  members = members_of [] (elements_of info);
}

-- The class that a pointer's object describes. Null, a reference, an object of another class, such as the list of rules, or of
-- another version, and one whose TNamed is of another version describe none.
unfoldable pub described_class : Value → Option ClassDef
described_class pointer = option_and_then (λ info. option_map (class_with info) (base_parts (codes "TNamed") (pos 1) info)) (parts_behind (codes "TStreamerInfo") (pos 9) pointer)

-- the pointer in an item of a list, which is a pointer and an option
abbrev pub item_pointer : Value → Option Value
item_pointer item = slice_get (items_in item) 0

abbrev pub item_class : Value → Option ClassDef
item_class item = option_and_then described_class (item_pointer item)

-- the items of a list; there are none in what isn't a TList of this version
abbrev pub list_items : Value → List Value
list_items v = option_map_or (list_of (codes "items")) (parts_of (codes "TList") (pos 5) v) []

-- The classes that a list describes, in the order of its items
unfoldable pub classes_of : Value → List ClassDef
classes_of v = filter_map item_class (list_items v)

-- The classes that the data of an info record describe, or the first fault. Their first byte has the place; bytes behind the
-- list are ignored.
abbrev pub class_list_at : ℕ → List ℕ → Result (List ClassDef) ObjFault
class_list_at start bytes = value_at description_classes (codes "TList") start bytes >>= λ v. Ok (classes_of v)

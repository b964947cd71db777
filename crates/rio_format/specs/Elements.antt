-- The elements of a class in a class list: its bases, and its members with their kinds.
use Rattle.std.specs.Prelude.{ℕ, ℤ, pos, negsuc, ◌-ℤ◌, ◌-◌, List, [], ◌∷◌, length, take, drop, codes, Bool, Option, Some, None, is_some, unwrap_or, option_map, option_and_then, if◌then◌else◌}
use Rattle.std.specs.{List.{filter_map, list_any}, Map.{lookup}, Option.{option_or}, Ordering.{int_eq}, Str.{bytes_eq}}
use Rattle.rio_format.specs.{declared.class.Base.{Base}, declared.class.Member.{Member}, declared.kind.Kind.{Kind, TheVariants.{Plain, Counter, Fixed, Counted, Text, Inline, Pointer, Other}}}
use Rattle.rio_format.specs.declared.kind.Primitive.{Primitive, TheVariants.{I8, I16, I32, I64, U8, U16, U32, U64, Bool as Boolean, F32, F64}}
use Rattle.rio_format.specs.{declared.value.Part.{Part}, declared.value.Value.{Value, out-Value, TheOpen.{Value-F, Object}}, Accessors.{pointed_object, part_of}}
use Rattle.rio_format.specs.{Descriptions.{is_element}, ValueParts.{base_parts, text_in, signed_in, text_in_part, signed_of}}

-- ---- what an element says

pub record Element : Type 0 where
  pub name : List ℕ
  pub title : List ℕ
  -- the code of its type, how many values an array has, and the type's name
  pub code : ℤ
  pub count : ℤ
  pub type_name : List ℕ
  -- the version of a base, which a TStreamerBase alone says
  pub base_version : Option ℤ
  -- the name of a counter, which a TStreamerBasicPointer alone says
  pub counter : Option (List ℕ)

-- by what its own class adds, by the parts of its TStreamerElement and by those of its TNamed
abbrev pub element_with : List Part → List Part → List Part → Element
element_with own stated named = record {
  name = text_in_part (codes "fName") named;
  title = text_in_part (codes "fTitle") named;
  code = signed_of (codes "fType") stated;
  count = signed_of (codes "fArrayLength") stated;
  type_name = text_in_part (codes "fTypeName") stated;
  base_version = option_map signed_in (part_of (codes "fBaseVersion") own);
  counter = option_map text_in (part_of (codes "fCountName") own);
}

abbrev pub layer_element : Value-F Value Part → Option (List Part)
layer_element (Object class version parts) = if is_element class version then Some parts else None
layer_element other = None

-- the parts of an object of one of the classes of elements, where it begins behind a pointer
abbrev pub pointed_element_parts : Value → Option (List Part)
pointed_element_parts pointer = option_and_then (λ v. layer_element (out-Value v)) (pointed_object pointer)

-- What an item of a class's elements says. Null, a reference, an object of another class or version, and one whose
-- TStreamerElement or TNamed is of another version say nothing.
unfoldable pub element_of : Value → Option Element
element_of pointer =
    option_and_then (λ own. option_and_then (λ stated. option_map (element_with own stated) (base_parts (codes "TNamed") (pos 1) stated)) (base_parts (codes "TStreamerElement") (pos 4) own)) (pointed_element_parts pointer)

-- ---- kinds

abbrev pub is_code : ℤ → List ℤ → Bool
is_code code those = list_any (int_eq code) those

-- the codes of single values
abbrev pub primitive_codes : List (ℤ × Primitive)
primitive_codes = (pos 1, I8) ∷ (pos 2, I16) ∷ (pos 3, I32) ∷ (pos 4, I64) ∷ (pos 5, F32) ∷ (pos 8, F64) ∷ (pos 11, U8) ∷ (pos 12, U16) ∷ (pos 13, U32) ∷ (pos 14, U64) ∷ (pos 16, I64) ∷ (pos 17, U64) ∷ (pos 18, Boolean) ∷ []

unfoldable pub primitive_by_code : ℤ → Option Primitive
primitive_by_code code = lookup (int_eq code) primitive_codes

abbrev pub fixed_of : ℤ → Primitive → Option Kind
fixed_of (pos count) prim = Some (Fixed prim count)
fixed_of (negsuc n) prim = None

-- an array of so many values, with a code that is 20 above that of one; not of a negative number of them
abbrev pub fixed_kind : Element → Option Kind
fixed_kind e = option_and_then (fixed_of e.count) (primitive_by_code (e.code -ℤ pos 20))

abbrev pub counted_of : List (List ℕ) → Option (List ℕ) → Primitive → Option Kind
counted_of counters None prim = None
counted_of counters (Some counter) prim = if list_any (bytes_eq counter) counters then Some (Counted prim counter) else None

-- an array that one of these counters counts, with a code that is 40 above that of one value
abbrev pub counted_kind : List (List ℕ) → Element → Option Kind
counted_kind counters e = option_and_then (counted_of counters e.counter) (primitive_by_code (e.code -ℤ pos 40))

-- a name without one asterisk at its end
unfoldable pub without_star : List ℕ → List ℕ
without_star name = if bytes_eq (drop (length name - 1) name) (codes "*") then take (length name - 1) name else name

-- counters, texts, objects and pointers; a TObject and a TNamed as members have codes of their own
unfoldable pub own_kind : Element → Option Kind
own_kind e =
    if int_eq e.code (pos 6) then Some Counter
    else if is_code e.code (pos 61 ∷ pos 62 ∷ pos 63 ∷ pos 68 ∷ []) then Some (Inline (without_star e.type_name))
    else if is_code e.code (pos 64 ∷ pos 69 ∷ []) then Some (Pointer (without_star e.type_name))
    else if int_eq e.code (pos 65) then Some Text
    else if int_eq e.code (pos 66) then Some (Inline (codes "TObject"))
    else if int_eq e.code (pos 67) then Some (Inline (codes "TNamed"))
    else None

-- the kind of a member behind these counters; with any other code it isn't read
unfoldable pub kind_of : List (List ℕ) → Element → Kind
kind_of counters e = unwrap_or (option_or (option_map Plain (primitive_by_code e.code)) (option_or (fixed_kind e) (option_or (counted_kind counters e) (own_kind e)))) (Other e.code)

-- ---- bases and members

-- a TStreamerBase with one of these codes is a base of the class; any other element is a member of it
abbrev pub base_of_element : Element → Option Base
base_of_element e = option_and_then (λ version. if is_code e.code (pos 0 ∷ pos 66 ∷ pos 67 ∷ []) then Some (record { name = e.name; version = version }) else None) e.base_version

abbrev pub bases_of : List (Option Element) → List Base
bases_of elements = filter_map (option_and_then base_of_element) elements

-- an item that says nothing is a member that isn't read
abbrev pub member_of : List (List ℕ) → Option Element → Member
member_of counters None = record { name = codes "?"; kind = Other (pos 0); title = [] }
member_of counters (Some e) = record { name = e.name; kind = kind_of counters e; title = e.title }

-- a member of code 6 is a counter, which may count those behind it
abbrev pub counters_behind : Option Element → List (List ℕ) → List (List ℕ)
counters_behind None counters = counters
counters_behind (Some e) counters = if int_eq e.code (pos 6) then e.name ∷ counters else counters

-- the members, in order, behind these counters
unfoldable pub members_of : List (List ℕ) → List (Option Element) → List Member
members_of counters [] = []
members_of counters (e ∷ es) = if is_some (option_and_then base_of_element e) then members_of counters es else member_of counters e ∷ members_of (counters_behind e counters) es

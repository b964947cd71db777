-- The list of classes is read as these classes.
use Rattle.std.proofs.Common.{◌≡◌, ◌∙◌, ℤ, ℕ, ◌+◌, ◌^◌, pos, negsuc, List, [], ◌∷◌, ◌++◌, codes, length, map, true, ◌&&◌, leb, ltb, Option, Some, option_and_then, option_map, slice_get, refl, ap, arith, append-nil}
use Rattle.std.proofs.{lemmas.Bool.{and_parts, Decides.{nat_tests}}, lemmas.List.{map-append}}
use Rattle.std.specs.{List.{filter_map, list_all}, Ordering.{int_eq}, Str.{bytes_eq}}
use Rattle.rio_num.specs.Word.{is_name_text}
use Rattle.rio_format.specs.{declared.class.ClassDef.{ClassDef}, declared.value.Part.{Part}, declared.value.Value.{Value, Int, Text, List as Items, Object, Pointed}, Accessors.{parts_of}}
use Rattle.rio_format.specs.{Bodies.{part}, ClassList.{class_with, classes_of, described_class, element_items, elements_of, item_class, list_items}}
use Rattle.rio_format.specs.{Elements.{Element, bases_of, element_of, members_of}, Fits.{fits_signed}, ValueParts.{parts_behind}, WrittenElements.{base_element, member_element, written_elements}}
use Rattle.rio_format.specs.WrittenList.{array_object, class_links, class_list_value, class_pointer, element_object, info_object, label_count, linked, list_object, number_part, plain_object, pointers_from, titled_object}
use Rattle.rio_model.specs.Stated.{are_stated_bases, are_stated_members, has_stated_parts, is_class_version}
use Rattle.rio_model.specs.Described.{has_class_numbers, is_base_number, is_described, WrittenListIsRead}
use Rattle.rio_model.proofs.{DescribedBases.{bases_are_said, bases_pass, bases_read, bases_said}, DescribedElements.{named_back, named_parts}}
use Rattle.rio_model.proofs.DescribedMembers.{Counts, members_are_said, members_read, members_said, no_member_is_base}
use Rattle.rio_model.proofs.{DescribedValues.{items_back, object_back, pointer_back, signed_back, text_back, unsigned_back}, PointerLaws.{by_parts}}

-- ---- what such a class keeps to

record Described (c : ClassDef) : Type 0 where
  version : fits_signed 32 c.version ≡ true
  sum : ltb c.sum (2 ^ 32) ≡ true
  bases : list_all is_base_number c.bases ≡ true
  members : are_stated_members [] c.members ≡ true

pub version_fits : (version : ℤ) → is_class_version version ≡ true → fits_signed 32 version ≡ true
version_fits (pos n) h = let less = (and_parts (leb 1 n) (leb n 32767) h).1 in grind (arith, nat_tests)
version_fits (negsuc n) h = absurd (cc)

described_parts : (c : ClassDef) → is_described c ≡ true → Described c
described_parts c h =
    let both = and_parts (has_stated_parts c) (has_class_numbers c) h in
    let numbers = and_parts (ltb c.sum (2 ^ 32)) (list_all is_base_number c.bases) both.1 in
    let outer = and_parts (is_name_text c.name && is_class_version c.version && are_stated_bases [] c.bases) (are_stated_members [] c.members) both.0 in
    let middle = and_parts (is_name_text c.name && is_class_version c.version) (are_stated_bases [] c.bases) outer.0 in
    let inner = and_parts (is_name_text c.name) (is_class_version c.version) middle.0 in
    record { version = version_fits c.version inner.1; sum = numbers.0; bases = numbers.1; members = outer.1 }

-- ---- the elements of a class

none_count : Counts [] []
none_count name h = h

module _ (context : List ClassDef) (c : ClassDef) (is : Described c) where
  elements_back : (label : ℕ) → map element_of (pointers_from label (map element_object (written_elements context c))) ≡ bases_said c.bases ++ members_said context c c.members
  elements_back label =
      let front = pointers_from label (map (λ b. element_object (base_element b)) c.bases) in
      let behind = pointers_from (label + length c.bases) (map (λ m. element_object (member_element context c m)) c.members) in
      ap (map element_of) (by_parts label context c)
      ∙ map-append element_of front behind
      ∙ ap (λ (l : List (Option Element)). l ++ map element_of behind) (bases_are_said c.bases label)
      ∙ ap (λ (l : List (Option Element)). bases_said c.bases ++ l) (members_are_said context c [] c.members [] (label + length c.bases) none_count is.members)

  bases_again : bases_of (bases_said c.bases ++ members_said context c c.members) ≡ c.bases
  bases_again =
      bases_read c.bases (members_said context c c.members) is.bases
      ∙ ap (λ l. c.bases ++ l) (no_member_is_base context c [] c.members [] none_count is.members)
      ∙ append-nil c.bases

  members_again : members_of [] (bases_said c.bases ++ members_said context c c.members) ≡ c.members
  members_again = bases_pass c.bases (members_said context c c.members) [] is.bases ∙ members_read context c [] c.members [] none_count is.members

-- ---- a class

behind_back : (class : List ℕ) (version : ℤ) (label : ℕ) (parts : List Part) → (bytes_eq class class && int_eq version version) ≡ true → parts_behind class version (Pointed label (Object class version parts)) ≡ Some parts
behind_back class version label parts h = ap (option_and_then (parts_of class version)) (pointer_back label (Object class version parts)) ∙ object_back class version class version parts h

abbrev array_parts : List Value → List Part
array_parts items = part [] plain_object ∷ part (codes "fName") (Text []) ∷ number_part (codes "fLowerBound") 0 ∷ part (codes "items") (Items items) ∷ []

abbrev info_parts : ClassDef → Value → List Part
info_parts c elements = part [] (titled_object c.name []) ∷ number_part (codes "fCheckSum") c.sum ∷ part (codes "fClassVersion") (Int c.version) ∷ part (codes "fElements") elements ∷ []

array_back : (label : ℕ) (items : List Value) → parts_behind (codes "TObjArray") (pos 3) (Pointed label (array_object items)) ≡ Some (array_parts items)
unfolding array_object
array_back label items = behind_back (codes "TObjArray") (pos 3) label (array_parts items) refl

items_of_array : (c : ClassDef) (label : ℕ) (items : List Value) → element_items (info_parts c (Pointed label (array_object items))) ≡ items
items_of_array c label items = rw (array_back label items) (items_back items)

info_back : (c : ClassDef) (label : ℕ) (elements : Value) → parts_behind (codes "TStreamerInfo") (pos 9) (Pointed label (info_object c elements)) ≡ Some (info_parts c elements)
unfolding info_object
info_back c label elements = behind_back (codes "TStreamerInfo") (pos 9) label (info_parts c elements) refl

class_again : (context : List ClassDef) (label : ℕ) (c : ClassDef) → Described c → described_class (class_pointer context label c) ≡ Some c
unfolding described_class class_pointer
class_again context label c is =
    let items = pointers_from (label + 2) (map element_object (written_elements context c)) in
    let elements = Pointed (label + 1) (array_object items) in
    let info = info_parts c elements in
    let said : elements_of info ≡ bases_said c.bases ++ members_said context c c.members = ap (map element_of) (items_of_array c (label + 1) items) ∙ elements_back context c is (label + 2) in
    let whole : class_with info (named_parts c.name) ≡ c = λ i. record {
      name = text_back c.name i;
      version = signed_back c.version is.version i;
      sum = unsigned_back c.sum is.sum i;
      bases = (ap bases_of said ∙ bases_again context c is) i;
      members = (ap (members_of []) said ∙ members_again context c is) i;
    } in
    rw (info_back c label elements) (ap (option_map (class_with info)) (named_back c.name (number_part (codes "fCheckSum") c.sum ∷ part (codes "fClassVersion") (Int c.version) ∷ part (codes "fElements") elements ∷ [])) ∙ ap Some whole)

-- ---- the list

item_back : (pointer : Value) → item_class (linked pointer) ≡ described_class pointer
item_back pointer = ap (λ (vs : List Value). option_and_then described_class (slice_get vs 0)) (items_back (pointer ∷ Text [] ∷ []))

links_back : (context : List ClassDef) (label : ℕ) (cs : List ClassDef) → list_all is_described cs ≡ true → filter_map item_class (class_links context label cs) ≡ cs
unfolding class_links
links_back context label [] h = refl
links_back context label (c ∷ cs) h =
    let parts = and_parts (is_described c) (list_all is_described cs) h in
    let one : item_class (linked (class_pointer context label c)) ≡ Some c = item_back (class_pointer context label c) ∙ class_again context label c (described_parts c parts.0) in
    rw one (ap (λ (l : List ClassDef). c ∷ l) (links_back context (label + label_count c) cs parts.1))

list_back : (items : List Value) → list_items (list_object items) ≡ items
unfolding list_object
list_back items = rw (object_back (codes "TList") (pos 5) (codes "TList") (pos 5) _ refl) (items_back items)

pub written_list_read : WrittenListIsRead
unfolding classes_of class_list_value
written_list_read classes h = ap (filter_map item_class) (list_back (class_links classes 0 classes)) ∙ links_back classes 0 classes h

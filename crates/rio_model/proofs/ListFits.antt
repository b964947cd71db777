-- The class list fits its descriptions.
use Rattle.std.proofs.Common.{◌≡◌, ◌∙◌, ◌&&◌, ◌^◌, ℕ, ◌+◌, pos, true, List, [], ◌∷◌, ◌++◌, length, map, codes, Option, Some, refl, ap, append_assoc, arith, nat_lt, is_some}
use Rattle.std.proofs.{lemmas.Bool.{and_parts, le-leb}, lemmas.List.{length-append, length-map}}
use Rattle.std.specs.List.{list_all}
use Rattle.rio_format.specs.{declared.class.ClassDef.{ClassDef}, declared.kind.Kind.TheVariants.{Inline, Pointer}, declared.kind.Primitive.TheVariants.{I32, U32}, declared.value.Value.{Value, Pointed}}
use Rattle.rio_format.specs.{Descriptions.{description_classes}, Fits.{Labels, Fitting, all_fit, fits_signed, fits_unsigned, fitting_of, fitting_step}}
use Rattle.rio_format.specs.{Slots.{kinded, any_pointer, link}, WrittenElements.{base_element, member_element, written_elements}}
use Rattle.rio_format.specs.WrittenList.{array_object, class_links, class_list_value, class_pointer, element_object, info_object, label_count, list_object, pointers_from}
use Rattle.rio_format.proofs.{ValueCases.{Each, fold_List}, WrittenParts.{FitsIn, array_fits, int_fits, linked_fits, plain_fits, pointer_fits, pointer_to, text_fits, titled_fits}, WrittenValues.{fit_object}}
use Rattle.rio_model.specs.Described.{WrittenListFits, has_numbers, is_base_number, member_has_numbers}
use Rattle.rio_model.proofs.ListElements.{ElementFits, bases_fit, members_fit, own_label, pointers_fit}

-- ---- one class

-- a new pointer to an array of pointers that fit behind its label
new_array_fits : (label : ℕ) (items : List Value) (before after : Labels) → label ≡ length before → all_fit any_pointer (map (fitting_of description_classes) items) (before ++ (codes "TObjArray", pos 3) ∷ []) ≡ Some after
    → FitsIn description_classes (kinded (Pointer (codes "TObjArray"))) (Pointed label (array_object items)) before after
unfolding array_object
new_array_fits label items before after next each =
    let is = ap (λ (f : Fitting). f.class) (fit_object description_classes (codes "TObjArray") (pos 3) _) in
    pointer_to description_classes label (array_object items) (codes "TObjArray", pos 3) (kinded (Pointer (codes "TObjArray"))) before after is next refl
    (array_fits description_classes items (before ++ (codes "TObjArray", pos 3) ∷ []) after each)

-- a new pointer to a class with a pointer to its elements
info_fits : (label : ℕ) (c : ClassDef) (elements : Value) (before after : Labels) → label ≡ length before → fits_unsigned 32 (pos c.sum) ≡ true → fits_signed 32 c.version ≡ true
    → FitsIn description_classes (kinded (Pointer (codes "TObjArray"))) elements (before ++ (codes "TStreamerInfo", pos 9) ∷ []) after → FitsIn description_classes any_pointer (Pointed label (info_object c elements)) before after
unfolding info_object description_classes
info_fits label c elements before after next sum version inside =
    let own : Labels = before ++ (codes "TStreamerInfo", pos 9) ∷ [] in
    pointer_fits description_classes label (codes "TStreamerInfo") (pos 9) _ any_pointer before after next refl
    (rw (titled_fits description_classes c.name [] own, int_fits description_classes (pos c.sum) U32 own sum, int_fits description_classes c.version I32 own version, inside) refl)

unsigned_fits : (n : ℕ) → nat_lt n (2 ^ 32) ≡ true → fits_unsigned 32 (pos n) ≡ true
unsigned_fits n e = rw (e, le-leb 0 n (omega arith)) refl

-- the labels of a class: its own, that of its array and those of its elements
abbrev class_labels : List ClassDef → ClassDef → Labels
class_labels classes c = (codes "TStreamerInfo", pos 9) ∷ (codes "TObjArray", pos 3) ∷ map own_label (written_elements classes c)

elements_fit : (classes : List ClassDef) (c : ClassDef) → fits_signed 32 c.version ≡ true → list_all is_base_number c.bases ≡ true → list_all member_has_numbers c.members ≡ true → Each ElementFits (written_elements classes c)
unfolding written_elements
elements_fit classes c version bases members = bases_fit c.bases (map (member_element classes c) c.members) bases (members_fit classes c c.members version members)

class_fits : (classes : List ClassDef) (label : ℕ) (c : ClassDef) (labels : Labels) → label ≡ length labels → has_numbers c ≡ true → FitsIn description_classes any_pointer (class_pointer classes label c) labels (labels ++ class_labels classes c)
unfolding class_pointer
class_fits classes label c labels next numbers =
    let es = written_elements classes c in
    let items = pointers_from (label + 2) (map element_object es) in
    let info : Labels = labels ++ (codes "TStreamerInfo", pos 9) ∷ [] in
    let array : Labels = info ++ (codes "TObjArray", pos 3) ∷ [] in
    let info_length = length-append labels ((codes "TStreamerInfo", pos 9) ∷ []) in
    let array_length = length-append info ((codes "TObjArray", pos 3) ∷ []) in
    let members = and_parts (nat_lt c.sum (2 ^ 32) && fits_signed 32 c.version && list_all is_base_number c.bases) (list_all member_has_numbers c.members) numbers in
    let bases = and_parts (nat_lt c.sum (2 ^ 32) && fits_signed 32 c.version) (list_all is_base_number c.bases) members.0 in
    let version = and_parts (nat_lt c.sum (2 ^ 32)) (fits_signed 32 c.version) bases.0 in
    let same : array ++ map own_label es ≡ labels ++ class_labels classes c =
    append_assoc info ((codes "TObjArray", pos 3) ∷ []) (map own_label es) ∙ append_assoc labels ((codes "TStreamerInfo", pos 9) ∷ []) ((codes "TObjArray", pos 3) ∷ map own_label es) in
    let each = pointers_fit es (elements_fit classes c version.1 bases.1 members.1) (label + 2) array (omega (arith, next, info_length, array_length)) ∙ ap (λ (l : Labels). Some l) same in
    info_fits label c (Pointed (label + 1) (array_object items)) labels (labels ++ class_labels classes c) next (unsigned_fits c.sum version.0) version.1
    (new_array_fits (label + 1) items info (labels ++ class_labels classes c) (omega (arith, next, info_length)) each)

-- ---- all classes

-- its elements are those of its bases and its members
labels_counted : (classes : List ClassDef) (c : ClassDef) → length (class_labels classes c) ≡ label_count c
unfolding written_elements
labels_counted classes c =
    let bases = map base_element c.bases in
    let members = map (member_element classes c) c.members in
    omega (arith, length-map (bases ++ members) own_label, length-append bases members, length-map c.bases base_element, length-map c.members (member_element classes c))

links_fit : (classes : List ClassDef) (cs : List ClassDef) (label : ℕ) (labels : Labels) → label ≡ length labels → list_all has_numbers cs ≡ true → (after : Labels) × (all_fit link (map (fitting_of description_classes) (class_links classes label cs)) labels ≡ Some after)
unfolding class_links
links_fit classes [] label labels next numbers = (labels, refl)
links_fit classes (c ∷ cs) label labels next numbers =
    let own : Labels = labels ++ class_labels classes c in
    let h = and_parts (has_numbers c) (list_all has_numbers cs) numbers in
    let rest = links_fit classes cs (label + label_count c) own (omega (arith, next, length-append labels (class_labels classes c), labels_counted classes c)) h.1 in
    (rest.0, rw (linked_fits description_classes (class_pointer classes label c) labels own (class_fits classes label c labels next h.0)) rest.1)

-- the class list of such classes fits the classes that describe it
pub written_list_fits : WrittenListFits
unfolding class_list_value list_object
written_list_fits classes numbers =
    let links = class_links classes 0 classes in
    let each = links_fit classes classes 0 [] refl numbers in
    let inside : FitsIn description_classes (kinded (Inline (codes "TList"))) (class_list_value classes) [] each.0 =
    rw (fit_object description_classes (codes "TList") (pos 5) _, plain_fits description_classes [], text_fits description_classes [] [], fold_List (fitting_step description_classes) (λ p. (p.name, p.value)) links, each.1) refl in
    ap (λ (o : Option Labels). is_some o) inside

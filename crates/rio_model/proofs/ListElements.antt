-- The elements of the class list fit its descriptions.
use Rattle.std.proofs.Common.{◌≡◌, ◌<◌, ◌∙◌, ◌^◌, ◌*◌, ℕ, ◌+◌, ℤ, pos, Bool, true, false, cond, List, [], ◌∷◌, ◌++◌, length, map, codes, Some, refl, ap, sym, arith, append-nil, append_assoc, bytes_eq, nat_lt}
use Rattle.std.proofs.{lemmas.Bool.{and_parts, ltb-true, lt-ltb}, lemmas.List.{length-append}}
use Rattle.std.specs.List.{list_all}
use Rattle.rio_format.specs.{declared.class.Base.{Base}, declared.class.ClassDef.{ClassDef}, declared.class.Member.{Member}}
use Rattle.rio_format.specs.declared.kind.Kind.{Kind, TheVariants.{Plain, Counter, Fixed, Counted, Text as Texted, Inline, Pointer, Other}}
use Rattle.rio_format.specs.{declared.kind.Primitive.{Primitive, TheVariants.{I8, I16, I32, I64, U8, U16, U32, U64, Bool as Boolean, F32, F64}}, declared.value.Value.{Value, Object, Pointed}}
use Rattle.rio_format.specs.{Bodies.{part}, Descriptions.{description_classes}, Fits.{Labels, all_fit, fits_signed, fitting_of, may_point}, Prims.{width_of}, Slots.{kinded, based, any_pointer}}
use Rattle.rio_format.specs.WrittenElements.{base_element, counted_element, inline_element, kind_element, member_element, pointer_element, primitive_code, reaches_object, WrittenElement}
use Rattle.rio_format.specs.WrittenList.{element_object, element_parts, pointers_from}
use Rattle.rio_format.proofs.{ValueCases.{Each}, WrittenParts.{FitsIn, index_list_fits, int_fits, pointer_fits, text_fits, titled_fits}, WrittenValues.{object_fitting, fit_object}}
use Rattle.rio_model.specs.Described.{is_base_number, kind_has_numbers, member_has_numbers}

-- its numbers are i32
record HasWords (e : WrittenElement) : Type 0 where
  code : fits_signed 32 e.code ≡ true
  size : fits_signed 32 (pos e.size) ≡ true
  count : fits_signed 32 (pos e.count) ≡ true
  dimensions : fits_signed 32 (pos e.dimensions) ≡ true

-- what all elements say
abbrev pub common : WrittenElement → Value
common e = Object (codes "TStreamerElement") (pos 4) (element_parts e)

common_fits : (e : WrittenElement) (labels : Labels) → HasWords e → FitsIn description_classes (based (codes "TStreamerElement") (pos 4)) (common e) labels labels
unfolding element_parts description_classes
common_fits e labels h =
    rw (
      fit_object description_classes (codes "TStreamerElement") (pos 4) (element_parts e),
      titled_fits description_classes e.name [] labels,
      int_fits description_classes e.code I32 labels h.code,
      int_fits description_classes (pos e.size) I32 labels h.size,
      int_fits description_classes (pos e.count) I32 labels h.count,
      int_fits description_classes (pos e.dimensions) I32 labels h.dimensions,
      index_list_fits description_classes e.count labels h.count,
      text_fits description_classes e.type_name labels,
    ) refl

-- ---- pointers to elements

-- the label of the element's object
abbrev pub own_label : WrittenElement → List ℕ × ℤ
own_label e = (e.class, e.version)

-- a new pointer to it fits
abbrev pub ElementFits : WrittenElement → Type 0
ElementFits e = (label : ℕ) (labels : Labels) → label ≡ length labels → FitsIn description_classes any_pointer (Pointed label (element_object e)) labels (labels ++ own_label e ∷ [])

-- it may be pointed to, and its object has the parts of its class
record IsDescribed (e : WrittenElement) : Type 0 where
  may : may_point description_classes (own_label e) any_pointer ≡ true
  inside : (labels : Labels) → FitsIn description_classes (based (codes "TStreamerElement") (pos 4)) (common e) labels labels
      → (object_fitting description_classes e.class e.version (part [] (common e) ∷ e.added)).fits (kinded (Inline e.class)) labels ≡ Some labels

element_fits : (e : WrittenElement) → HasWords e → IsDescribed e → ElementFits e
unfolding element_object
element_fits e words described label labels next =
    let own : Labels = labels ++ own_label e ∷ [] in
    pointer_fits description_classes label e.class e.version (part [] (common e) ∷ e.added) any_pointer labels own next described.may (described.inside own (common_fits e own words))

-- ---- numbers of elements

width_fits : (of : Primitive) → fits_signed 32 (pos (width_of of)) ≡ true
width_fits I8 = refl
width_fits I16 = refl
width_fits I32 = refl
width_fits I64 = refl
width_fits U8 = refl
width_fits U16 = refl
width_fits U32 = refl
width_fits U64 = refl
width_fits Boolean = refl
width_fits F32 = refl
width_fits F64 = refl

-- the code of a single value, of an array and of an array that another member counts
codes_fit : (of : Primitive) → (fits_signed 32 (pos (primitive_code of)) ≡ true) × (fits_signed 32 (pos (primitive_code of + 20)) ≡ true) × (fits_signed 32 (pos (primitive_code of + 40)) ≡ true)
codes_fit I8 = (refl, refl, refl)
codes_fit I16 = (refl, refl, refl)
codes_fit I32 = (refl, refl, refl)
codes_fit I64 = (refl, refl, refl)
codes_fit U8 = (refl, refl, refl)
codes_fit U16 = (refl, refl, refl)
codes_fit U32 = (refl, refl, refl)
codes_fit U64 = (refl, refl, refl)
codes_fit Boolean = (refl, refl, refl)
codes_fit F32 = (refl, refl, refl)
codes_fit F64 = (refl, refl, refl)

base_code_fits : (object named : Bool) → fits_signed 32 (pos (cond object 66 (cond named 67 0))) ≡ true
base_code_fits true named = refl
base_code_fits false true = refl
base_code_fits false false = refl

low_fits : (n : ℕ) → n < 2 ^ 31 → fits_signed 32 (pos n) ≡ true
low_fits n low = lt-ltb n (2 ^ 31) low

is_low : (n : ℕ) → nat_lt n (2 ^ 31) ≡ true → n < 2 ^ 31
is_low n e = ltb-true n (2 ^ 31) e

count_low : (of : Primitive) (count : ℕ) → width_of of * count < 2 ^ 31 → count < 2 ^ 31
count_low I8 count low = omega (arith, low)
count_low I16 count low = omega (arith, low)
count_low I32 count low = omega (arith, low)
count_low I64 count low = omega (arith, low)
count_low U8 count low = omega (arith, low)
count_low U16 count low = omega (arith, low)
count_low U32 count low = omega (arith, low)
count_low U64 count low = omega (arith, low)
count_low Boolean count low = omega (arith, low)
count_low F32 count low = omega (arith, low)
count_low F64 count low = omega (arith, low)

-- ---- each kind of element

base_fits : (b : Base) → is_base_number b ≡ true → ElementFits (base_element b)
unfolding description_classes
base_fits b e =
    element_fits (base_element b)
    (record { code = base_code_fits (bytes_eq b.name (codes "TObject")) (bytes_eq b.name (codes "TNamed")); size = refl; count = refl; dimensions = refl })
    (record { may = refl; inside = λ labels h. rw (h, int_fits description_classes b.version I32 labels e) refl })

inline_fits : (reaches : Bool) (name class : List ℕ) → ElementFits (inline_element reaches name class)
unfolding description_classes
inline_fits true name class =
    element_fits (inline_element true name class) (record { code = refl; size = refl; count = refl; dimensions = refl }) (record { may = refl; inside = λ labels h. rw h refl })
inline_fits false name class =
    element_fits (inline_element false name class) (record { code = refl; size = refl; count = refl; dimensions = refl }) (record { may = refl; inside = λ labels h. rw h refl })

pointer_to_fits : (reaches : Bool) (name class : List ℕ) → ElementFits (pointer_element reaches name class)
unfolding description_classes
pointer_to_fits true name class =
    element_fits (pointer_element true name class) (record { code = refl; size = refl; count = refl; dimensions = refl }) (record { may = refl; inside = λ labels h. rw h refl })
pointer_to_fits false name class =
    element_fits (pointer_element false name class) (record { code = refl; size = refl; count = refl; dimensions = refl }) (record { may = refl; inside = λ labels h. rw h refl })

kind_fits : (classes : List ClassDef) (owner : ClassDef) (name : List ℕ) (kind : Kind) → fits_signed 32 owner.version ≡ true → kind_has_numbers kind ≡ true → ElementFits (kind_element classes owner name kind)
unfolding description_classes
kind_fits classes owner name (Plain of) v e =
    element_fits (kind_element classes owner name (Plain of)) (record { code = (codes_fit of).0; size = width_fits of; count = refl; dimensions = refl }) (record { may = refl; inside = λ labels h. rw h refl })
kind_fits classes owner name Counter v e =
    element_fits (kind_element classes owner name Counter) (record { code = refl; size = refl; count = refl; dimensions = refl }) (record { may = refl; inside = λ labels h. rw h refl })
kind_fits classes owner name (Fixed of count) v e =
    let low = is_low (width_of of * count) e in
    element_fits (kind_element classes owner name (Fixed of count)) (record { code = (codes_fit of).1; size = low_fits (width_of of * count) low; count = low_fits count (count_low of count low); dimensions = refl }) (record { may = refl; inside = λ labels h. rw h refl })
kind_fits classes owner name (Counted of counter) v e =
    element_fits (counted_element owner name of counter) (record { code = (codes_fit of).2; size = refl; count = refl; dimensions = refl })
    (record { may = refl; inside = λ labels h. rw (h, int_fits description_classes owner.version I32 labels v, text_fits description_classes counter labels, text_fits description_classes owner.name labels) refl })
kind_fits classes owner name Texted v e =
    element_fits (kind_element classes owner name Texted) (record { code = refl; size = refl; count = refl; dimensions = refl }) (record { may = refl; inside = λ labels h. rw h refl })
kind_fits classes owner name (Inline class) v e = inline_fits (reaches_object classes class) name class
kind_fits classes owner name (Pointer class) v e = pointer_to_fits (reaches_object classes class) name class
kind_fits classes owner name (Other code) v e =
    element_fits (kind_element classes owner name (Other code)) (record { code = e; size = refl; count = refl; dimensions = refl }) (record { may = refl; inside = λ labels h. rw h refl })

-- ---- all elements of a class

pub bases_fit : (bases : List Base) (rest : List WrittenElement) → list_all is_base_number bases ≡ true → Each ElementFits rest → Each ElementFits (map base_element bases ++ rest)
bases_fit [] rest e each = each
bases_fit (b ∷ bs) rest e each = let h = and_parts (is_base_number b) (list_all is_base_number bs) e in (base_fits b h.0, bases_fit bs rest h.1 each)

pub members_fit : (classes : List ClassDef) (owner : ClassDef) (members : List Member) → fits_signed 32 owner.version ≡ true → list_all member_has_numbers members ≡ true → Each ElementFits (map (member_element classes owner) members)
members_fit classes owner [] v e = tt
members_fit classes owner (m ∷ ms) v e =
    let h = and_parts (member_has_numbers m) (list_all member_has_numbers ms) e in
    (kind_fits classes owner m.name m.kind v h.0, members_fit classes owner ms v h.1)

-- pointers to elements fit one behind the other
pub pointers_fit : (es : List WrittenElement) → Each ElementFits es → (label : ℕ) (labels : Labels) → label ≡ length labels
    → all_fit any_pointer (map (fitting_of description_classes) (pointers_from label (map element_object es))) labels ≡ Some (labels ++ map own_label es)
unfolding pointers_from
pointers_fit [] each label labels next = ap (λ (l : Labels). Some l) (sym (append-nil labels))
pointers_fit (e ∷ es) each label labels next =
    let own : Labels = labels ++ own_label e ∷ [] in
    let length_own = length-append labels (own_label e ∷ []) in
    rw (each.0 label labels next) (pointers_fit es each.1 (label + 1) own (omega (arith, next, length_own)) ∙ ap (λ (l : Labels). Some l) (append_assoc labels (own_label e ∷ []) (map own_label es)))

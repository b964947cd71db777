-- What an element that is written says when it is read.
use Rattle.std.proofs.Common.{◌≡◌, ◌∙◌, ℕ, pos, List, [], ◌∷◌, codes, true, Some, option_and_then, option_map, refl, ap}
use Rattle.rio_format.specs.{declared.value.Part.{Part}, declared.value.Value.{Text, Object, Pointed, out-Value}, Accessors.{part_of}, Bodies.{part}, Descriptions.{is_element}}
use Rattle.rio_format.specs.{Elements.{Element, element_of, element_with, layer_element, pointed_element_parts as parts_behind_element}, Fits.{fits_signed}}
use Rattle.rio_format.specs.{ValueParts.{base_parts, signed_in, text_in}, WrittenList.{element_object, element_parts, plain_object, titled_object}, WrittenElements.{WrittenElement as Written}}
use Rattle.rio_model.proofs.DescribedValues.{element_back, object_back, pointer_back, signed_back, text_back}

abbrev pub said : Written → Element
said e = record {
  name = e.name;
  title = [];
  code = e.code;
  count = pos e.count;
  type_name = e.type_name;
  base_version = option_map signed_in (part_of (codes "fBaseVersion") e.added);
  counter = option_map text_in (part_of (codes "fCountName") e.added);
}

abbrev pub named_parts : List ℕ → List Part
named_parts name = part [] plain_object ∷ part (codes "fName") (Text name) ∷ part (codes "fTitle") (Text []) ∷ []

abbrev own_parts : Written → List Part
own_parts e = part [] (Object (codes "TStreamerElement") (pos 4) (element_parts e)) ∷ e.added

pub named_back : (name : List ℕ) (parts : List Part) → base_parts (codes "TNamed") (pos 1) (part [] (titled_object name []) ∷ parts) ≡ Some (named_parts name)
unfolding titled_object
named_back name parts = object_back (codes "TNamed") (pos 1) (codes "TNamed") (pos 1) (named_parts name) refl

own_back : (label : ℕ) (e : Written) → is_element e.class e.version ≡ true → parts_behind_element (Pointed label (element_object e)) ≡ Some (own_parts e)
unfolding element_object
own_back label e known =
    ap (option_and_then (λ v. layer_element (out-Value v))) (pointer_back label (element_object e)) ∙ element_back e.class e.version (own_parts e) ∙ rw known refl

stated_back : (e : Written) → base_parts (codes "TStreamerElement") (pos 4) (own_parts e) ≡ Some (element_parts e)
stated_back e = object_back (codes "TStreamerElement") (pos 4) (codes "TStreamerElement") (pos 4) (element_parts e) refl

element_named : (e : Written) → base_parts (codes "TNamed") (pos 1) (element_parts e) ≡ Some (named_parts e.name)
unfolding element_parts titled_object
element_named e = object_back (codes "TNamed") (pos 1) (codes "TNamed") (pos 1) (named_parts e.name) refl

with_back : (e : Written) → fits_signed 32 e.code ≡ true → fits_signed 32 (pos e.count) ≡ true → element_with (own_parts e) (element_parts e) (named_parts e.name) ≡ said e
unfolding element_parts
with_back e code count = rw (text_back e.name, text_back [], text_back e.type_name, signed_back e.code code, signed_back (pos e.count) count) refl

pub element_said : (label : ℕ) (e : Written) → is_element e.class e.version ≡ true → fits_signed 32 e.code ≡ true → fits_signed 32 (pos e.count) ≡ true → element_of (Pointed label (element_object e)) ≡ Some (said e)
unfolding element_of
element_said label e known code count = rw (own_back label e known, stated_back e, element_named e, with_back e code count) refl

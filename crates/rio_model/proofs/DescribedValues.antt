-- Values taken apart: what stands in each.
use Rattle.std.proofs.Common.{◌≡◌, [], ◌∙◌, ℤ, ℕ, ◌^◌, pos, List, true, ltb, ◌&&◌, Some, unwrap_or, refl, ap, sym}
use Rattle.std.specs.{Ordering.{int_eq}, Str.{bytes_eq}}
use Rattle.rio_format.specs.{declared.value.Part.{Part}, declared.value.Value.{Value, Int, Text, List as Items, Object, Pointed, out-Value, out-roll-Value, TheVariants.{rolls-Text, rolls-List, rolls-Object, rolls-Pointed}}}
use Rattle.rio_format.specs.Accessors.{layer_integer, layer_list, layer_object, layer_parts, layer_text_bytes, layer_unsigned_integer, pointed_object, parts_of}
use Rattle.rio_format.specs.declared.value.Value.TheOpen as layer
use Rattle.rio_format.specs.{Elements.{layer_element}, Fits.{fits_signed}, ValueParts.{items_in, signed_in, text_in, unsigned_in}}
use Rattle.rio_format.proofs.ValueCases.{out_int}

-- ---- by cases

out_text : (text : List ℕ) → out-Value (Text text) ≡ layer.Text text
out_text text = ap out-Value (sym (rolls-Text text)) ∙ out-roll-Value (layer.Text text)

out_list : (vs : List Value) → out-Value (Items vs) ≡ layer.List vs
out_list vs = ap out-Value (sym (rolls-List vs)) ∙ out-roll-Value (layer.List vs)

out_object : (class : List ℕ) (version : ℤ) (parts : List Part) → out-Value (Object class version parts) ≡ layer.Object class version parts
out_object class version parts = ap out-Value (sym (rolls-Object class version parts)) ∙ out-roll-Value (layer.Object class version parts)

out_pointed : (label : ℕ) (object : Value) → out-Value (Pointed label object) ≡ layer.Pointed label object
out_pointed label object = ap out-Value (sym (rolls-Pointed label object)) ∙ out-roll-Value (layer.Pointed label object)

-- ---- what stands in them

pub items_back : (vs : List Value) → items_in (Items vs) ≡ vs
items_back vs = ap (λ y. unwrap_or (layer_list y) []) (out_list vs)

pub text_back : (text : List ℕ) → text_in (Text text) ≡ text
text_back text = ap (λ y. unwrap_or (layer_text_bytes y) []) (out_text text)

pub signed_back : (z : ℤ) → fits_signed 32 z ≡ true → signed_in (Int z) ≡ z
signed_back z h = ap (λ y. unwrap_or (layer_integer 32 y) (pos 0)) (out_int z) ∙ rw h refl

pub unsigned_back : (n : ℕ) → ltb n (2 ^ 32) ≡ true → unsigned_in (Int (pos n)) ≡ n
unsigned_back n h = ap (λ y. unwrap_or (layer_unsigned_integer 32 y) 0) (out_int (pos n)) ∙ rw h refl

pub pointer_back : (label : ℕ) (object : Value) → pointed_object (Pointed label object) ≡ Some object
pointer_back label object = ap layer_object (out_pointed label object)

pub object_back : (class : List ℕ) (version : ℤ) (c : List ℕ) (v : ℤ) (parts : List Part) → (bytes_eq c class && int_eq v version) ≡ true → parts_of class version (Object c v parts) ≡ Some parts
object_back class version c v parts h = ap (layer_parts class version) (out_object c v parts) ∙ rw h refl

pub element_back : (c : List ℕ) (v : ℤ) (parts : List Part) → layer_element (out-Value (Object c v parts)) ≡ layer_element (layer.Object c v parts)
element_back c v parts = ap layer_element (out_object c v parts)

-- The elements of bases are read as these bases.
use Rattle.std.proofs.Common.{◌≡◌, ◌∙◌, ℕ, ◌+◌, pos, List, [], ◌∷◌, ◌++◌, codes, map, Bool, true, false, Option, Some, refl, ap, if◌then◌else◌}
use Rattle.std.proofs.lemmas.Bool.{and_parts}
use Rattle.std.specs.{List.{list_all}, Str.{bytes_eq}}
use Rattle.rio_format.specs.{declared.class.Base.{Base}, declared.value.Value.{Pointed}, Elements.{Element, base_of_element, bases_of, element_of, is_code, members_of}, Fits.{fits_signed}}
use Rattle.rio_format.specs.{WrittenElements.{base_code, base_element}, WrittenList.{element_object, pointers_from}}
use Rattle.rio_model.specs.Described.{is_base_number}
use Rattle.rio_model.proofs.{DescribedElements.{element_said, said}, DescribedValues.{signed_back}}

-- ---- one base

by_tests : (P : ℕ → Type 0) → P 66 → P 67 → P 0 → (object named : Bool) → P (if object then 66 else if named then 67 else 0)
by_tests P a b c true named = a
by_tests P a b c false true = b
by_tests P a b c false false = c

-- a code that fits, and is a base's
abbrev IsBaseCode : ℕ → Type 0
IsBaseCode code = (fits_signed 32 (pos code) ≡ true) × (is_code (pos code) (pos 0 ∷ pos 66 ∷ pos 67 ∷ []) ≡ true)

base_coded : (name : List ℕ) → IsBaseCode (base_code name)
base_coded name = by_tests IsBaseCode (refl, refl) (refl, refl) (refl, refl) (bytes_eq name (codes "TObject")) (bytes_eq name (codes "TNamed"))

base_said : (b : Base) (label : ℕ) → element_of (Pointed label (element_object (base_element b))) ≡ Some (said (base_element b))
base_said b label = element_said label (base_element b) refl (base_coded b.name).0 refl

base_again : (b : Base) → is_base_number b ≡ true → base_of_element (said (base_element b)) ≡ Some b
base_again b h = rw (signed_back b.version h, (base_coded b.name).1) refl

-- ---- all bases

-- what the elements of bases say
abbrev pub bases_said : List Base → List (Option Element)
bases_said bs = map (λ b. Some (said (base_element b))) bs

-- each pointer to a base's element says it
pub bases_are_said : (bs : List Base) (label : ℕ) → map element_of (pointers_from label (map (λ b. element_object (base_element b)) bs)) ≡ bases_said bs
unfolding pointers_from
bases_are_said [] label = refl
bases_are_said (b ∷ bs) label =
    ap (λ (o : Option Element). o ∷ map element_of (pointers_from (label + 1) (map (λ b. element_object (base_element b)) bs))) (base_said b label)
    ∙ ap (λ (l : List (Option Element)). Some (said (base_element b)) ∷ l) (bases_are_said bs (label + 1))

pub bases_read : (bs : List Base) (es : List (Option Element)) → list_all is_base_number bs ≡ true → bases_of (bases_said bs ++ es) ≡ bs ++ bases_of es
bases_read [] es h = refl
bases_read (b ∷ bs) es h =
    let parts = and_parts (is_base_number b) (list_all is_base_number bs) h in
    rw (base_again b parts.0) (ap (λ (l : List Base). b ∷ l) (bases_read bs es parts.1))

base_passes : (e : Element) (b : Base) (es : List (Option Element)) (counters : List (List ℕ)) → base_of_element e ≡ Some b → members_of counters (Some e ∷ es) ≡ members_of counters es
unfolding members_of
base_passes e b es counters h = rw h refl

pub bases_pass : (bs : List Base) (es : List (Option Element)) (counters : List (List ℕ)) → list_all is_base_number bs ≡ true → members_of counters (bases_said bs ++ es) ≡ members_of counters es
bases_pass [] es counters h = refl
bases_pass (b ∷ bs) es counters h =
    let parts = and_parts (is_base_number b) (list_all is_base_number bs) h in
    base_passes (said (base_element b)) b (bases_said bs ++ es) counters (base_again b parts.0) ∙ bases_pass bs es counters parts.1

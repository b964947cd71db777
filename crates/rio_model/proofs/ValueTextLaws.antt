-- The text of a value, by the texts of those in it.
use Rattle.std.proofs.{Common.{◌≡◌, ℕ, ℤ, List, [], ◌∷◌, ◌++◌, codes, map, refl, sym, ap, ◌∙◌}, lemmas.List.Folds.{flat_map-map}}
use Rattle.rio_format.specs.declared.value.Value.{Value, List as Items, Object, Pointed, map-Value, roll-Value, TheOpen.{Value-F}, TheVariants.{rolls-List, rolls-Object, rolls-Pointed}, TheFolds.{fold-roll-Value, fold-Part, fold_out-Part}}
use Rattle.rio_format.specs.declared.value.Part.{Part, Part-F}
use Rattle.rio_format.specs.declared.value.Value.TheOpen as layer
use Rattle.rio_model.specs.Lists.{separated}
use Rattle.rio_model.specs.ValueText.{PrintedPart, PrintedValue, between_braces, class_text, label_text, object_text, printed_part, printed_value, text_of_value, text_step}

-- the texts first, and then the commas
pub separated-map : {X Y : Type 0} (text : Y → List ℕ) (of : X → Y) (xs : List X) → separated text (map of xs) ≡ separated (λ x. text (of x)) xs
separated-map text of [] = refl
separated-map text of (x ∷ xs) = ap (λ (rest : List ℕ). text (of x) ++ rest) (flat_map-map (λ y. codes ", " ++ text y) of xs)

abbrev pub part_step : Part-F PrintedValue PrintedPart → PrintedPart
part_step p = record { name = p.name; value = p.value }

abbrev pub part_folded : Part → PrintedPart
part_folded = fold-Part PrintedValue PrintedPart text_step part_step

-- what is printed, by its children
pub printed_rolled : (y : Value-F Value Part) → printed_value (roll-Value y) ≡ text_step (map-Value Value Part PrintedValue PrintedPart printed_value part_folded y)
unfolding printed_value
printed_rolled y = fold-roll-Value PrintedValue PrintedPart text_step part_step y

pub part_folds : (p : Part) → part_folded p ≡ printed_part p
unfolding printed_value
part_folds p = fold_out-Part PrintedValue PrintedPart text_step part_step p

pub text_of-List : (vs : List Value) → text_of_value (Items vs) ≡ codes "[" ++ separated text_of_value vs ++ codes "]"
unfolding text_of_value
text_of-List vs =
    ap text_of_value (sym (rolls-List vs)) ∙ ap (λ (p : PrintedValue). p.text) (printed_rolled (layer.List vs))
    ∙ ap (λ (t : List ℕ). codes "[" ++ t ++ codes "]") (separated-map (λ (p : PrintedValue). p.text) printed_value vs)

pub printed-Object : (class : List ℕ) (version : ℤ) (parts : List Part) → printed_value (Object class version parts) ≡ object_text (class_text class version ++ codes "{" ++ between_braces (map printed_part parts) ++ codes "}")
printed-Object class version parts =
    ap printed_value (sym (rolls-Object class version parts)) ∙ printed_rolled (layer.Object class version parts)
    ∙ ap (λ (f : Part → PrintedPart). object_text (class_text class version ++ codes "{" ++ between_braces (map f parts) ++ codes "}")) (λ i p. part_folds p i)

pub text_of-Object : (class : List ℕ) (version : ℤ) (parts : List Part) → text_of_value (Object class version parts) ≡ class_text class version ++ codes "{" ++ between_braces (map printed_part parts) ++ codes "}"
unfolding text_of_value
text_of-Object class version parts = ap (λ (p : PrintedValue). p.text) (printed-Object class version parts)

pub text_of-Pointed : (label : ℕ) (object : Value) → text_of_value (Pointed label object) ≡ label_text label ++ codes "=" ++ text_of_value object
unfolding text_of_value
text_of-Pointed label object = ap text_of_value (sym (rolls-Pointed label object)) ∙ ap (λ (p : PrintedValue). p.text) (printed_rolled (layer.Pointed label object))

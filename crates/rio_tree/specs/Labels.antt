-- The objects that are pointed to within a value, by their labels.
use Rattle.std.specs.{Prelude.{ℕ, List, [], ◌∷◌, nat_eq, Option, Some, None}, List.{flat_map}, Map.{lookup}, Option.{option_or}}
use Rattle.rio_format.specs.{declared.value.Part.{Part}, declared.value.Value.{Value, out-Value, TheOpen.{Value-F, List as Items, Object, Pointed, Back}, TheFolds.{para-Value}}}

-- one layer of a value, with the objects within each child beside it
abbrev pub labelled_step : Value-F (Value × List (ℕ × Value)) (Part × List (ℕ × Value)) → List (ℕ × Value)
labelled_step (Items items) = flat_map (λ v. v.1) items
labelled_step (Object class version parts) = flat_map (λ p. p.1) parts
labelled_step (Pointed label object) = (label, object.0) ∷ object.1
labelled_step other = []

-- the objects that begin behind pointers within a value, with their labels, in the order in which they begin
abbrev pub labelled_in : Value → List (ℕ × Value)
labelled_in = para-Value (List (ℕ × Value)) (List (ℕ × Value)) labelled_step (λ p. p.value.1)

-- the object of each label
abbrev pub ObjectLabels : Type 0
ObjectLabels = ℕ → Option Value

-- the first object of each label, behind those that have one
abbrev pub or_labelled : ObjectLabels → List (ℕ × Value) → ObjectLabels
or_labelled labels more = λ label. option_or (labels label) (lookup (nat_eq label) more)

-- the first object of each label within a value
abbrev pub labels_in : Value → ObjectLabels
labels_in v = λ label. lookup (nat_eq label) (labelled_in v)

abbrev pub layer_behind : ObjectLabels → Value-F Value Part → Option Value
layer_behind labels (Pointed label object) = Some object
layer_behind labels (Back label) = labels label
layer_behind labels other = None

-- The object that a pointer leads to: the one that begins here, or the one of the label. None where it is null, no
-- pointer, or of a label that no object has.
abbrev pub object_behind : ObjectLabels → Value → Option Value
object_behind labels pointer = layer_behind labels (out-Value pointer)

abbrev pub layer_label : Value-F Value Part → Option ℕ
layer_label (Pointed label object) = Some label
layer_label (Back label) = Some label
layer_label other = None

-- the label of the object that a pointer leads to
abbrev pub label_in : Value → Option ℕ
label_in pointer = layer_label (out-Value pointer)

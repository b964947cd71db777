-- The objects within a value by their labels, one layer at a time.
use Rattle.std.proofs.Common.{◌≡◌, ℕ, ◌+◌, ◌<◌, ◌≤◌, ℤ, Bool, true, false, cond, List, [], ◌∷◌, ◌++◌, drop, get_or, length, map, Option, Some, None, refl, sym, ap, ◌∙◌, nat_eq}
use Rattle.std.proofs.lemmas.List.{at_drop_all, at_drop_more}
use Rattle.std.specs.{List.{flat_map}, Map.{lookup}, Option.{option_or}}
use Rattle.rio_num.proofs.Cases.{or_none}
use Rattle.rio_format.specs.declared.value.Part.{Part}
use Rattle.rio_format.specs.declared.value.Value.{Value, List as Items, Object, Pointed, out-Value, roll-Value, roll-out-Value, TheVariants.{rolls-List, rolls-Object, rolls-Pointed}, TheOpen.{Value-F}, TheFolds.{para-Part, para-roll-Value, para-roll-Part}, TheViews.{out-Part, roll-out-Part}}
use Rattle.rio_format.specs.declared.value.Value.TheOpen as layer
use Rattle.rio_tree.specs.Labels.{ObjectLabels, labelled_in, labelled_step, or_labelled}

-- ---- one layer

abbrev Found : Type 0
Found = List (ℕ × Value)

abbrev part_step : (p : layer.Part-F (Value × Found) (Part × Found)) → Found
part_step p = p.value.1

abbrev in_part : Part → Found
in_part = para-Part Found Found labelled_step part_step

part_found : (p : Part) → in_part p ≡ labelled_in p.value
part_found p = ap in_part (sym (roll-out-Part p)) ∙ para-roll-Part Found Found labelled_step part_step (out-Part p)

in_parts : (ps : List Part) → flat_map (λ (p : Part × Found). p.1) (map (λ p. (p, in_part p)) ps) ≡ flat_map (λ p. labelled_in p.value) ps
in_parts [] = refl
in_parts (p ∷ ps) = ap (λ (own : Found). own ++ flat_map (λ (p : Part × Found). p.1) (map (λ p. (p, in_part p)) ps)) (part_found p) ∙ ap (λ (rest : Found). labelled_in p.value ++ rest) (in_parts ps)

in_items : (vs : List Value) → flat_map (λ (v : Value × Found). v.1) (map (λ v. (v, labelled_in v)) vs) ≡ flat_map labelled_in vs
in_items [] = refl
in_items (v ∷ vs) = ap (λ (rest : Found). labelled_in v ++ rest) (in_items vs)

abbrev pub layer_labelled : Value-F Value Part → Found
layer_labelled (layer.List items) = flat_map labelled_in items
layer_labelled (layer.Object class version parts) = flat_map (λ p. labelled_in p.value) parts
layer_labelled (layer.Pointed label object) = (label, object) ∷ labelled_in object
layer_labelled other = []

by_layer : (y : Value-F Value Part) → labelled_in (roll-Value y) ≡ layer_labelled y
by_layer (layer.List items) = para-roll-Value Found Found labelled_step part_step (layer.List items) ∙ in_items items
by_layer (layer.Object class version parts) = para-roll-Value Found Found labelled_step part_step (layer.Object class version parts) ∙ in_parts parts
by_layer y = para-roll-Value Found Found labelled_step part_step y

pub labelled_by_layer : (v : Value) → labelled_in v ≡ layer_labelled (out-Value v)
labelled_by_layer v = ap labelled_in (sym (roll-out-Value v)) ∙ by_layer (out-Value v)

pub labelled-List : (vs : List Value) → labelled_in (Items vs) ≡ flat_map labelled_in vs
labelled-List vs = ap labelled_in (sym (rolls-List vs)) ∙ by_layer (layer.List vs)

pub labelled-Object : (class : List ℕ) (version : ℤ) (parts : List Part) → labelled_in (Object class version parts) ≡ flat_map (λ p. labelled_in p.value) parts
labelled-Object class version parts = ap labelled_in (sym (rolls-Object class version parts)) ∙ by_layer (layer.Object class version parts)

pub labelled-Pointed : (label : ℕ) (object : Value) → labelled_in (Pointed label object) ≡ (label, object) ∷ labelled_in object
labelled-Pointed label object = ap labelled_in (sym (rolls-Pointed label object)) ∙ by_layer (layer.Pointed label object)

-- ---- objects behind others

or_assoc : {A : Type 0} (a b c : Option A) → option_or (option_or a b) c ≡ option_or a (option_or b c)
or_assoc None b c = refl
or_assoc (Some x) b c = refl

or_cond : {A : Type 0} (b : Bool) (x : A) (a o : Option A) → cond b (Some x) (option_or a o) ≡ option_or (cond b (Some x) a) o
or_cond true x a o = refl
or_cond false x a o = refl

lookup-append : (label : ℕ) (a b : Found) → lookup (nat_eq label) (a ++ b) ≡ option_or (lookup (nat_eq label) a) (lookup (nat_eq label) b)
lookup-append label [] b = refl
lookup-append label (e ∷ a) b = ap (cond (nat_eq label e.0) (Some e.1)) (lookup-append label a b) ∙ or_cond (nat_eq label e.0) e.1 (lookup (nat_eq label) a) (lookup (nat_eq label) b)

pub labelled_twice : (labels : ObjectLabels) (a b : Found) → or_labelled (or_labelled labels a) b ≡ or_labelled labels (a ++ b)
labelled_twice labels a b = λ i label. (or_assoc (labels label) (lookup (nat_eq label) a) (lookup (nat_eq label) b) ∙ ap (option_or (labels label)) (sym (lookup-append label a b))) i

pub labelled_none : (labels : ObjectLabels) → or_labelled labels [] ≡ labels
labelled_none labels = λ i label. or_none (labels label) i

-- an object, and then those within it
pub labelled_behind : (labels after : ObjectLabels) (label : ℕ) (first second object : Value) → first ≡ object → second ≡ object → after ≡ or_labelled labels ((label, first) ∷ [])
    → or_labelled after (labelled_in second) ≡ or_labelled labels ((label, object) ∷ labelled_in object)
labelled_behind labels after label first second object e f is =
    ap (λ (l : ObjectLabels). or_labelled l (labelled_in second)) is
    ∙ labelled_twice labels ((label, first) ∷ []) (labelled_in second)
    ∙ ap (λ (o : Value). or_labelled labels ((label, o) ∷ labelled_in second)) e
    ∙ ap (λ (o : Value). or_labelled labels ((label, object) ∷ labelled_in o)) f

module _ {X : Type 0} (f : X → Found) where
  -- one more of several
  pub labelled_more : (labels after : ObjectLabels) (xs : List X) (k : ℕ) (x : X) → k < length xs → x ≡ get_or xs k x → after ≡ or_labelled labels (f x)
      → or_labelled after (flat_map f (drop (k + 1) xs)) ≡ or_labelled labels (flat_map f (drop k xs))
  labelled_more labels after xs k x lt is e =
      ap (λ (l : ObjectLabels). or_labelled l (flat_map f (drop (k + 1) xs))) e
      ∙ labelled_twice labels (f x) (flat_map f (drop (k + 1) xs))
      ∙ ap (λ (y : X). or_labelled labels (flat_map f (y ∷ drop (k + 1) xs))) is
      ∙ sym (at_drop_more (λ (ys : List X). or_labelled labels (flat_map f ys)) xs k x lt)

  -- and all of them
  pub labelled_all : (labels : ObjectLabels) (xs : List X) (k : ℕ) → length xs ≤ k → or_labelled labels (flat_map f (drop k xs)) ≡ labels
  labelled_all labels xs k le = at_drop_all (λ (ys : List X). or_labelled labels (flat_map f ys)) xs k le ∙ labelled_none labels

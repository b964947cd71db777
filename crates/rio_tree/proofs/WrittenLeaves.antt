-- The leaves of a header fit the classes of trees, and what points to counters points to leaves.
use Rattle.std.proofs.{Common.{◌≡◌, ◌∙◌, ◌^◌, ℕ, zero, suc, ◌+◌, ℤ, pos, Bool, true, false, cond, List, [], ◌∷◌, ◌++◌, length, map, codes, Option, Some, None, refl, ap, sym, append-nil, append_assoc, arith, nat_lt}, lemmas.Bool.{and_parts}}
use Rattle.std.proofs.lemmas.List.{length-append}
use Rattle.std.specs.{List.{list_all}, Map.{lookup}, Prelude.{slice_get}, Str.{bytes_eq}}
use Rattle.rio_leaf.specs.{Spelling.{text_of_dim}, declared.leaf.Dim.{Dim, TheVariants.{One, Fixed, Counted}}, declared.leaf.Leaf.{Leaf}}
use Rattle.rio_format.specs.{declared.kind.Kind.TheVariants.{Inline, Pointer}, declared.kind.Primitive.TheVariants.{I32}, declared.value.Value.{Value, Pointed, Null, Back}}
use Rattle.rio_format.specs.{Bodies.{part}, Fits.{Labels, all_fit, fits_signed, fitting_of, fitting_step, may_point}, Slots.{Slot, kinded, based, any_pointer, has_base}, TreeClasses.{tree_classes, leaf_members}}
use Rattle.rio_format.proofs.{ValueCases.{fold_Back, fold_Null}, WrittenParts.{FitsIn, int_fits, pointer_fits, titled_fits, truth_fits}, WrittenValues.{fit_object, object_fitting}}
use Rattle.rio_tree.specs.WrittenTree.{LeafLabels, back_or_null, class_of_letter, counter_pointer, is_letter_among, is_unsigned_letter, labels_behind, leaf_object, leaf_pointers, plain_leaf_object, width_of_letter, written_count}

-- ---- by the class of a leaf

pub either_way : {A : Type 0} (P : A → Type 0) (b : Bool) (x y : A) → P x → P y → P (cond b x y)
either_way P true x y p q = p
either_way P false x y p q = q

-- what holds of each class of leaves
record OfClasses (P : List ℕ → Type 0) : Type 0 where
  b : P (codes "TLeafB")
  s : P (codes "TLeafS")
  i : P (codes "TLeafI")
  l : P (codes "TLeafL")
  f : P (codes "TLeafF")
  d : P (codes "TLeafD")
  o : P (codes "TLeafO")
  c : P (codes "TLeafC")

by_class : (P : List ℕ → Type 0) (letter : ℕ) → OfClasses P → P (class_of_letter letter)
by_class P letter each =
    either_way P (is_letter_among (codes "Bb") letter) _ _ each.b
    (either_way P (is_letter_among (codes "Ss") letter) _ _ each.s
    (either_way P (is_letter_among (codes "Ii") letter) _ _ each.i
    (either_way P (is_letter_among (codes "Ll") letter) _ _ each.l
    (either_way P (is_letter_among (codes "F") letter) _ _ each.f
    (either_way P (is_letter_among (codes "D") letter) _ _ each.d
    (either_way P (is_letter_among (codes "O") letter) _ _ each.o each.c))))))

-- a pointer may point to a leaf's object
LeafMayStand : Slot → List ℕ → Type 0
LeafMayStand slot class = may_point tree_classes (class, pos 101) slot ≡ true

pub leaf_may_stand : (letter : ℕ) → may_point tree_classes (class_of_letter letter, pos 101) any_pointer ≡ true
unfolding tree_classes
leaf_may_stand letter =
    by_class (λ class. may_point tree_classes (class, pos 101) any_pointer ≡ true) letter
    (record { b = refl; s = refl; i = refl; l = refl; f = refl; d = refl; o = refl; c = refl })

leaf_may_count : (letter : ℕ) → may_point tree_classes (class_of_letter letter, pos 101) (kinded (Pointer (codes "TLeaf"))) ≡ true
unfolding tree_classes has_base
leaf_may_count letter =
    by_class (λ class. may_point tree_classes (class, pos 101) (kinded (Pointer (codes "TLeaf"))) ≡ true) letter
    (record { b = refl; s = refl; i = refl; l = refl; f = refl; d = refl; o = refl; c = refl })

-- ---- labels of leaves

-- it is the label of a leaf's object
abbrev pub IsLeafAt : Labels → ℕ → Type 0
IsLeafAt labels label = (letter : ℕ) × (slice_get labels label ≡ Some (class_of_letter letter, pos 101))

-- what is known of leaves leads to leaves
abbrev pub KnowsLeaves : LeafLabels → Labels → Type 0
KnowsLeaves known labels = (name : List ℕ) (label : ℕ) → lookup (bytes_eq name) known ≡ Some label → IsLeafAt labels label

pub get_front : {A : Type 0} (xs ys : List A) (k : ℕ) (x : A) → slice_get xs k ≡ Some x → slice_get (xs ++ ys) k ≡ Some x
get_front [] ys k x e = absurd cc
get_front (y ∷ xs) ys zero x e = e
get_front (y ∷ xs) ys (suc k) x e = get_front xs ys k x e

pub get_behind : {A : Type 0} (xs ys : List A) (x : A) → slice_get (xs ++ x ∷ ys) (length xs) ≡ Some x
get_behind [] ys x = refl
get_behind (y ∷ xs) ys x = get_behind xs ys x

pub knows_longer : (known : LeafLabels) (labels more : Labels) → KnowsLeaves known labels → KnowsLeaves known (labels ++ more)
knows_longer known labels more knows name label e =
    let here = knows name label e in
    (here.0, get_front labels more label (class_of_letter here.0, pos 101) here.1)

-- one more leaf
knows_more : (known : LeafLabels) (labels : Labels) (leaf : Leaf) (label : ℕ) → label ≡ length labels → KnowsLeaves known labels → KnowsLeaves ((leaf.name, label) ∷ known) (labels ++ (class_of_letter leaf.letter, pos 101) ∷ [])
knows_more known labels leaf label next knows name at e =
    let own : Labels = labels ++ (class_of_letter leaf.letter, pos 101) ∷ [] in
    elim (bytes_eq name leaf.name) as (λ b. cond b (Some label) (lookup (bytes_eq name) known) ≡ Some at → IsLeafAt own at) [
      | true ↦ λ here.
          let same : label ≡ at = cc in
          (leaf.letter, rw (← same, next) (get_behind labels [] (class_of_letter leaf.letter, pos 101)))
      | false ↦ λ there. knows_longer known labels ((class_of_letter leaf.letter, pos 101) ∷ []) knows name at there
    ] e

-- ---- one leaf

back_to : (labels : Labels) (label : ℕ) (slot : Slot) (own : List ℕ × ℤ) → slice_get labels label ≡ Some own → may_point tree_classes own slot ≡ true → FitsIn tree_classes slot (Back label) labels labels
back_to labels label slot own at may = rw (fold_Back (fitting_step tree_classes) (λ p. (p.name, p.value)) label, at, may) refl

-- what points to a leaf in an array
pub leaf_back_fits : (labels : Labels) (label : ℕ) → IsLeafAt labels label → FitsIn tree_classes any_pointer (Back label) labels labels
leaf_back_fits labels label is = back_to labels label any_pointer (class_of_letter is.0, pos 101) is.1 (leaf_may_stand is.0)

null_fits : (labels : Labels) → FitsIn tree_classes (kinded (Pointer (codes "TLeaf"))) Null labels labels
null_fits labels = rw (fold_Null (fitting_step tree_classes) (λ p. (p.name, p.value))) refl

found_fits : (labels : Labels) (found : Option ℕ) → ((label : ℕ) → found ≡ Some label → IsLeafAt labels label) → FitsIn tree_classes (kinded (Pointer (codes "TLeaf"))) (back_or_null found) labels labels
found_fits labels None knows = null_fits labels
found_fits labels (Some label) knows =
    let is = knows label refl in
    back_to labels label (kinded (Pointer (codes "TLeaf"))) (class_of_letter is.0, pos 101) is.1 (leaf_may_count is.0)

counter_fits : (known : LeafLabels) (dim : Dim) (labels : Labels) → KnowsLeaves known labels → FitsIn tree_classes (kinded (Pointer (codes "TLeaf"))) (counter_pointer known dim) labels labels
counter_fits known One labels knows = null_fits labels
counter_fits known (Fixed count) labels knows = null_fits labels
counter_fits known (Counted counter times) labels knows = found_fits labels (lookup (bytes_eq counter) known) (knows counter)

width_fits : (letter : ℕ) → fits_signed 32 (pos (width_of_letter letter)) ≡ true
width_fits letter =
    let P : ℕ → Type 0 = λ n. fits_signed 32 (pos n) ≡ true in
    either_way P (is_letter_among (codes "LlD") letter) 8 _ refl
    (either_way P (is_letter_among (codes "IiF") letter) 4 _ refl (either_way P (is_letter_among (codes "Ss") letter) 2 1 refl refl))

-- how many values it has is within its member
abbrev pub count_fits : Leaf → Bool
count_fits leaf = nat_lt (written_count leaf.dim) (2 ^ 31)

plain_leaf_fits : (known : LeafLabels) (leaf : Leaf) (labels : Labels) → KnowsLeaves known labels → count_fits leaf ≡ true → FitsIn tree_classes (based (codes "TLeaf") (pos 102)) (plain_leaf_object known leaf) labels labels
unfolding plain_leaf_object tree_classes leaf_members
plain_leaf_fits known leaf labels knows count =
    rw (
      fit_object tree_classes (codes "TLeaf") (pos 102) _,
      titled_fits tree_classes leaf.name (leaf.name ++ text_of_dim leaf.dim) labels,
      int_fits tree_classes (pos (written_count leaf.dim)) I32 labels count,
      int_fits tree_classes (pos (width_of_letter leaf.letter)) I32 labels (width_fits leaf.letter),
      truth_fits tree_classes (is_unsigned_letter leaf.letter) labels,
      counter_fits known leaf.dim labels knows,
    ) refl

-- the label of a leaf's object
abbrev pub leaf_label : Leaf → List ℕ × ℤ
leaf_label leaf = (class_of_letter leaf.letter, pos 101)

inside_fits : (plain : Value) (labels : Labels) (letter : ℕ) → FitsIn tree_classes (based (codes "TLeaf") (pos 102)) plain labels labels
    → (object_fitting tree_classes (class_of_letter letter) (pos 101) (part [] plain ∷ [])).fits (kinded (Inline (class_of_letter letter))) labels ≡ Some labels
unfolding tree_classes
inside_fits plain labels letter e =
    by_class (λ class. (object_fitting tree_classes class (pos 101) (part [] plain ∷ [])).fits (kinded (Inline class)) labels ≡ Some labels) letter
    (record { b = rw e refl; s = rw e refl; i = rw e refl; l = rw e refl; f = rw e refl; d = rw e refl; o = rw e refl; c = rw e refl })

leaf_fits : (known : LeafLabels) (label : ℕ) (leaf : Leaf) (labels : Labels) → label ≡ length labels → KnowsLeaves known labels → count_fits leaf ≡ true → FitsIn tree_classes any_pointer (Pointed label (leaf_object known leaf)) labels (labels ++ leaf_label leaf ∷ [])
unfolding leaf_object
leaf_fits known label leaf labels next knows count =
    let own : Labels = labels ++ leaf_label leaf ∷ [] in
    let plain = plain_leaf_fits known leaf own (knows_longer known labels (leaf_label leaf ∷ []) knows) count in
    pointer_fits tree_classes label (class_of_letter leaf.letter) (pos 101) (part [] (plain_leaf_object known leaf) ∷ []) any_pointer labels own next (leaf_may_stand leaf.letter)
    (inside_fits (plain_leaf_object known leaf) own leaf.letter plain)

-- ---- the leaves of a branch

pub record LeavesFit (known : LeafLabels) (label : ℕ) (leaves : List Leaf) (labels : Labels) : Type 0 where
  pub each : all_fit any_pointer (map (fitting_of tree_classes) (leaf_pointers known label leaves)) labels ≡ Some (labels ++ map leaf_label leaves)
  pub knows : KnowsLeaves (labels_behind known label leaves) (labels ++ map leaf_label leaves)

pub leaves_fit : (known : LeafLabels) (label : ℕ) (leaves : List Leaf) (labels : Labels) → label ≡ length labels → KnowsLeaves known labels → list_all count_fits leaves ≡ true → LeavesFit known label leaves labels
unfolding leaf_pointers labels_behind
leaves_fit known label [] labels next knows counts = record {
  each = ap (λ (l : Labels). Some l) (sym (append-nil labels));
  knows = rw (append-nil labels) knows;
}
leaves_fit known label (leaf ∷ leaves) labels next knows counts =
    let own : Labels = labels ++ leaf_label leaf ∷ [] in
    let h = and_parts (count_fits leaf) (list_all count_fits leaves) counts in
    let rest = leaves_fit ((leaf.name, label) ∷ known) (label + 1) leaves own (omega (arith, next, length-append labels (leaf_label leaf ∷ []))) (knows_more known labels leaf label next knows) h.1 in
    let same : own ++ map leaf_label leaves ≡ labels ++ map leaf_label (leaf ∷ leaves) = append_assoc labels (leaf_label leaf ∷ []) (map leaf_label leaves) in
    record {
      each = rw (leaf_fits known label leaf labels next knows h.0) (rest.each ∙ ap (λ (l : Labels). Some l) same);
      knows = rw (← same) rest.knows;
    }

-- Where all of a value is read, all of each value in it is.
use Rattle.std.proofs.Common.{◌≡◌, ℕ, ℤ, List, [], ◌∷◌, ◌++◌, map, Bool, true, false, sym, ap, ◌∙◌}
use Rattle.std.proofs.lemmas.Bool.{and_parts}
use Rattle.std.specs.List.{list_all}
use Rattle.rio_format.specs.{declared.value.Value.{Value, List as Items, Object, Pointed, Opaque, TheFolds.{fold-Part, fold_out-Part}}, declared.value.Part.{Part}, Growth.{all_read_step, is_all_read}}
use Rattle.rio_format.proofs.ValueCases.{Each, fold_List, fold_Object, fold_Opaque, fold_Pointed}

abbrev pub AllRead : Value → Type 0
AllRead v = is_all_read v ≡ true

abbrev pub PartRead : Part → Type 0
PartRead p = is_all_read p.value ≡ true

part_read : (p : Part) → fold-Part Bool Bool all_read_step (λ p. p.value) p ≡ is_all_read p.value
part_read p = fold_out-Part Bool Bool all_read_step (λ p. p.value) p

-- ---- values in a value

pub items_layer : (vs : List Value) → is_all_read (Items vs) ≡ list_all (λ b. b) (map is_all_read vs)
items_layer vs = fold_List all_read_step (λ p. p.value) vs

pub parts_layer : (class : List ℕ) (version : ℤ) (ps : List Part) → is_all_read (Object class version ps) ≡ list_all (λ b. b) (map (λ p. is_all_read p.value) ps)
parts_layer class version ps = fold_Object all_read_step (λ p. p.value) class version ps ∙ ap (λ (g : Part → Bool). list_all (λ b. b) (map g ps)) (λ i p. part_read p i)

pub pointed_layer : (label : ℕ) (object : Value) → is_all_read (Pointed label object) ≡ is_all_read object
pointed_layer label object = fold_Pointed all_read_step (λ p. p.value) label object

each_true : {X : Type 0} (test : X → Bool) (xs : List X) → list_all (λ b. b) (map test xs) ≡ true → Each (λ x. test x ≡ true) xs
each_true test [] e = tt
each_true test (x ∷ xs) e =
    let two = and_parts (test x) (list_all (λ b. b) (map test xs)) e in
    (two.0, each_true test xs two.1)

pub items_read : (vs : List Value) → AllRead (Items vs) → Each AllRead vs
items_read vs e = each_true is_all_read vs (sym (items_layer vs) ∙ e)

pub parts_read : (class : List ℕ) (version : ℤ) (ps : List Part) → AllRead (Object class version ps) → Each PartRead ps
parts_read class version ps e = each_true (λ p. is_all_read p.value) ps (sym (parts_layer class version ps) ∙ e)

pub pointed_read : (label : ℕ) (object : Value) → AllRead (Pointed label object) → AllRead object
pointed_read label object e = sym (pointed_layer label object) ∙ e

pub opaque_unread : (class : List ℕ) (len : ℕ) → AllRead (Opaque class len) → ⊥
opaque_unread class len e =
    let never : false ≡ true = sym (fold_Opaque all_read_step (λ p. p.value) class len) ∙ e in
    absurd cc

-- ---- two lists

pub each_front : {X : Type 0} (P : X → Type 0) (xs ys : List X) → Each P (xs ++ ys) → Each P xs
each_front P [] ys all = tt
each_front P (x ∷ xs) ys all = (all.0, each_front P xs ys all.1)

pub each_back : {X : Type 0} (P : X → Type 0) (xs ys : List X) → Each P (xs ++ ys) → Each P ys
each_back P [] ys all = all
each_back P (x ∷ xs) ys all = each_back P xs ys all.1

-- What is written for a small built-in object is the same at every place.
use Rattle.std.proofs.Common.{◌≡◌, ◌⊎◌, inl, inr, ℕ, ℤ, pos, negsuc, Bool, true, false, cond, ◌&&◌, List, [], map, codes, slice_get, IsTrue, is_some, Option, Some, None, refl, sym, ap, subst, ◌∙◌}
use Rattle.std.proofs.lemmas.Slice.Eq.{bytes_eq-Decides}
use Rattle.std.specs.Prelude.{◌==◌}
use Rattle.rio_format.specs.{declared.class.ClassDef.{ClassDef}, declared.kind.Kind.TheVariants.{Inline}, declared.value.Part.{Part}}
use Rattle.rio_format.specs.{declared.value.Value.{Value, Int, Bits32, Bits64, Bool as Truth, Text, List as Items, Object, Pointed, Null, Back, Opaque}, Bodies.{built_in}}
use Rattle.rio_format.specs.declared.value.Value.TheOpen as layer
use Rattle.rio_format.specs.Fits.{Fits, Fitting, Labels, back_fits, fitting_of, fitting_step, int_fits, object_may_stand, part_fitting, parts_fit, pass, pointed_fits}
use Rattle.rio_format.specs.{Slots.{declared_body, fields_of, kinded}, Written.{writing_of, written_form}, BuiltIn.{is_small_builtin}, ReaderState.{WordsMet, no_words}, Writer.{Writer}}
use Rattle.rio_format.proofs.ValueCases.{Steps, by_cases, fold_Int, fold_Bits32, fold_Bits64, fold_Bool, fold_Text, fold_List, fold_Pointed, fold_Null, fold_Back, fold_Opaque}
use Rattle.rio_write.specs.{Small.{SmallBuiltinsAreAlike, SmallBuiltinsStandAnywhere}, Writing.{IsSmallBuiltin}}
use Rattle.rio_write.proofs.{BuiltinBodies.{body_is, which}, SmallObjects.{HasItsBody, form_stays}}
use Rattle.rio_write.proofs.SmallValues.{FitIn, Steady, chosen, fit_pair, object_fits, own_bytes, placed}
use Rattle.rio_write.proofs.{WithPid.{named_steady, object_steady, string_steady}, WriteValues.{object_is}}

-- ---- an object

some_there : (o : Option Labels) → IsTrue (is_some o) → (after : Labels) × (o ≡ Some after)
some_there (Some after) is = (after, refl)
some_there None is = absurd cc

module _ (class : List ℕ) (version : ℤ) (parts : List Part) where
  abbrev pub object : Value
  object = Object class version parts

  -- its parts fit, and it is of the class
  record FitsAs (known : List ClassDef) (wanted : List ℕ) : Type 0 where
    pub after : Labels
    pub stands : object_may_stand class version (kinded (Inline wanted)) ≡ true
    pub parts_fit_in : FitIn parts [] after known class version

  fits_as : (known : List ClassDef) (wanted : List ℕ) → Fits known wanted object → FitsAs known wanted
  fits_as known wanted fits =
      let slot = kinded (Inline wanted) in
      let there = some_there ((fitting_of known object).fits slot []) fits in
      let two = chosen there.0 (object_may_stand class version slot) (parts_fit (fields_of known class version) (map (part_fitting known) parts) []) (sym (object_fits known class version parts slot []) ∙ there.1) in
      record { after = there.0; stands = two.0; parts_fit_in = two.1 }

  module _ (known : List ClassDef) (wanted : List ℕ) (fits : FitsAs known wanted) (is : IsTrue (is_small_builtin wanted)) where
    own_is : IsTrue (is_small_builtin class)
    own_is = subst (λ (c : List ℕ). IsTrue (is_small_builtin c)) (sym ((bytes_eq-Decides class wanted).0 fits.stands)) is

    stays : HasItsBody class version → Fits [] wanted object × Steady (own_bytes object)
    stays body =
        let form = form_stays parts known [] fits.after class version own_is body fits.parts_fit_in in
        let stands = placed parts [] fits.after class version (kinded (Inline wanted)) fits.stands form in (
          subst (λ (o : Option Labels). IsTrue (is_some o)) (sym stands.0) refl,
          (form.1.0, λ classes p t. ap (λ (w : Writer). w p t) (object_is classes (kinded (Inline (writing_of classes object).class)) class version parts) ∙ form.1.1 classes p t),
        )

  pub small_stays : (wanted : List ℕ) → IsTrue (is_small_builtin wanted) → Fits [] wanted object → Steady (own_bytes object)
  small_stays wanted is fits =
      let known = fits_as [] wanted fits in
      (stays [] wanted known is (λ form classes. body_is (map (part_fitting []) parts) version class (own_is [] wanted known is) form ([], known.after, known.parts_fit_in) classes)).1

-- in version 1 no class list gives it another body
first_body : (class : List ℕ) (classes : List ClassDef) → (class ≡ codes "TNamed") ⊎ (class ≡ codes "TObjString") → declared_body classes class (pos 1) ≡ built_in class (pos 1)
first_body class classes (inl own) = subst (λ (c : List ℕ). declared_body classes c (pos 1) ≡ built_in c (pos 1)) (sym own) refl
first_body class classes (inr own) = subst (λ (c : List ℕ). declared_body classes c (pos 1) ≡ built_in c (pos 1)) (sym own) refl

first_stays : (class : List ℕ) (parts : List Part) (known : List ClassDef) (wanted : List ℕ) → IsTrue (is_small_builtin wanted) → Fits known wanted (Object class (pos 1) parts) → Fits [] wanted (Object class (pos 1) parts) × Steady (own_bytes (Object class (pos 1) parts))
first_stays class parts known wanted is fits =
    let so = fits_as class (pos 1) parts known wanted fits in
    stays class (pos 1) parts known wanted so is (λ form classes. first_body class classes (which class (own_is class (pos 1) parts known wanted so is) form))

same_form : (v : Value) → Steady (own_bytes v) → (classes : List ClassDef) (p : ℕ) (t : WordsMet) → own_bytes v classes p t ≡ (written_form [] 0 v, t)
same_form v a classes p t = a.1 classes p t ∙ ap (λ (bytes : List ℕ). let b : List ℕ × WordsMet = (bytes, t) in b) (sym (ap (λ (b : List ℕ × WordsMet). b.0) (a.1 [] 0 no_words)))

pub are_alike : SmallBuiltinsAreAlike
are_alike classes start class v is fits version =
    let own = version.2 in
    let first = first_stays version.0 version.1 classes class is (subst (λ (x : Value). Fits classes class x) own fits) in
    let steady = subst (λ (x : Value). Steady (own_bytes x)) (sym own) first.1 in
    (subst (λ (x : Value). Fits [] class x) (sym own) first.0, ap (λ (b : List ℕ × WordsMet). b.0) (same_form v steady classes start no_words))

-- ---- any value

abbrev IsSteady : Value → Type 0
IsSteady v = (class : List ℕ) → IsTrue (is_small_builtin class) → Fits [] class v → Steady (own_bytes v)

-- a value that isn't an object
none_fits : (v : Value) (fitting : Fitting) → fitting_of [] v ≡ fitting → ((class : List ℕ) → fitting.fits (kinded (Inline class)) [] ≡ None) → IsSteady v
none_fits v fitting own none class is fits =
    let never : IsTrue false = subst (λ (o : Option Labels). IsTrue (is_some o)) (ap (λ (f : Fitting). f.fits (kinded (Inline class)) []) own ∙ none class) fits in
    absurd cc

not_pointed : (label : ℕ) (pointed : Fitting) (own : Option (List ℕ × ℤ)) (class : List ℕ) → pointed_fits [] label pointed own (kinded (Inline class)) [] ≡ None
not_pointed label pointed None class = refl
not_pointed label pointed (Some own) class = by (label == 0) _
  where
    by : (b : Bool) (o : Option Labels) → cond (b && false) o None ≡ None
    by true o = refl
    by false o = refl

not_int : (z : ℤ) (class : List ℕ) → pass (int_fits z (kinded (Inline class))) [] ≡ None
not_int (pos n) class = refl
not_int (negsuc n) class = refl

not_back : (label : ℕ) (class : List ℕ) → pass (back_fits [] (slice_get [] label) (kinded (Inline class))) [] ≡ None
not_back label class = by (slice_get [] label)
  where
    by : (own : Option (List ℕ × ℤ)) → pass (back_fits [] own (kinded (Inline class))) [] ≡ None
    by None = refl
    by (Some own) = refl

steady_steps : Steps IsSteady
steady_steps = record {
  int = λ z. none_fits (Int z) (fitting_step [] (layer.Int z)) (fold_Int (fitting_step []) fit_pair z) (λ class. not_int z class);
  bits32 = λ n. none_fits (Bits32 n) (fitting_step [] (layer.Bits32 n)) (fold_Bits32 (fitting_step []) fit_pair n) (λ class. refl);
  bits64 = λ n. none_fits (Bits64 n) (fitting_step [] (layer.Bits64 n)) (fold_Bits64 (fitting_step []) fit_pair n) (λ class. refl);
  truth = λ b. none_fits (Truth b) (fitting_step [] (layer.Bool b)) (fold_Bool (fitting_step []) fit_pair b) (λ class. refl);
  text = λ t. none_fits (Text t) (fitting_step [] (layer.Text t)) (fold_Text (fitting_step []) fit_pair t) (λ class. refl);
  list = λ vs each. none_fits (Items vs) (fitting_step [] (layer.List (map (fitting_of []) vs))) (fold_List (fitting_step []) fit_pair vs) (λ class. refl);
  object = λ class version parts each wanted is fits. small_stays class version parts wanted is fits;
  pointed = λ label object own. none_fits (Pointed label object) (fitting_step [] (layer.Pointed label (fitting_of [] object))) (fold_Pointed (fitting_step []) fit_pair label object) (λ class. not_pointed label (fitting_of [] object) (fitting_of [] object).class class);
  null = none_fits Null (fitting_step [] layer.Null) (fold_Null (fitting_step []) fit_pair) (λ class. refl);
  back = λ label. none_fits (Back label) (fitting_step [] (layer.Back label)) (fold_Back (fitting_step []) fit_pair label) (λ class. not_back label class);
  opaque = λ class len. none_fits (Opaque class len) (fitting_step [] (layer.Opaque class len)) (fold_Opaque (fitting_step []) fit_pair class len) (λ wanted. refl);
}

fitting_stands : (classes : List ClassDef) (p : ℕ) (t : WordsMet) (v : Value) → IsSmallBuiltin v → own_bytes v classes p t ≡ (written_form [] 0 v, t)
fitting_stands classes p t v small = same_form v (by_cases IsSteady steady_steps v small.0 small.1 small.2) classes p t

pub stand_anywhere : SmallBuiltinsStandAnywhere
stand_anywhere classes p t v (inl small) = fitting_stands classes p t v small
stand_anywhere classes p t v (inr (inl own)) = same_form v (object_steady v own) classes p t
stand_anywhere classes p t v (inr (inr (inl own))) = same_form v (named_steady v own) classes p t
stand_anywhere classes p t v (inr (inr (inr own))) = same_form v (string_steady v own) classes p t

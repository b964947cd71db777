-- The objects of a value that fits have versions that can be written.
use Rattle.std.proofs.Common.{◌≡◌, ◌==◌, ℕ, ℤ, pos, List, [], ◌∷◌, ◌++◌, length, map, Bool, true, false, cond, ◌&&◌, Option, Some, None, refl, sym, ap, ◌∙◌}
use Rattle.std.proofs.lemmas.Bool.{and_from, and_parts, Decides.{Decides-int_eq}}
use Rattle.std.specs.{Prelude.{if◌then◌else◌, is_some}, List.{list_all}, Option.{option_map}, Ordering.{int_eq}, Str.{bytes_eq}}
use Rattle.rio_num.proofs.Cases.{if_some, some_of}
use Rattle.rio_format.specs.{Classes.{find_in}, declared.class.ClassDef.{ClassDef}, declared.kind.Kind.TheVariants.{Plain, Counter, Fixed, Counted, Text as Texted, Inline, Pointer, Other}}
use Rattle.rio_format.specs.{declared.value.Value.{Value, List as Items, Object, Pointed}, declared.value.Part.{Part}, declared.form.Form.{Form, TheVariants.{Bare as bare, Numbers as numbers, Headed as headed}}}
use Rattle.rio_format.specs.Bodies.{Body, Counters, described, form_of, headed_classes}
use Rattle.rio_format.specs.Fits.{Fitting, Labels, all_fit, counted_slot, counted_so_far, fields_fit, fits, fitting_of, fitting_step, link_fits, list_fits, may_point, object_may_stand, parts_fit, pointed_fits}
use Rattle.rio_format.specs.{Laws.{has_versions, versions_step}, Slots.{Field, Slot, body_fields, declared_body, fields_of, form_fields, kinded, based, flags, any_pointer, link, many}}
use Rattle.rio_format.proofs.{BuiltInLaws.{of_body}, ValueCases.{Each, by_cases, fold_Int, fold_Bits32, fold_Bits64, fold_Bool, fold_Text, fold_List, fold_Object, fold_Pointed, fold_Null, fold_Back, fold_Opaque}}
use Rattle.rio_format.proofs.{WrittenLists.{fittings}, WrittenValues.{fit_object, part_versions}}
use Rattle.rio_model.proofs.ListDepth.{in_range}
use Rattle.rio_step.proofs.GrowthLaws.{then_some}

abbrev pub are_in_range : List ClassDef → Bool
are_in_range classes = list_all (λ c. in_range c.version) classes

-- ---- the versions that are known

is_in_range : (version own : ℤ) → in_range own ≡ true → int_eq version own ≡ true → in_range version ≡ true
is_in_range version own range e = ap in_range ((Decides-int_eq version own).0 e) ∙ range

found_version : (classes : List ClassDef) (class : List ℕ) (version : ℤ) → are_in_range classes ≡ true → is_some (find_in classes class version) ≡ true → in_range version ≡ true
found_version [] class version all e = absurd cc
found_version (c ∷ cs) class version all e =
    let parts = and_parts (in_range c.version) (are_in_range cs) all in
    by (bytes_eq c.name class && int_eq c.version version) refl e parts.0 (found_version cs class version parts.1)
  where
    by : (b : Bool) → (bytes_eq c.name class && int_eq c.version version) ≡ b → is_some (cond b (Some c) (find_in cs class version)) ≡ true → in_range c.version ≡ true
        → (is_some (find_in cs class version) ≡ true → in_range version ≡ true) → in_range version ≡ true
    by true is f own rest = ap in_range (sym ((Decides-int_eq c.version version).0 (and_parts (bytes_eq c.name class) (int_eq c.version version) is).1)) ∙ own
    by false is f own rest = rest f

-- a class that is built in has one version
module _ (classes : List ClassDef) (class : List ℕ) (version : ℤ) (all : are_in_range classes ≡ true) where
  some_described : (o : Option ClassDef) → is_some (body_fields (option_map described o)) ≡ true → is_some o ≡ true
  some_described None e = absurd cc
  some_described (Some c) e = refl

  abbrev first_body : Option Body → Option Body
  first_body (Some body) = Some body
  first_body None = option_map described (find_in classes class version)

  body_version : is_some (body_fields (declared_body classes class version)) ≡ true → in_range version ≡ true
  body_version =
      of_body (λ own. is_some (body_fields (first_body own)) ≡ true → in_range version ≡ true) headed_classes class version
      ((λ c v e. ap in_range v), ((λ c v e. ap in_range v), ((λ c v e. ap in_range v), ((λ c v e. ap in_range v), tt))))
      (λ e. found_version classes class version all (some_described (find_in classes class version) e))

  bare_version : {A : Type 0} (x : A) (b : Bool) → int_eq version (pos 1) ≡ b → is_some (if b then Some x else None) ≡ true → in_range version ≡ true
  bare_version x true is e = is_in_range version (pos 1) refl is
  bare_version x false is e = absurd cc

  form_version : (form : Form) → is_some (form_fields classes class version form) ≡ true → in_range version ≡ true
  form_version bare e = bare_version _ (int_eq version (pos 1)) refl e
  form_version (numbers of) e = bare_version _ (int_eq version (pos 1)) refl e
  form_version headed e = body_version e

  known_version : is_some (fields_of classes class version) ≡ true → in_range version ≡ true
  known_version e = form_version (form_of class) e

-- ---- values

module _ (classes : List ClassDef) (all : are_in_range classes ≡ true) where
  -- wherever it fits, its versions can be written
  abbrev pub Ranged : Value → Type 0
  Ranged v = (slot : Slot) (labels after : Labels) → (fitting_of classes v).fits slot labels ≡ Some after → has_versions v ≡ true

  abbrev all_ranged : List Value → Bool
  all_ranged vs = list_all (λ b. b) (map has_versions vs)

  each_ranged : (slot : Slot) (vs : List Value) → Each Ranged vs → (labels after : Labels) → all_fit slot (map (fitting_of classes) vs) labels ≡ Some after → all_ranged vs ≡ true
  each_ranged slot [] known labels after e = refl
  each_ranged slot (v ∷ vs) known labels after e =
      let first = then_some (all_fit slot (map (fitting_of classes) vs)) ((fitting_of classes v).fits slot labels) after e in
      and_from _ _ (known.0 slot labels first.0 first.1) (each_ranged slot vs known.1 first.0 after first.2)

  link_ranged : (vs : List Value) → Each Ranged vs → (labels after : Labels) → link_fits (map (fitting_of classes) vs) labels ≡ Some after → all_ranged vs ≡ true
  link_ranged [] known labels after e = absurd cc
  link_ranged (p ∷ []) known labels after e = absurd cc
  link_ranged (p ∷ t ∷ []) known labels after e =
      let first = then_some ((fitting_of classes t).fits (kinded Texted)) ((fitting_of classes p).fits any_pointer labels) after e in
      and_from _ _ (known.0 any_pointer labels first.0 first.1) (and_from _ _ (known.1.0 (kinded Texted) first.0 after first.2) refl)
  link_ranged (p ∷ t ∷ u ∷ vs) known labels after e = absurd cc

  items_ranged : (vs : List Value) → Each Ranged vs → (slot : Slot) (labels after : Labels) → list_fits (map (fitting_of classes) vs) slot labels ≡ Some after → all_ranged vs ≡ true
  items_ranged vs known (kinded (Fixed of count)) labels after e = each_ranged (kinded (Plain of)) vs known labels after (if_some (length (map (fitting_of classes) vs) == count) _ after e)
  items_ranged vs known link labels after e = link_ranged vs known labels after e
  items_ranged vs known (many slot) labels after e = each_ranged slot vs known labels after e
  items_ranged vs known (kinded (Plain of)) labels after e = absurd cc
  items_ranged vs known (kinded Counter) labels after e = absurd cc
  items_ranged vs known (kinded (Counted of counter)) labels after e = absurd cc
  items_ranged vs known (kinded Texted) labels after e = absurd cc
  items_ranged vs known (kinded (Inline class)) labels after e = absurd cc
  items_ranged vs known (kinded (Pointer class)) labels after e = absurd cc
  items_ranged vs known (kinded (Other code)) labels after e = absurd cc
  items_ranged vs known (based class version) labels after e = absurd cc
  items_ranged vs known flags labels after e = absurd cc
  items_ranged vs known any_pointer labels after e = absurd cc

  list_ranged : (vs : List Value) → Each Ranged vs → Ranged (Items vs)
  list_ranged vs known slot labels after e =
      let is = fold_List (fitting_step classes) (λ p. (p.name, p.value)) vs in
      let fit : list_fits (map (fitting_of classes) vs) slot labels ≡ Some after = ap (λ (f : Fitting). f.fits slot labels) (sym is) ∙ e in
      fold_List versions_step (λ p. p.value) vs ∙ items_ranged vs known slot labels after fit

  abbrev parts_ranged : List Part → Bool
  parts_ranged ps = list_all (λ b. b) (map (λ p. has_versions p.value) ps)

  fields_ranged : (fs : List Field) (ps : List Part) → Each (λ p. Ranged p.value) ps → (counters : Counters) (labels after : Labels) → fields_fit fs (fittings classes ps) counters labels ≡ Some after → parts_ranged ps ≡ true
  fields_ranged [] [] known counters labels after e = refl
  fields_ranged [] (p ∷ ps) known counters labels after e = absurd cc
  fields_ranged (f ∷ fs) [] known counters labels after e = absurd cc
  fields_ranged (f ∷ fs) (p ∷ ps) known counters labels after e =
      let own = if_some (bytes_eq p.name f.name) _ after e in
      let first = then_some (fields_fit fs (fittings classes ps) (counted_so_far f (fitting_of classes p.value).number counters)) ((fitting_of classes p.value).fits (counted_slot counters f.slot) labels) after own in
      and_from _ _ (known.0 (counted_slot counters f.slot) labels first.0 first.1) (fields_ranged fs ps known.1 (counted_so_far f (fitting_of classes p.value).number counters) first.0 after first.2)

  known_parts : (class : List ℕ) (version : ℤ) (ps : List Part) → Each (λ p. Ranged p.value) ps → (fields : Option (List Field)) → fields_of classes class version ≡ fields → (labels after : Labels)
      → parts_fit fields (fittings classes ps) labels ≡ Some after → (in_range version && parts_ranged ps) ≡ true
  known_parts class version ps known None is labels after e = absurd cc
  known_parts class version ps known (Some fields) is labels after e =
      and_from _ _ (known_version classes class version all (ap is_some is)) (fields_ranged fields ps known [] labels after e)

  object_ranged : (class : List ℕ) (version : ℤ) (ps : List Part) → Each (λ p. Ranged p.value) ps → Ranged (Object class version ps)
  object_ranged class version ps known slot labels after e =
      let fit : cond (object_may_stand class version slot) (parts_fit (fields_of classes class version) (fittings classes ps) labels) None ≡ Some after =
      ap (λ (f : Fitting). f.fits slot labels) (sym (fit_object classes class version ps)) ∙ e in
      let whole : has_versions (Object class version ps) ≡ (in_range version && parts_ranged ps) =
      fold_Object versions_step (λ p. p.value) class version ps ∙ ap (λ (g : Part → Bool). in_range version && list_all (λ b. b) (map g ps)) (λ i p. part_versions p i) in
      whole ∙ known_parts class version ps known (fields_of classes class version) refl labels after (if_some (object_may_stand class version slot) _ after fit)

  pointed_by : (label : ℕ) (object : Value) → Ranged object → (own : Option (List ℕ × ℤ)) (slot : Slot) (labels after : Labels) → pointed_fits classes label (fitting_of classes object) own slot labels ≡ Some after → has_versions object ≡ true
  pointed_by label object known None slot labels after e = absurd cc
  pointed_by label object known (Some own) slot labels after e =
      known (kinded (Inline own.0)) (labels ++ own ∷ []) after (if_some (label == length labels && may_point classes own slot) _ after e)

  pointed_ranged : (label : ℕ) (object : Value) → Ranged object → Ranged (Pointed label object)
  pointed_ranged label object known slot labels after e =
      let is = fold_Pointed (fitting_step classes) (λ p. (p.name, p.value)) label object in
      let fit : pointed_fits classes label (fitting_of classes object) (fitting_of classes object).class slot labels ≡ Some after = ap (λ (f : Fitting). f.fits slot labels) (sym is) ∙ e in
      fold_Pointed versions_step (λ p. p.value) label object ∙ pointed_by label object known (fitting_of classes object).class slot labels after fit

  pub ranged : (v : Value) → Ranged v
  ranged = by_cases Ranged (record {
    int = λ z slot labels after e. fold_Int versions_step (λ p. p.value) z;
    bits32 = λ n slot labels after e. fold_Bits32 versions_step (λ p. p.value) n;
    bits64 = λ n slot labels after e. fold_Bits64 versions_step (λ p. p.value) n;
    truth = λ b slot labels after e. fold_Bool versions_step (λ p. p.value) b;
    text = λ t slot labels after e. fold_Text versions_step (λ p. p.value) t;
    list = list_ranged;
    object = object_ranged;
    pointed = pointed_ranged;
    null = λ slot labels after e. fold_Null versions_step (λ p. p.value);
    back = λ label slot labels after e. fold_Back versions_step (λ p. p.value) label;
    opaque = λ class len slot labels after e. fold_Opaque versions_step (λ p. p.value) class len;
  })

  pub fits_in_versions : (class : List ℕ) (v : Value) → fits classes class v ≡ true → has_versions v ≡ true
  fits_in_versions class v e =
      let there = some_of ((fitting_of classes v).fits (kinded (Inline class)) []) e in
      ranged v (kinded (Inline class)) [] there.0 there.1

-- All is read of a value that fits its class.
use Rattle.std.proofs.Common.{◌≡◌, ◌==◌, ℕ, ℤ, List, [], ◌∷◌, ◌++◌, length, map, Bool, true, cond, ◌&&◌, Option, Some, None, refl, sym, ap, ◌∙◌}
use Rattle.std.proofs.lemmas.Bool.{and_from}
use Rattle.std.specs.{Prelude.{option_and_then}, List.{list_all}, Str.{bytes_eq}}
use Rattle.rio_num.proofs.Cases.{if_some, some_of}
use Rattle.rio_format.specs.{declared.class.ClassDef.{ClassDef}, declared.kind.Kind.TheVariants.{Plain, Counter, Fixed, Counted, Text as Texted, Inline, Pointer, Other}}
use Rattle.rio_format.specs.{declared.value.Value.{Value, List as Items, Object, Pointed, Opaque}, declared.value.Part.{Part}, Bodies.{Counters}}
use Rattle.rio_format.specs.Fits.{Fitting, Labels, all_fit, counted_slot, counted_so_far, fields_fit, fitting_of, fitting_step, link_fits, list_fits, may_point, object_may_stand, parts_fit, pointed_fits}
use Rattle.rio_format.specs.{Slots.{Field, Slot, fields_of, kinded, based, flags, any_pointer, link, many}, Growth.{FittingIsAllRead, all_read_step, is_all_read}}
use Rattle.rio_format.proofs.ValueCases.{Each, by_cases, fold_Int, fold_Bits32, fold_Bits64, fold_Bool, fold_Text, fold_List, fold_Pointed, fold_Null, fold_Back, fold_Opaque}
use Rattle.rio_format.proofs.{WrittenLists.{fittings}, WrittenValues.{fit_object}, AllRead.{items_layer, parts_layer, pointed_layer}}

then_some : {A B : Type 0} (k : A → Option B) (x : Option A) (b : B) → option_and_then k x ≡ Some b → (a : A) × (x ≡ Some a) × (k a ≡ Some b)
then_some k None b e = absurd cc
then_some k (Some a) b e = (a, refl, e)

module _ (classes : List ClassDef) where
  -- wherever it fits, all of it is read
  abbrev Read : Value → Type 0
  Read v = (slot : Slot) (labels after : Labels) → (fitting_of classes v).fits slot labels ≡ Some after → is_all_read v ≡ true

  abbrev all_of : List Value → Bool
  all_of vs = list_all (λ b. b) (map is_all_read vs)

  each_read : (slot : Slot) (vs : List Value) → Each Read vs → (labels after : Labels) → all_fit slot (map (fitting_of classes) vs) labels ≡ Some after → all_of vs ≡ true
  each_read slot [] known labels after e = refl
  each_read slot (v ∷ vs) known labels after e =
      let first = then_some (all_fit slot (map (fitting_of classes) vs)) ((fitting_of classes v).fits slot labels) after e in
      and_from _ _ (known.0 slot labels first.0 first.1) (each_read slot vs known.1 first.0 after first.2)

  link_read : (vs : List Value) → Each Read vs → (labels after : Labels) → link_fits (map (fitting_of classes) vs) labels ≡ Some after → all_of vs ≡ true
  link_read [] known labels after e = absurd cc
  link_read (p ∷ []) known labels after e = absurd cc
  link_read (p ∷ t ∷ []) known labels after e =
      let first = then_some ((fitting_of classes t).fits (kinded Texted)) ((fitting_of classes p).fits any_pointer labels) after e in
      and_from _ _ (known.0 any_pointer labels first.0 first.1) (and_from _ _ (known.1.0 (kinded Texted) first.0 after first.2) refl)
  link_read (p ∷ t ∷ u ∷ vs) known labels after e = absurd cc

  items_read : (vs : List Value) → Each Read vs → (slot : Slot) (labels after : Labels) → list_fits (map (fitting_of classes) vs) slot labels ≡ Some after → all_of vs ≡ true
  items_read vs known (kinded (Fixed of count)) labels after e = each_read (kinded (Plain of)) vs known labels after (if_some (length (map (fitting_of classes) vs) == count) _ after e)
  items_read vs known link labels after e = link_read vs known labels after e
  items_read vs known (many slot) labels after e = each_read slot vs known labels after e
  items_read vs known (kinded (Plain of)) labels after e = absurd cc
  items_read vs known (kinded Counter) labels after e = absurd cc
  items_read vs known (kinded (Counted of counter)) labels after e = absurd cc
  items_read vs known (kinded Texted) labels after e = absurd cc
  items_read vs known (kinded (Inline class)) labels after e = absurd cc
  items_read vs known (kinded (Pointer class)) labels after e = absurd cc
  items_read vs known (kinded (Other code)) labels after e = absurd cc
  items_read vs known (based class version) labels after e = absurd cc
  items_read vs known flags labels after e = absurd cc
  items_read vs known any_pointer labels after e = absurd cc

  list_read : (vs : List Value) → Each Read vs → Read (Items vs)
  list_read vs known slot labels after e =
      let fit : list_fits (map (fitting_of classes) vs) slot labels ≡ Some after = ap (λ (f : Fitting). f.fits slot labels) (sym (fold_List (fitting_step classes) (λ p. (p.name, p.value)) vs)) ∙ e in
      items_layer vs ∙ items_read vs known slot labels after fit

  abbrev parts_of : List Part → Bool
  parts_of ps = list_all (λ b. b) (map (λ p. is_all_read p.value) ps)

  fields_read : (fs : List Field) (ps : List Part) → Each (λ p. Read p.value) ps → (counters : Counters) (labels after : Labels) → fields_fit fs (fittings classes ps) counters labels ≡ Some after → parts_of ps ≡ true
  fields_read [] [] known counters labels after e = refl
  fields_read [] (p ∷ ps) known counters labels after e = absurd cc
  fields_read (f ∷ fs) [] known counters labels after e = absurd cc
  fields_read (f ∷ fs) (p ∷ ps) known counters labels after e =
      let own = if_some (bytes_eq p.name f.name) _ after e in
      let first = then_some (fields_fit fs (fittings classes ps) (counted_so_far f (fitting_of classes p.value).number counters)) ((fitting_of classes p.value).fits (counted_slot counters f.slot) labels) after own in
      and_from _ _ (known.0 (counted_slot counters f.slot) labels first.0 first.1) (fields_read fs ps known.1 (counted_so_far f (fitting_of classes p.value).number counters) first.0 after first.2)

  known_parts : (fields : Option (List Field)) (ps : List Part) → Each (λ p. Read p.value) ps → (labels after : Labels) → parts_fit fields (fittings classes ps) labels ≡ Some after → parts_of ps ≡ true
  known_parts None ps known labels after e = absurd cc
  known_parts (Some fields) ps known labels after e = fields_read fields ps known [] labels after e

  object_read : (class : List ℕ) (version : ℤ) (ps : List Part) → Each (λ p. Read p.value) ps → Read (Object class version ps)
  object_read class version ps known slot labels after e =
      let fit : cond (object_may_stand class version slot) (parts_fit (fields_of classes class version) (fittings classes ps) labels) None ≡ Some after =
      ap (λ (f : Fitting). f.fits slot labels) (sym (fit_object classes class version ps)) ∙ e in
      parts_layer class version ps ∙ known_parts (fields_of classes class version) ps known labels after (if_some (object_may_stand class version slot) _ after fit)

  pointed_by : (label : ℕ) (object : Value) → Read object → (own : Option (List ℕ × ℤ)) (slot : Slot) (labels after : Labels) → pointed_fits classes label (fitting_of classes object) own slot labels ≡ Some after → is_all_read object ≡ true
  pointed_by label object known None slot labels after e = absurd cc
  pointed_by label object known (Some own) slot labels after e =
      known (kinded (Inline own.0)) (labels ++ own ∷ []) after (if_some (label == length labels && may_point classes own slot) _ after e)

  pointed_read : (label : ℕ) (object : Value) → Read object → Read (Pointed label object)
  pointed_read label object known slot labels after e =
      let fit : pointed_fits classes label (fitting_of classes object) (fitting_of classes object).class slot labels ≡ Some after = ap (λ (f : Fitting). f.fits slot labels) (sym (fold_Pointed (fitting_step classes) (λ p. (p.name, p.value)) label object)) ∙ e in
      pointed_layer label object ∙ pointed_by label object known (fitting_of classes object).class slot labels after fit

  -- nothing fits that isn't read
  opaque_fits_nothing : (class : List ℕ) (len : ℕ) → Read (Opaque class len)
  opaque_fits_nothing class len slot labels after e =
      let none : (let o : Option Labels = None in o) ≡ Some after = ap (λ (f : Fitting). f.fits slot labels) (sym (fold_Opaque (fitting_step classes) (λ p. (p.name, p.value)) class len)) ∙ e in
      absurd cc

  pub is_read : (v : Value) → Read v
  is_read = by_cases Read (record {
    int = λ z slot labels after e. fold_Int all_read_step (λ p. p.value) z;
    bits32 = λ n slot labels after e. fold_Bits32 all_read_step (λ p. p.value) n;
    bits64 = λ n slot labels after e. fold_Bits64 all_read_step (λ p. p.value) n;
    truth = λ b slot labels after e. fold_Bool all_read_step (λ p. p.value) b;
    text = λ t slot labels after e. fold_Text all_read_step (λ p. p.value) t;
    list = list_read;
    object = object_read;
    pointed = pointed_read;
    null = λ slot labels after e. fold_Null all_read_step (λ p. p.value);
    back = λ label slot labels after e. fold_Back all_read_step (λ p. p.value) label;
    opaque = opaque_fits_nothing;
  })

pub fitting_is_all_read : FittingIsAllRead
fitting_is_all_read classes own v e =
    let there = some_of ((fitting_of classes v).fits (kinded (Inline own)) []) e in
    is_read classes v (kinded (Inline own)) [] there.0 there.1

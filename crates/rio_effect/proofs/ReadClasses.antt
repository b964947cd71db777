-- The class of an object that a record holds is that of the record's key.
use Rattle.std.proofs.Common.{◌≡◌, ℕ, ◌∙◌, List, [], slice_get, Bool, true, false, cond, ◌&&◌, Option, Some, None, Ok, Err, refl, sym, ap, subst}
use Rattle.std.proofs.{lemmas.Bool.{and_parts}, lemmas.Slice.Eq.{bytes_eq-Decides}, lemmas.Option.{same_Some}}
use Rattle.std.specs.{Prelude.{if◌then◌else◌}, Str.{bytes_eq}}
use Rattle.rio_num.specs.Room.{is_padding}
use Rattle.rio_num.proofs.Cases.{some_of}
use Rattle.rio_format.specs.{declared.class.ClassDef.{ClassDef}, declared.kind.Kind.TheVariants.{Inline}, declared.value.Part.{Part}, declared.value.Value.{Value, out-Value, TheOpen.{Value-F}, TheFolds.{fold_out-Value}}}
use Rattle.rio_format.specs.declared.value.Value.TheOpen as layer
use Rattle.rio_format.specs.{Frames.{Step}, Fits.{Fitting, Labels, fits, fitting_of, fitting_step}, Objects.{first_at, only_value, value_at}, Slots.{kinded}}
use Rattle.rio_format.proofs.WrittenPointers.{fit_layer, no_pointer, no_reference}
use Rattle.rio_state.specs.{Contents.{can_be_stored, object_in, stored_in}, KeyedRecords.{KeyedRecord, record_data}}
use Rattle.rio_step.specs.Refusing.{object_class}

abbrev class_in : Value-F Value Part → Option (List ℕ)
class_in (layer.Object class version parts) = Some class
class_in other = None

named_class : (own class : List ℕ) (x : Option Labels) (after : Labels) (b : Bool) → bytes_eq own class ≡ b → cond b x None ≡ Some after → own ≡ class
named_class own class x after true is e = (bytes_eq-Decides own class).0 is
named_class own class x after false is e = absurd cc

some_class : (own class : List ℕ) → own ≡ class → ◌≡◌ {A = Option (List ℕ)} (Some own) (Some class)
some_class own class e = λ i. Some (e i)

layer_class : (classes : List ClassDef) (x : Value-F Value Part) (class : List ℕ) (labels after : Labels) → (fit_layer classes x).fits (kinded (Inline class)) labels ≡ Some after → class_in x ≡ Some class
layer_class classes (layer.Int z) class labels after e = absurd cc
layer_class classes (layer.Bits32 n) class labels after e = absurd cc
layer_class classes (layer.Bits64 n) class labels after e = absurd cc
layer_class classes (layer.Bool b) class labels after e = absurd cc
layer_class classes (layer.Text t) class labels after e = absurd cc
layer_class classes (layer.List vs) class labels after e = absurd cc
layer_class classes (layer.Object own version parts) class labels after e = some_class own class (named_class own class _ after (bytes_eq own class) refl e)
layer_class classes (layer.Pointed label object) class labels after e = absurd (no_pointer classes label (fitting_of classes object) (fitting_of classes object).class class labels after e)
layer_class classes layer.Null class labels after e = absurd cc
layer_class classes (layer.Back label) class labels after e = absurd (no_reference classes (slice_get labels label) class labels after e)
layer_class classes (layer.Opaque own len) class labels after e = absurd cc

-- what fits a class is an object of it
pub fits_class : (classes : List ClassDef) (class : List ℕ) (v : Value) → fits classes class v ≡ true → object_class v ≡ Some class
fits_class classes class v e =
    let there = some_of ((fitting_of classes v).fits (kinded (Inline class)) []) e in
    let fit = fold_out-Value Fitting (List ℕ × Fitting) (fitting_step classes) (λ p. (p.name, p.value)) v in
    layer_class classes (out-Value v) class [] there.0 (subst (λ (f : Fitting). f.fits (kinded (Inline class)) [] ≡ Some there.0) fit there.1)

-- ---- what a record holds

-- what is read of a record that holds an object
pub record IsReadAs (classes : List ClassDef) (r : KeyedRecord) (v : Value) : Type 0 where
  pub read : value_at classes r.head.class r.head.keylen (record_data r) ≡ Ok v
  pub class : object_class v ≡ Some r.head.class

kept_value : (b : Bool) (w v : Value) → (if b then Some w else None) ≡ Some v → (b ≡ true) × (w ≡ v)
kept_value true w v e = (refl, same_Some w v e)
kept_value false w v e = absurd cc

stored_read : (classes : List ClassDef) (r : KeyedRecord) (v : Value) (step : Step Value) → stored_in classes r step ≡ Some v → (only_value step ≡ Ok v) × (object_class v ≡ Some r.head.class)
stored_read classes r v (Ok x) e =
    let kept = kept_value (is_padding x.1.at.rest && can_be_stored classes r x.0) x.0 v e in
    let can = (and_parts (is_padding x.1.at.rest) (can_be_stored classes r x.0) kept.0).1 in
    let few = (and_parts _ _ can).0 in
    let deep = (and_parts _ _ few).0 in
    let long = (and_parts _ _ deep).0 in
    let fit = (and_parts (fits classes r.head.class x.0) _ long).0 in
    ((λ i. Ok (kept.1 i)), ap object_class (sym kept.1) ∙ fits_class classes r.head.class x.0 fit)
stored_read classes r v (Err e) is = absurd cc

pub object_is_read : (classes : List ClassDef) (r : KeyedRecord) (v : Value) → object_in classes r ≡ Some v → IsReadAs classes r v
unfolding object_in
object_is_read classes r v e =
    let x = stored_read classes r v (first_at classes r.head.class r.head.keylen (record_data r)) e in
    record { read = x.0; class = x.1 }

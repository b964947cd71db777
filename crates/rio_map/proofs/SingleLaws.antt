-- A value that fits a kind is itself in that kind.
use Rattle.std.proofs.Common.{◌≡◌, ◌==◌, ◌&&◌, ℕ, ℤ, pos, negsuc, Bool, true, false, cond, List, [], ◌∷◌, ◌++◌, length, map, Option, Some, None, Ok, if◌then◌else◌, refl, sym, ap, subst, ◌∙◌, arith, rules}
use Rattle.std.proofs.lemmas.{Bool.{and_parts, Decides.{nat_tests}}, Int.{int_wrap_fits, ints}, List.{length-map}, Option.{option_and_then_some}, Slice.Eq.{bytes_eq-Decides}}
use Rattle.std.specs.{Prelude.{FitsSigned, slice_get}, Int.{int_rem_euclid, int_wrap, w8, w16, w32, w64}, Map.{lookup}, Ordering.{int_eq}, Str.{bytes_eq}}
use Rattle.rio_format.specs.{declared.class.ClassDef.{ClassDef}, declared.kind.Kind.{Kind, TheVariants.{Plain, Counter, Fixed, Counted, Text as Texted, Inline, Pointer, Other}}}
use Rattle.rio_format.specs.{declared.kind.Primitive.{Primitive, TheVariants.{I8, I16, I32, I64, U8, U16, U32, U64, Bool as Boolean, F32, F64}}, declared.value.Part.{Part}}
use Rattle.rio_format.specs.declared.value.Value.{Value, Int, Bits32, Bits64, Bool as Truth, Text, List as Items, Object, Pointed, Null, Back, Opaque, out-Value, out-roll-Value, TheVariants.{rolls-Bits32, rolls-Bits64, rolls-Bool, rolls-List}, TheOpen.{Value-F}, TheFolds.{fold_out-Value}}
use Rattle.rio_format.specs.declared.value.Value.TheOpen as layer
use Rattle.rio_format.specs.{Bodies.{Counters}, Fits.{Fitting, Labels, all_fit, back_fits, bits32_fits, bits64_fits, counted_slot, fits_prim, fits_signed, fits_unsigned, fitting_of, fitting_step, fixed_by, int_fits, may_point, pass, pointed_fits, truth_fits}}
use Rattle.rio_format.specs.Slots.{Slot, kinded, based}
use Rattle.rio_format.proofs.{ValueCases.{by_cases, fold_Int, fold_Bits32, fold_Bits64, fold_Bool, fold_Text, fold_List, fold_Object, fold_Pointed, fold_Null, fold_Back, fold_Opaque, out_int}, WrittenPointers.{fit_layer}}
use Rattle.rio_model.specs.Mapping.{Mapped, class_named, converts, each_as, is_list_of, is_object_value, is_pointer_value, is_text_value, list_as, or_changed, single_as}
use Rattle.rio_map.specs.Converting.{flat_as, stays}

-- ---- numbers in range

signed_8 : (z : ℤ) → fits_signed 8 z ≡ true → int_wrap w8 z ≡ z
signed_8 z e = int_wrap_fits w8 z (fits z e)
  where
    fits : (z : ℤ) → fits_signed 8 z ≡ true → FitsSigned w8 z
    fits (pos n) e = grind (arith, ints, nat_tests)
    fits (negsuc n) e = grind (arith, ints, nat_tests)

signed_16 : (z : ℤ) → fits_signed 16 z ≡ true → int_wrap w16 z ≡ z
signed_16 z e = int_wrap_fits w16 z (fits z e)
  where
    fits : (z : ℤ) → fits_signed 16 z ≡ true → FitsSigned w16 z
    fits (pos n) e = grind (arith, ints, nat_tests)
    fits (negsuc n) e = grind (arith, ints, nat_tests)

signed_32 : (z : ℤ) → fits_signed 32 z ≡ true → int_wrap w32 z ≡ z
signed_32 z e = int_wrap_fits w32 z (fits z e)
  where
    fits : (z : ℤ) → fits_signed 32 z ≡ true → FitsSigned w32 z
    fits (pos n) e = grind (arith, ints, nat_tests)
    fits (negsuc n) e = grind (arith, ints, nat_tests)

signed_64 : (z : ℤ) → fits_signed 64 z ≡ true → int_wrap w64 z ≡ z
signed_64 z e = int_wrap_fits w64 z (fits z e)
  where
    fits : (z : ℤ) → fits_signed 64 z ≡ true → FitsSigned w64 z
    fits (pos n) e = grind (arith, ints, nat_tests)
    fits (negsuc n) e = grind (arith, ints, nat_tests)

unsigned_8 : (z : ℤ) → fits_unsigned 8 z ≡ true → int_rem_euclid z (pos 256) ≡ z
unsigned_8 (pos n) e = grind (arith, ints, nat_tests)
unsigned_8 (negsuc n) e = absurd cc

unsigned_16 : (z : ℤ) → fits_unsigned 16 z ≡ true → int_rem_euclid z (pos 65536) ≡ z
unsigned_16 (pos n) e = grind (arith, ints, nat_tests)
unsigned_16 (negsuc n) e = absurd cc

unsigned_32 : (z : ℤ) → fits_unsigned 32 z ≡ true → int_rem_euclid z (pos 4294967296) ≡ z
unsigned_32 (pos n) e = grind (arith, ints, nat_tests)
unsigned_32 (negsuc n) e = absurd cc

unsigned_64 : (z : ℤ) → fits_unsigned 64 z ≡ true → int_rem_euclid z (pos 18446744073709551616) ≡ z
unsigned_64 (pos n) e = grind (arith, ints, nat_tests)
unsigned_64 (negsuc n) e = absurd cc

abbrev some_int : ℤ → Option Value
some_int z = Some (Int z)

int_single : (z : ℤ) (of : Primitive) → fits_prim of z ≡ true → single_as of of (Int z) ≡ Some (Int z)
int_single z I8 e = rw (out_int z) (ap some_int (signed_8 z e))
int_single z I16 e = rw (out_int z) (ap some_int (signed_16 z e))
int_single z I32 e = rw (out_int z) (ap some_int (signed_32 z e))
int_single z I64 e = rw (out_int z) (ap some_int (signed_64 z e))
int_single z U8 e = rw (out_int z) (ap some_int (unsigned_8 z e))
int_single z U16 e = rw (out_int z) (ap some_int (unsigned_16 z e))
int_single z U32 e = rw (out_int z) (ap some_int (unsigned_32 z e))
int_single z U64 e = rw (out_int z) (ap some_int (unsigned_64 z e))
int_single z Boolean e = absurd cc
int_single z F32 e = absurd cc
int_single z F64 e = absurd cc

-- ---- layers

out_bits32 : (n : ℕ) → out-Value (Bits32 n) ≡ layer.Bits32 n
out_bits32 n = ap out-Value (sym (rolls-Bits32 n)) ∙ out-roll-Value (layer.Bits32 n)

out_bits64 : (n : ℕ) → out-Value (Bits64 n) ≡ layer.Bits64 n
out_bits64 n = ap out-Value (sym (rolls-Bits64 n)) ∙ out-roll-Value (layer.Bits64 n)

out_truth : (b : Bool) → out-Value (Truth b) ≡ layer.Bool b
out_truth b = ap out-Value (sym (rolls-Bool b)) ∙ out-roll-Value (layer.Bool b)

out_list : (vs : List Value) → out-Value (Items vs) ≡ layer.List vs
out_list vs = ap out-Value (sym (rolls-List vs)) ∙ out-roll-Value (layer.List vs)

bits32_single : (n : ℕ) (of : Primitive) (before after : Labels) → pass (bits32_fits n (kinded (Plain of))) before ≡ Some after → single_as of of (Bits32 n) ≡ Some (Bits32 n)
bits32_single n F32 before after e = rw (out_bits32 n) refl
bits32_single n I8 before after e = absurd cc
bits32_single n I16 before after e = absurd cc
bits32_single n I32 before after e = absurd cc
bits32_single n I64 before after e = absurd cc
bits32_single n U8 before after e = absurd cc
bits32_single n U16 before after e = absurd cc
bits32_single n U32 before after e = absurd cc
bits32_single n U64 before after e = absurd cc
bits32_single n Boolean before after e = absurd cc
bits32_single n F64 before after e = absurd cc

bits64_single : (n : ℕ) (of : Primitive) (before after : Labels) → pass (bits64_fits n (kinded (Plain of))) before ≡ Some after → single_as of of (Bits64 n) ≡ Some (Bits64 n)
bits64_single n F64 before after e = rw (out_bits64 n) refl
bits64_single n I8 before after e = absurd cc
bits64_single n I16 before after e = absurd cc
bits64_single n I32 before after e = absurd cc
bits64_single n I64 before after e = absurd cc
bits64_single n U8 before after e = absurd cc
bits64_single n U16 before after e = absurd cc
bits64_single n U32 before after e = absurd cc
bits64_single n U64 before after e = absurd cc
bits64_single n Boolean before after e = absurd cc
bits64_single n F32 before after e = absurd cc

truth_single : (b : Bool) (of : Primitive) (before after : Labels) → pass (truth_fits (kinded (Plain of))) before ≡ Some after → single_as of of (Truth b) ≡ Some (Truth b)
truth_single true Boolean before after e = rw (out_truth true) refl
truth_single false Boolean before after e = rw (out_truth false) refl
truth_single b I8 before after e = absurd cc
truth_single b I16 before after e = absurd cc
truth_single b I32 before after e = absurd cc
truth_single b I64 before after e = absurd cc
truth_single b U8 before after e = absurd cc
truth_single b U16 before after e = absurd cc
truth_single b U32 before after e = absurd cc
truth_single b U64 before after e = absurd cc
truth_single b F32 before after e = absurd cc
truth_single b F64 before after e = absurd cc

-- a test that passed, and what is behind it
pub tested : {A : Type 0} (b : Bool) (o : Option A) (x : A) → cond b o None ≡ Some x → (b ≡ true) × (o ≡ Some x)
tested true o x e = (refl, e)
tested false o x e = absurd cc

passed : (b : Bool) (before after : Labels) → pass b before ≡ Some after → b ≡ true
passed true before after e = refl
passed false before after e = absurd cc

module _ (classes : List ClassDef) where
  abbrev fit : Value → Fitting
  fit = fitting_of classes

  fit_out : (v : Value) → fit v ≡ fit_layer classes (out-Value v)
  fit_out v = fold_out-Value Fitting (List ℕ × Fitting) (fitting_step classes) (λ p. (p.name, p.value)) v

  abbrev NoPointer : Slot → Type 0
  NoPointer slot = (own : List ℕ × ℤ) → may_point classes own slot ≡ false

  no_pointed : (slot : Slot) → NoPointer slot → (label : ℕ) (object : Fitting) (own : Option (List ℕ × ℤ)) (before after : Labels) → pointed_fits classes label object own slot before ≡ Some after → ⊥
  no_pointed slot none label object None before after e = cc
  no_pointed slot none label object (Some own) before after e =
      let t = tested (label == length before && may_point classes own slot) (object.fits (kinded (Inline own.0)) (before ++ own ∷ [])) after e in
      let h = and_parts (label == length before) (may_point classes own slot) t.0 in
      let wrong : false ≡ true = sym (none own) ∙ h.1 in
      cc

  no_back : (slot : Slot) → NoPointer slot → (own : Option (List ℕ × ℤ)) (before after : Labels) → pass (back_fits classes own slot) before ≡ Some after → ⊥
  no_back slot none None before after e = cc
  no_back slot none (Some own) before after e =
      let wrong : false ≡ true = sym (none own) ∙ passed (may_point classes own slot) before after e in
      cc

  -- ---- single values

  abbrev IsSingleSame : Value → Type 0
  IsSingleSame v = (of : Primitive) (before after : Labels) → (fit v).fits (kinded (Plain of)) before ≡ Some after → single_as of of v ≡ Some v

  single_layer : (v : Value) (f : Fitting) → fit v ≡ f → ((of : Primitive) (before after : Labels) → f.fits (kinded (Plain of)) before ≡ Some after → single_as of of v ≡ Some v) → IsSingleSame v
  single_layer v f is h of before after e = h of before after (subst (λ (g : Fitting). g.fits (kinded (Plain of)) before ≡ Some after) is e)

  single_same : (v : Value) → IsSingleSame v
  single_same = by_cases IsSingleSame (record {
    int = λ z. single_layer (Int z) _ (fold_Int (fitting_step classes) (λ p. (p.name, p.value)) z) (λ of before after e. int_single z of (passed (fits_prim of z) before after e));
    bits32 = λ n. single_layer (Bits32 n) _ (fold_Bits32 (fitting_step classes) (λ p. (p.name, p.value)) n) (bits32_single n);
    bits64 = λ n. single_layer (Bits64 n) _ (fold_Bits64 (fitting_step classes) (λ p. (p.name, p.value)) n) (bits64_single n);
    truth = λ b. single_layer (Truth b) _ (fold_Bool (fitting_step classes) (λ p. (p.name, p.value)) b) (truth_single b);
    text = λ t. single_layer (Text t) _ (fold_Text (fitting_step classes) (λ p. (p.name, p.value)) t) (λ of before after e. absurd cc);
    list = λ vs known. single_layer (Items vs) _ (fold_List (fitting_step classes) (λ p. (p.name, p.value)) vs) (λ of before after e. absurd cc);
    object = λ class version parts known. single_layer (Object class version parts) _ (fold_Object (fitting_step classes) (λ p. (p.name, p.value)) class version parts) (λ of before after e. absurd cc);
    pointed = λ label object known. single_layer (Pointed label object) _ (fold_Pointed (fitting_step classes) (λ p. (p.name, p.value)) label object) (λ of before after e. absurd (no_pointed (kinded (Plain of)) (λ own. refl) label (fit object) (fit object).class before after e));
    null = single_layer Null _ (fold_Null (fitting_step classes) (λ p. (p.name, p.value))) (λ of before after e. absurd cc);
    back = λ label. single_layer (Back label) _ (fold_Back (fitting_step classes) (λ p. (p.name, p.value)) label) (λ of before after e. absurd (no_back (kinded (Plain of)) (λ own. refl) (slice_get before label) before after e));
    opaque = λ class len. single_layer (Opaque class len) _ (fold_Opaque (fitting_step classes) (λ p. (p.name, p.value)) class len) (λ of before after e. absurd cc);
  })

  each_same : (of : Primitive) (vs : List Value) (before after : Labels) → all_fit (kinded (Plain of)) (map fit vs) before ≡ Some after → each_as of of vs ≡ Some vs
  each_same of [] before after e = refl
  each_same of (v ∷ vs) before after e =
      option_and_then_some (all_fit (kinded (Plain of)) (map fit vs)) ((fit v).fits (kinded (Plain of)) before) after e (λ mid first rest.
      rw (single_same v of before mid first, each_same of vs mid after rest) refl)

  -- ---- lists

  converts_same : (of : Primitive) → converts of of ≡ true
  converts_same I8 = refl
  converts_same I16 = refl
  converts_same I32 = refl
  converts_same I64 = refl
  converts_same U8 = refl
  converts_same U16 = refl
  converts_same U32 = refl
  converts_same U64 = refl
  converts_same Boolean = refl
  converts_same F32 = refl
  converts_same F64 = refl

  record IsListSame (of : Primitive) (count : ℕ) (v : Value) : Type 0 where
    counted : is_list_of count (out-Value v) ≡ true
    same : list_as of of v ≡ Some v

  list_same : (of : Primitive) (count : ℕ) (vs : List Value) (before after : Labels) → cond (length (map fit vs) == count) (all_fit (kinded (Plain of)) (map fit vs) before) None ≡ Some after → IsListSame of count (Items vs)
  list_same of count vs before after e =
      let t = tested (length (map fit vs) == count) (all_fit (kinded (Plain of)) (map fit vs) before) after e in
      let counted : (length vs == count) ≡ true = subst (λ (n : ℕ). (n == count) ≡ true) (length-map vs fit) t.0 in
      record {
        counted = rw (out_list vs) counted;
        same = rw (converts_same of, out_list vs, each_same of vs before after t.1) refl;
      }

  abbrev IsFixedSame : Value → Type 0
  IsFixedSame v = (of : Primitive) (count : ℕ) (before after : Labels) → (fit v).fits (kinded (Fixed of count)) before ≡ Some after → IsListSame of count v

  fixed_layer : (v : Value) (f : Fitting) → fit v ≡ f → ((of : Primitive) (count : ℕ) (before after : Labels) → f.fits (kinded (Fixed of count)) before ≡ Some after → IsListSame of count v) → IsFixedSame v
  fixed_layer v f is h of count before after e = h of count before after (subst (λ (g : Fitting). g.fits (kinded (Fixed of count)) before ≡ Some after) is e)

  fixed_int : (z : ℤ) (of : Primitive) (count : ℕ) (before after : Labels) → pass (int_fits z (kinded (Fixed of count))) before ≡ Some after → IsListSame of count (Int z)
  fixed_int (pos n) of count before after e = absurd cc
  fixed_int (negsuc n) of count before after e = absurd cc

  fixed_same : (v : Value) → IsFixedSame v
  fixed_same = by_cases IsFixedSame (record {
    int = λ z. fixed_layer (Int z) _ (fold_Int (fitting_step classes) (λ p. (p.name, p.value)) z) (fixed_int z);
    bits32 = λ n. fixed_layer (Bits32 n) _ (fold_Bits32 (fitting_step classes) (λ p. (p.name, p.value)) n) (λ of count before after e. absurd cc);
    bits64 = λ n. fixed_layer (Bits64 n) _ (fold_Bits64 (fitting_step classes) (λ p. (p.name, p.value)) n) (λ of count before after e. absurd cc);
    truth = λ b. fixed_layer (Truth b) _ (fold_Bool (fitting_step classes) (λ p. (p.name, p.value)) b) (λ of count before after e. absurd cc);
    text = λ t. fixed_layer (Text t) _ (fold_Text (fitting_step classes) (λ p. (p.name, p.value)) t) (λ of count before after e. absurd cc);
    list = λ vs known. fixed_layer (Items vs) _ (fold_List (fitting_step classes) (λ p. (p.name, p.value)) vs) (λ of count before after e. list_same of count vs before after e);
    object = λ class version parts known. fixed_layer (Object class version parts) _ (fold_Object (fitting_step classes) (λ p. (p.name, p.value)) class version parts) (λ of count before after e. absurd cc);
    pointed = λ label object known. fixed_layer (Pointed label object) _ (fold_Pointed (fitting_step classes) (λ p. (p.name, p.value)) label object) (λ of count before after e. absurd (no_pointed (kinded (Fixed of count)) (λ own. refl) label (fit object) (fit object).class before after e));
    null = fixed_layer Null _ (fold_Null (fitting_step classes) (λ p. (p.name, p.value))) (λ of count before after e. absurd cc);
    back = λ label. fixed_layer (Back label) _ (fold_Back (fitting_step classes) (λ p. (p.name, p.value)) label) (λ of count before after e. absurd (no_back (kinded (Fixed of count)) (λ own. refl) (slice_get before label) before after e));
    opaque = λ class len. fixed_layer (Opaque class len) _ (fold_Opaque (fitting_step classes) (λ p. (p.name, p.value)) class len) (λ of count before after e. absurd cc);
  })

  -- ---- the forms of other kinds

  no_other : (code : ℤ) (x : Value-F Value Part) (before after : Labels) → (fit_layer classes x).fits (kinded (Other code)) before ≡ Some after → ⊥
  no_other code (layer.Int (pos n)) before after e = cc
  no_other code (layer.Int (negsuc n)) before after e = cc
  no_other code (layer.Bits32 n) before after e = cc
  no_other code (layer.Bits64 n) before after e = cc
  no_other code (layer.Bool b) before after e = cc
  no_other code (layer.Text t) before after e = cc
  no_other code (layer.List vs) before after e = cc
  no_other code (layer.Object class version parts) before after e = cc
  no_other code (layer.Pointed label object) before after e = no_pointed (kinded (Other code)) (λ own. refl) label (fit object) (fit object).class before after e
  no_other code layer.Null before after e = cc
  no_other code (layer.Back label) before after e = no_back (kinded (Other code)) (λ own. refl) (slice_get before label) before after e
  no_other code (layer.Opaque class len) before after e = cc

  counter_layer : (x : Value-F Value Part) (before after : Labels) → (fit_layer classes x).fits (kinded Counter) before ≡ Some after → (fit_layer classes x).fits (kinded (Plain I32)) before ≡ Some after
  counter_layer (layer.Int z) before after e = e
  counter_layer (layer.Bits32 n) before after e = absurd cc
  counter_layer (layer.Bits64 n) before after e = absurd cc
  counter_layer (layer.Bool b) before after e = absurd cc
  counter_layer (layer.Text t) before after e = absurd cc
  counter_layer (layer.List vs) before after e = absurd cc
  counter_layer (layer.Object class version parts) before after e = absurd cc
  counter_layer (layer.Pointed label object) before after e = absurd (no_pointed (kinded Counter) (λ own. refl) label (fit object) (fit object).class before after e)
  counter_layer layer.Null before after e = absurd cc
  counter_layer (layer.Back label) before after e = absurd (no_back (kinded Counter) (λ own. refl) (slice_get before label) before after e)
  counter_layer (layer.Opaque class len) before after e = absurd cc

  text_layer : (x : Value-F Value Part) (before after : Labels) → (fit_layer classes x).fits (kinded Texted) before ≡ Some after → is_text_value x ≡ true
  text_layer (layer.Int (pos n)) before after e = absurd cc
  text_layer (layer.Int (negsuc n)) before after e = absurd cc
  text_layer (layer.Bits32 n) before after e = absurd cc
  text_layer (layer.Bits64 n) before after e = absurd cc
  text_layer (layer.Bool b) before after e = absurd cc
  text_layer (layer.Text t) before after e = refl
  text_layer (layer.List vs) before after e = absurd cc
  text_layer (layer.Object class version parts) before after e = absurd cc
  text_layer (layer.Pointed label object) before after e = absurd (no_pointed (kinded Texted) (λ own. refl) label (fit object) (fit object).class before after e)
  text_layer layer.Null before after e = absurd cc
  text_layer (layer.Back label) before after e = absurd (no_back (kinded Texted) (λ own. refl) (slice_get before label) before after e)
  text_layer (layer.Opaque class len) before after e = absurd cc

  object_layer : (class : List ℕ) (x : Value-F Value Part) (before after : Labels) → (fit_layer classes x).fits (kinded (Inline class)) before ≡ Some after → is_object_value x ≡ true
  object_layer class (layer.Int (pos n)) before after e = absurd cc
  object_layer class (layer.Int (negsuc n)) before after e = absurd cc
  object_layer class (layer.Bits32 n) before after e = absurd cc
  object_layer class (layer.Bits64 n) before after e = absurd cc
  object_layer class (layer.Bool b) before after e = absurd cc
  object_layer class (layer.Text t) before after e = absurd cc
  object_layer class (layer.List vs) before after e = absurd cc
  object_layer class (layer.Object own version parts) before after e = refl
  object_layer class (layer.Pointed label object) before after e = absurd (no_pointed (kinded (Inline class)) (λ own. refl) label (fit object) (fit object).class before after e)
  object_layer class layer.Null before after e = absurd cc
  object_layer class (layer.Back label) before after e = absurd (no_back (kinded (Inline class)) (λ own. refl) (slice_get before label) before after e)
  object_layer class (layer.Opaque own len) before after e = absurd cc

  pointer_layer : (class : List ℕ) (x : Value-F Value Part) (before after : Labels) → (fit_layer classes x).fits (kinded (Pointer class)) before ≡ Some after → is_pointer_value x ≡ true
  pointer_layer class (layer.Int (pos n)) before after e = absurd cc
  pointer_layer class (layer.Int (negsuc n)) before after e = absurd cc
  pointer_layer class (layer.Bits32 n) before after e = absurd cc
  pointer_layer class (layer.Bits64 n) before after e = absurd cc
  pointer_layer class (layer.Bool b) before after e = absurd cc
  pointer_layer class (layer.Text t) before after e = absurd cc
  pointer_layer class (layer.List vs) before after e = absurd cc
  pointer_layer class (layer.Object own version parts) before after e = absurd cc
  pointer_layer class (layer.Pointed label object) before after e = refl
  pointer_layer class layer.Null before after e = refl
  pointer_layer class (layer.Back label) before after e = refl
  pointer_layer class (layer.Opaque own len) before after e = absurd cc

  base_layer : (class : List ℕ) (version : ℤ) (x : Value-F Value Part) (before after : Labels) → (fit_layer classes x).fits (based class version) before ≡ Some after → class_named x ≡ class
  base_layer class version (layer.Int (pos n)) before after e = absurd cc
  base_layer class version (layer.Int (negsuc n)) before after e = absurd cc
  base_layer class version (layer.Bits32 n) before after e = absurd cc
  base_layer class version (layer.Bits64 n) before after e = absurd cc
  base_layer class version (layer.Bool b) before after e = absurd cc
  base_layer class version (layer.Text t) before after e = absurd cc
  base_layer class version (layer.List vs) before after e = absurd cc
  base_layer class version (layer.Object own stated parts) before after e =
      let t = tested (bytes_eq own class && int_eq stated version) _ after e in
      (bytes_eq-Decides own class).0 (and_parts (bytes_eq own class) (int_eq stated version) t.0).0
  base_layer class version (layer.Pointed label object) before after e = absurd (no_pointed (based class version) (λ own. refl) label (fit object) (fit object).class before after e)
  base_layer class version layer.Null before after e = absurd cc
  base_layer class version (layer.Back label) before after e = absurd (no_back (based class version) (λ own. refl) (slice_get before label) before after e)
  base_layer class version (layer.Opaque own len) before after e = absurd cc

  by_layer : (v : Value) (slot : Slot) (before after : Labels) → (fit v).fits slot before ≡ Some after → (fit_layer classes (out-Value v)).fits slot before ≡ Some after
  by_layer v slot before after e = subst (λ (g : Fitting). g.fits slot before ≡ Some after) (fit_out v) e

  pub base_named : (v : Value) (class : List ℕ) (version : ℤ) (before after : Labels) → (fit v).fits (based class version) before ≡ Some after → class_named (out-Value v) ≡ class
  base_named v class version before after e = base_layer class version (out-Value v) before after (by_layer v (based class version) before after e)

  -- ---- each kind

  -- what is had of a value in its own kind
  abbrev pub in_kind : List ℕ → Kind → Value → Mapped Value → Mapped Value
  in_kind name k v had = if stays k k v then had else or_changed name (flat_as k k v)

  text_had : (name : List ℕ) (v : Value) (b : Bool) → b ≡ true → or_changed name (if b then Some v else None) ≡ Ok v
  text_had name v true e = refl
  text_had name v false e = absurd cc

  stays_had : (b c : Bool) (had other : Mapped Value) (v : Value) → b ≡ true → c ≡ true → had ≡ Ok v → (if b && c then had else other) ≡ Ok v
  stays_had true true had other v b c h = h
  stays_had true false had other v b c h = absurd cc
  stays_had false c had other v b d h = absurd cc

  same_bytes : (class : List ℕ) → bytes_eq class class ≡ true
  same_bytes class = (bytes_eq-Decides class class).1 refl

  same_count : (n : ℕ) → (n == n) ≡ true
  same_count n = search (rules, nat_tests)

  fixed_had : (name : List ℕ) (v : Value) (a b : Bool) (o : Option Value) → a ≡ true → b ≡ true → o ≡ Some v → or_changed name (if a && b then o else None) ≡ Ok v
  fixed_had name v true true o a b e = ap (or_changed name) e
  fixed_had name v true false o a b e = absurd cc
  fixed_had name v false b o a c e = absurd cc

  counted_had : (name : List ℕ) (of : Primitive) (v : Value) (o : Option ℤ) (before after : Labels) → (fit v).fits (fixed_by of o) before ≡ Some after → or_changed name (list_as of of v) ≡ Ok v
  counted_had name of v (Some (pos n)) before after e = ap (or_changed name) (fixed_same v of n before after e).same
  counted_had name of v (Some (negsuc n)) before after e = absurd (no_other (pos 0) (out-Value v) before after (by_layer v (kinded (Other (pos 0))) before after e))
  counted_had name of v None before after e = absurd (no_other (pos 0) (out-Value v) before after (by_layer v (kinded (Other (pos 0))) before after e))

  pub kind_same : (v : Value) (had : Mapped Value) → had ≡ Ok v → (k : Kind) (name : List ℕ) (counters : Counters) (before after : Labels) → (fit v).fits (counted_slot counters (kinded k)) before ≡ Some after → in_kind name k v had ≡ Ok v
  kind_same v had h (Plain of) name counters before after e = ap (or_changed name) (single_same v of before after e)
  kind_same v had h Counter name counters before after e =
      let plain = subst (λ (g : Fitting). g.fits (kinded (Plain I32)) before ≡ Some after) (sym (fit_out v)) (counter_layer (out-Value v) before after (by_layer v (kinded Counter) before after e)) in
      ap (or_changed name) (single_same v I32 before after plain)
  kind_same v had h (Fixed of count) name counters before after e =
      let s = fixed_same v of count before after e in
      fixed_had name v (count == count) (is_list_of count (out-Value v)) (list_as of of v) (same_count count) s.counted s.same
  kind_same v had h (Counted of counter) name counters before after e = counted_had name of v (lookup (bytes_eq counter) counters) before after e
  kind_same v had h Texted name counters before after e = text_had name v (is_text_value (out-Value v)) (text_layer (out-Value v) before after (by_layer v (kinded Texted) before after e))
  kind_same v had h (Inline class) name counters before after e =
      stays_had (bytes_eq class class) (is_object_value (out-Value v)) had _ v (same_bytes class) (object_layer class (out-Value v) before after (by_layer v (kinded (Inline class)) before after e)) h
  kind_same v had h (Pointer class) name counters before after e =
      stays_had (bytes_eq class class) (is_pointer_value (out-Value v)) had _ v (same_bytes class) (pointer_layer class (out-Value v) before after (by_layer v (kinded (Pointer class)) before after e)) h
  kind_same v had h (Other code) name counters before after e = absurd (no_other code (out-Value v) before after (by_layer v (kinded (Other code)) before after e))

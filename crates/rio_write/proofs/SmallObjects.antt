-- Objects of the small built-in classes fit and are written alike, whatever classes and words there are.
use Rattle.std.proofs.Common.{◌≡◌, ◌^◌, ◌⊎◌, inl, inr, ℕ, ◌+◌, ℤ, pos, Bool, true, false, List, [], ◌∷◌, ◌++◌, length, map, codes, IsTrue, Option, Some, refl, sym, ap, subst, ◌∙◌}
use Rattle.std.proofs.lemmas.List.{length-map}
use Rattle.std.specs.{Int.{w16, cast_unsigned}, Ordering.{int_eq}}
use Rattle.byteorder.specs.Endian.{big_bytes}
use Rattle.rio_format.specs.{declared.class.ClassDef.{ClassDef}, declared.kind.Kind.TheVariants.{Plain}, declared.kind.Primitive.{Primitive}, declared.value.Part.{Part}, declared.value.Value.{Value}}
use Rattle.rio_format.specs.{Bodies.{Body, built_in, form_of}, declared.form.Form.{Form, TheVariants.{Bare as bare, Headed as headed, Numbers as numbered}}, Fits.{Labels, part_fitting, parts_fit}}
use Rattle.rio_format.specs.{Slots.{body_fields, declared_body, form_fields, kinded, many}, Written.{Writing, number_array_bytes, body_bytes, counted, form_bytes, headed_bytes, just, writing_of, writing_step}}
use Rattle.rio_format.specs.{BuiltIn.{is_small_builtin}, Writer.{Writer}}
use Rattle.rio_format.proofs.{ValueCases.{Each, Steps, by_cases, fold_Int, fold_Bits32, fold_Bits64, fold_Bool, fold_Text, fold_List, fold_Object, fold_Pointed, fold_Null, fold_Back, fold_Opaque}, WrittenBodies.{first_fits}}
use Rattle.rio_write.specs.Writing.{part_writing}
use Rattle.rio_write.proofs.BuiltinBodies.{refuted, which}
use Rattle.rio_write.proofs.SmallValues.{FitIn, FitParts, FormStays, IsAlike, Named, Steady, bare_parts, bare_steady, base, fields_alike, is_alike, numbers, part_value, parts_stay, steady_both, steady_just, text}

each_alike : (parts : List Part) → Each (λ p. IsAlike p.value) parts
each_alike [] = tt
each_alike (y ∷ ys) = (is_alike y.value, each_alike ys)

-- ---- the count of numbers

abbrev HasOneCount : Value → Type 0
HasOneCount v = (n : ℕ) × ((classes : List ClassDef) → (writing_of classes v).count ≡ n)

abbrev count_in : Writing → ℕ
count_in w = w.count

count_steps : Steps HasOneCount
count_steps = record {
  int = λ z. (0, λ classes. ap count_in (fold_Int (writing_step classes) part_value z));
  bits32 = λ n. (0, λ classes. ap count_in (fold_Bits32 (writing_step classes) part_value n));
  bits64 = λ n. (0, λ classes. ap count_in (fold_Bits64 (writing_step classes) part_value n));
  truth = λ b. (0, λ classes. ap count_in (fold_Bool (writing_step classes) part_value b));
  text = λ t. (0, λ classes. ap count_in (fold_Text (writing_step classes) part_value t));
  list = λ vs each. (length vs, λ classes. ap count_in (fold_List (writing_step classes) part_value vs) ∙ length-map vs (writing_of classes));
  object = λ class version parts each. (0, λ classes. ap count_in (fold_Object (writing_step classes) part_value class version parts));
  pointed = λ label object own. (0, λ classes. ap count_in (fold_Pointed (writing_step classes) part_value label object));
  null = (0, λ classes. ap count_in (fold_Null (writing_step classes) part_value));
  back = λ label. (0, λ classes. ap count_in (fold_Back (writing_step classes) part_value label));
  opaque = λ class len. (0, λ classes. ap count_in (fold_Opaque (writing_step classes) part_value class len));
}

count_steady : (v : Value) → Steady (λ classes. just (big_bytes 4 (writing_of classes v).count))
count_steady v =
    let one = by_cases HasOneCount count_steps v in
    (big_bytes 4 one.0, λ classes p t. ap (λ (n : ℕ). just (big_bytes 4 n) p t) (one.1 classes))

-- ---- the parts of each class

abbrev array_parts : Primitive → List Named
array_parts of = (codes "items", numbers of) ∷ []

abbrev named_parts : List Named
named_parts = ([], base) ∷ (codes "fName", text) ∷ (codes "fTitle", text) ∷ []

abbrev string_parts : List Named
string_parts = ([], base) ∷ (codes "fString", text) ∷ []

array_steady : (of : Primitive) (parts : List Part) (known : List ClassDef) (before after : Labels) (b : Bool) → FitParts parts before after known (array_parts of) b → Steady (λ classes. number_array_bytes of (map (part_writing classes) parts))
array_steady of parts known before after false e = refuted after e
array_steady of [] known before after true e = steady_just []
array_steady of (y ∷ z ∷ ys) known before after true e = steady_just []
array_steady of (y ∷ []) known before after true e =
    let f = first_fits known (codes "items") (many (kinded (Plain of))) [] y [] before after e in
    let items = is_alike y.value (numbers of) known before f.mid f.first in
    steady_both (λ classes. just (big_bytes 4 (writing_of classes y.value).count)) (λ classes. (writing_of classes y.value).bytes (many (kinded (Plain of)))) (count_steady y.value) items.1

headed_steady : (version : ℤ) (f : List ClassDef → Writer) → Steady f → Steady (λ classes. headed_bytes version (f classes))
headed_steady version f a =
    let header = big_bytes 2 (cast_unsigned w16 version) in
    let inner = steady_both (λ classes. just header) f (steady_just header) a in
    (big_bytes 4 (length inner.0 + 2 ^ 30) ++ inner.0, λ classes p t. ap counted (inner.1 classes (p + 4) t))

-- no class list gives it another body
abbrev pub HasItsBody : List ℕ → ℤ → Type 0
HasItsBody class version = form_of class ≡ headed → (classes : List ClassDef) → declared_body classes class version ≡ built_in class (pos 1)

module _ (parts : List Part) (known : List ClassDef) (before after : Labels) where
  abbrev FitBody : List ClassDef → Option Body → Type 0
  FitBody list body = parts_fit (body_fields body) (map (part_fitting list) parts) before ≡ Some after

  abbrev BodyStays : Option Body → Type 0
  BodyStays body = FitBody [] body × Steady (λ classes. body_bytes body (map (part_writing classes) parts))

  body_stays : (class : List ℕ) → (class ≡ codes "TNamed") ⊎ (class ≡ codes "TObjString") → FitBody known (built_in class (pos 1)) → BodyStays (built_in class (pos 1))
  body_stays class (inl own) fits =
      subst (λ (c : List ℕ). BodyStays (built_in c (pos 1))) (sym own) (fields_alike named_parts parts (each_alike parts) known [] [] before after (subst (λ (c : List ℕ). FitBody known (built_in c (pos 1))) own fits))
  body_stays class (inr own) fits =
      subst (λ (c : List ℕ). BodyStays (built_in c (pos 1))) (sym own) (fields_alike string_parts parts (each_alike parts) known [] [] before after (subst (λ (c : List ℕ). FitBody known (built_in c (pos 1))) own fits))

  module _ (class : List ℕ) (version : ℤ) where
    by_form : IsTrue (is_small_builtin class) → HasItsBody class version → (form : Form) → form_of class ≡ form → parts_fit (form_fields known class version form) (map (part_fitting known) parts) before ≡ Some after
        → (parts_fit (form_fields [] class version form) (map (part_fitting []) parts) before ≡ Some after) × Steady (λ classes. form_bytes classes class version form (map (part_writing classes) parts))
    by_form is body bare form fits = (parts_stay parts before after (each_alike parts) known bare_parts (int_eq version (pos 1)) fits, bare_steady parts (each_alike parts) known before after (int_eq version (pos 1)) fits)
    by_form is body (numbered of) form fits = (parts_stay parts before after (each_alike parts) known (array_parts of) (int_eq version (pos 1)) fits, array_steady of parts known before after (int_eq version (pos 1)) fits)
    by_form is body headed form fits =
        let stays = body_stays class (which class is form) (subst (λ (b : Option Body). FitBody known b) (body form known) fits) in
        let written : Steady (λ classes. body_bytes (declared_body classes class version) (map (part_writing classes) parts)) =
        (stays.1.0, λ classes p t. ap (λ (b : Option Body). body_bytes b (map (part_writing classes) parts) p t) (body form classes) ∙ stays.1.1 classes p t) in
        (subst (λ (b : Option Body). FitBody [] b) (sym (body form [])) stays.0, headed_steady version (λ classes. body_bytes (declared_body classes class version) (map (part_writing classes) parts)) written)

    pub form_stays : IsTrue (is_small_builtin class) → HasItsBody class version → FitIn parts before after known class version → FormStays parts before after class version
    form_stays is body fits = by_form is body (form_of class) refl fits

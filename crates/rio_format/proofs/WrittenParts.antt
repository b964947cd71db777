-- Numbers, texts, arrays, pointers and the bases of all objects that are written fit what describes them.
use Rattle.std.proofs.{Common.{◌≡◌, ℕ, ℤ, pos, Bool, true, List, [], ◌∷◌, ◌++◌, length, map, codes, Some, refl, ap}, lemmas.Bool.{eq-eqb}}
use Rattle.rio_format.specs.{declared.class.ClassDef.{ClassDef}, declared.kind.Kind.TheVariants.{Plain, Fixed, Text as Texted, Inline}, declared.kind.Primitive.{Primitive, TheVariants.{I32, U32, Bool as Boolean}}}
use Rattle.rio_format.specs.{declared.value.Part.{Part}, declared.value.Value.{Value, Int, Bool as Truth, Text, Object, Pointed}, Fits.{Labels, Fitting, all_fit, fits_prim, fits_signed, fitting_of, fitting_step, may_point}}
use Rattle.rio_format.specs.{Slots.{Slot, kinded, based, link, any_pointer}, WrittenList.{array_object, index_list, linked, plain_object, titled_object}}
use Rattle.rio_format.proofs.{ValueCases.{fold_Bool, fold_Int, fold_Text, fold_List, fold_Pointed}, WrittenValues.{object_fitting, fit_object}}

module _ (classes : List ClassDef) where
  -- it fits in the slot behind these labels, and those labels are behind it
  abbrev pub FitsIn : Slot → Value → Labels → Labels → Type 0
  FitsIn slot v before after = (fitting_of classes v).fits slot before ≡ Some after

  -- ---- numbers and texts

  pub int_fits : (z : ℤ) (of : Primitive) (labels : Labels) → fits_prim of z ≡ true → FitsIn (kinded (Plain of)) (Int z) labels labels
  int_fits z of labels e = rw (fold_Int (fitting_step classes) (λ p. (p.name, p.value)) z, e) refl

  pub truth_fits : (b : Bool) (labels : Labels) → FitsIn (kinded (Plain Boolean)) (Truth b) labels labels
  truth_fits b labels = rw (fold_Bool (fitting_step classes) (λ p. (p.name, p.value)) b) refl

  pub text_fits : (text : List ℕ) (labels : Labels) → FitsIn (kinded Texted) (Text text) labels labels
  text_fits text labels = rw (fold_Text (fitting_step classes) (λ p. (p.name, p.value)) text) refl

  pub index_list_fits : (count : ℕ) (labels : Labels) → fits_signed 32 (pos count) ≡ true → FitsIn (kinded (Fixed I32 5)) (index_list count) labels labels
  index_list_fits count labels e =
      let rest : FitsIn (kinded (Plain I32)) (Int (pos 0)) labels labels = int_fits (pos 0) I32 labels refl in
      rw (
        fold_List (fitting_step classes) (λ p. (p.name, p.value)) (Int (pos count) ∷ Int (pos 0) ∷ Int (pos 0) ∷ Int (pos 0) ∷ Int (pos 0) ∷ []),
        int_fits (pos count) I32 labels e,
        rest,
        rest,
        rest,
        rest,
      ) refl

  -- ---- the bases of objects

  pub plain_fits : (labels : Labels) → FitsIn (based (codes "TObject") (pos 1)) plain_object labels labels
  unfolding plain_object
  plain_fits labels =
      rw (
        fit_object classes (codes "TObject") (pos 1) _,
        int_fits (pos 0) U32 labels refl,
        fold_Int (fitting_step classes) (λ p. (p.name, p.value)) (pos 0),
      ) refl

  pub titled_fits : (name title : List ℕ) (labels : Labels) → FitsIn (based (codes "TNamed") (pos 1)) (titled_object name title) labels labels
  unfolding titled_object
  titled_fits name title labels = rw (fit_object classes (codes "TNamed") (pos 1) _, plain_fits labels, text_fits name labels, text_fits title labels) refl

  -- an array of pointers that fit
  pub array_fits : (items : List Value) (before after : Labels) → all_fit any_pointer (map (fitting_of classes) items) before ≡ Some after → FitsIn (kinded (Inline (codes "TObjArray"))) (array_object items) before after
  unfolding array_object
  array_fits items before after each =
      rw (
        fit_object classes (codes "TObjArray") (pos 3) _,
        plain_fits before,
        text_fits [] before,
        int_fits (pos 0) I32 before refl,
        fold_List (fitting_step classes) (λ p. (p.name, p.value)) items,
        each,
      ) refl

  -- ---- pointers

  -- a pointer to an object that fits its class behind its own label, which is the next one
  pub pointer_to : (label : ℕ) (object : Value) (own : List ℕ × ℤ) (slot : Slot) (before after : Labels) → (fitting_of classes object).class ≡ Some own → label ≡ length before → may_point classes own slot ≡ true
      → FitsIn (kinded (Inline own.0)) object (before ++ own ∷ []) after → FitsIn slot (Pointed label object) before after
  pointer_to label object own slot before after is next may inside = rw (fold_Pointed (fitting_step classes) (λ p. (p.name, p.value)) label object, is, eq-eqb label (length before) next, may) inside

  -- the same of an object whose parts are named
  pub pointer_fits : (label : ℕ) (class : List ℕ) (version : ℤ) (parts : List Part) (slot : Slot) (before after : Labels) → label ≡ length before → may_point classes (class, version) slot ≡ true
      → (object_fitting classes class version parts).fits (kinded (Inline class)) (before ++ (class, version) ∷ []) ≡ Some after → FitsIn slot (Pointed label (Object class version parts)) before after
  pointer_fits label class version parts slot before after next may inside =
      let is = fit_object classes class version parts in
      pointer_to label (Object class version parts) (class, version) slot before after (ap (λ (f : Fitting). f.class) is) next may (rw is inside)

  -- a pointer in an item of a list
  pub linked_fits : (v : Value) (before after : Labels) → FitsIn any_pointer v before after → FitsIn link (linked v) before after
  linked_fits v before after e = rw (fold_List (fitting_step classes) (λ p. (p.name, p.value)) (v ∷ Text [] ∷ []), e, text_fits [] after) refl

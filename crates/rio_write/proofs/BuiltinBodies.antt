-- Which forms and bodies the small built-in classes have.
use Rattle.std.proofs.Common.{◌≡◌, ◌⊎◌, inl, inr, ℕ, ℤ, pos, Bool, true, false, not, ◌||◌, IsTrue, List, [], codes, Option, Some, None, refl, subst}
use Rattle.std.proofs.lemmas.Slice.Eq.{bytes_eq-Decides}
use Rattle.std.specs.{Ordering.{int_eq}, Str.{bytes_eq}}
use Rattle.rio_format.specs.{declared.class.ClassDef.{ClassDef}, Bodies.{built_in, form_of}, declared.form.Form.{Form, TheVariants.{Headed as headed}}}
use Rattle.rio_format.specs.{Fits.{Fitting, Labels, parts_fit}, Slots.{declared_body, fields_of, is_headed}, BuiltIn.{is_small_builtin}}

-- it fits behind some labels
abbrev pub FitsSomewhere : (Labels → Option Labels) → Type 0
FitsSomewhere fits = (before : Labels) × (after : Labels) × (fits before ≡ Some after)

pub refuted : {P : Type 0} (after : Labels) → None ≡ Some after → P
refuted after e = absurd cc

-- ---- the class by its form

pub which : (class : List ℕ) → IsTrue (is_small_builtin class) → form_of class ≡ headed → (class ≡ codes "TNamed") ⊎ (class ≡ codes "TObjString")
which class is form =
    by (bytes_eq class (codes "TNamed")) (bytes_eq class (codes "TObjString")) refl refl
    (subst (λ (f : Form). IsTrue (not (is_headed f) || bytes_eq class (codes "TNamed") || bytes_eq class (codes "TObjString"))) form is)
  where
    by : (named string : Bool) → bytes_eq class (codes "TNamed") ≡ named → bytes_eq class (codes "TObjString") ≡ string → IsTrue (named || string) → (class ≡ codes "TNamed") ⊎ (class ≡ codes "TObjString")
    by true string n s is = inl ((bytes_eq-Decides class (codes "TNamed")).0 n)
    by false true n s is = inr ((bytes_eq-Decides class (codes "TObjString")).0 s)
    by false false n s is = absurd cc

-- ---- the body by its class

module _ (ys : List (List ℕ × Fitting)) (version : ℤ) where
  by_class : (class : List ℕ) → (class ≡ codes "TNamed") ⊎ (class ≡ codes "TObjString") → (b : Bool) → int_eq version (pos 1) ≡ b → FitsSomewhere (parts_fit (fields_of [] class version) ys)
      → (classes : List ClassDef) → declared_body classes class version ≡ built_in class (pos 1)
  by_class class (inl c) true v fits classes = rw c (rw v refl)
  by_class class (inr c) true v fits classes = rw c (rw v refl)
  by_class class (inl c) false v fits classes = let none : None ≡ Some fits.1 = rw (c, v) at fits.2 in refuted fits.1 none
  by_class class (inr c) false v fits classes = let none : None ≡ Some fits.1 = rw (c, v) at fits.2 in refuted fits.1 none

  pub body_is : (class : List ℕ) → IsTrue (is_small_builtin class) → form_of class ≡ headed → FitsSomewhere (parts_fit (fields_of [] class version) ys) → (classes : List ClassDef) → declared_body classes class version ≡ built_in class (pos 1)
  body_is class is form fits classes = by_class class (which class is form) (int_eq version (pos 1)) refl fits classes

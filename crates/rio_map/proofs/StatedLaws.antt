-- The classes of a state: their names, and the fields of their objects.
use Rattle.std.proofs.Common.{◌≡◌, ◌&&◌, ℕ, ℤ, List, [], ◌∷◌, ◌++◌, Bool, true, false, cond, not, Option, Some, None, refl, sym, ap, subst, ◌∙◌}
use Rattle.std.proofs.lemmas.{Bool.{and_parts}, Slice.Eq.{bytes_eq-Decides}}
use Rattle.std.specs.{Option.{option_map}, Ordering.{int_eq}, Str.{bytes_eq}}
use Rattle.rio_format.specs.{Classes.{find_in}, declared.class.ClassDef.{ClassDef}, Bodies.{Body, built_in, by_name, described, form_of, headed_classes, headless_classes, own_body, row_of}}
use Rattle.rio_format.specs.{declared.built_in.BuiltIn.{BuiltIn}, declared.form.Form.TheVariants.{Headed as headed}, Slots.{body_fields, described_fields, fields_of, form_fields}}
use Rattle.rio_format.proofs.{ValueCases.{Each}, WrittenObjects.{declared_from}}
use Rattle.rio_model.specs.{Declaring.{is_reserved_name}, StateClasses.{AreAccepted, IsDeclared}, Stated.{has_stated_parts, is_stated_class}}

-- a declaration can give its parts, and its name isn't left to the format
pub record IsPlain (c : ClassDef) : Type 0 where
  pub stated : has_stated_parts c ≡ true
  pub free : not (is_reserved_name c.name) ≡ true

plain_declared : (before : List ClassDef) (c : ClassDef) → IsDeclared before c → IsPlain c
unfolding is_stated_class
plain_declared before c d = record { stated = (and_parts (has_stated_parts c) _ d.stated).0; free = d.free }

pub plain_found : (before after : List ClassDef) (class : List ℕ) (version : ℤ) (c : ClassDef) → AreAccepted before after → find_in after class version ≡ Some c → IsPlain c
plain_found before [] class version c are e = absurd cc
plain_found before (d ∷ ds) class version c are e =
    by (bytes_eq d.name class && int_eq d.version version) e (plain_declared before d are.0) (plain_found (before ++ d ∷ []) ds class version c are.2)
  where
    by : (b : Bool) → cond b (Some d) (find_in ds class version) ≡ Some c → IsPlain d → (find_in ds class version ≡ Some c → IsPlain c) → IsPlain c
    by true e own later = let same : d ≡ c = cc in subst (λ (x : ClassDef). IsPlain x) same own
    by false e own later = later e

-- ---- no built-in class has the name

not_reserved : (class own : List ℕ) → is_reserved_name own ≡ true → not (is_reserved_name class) ≡ true → bytes_eq class own ≡ false
not_reserved class own reserved free = by (bytes_eq class own) refl
  where
    by : (b : Bool) → bytes_eq class own ≡ b → b ≡ false
    by true is = let same = (bytes_eq-Decides class own).0 is in let e : not true ≡ true = ap not (sym (ap is_reserved_name same ∙ reserved)) ∙ free in absurd cc
    by false is = refl

other_said : {A : Type 0} (say : BuiltIn → A) (other : A) (bs : List BuiltIn) (class : List ℕ) → not (is_reserved_name class) ≡ true → Each (λ b. is_reserved_name (row_of b).name ≡ true) bs → by_name say other bs class ≡ other
other_said say other [] class free reserved = refl
other_said say other (b ∷ bs) class free reserved =
    ap (λ (t : Bool). cond t (say b) (by_name say other bs class)) (not_reserved class (row_of b).name reserved.0 free)
    ∙ other_said say other bs class free reserved.1

is_headed_form : (class : List ℕ) → not (is_reserved_name class) ≡ true → form_of class ≡ headed
is_headed_form class free =
    other_said (λ b. (row_of b).form) headed headless_classes class free (refl, (refl, (refl, (refl, (refl, (refl, (refl, tt)))))))

not_built_in : (class : List ℕ) (version : ℤ) → not (is_reserved_name class) ≡ true → built_in class version ≡ None
not_built_in class version free = other_said (own_body version) None headed_classes class free (refl, (refl, (refl, (refl, tt))))

pub fields_found : (classes : List ClassDef) (c : ClassDef) → IsPlain c → find_in classes c.name c.version ≡ Some c → fields_of classes c.name c.version ≡ Some (described_fields c)
fields_found classes c plain found =
    ap (form_fields classes c.name c.version) (is_headed_form c.name plain.free)
    ∙ ap (λ (o : Option Body). body_fields (declared_from (find_in classes c.name c.version) o)) (not_built_in c.name c.version plain.free)
    ∙ ap (λ (o : Option ClassDef). body_fields (option_map described o)) found

-- Classes that are known, bases that are reached and objects that may be put stay so with one class more.
use Rattle.std.proofs.Common.{◌≡◌, ℕ, zero, suc, ◌+◌, ℤ, List, [], ◌∷◌, ◌++◌, length, Bool, true, false, cond, ◌||◌, ◌&&◌, Option, Some, None, refl, sym, ap, subst, ◌∙◌, arith, length-append}
use Rattle.std.specs.{Prelude.{is_some}, List.{list_any}, Option.{option_map}, Ordering.{int_eq}, Str.{bytes_eq}}
use Rattle.rio_num.proofs.Cases.{any_weaker}
use Rattle.rio_format.specs.{Classes.{find_in, newer_of, newest_in}, declared.class.Base.{Base}, declared.class.ClassDef.{ClassDef}}
use Rattle.rio_format.specs.{declared.form.Form.{Form, TheVariants.{Bare as bare, Numbers as numbers, Headed as headed}}, Bodies.{Body, described, built_in, form_of}}
use Rattle.rio_format.specs.Slots.{Field, body_bases, body_fields, can_be_put, declared_body, derives_from, fields_of, form_fields, has_base, headed_body, is_headed}

or_true : (a b c d : Bool) → (a ≡ true → c ≡ true) → (b ≡ true → d ≡ true) → (a || b) ≡ true → (c || d) ≡ true
or_true true b c d f g e = ap (λ x. x || d) (f refl)
or_true false b true d f g e = refl
or_true false b false d f g e = g e

pub and_true : (a b c : Bool) → (b ≡ true → c ≡ true) → (a && b) ≡ true → (a && c) ≡ true
and_true true b c f e = f e
and_true false b c f e = absurd cc

-- one level more
deeper : (classes : List ClassDef) (target : List ℕ) (levels : ℕ) (class : List ℕ) (version : ℤ) → has_base levels classes target class version ≡ true → has_base (suc levels) classes target class version ≡ true
unfolding has_base
deeper classes target zero class version e = absurd cc
deeper classes target (suc k) class version e =
    any_weaker (λ b. bytes_eq b.name target || has_base k classes target b.name b.version) (λ b. bytes_eq b.name target || has_base (suc k) classes target b.name b.version)
    (λ b h. or_true (bytes_eq b.name target) _ (bytes_eq b.name target) _ (λ t. t) (deeper classes target k b.name b.version) h)
    (body_bases (headed_body classes class version)) e

-- ---- one class more

found_more : (classes : List ClassDef) (class : ClassDef) (name : List ℕ) (version : ℤ) (d : ClassDef) → find_in classes name version ≡ Some d → find_in (classes ++ class ∷ []) name version ≡ Some d
found_more [] class name version d e = absurd cc
found_more (c ∷ cs) class name version d e = by (bytes_eq c.name name && int_eq c.version version) e (found_more cs class name version d)
  where
    by : (b : Bool) → cond b (Some c) (find_in cs name version) ≡ Some d → (find_in cs name version ≡ Some d → find_in (cs ++ class ∷ []) name version ≡ Some d) → cond b (Some c) (find_in (cs ++ class ∷ []) name version) ≡ Some d
    by true f later = f
    by false f later = later f

newest_more : (classes : List ClassDef) (class : ClassDef) (name : List ℕ) → is_some (newest_in classes name) ≡ true → is_some (newest_in (classes ++ class ∷ []) name) ≡ true
newest_more [] class name e = absurd cc
newest_more (c ∷ cs) class name e = by (bytes_eq c.name name) e (newest_more cs class name)
  where
    by : (b : Bool) → is_some (cond b (Some (newer_of c (newest_in cs name))) (newest_in cs name)) ≡ true → (is_some (newest_in cs name) ≡ true → is_some (newest_in (cs ++ class ∷ []) name) ≡ true)
        → is_some (cond b (Some (newer_of c (newest_in (cs ++ class ∷ []) name))) (newest_in (cs ++ class ∷ []) name)) ≡ true
    by true f later = refl
    by false f later = later f

first_of_two : Option Body → Option ClassDef → Option Body
first_of_two (Some body) found = Some body
first_of_two None found = option_map described found

body_is : (classes : List ClassDef) (name : List ℕ) (version : ℤ) → declared_body classes name version ≡ first_of_two (built_in name version) (find_in classes name version)
unfolding first_of_two
body_is classes name version = by (built_in name version) refl
  where
    by : (own : Option Body) → built_in name version ≡ own → declared_body classes name version ≡ first_of_two (built_in name version) (find_in classes name version)
    by (Some body) is = rw is refl
    by None is = rw is refl

two_more : (own : Option Body) (x y : Option ClassDef) (b : Body) → ((d : ClassDef) → x ≡ Some d → y ≡ Some d) → first_of_two own x ≡ Some b → first_of_two own y ≡ Some b
unfolding first_of_two
two_more (Some body) x y b kept e = e
two_more None None y b kept e = absurd cc
two_more None (Some d) y b kept e = ap (option_map described) (kept d refl) ∙ e

module _ (classes : List ClassDef) (class : ClassDef) where
  abbrev more : List ClassDef
  more = classes ++ class ∷ []

  pub body_more : (name : List ℕ) (version : ℤ) (b : Body) → declared_body classes name version ≡ Some b → declared_body more name version ≡ Some b
  body_more name version b e =
      body_is more name version ∙ two_more (built_in name version) (find_in classes name version) (find_in more name version) b (found_more classes class name version) (sym (body_is classes name version) ∙ e)

  body_fields_more : (x y : Option Body) (fs : List Field) → ((b : Body) → x ≡ Some b → y ≡ Some b) → body_fields x ≡ Some fs → body_fields y ≡ Some fs
  body_fields_more None y fs kept e = absurd cc
  body_fields_more (Some b) y fs kept e = ap body_fields (kept b refl) ∙ e

  form_more : (name : List ℕ) (version : ℤ) (fs : List Field) (form : Form) → form_fields classes name version form ≡ Some fs → form_fields more name version form ≡ Some fs
  form_more name version fs bare e = e
  form_more name version fs (numbers of) e = e
  form_more name version fs headed e = body_fields_more (declared_body classes name version) (declared_body more name version) fs (body_more name version) e

  pub fields_more : (name : List ℕ) (version : ℤ) (fs : List Field) → fields_of classes name version ≡ Some fs → fields_of more name version ≡ Some fs
  fields_more name version fs e = form_more name version fs (form_of name) e

  -- ---- bases

  bases_more : (x y : Option Body) (p : Base → Bool) → ((b : Body) → x ≡ Some b → y ≡ Some b) → list_any p (body_bases x) ≡ true → list_any p (body_bases y) ≡ true
  bases_more None y p kept e = absurd cc
  bases_more (Some b) y p kept e = subst (λ z. list_any p (body_bases z) ≡ true) (sym (kept b refl)) e

  headed_more : (name : List ℕ) (version : ℤ) (b : Body) (h : Bool) → cond h (declared_body classes name version) None ≡ Some b → cond h (declared_body more name version) None ≡ Some b
  headed_more name version b true e = body_more name version b e
  headed_more name version b false e = absurd cc

  base_more : (target : List ℕ) (levels : ℕ) (name : List ℕ) (version : ℤ) → has_base levels classes target name version ≡ true → has_base levels more target name version ≡ true
  unfolding has_base
  base_more target zero name version e = absurd cc
  base_more target (suc k) name version e =
      bases_more (headed_body classes name version) (headed_body more name version) (λ b. bytes_eq b.name target || has_base k more target b.name b.version)
      (λ b is. headed_more name version b (is_headed (form_of name)) is)
      (any_weaker (λ b. bytes_eq b.name target || has_base k classes target b.name b.version) (λ b. bytes_eq b.name target || has_base k more target b.name b.version)
      (λ b h. or_true (bytes_eq b.name target) _ (bytes_eq b.name target) _ (λ t. t) (base_more target k b.name b.version) h)
      (body_bases (headed_body classes name version)) e)

  pub derives_more : (target name : List ℕ) (version : ℤ) → derives_from classes target name version ≡ true → derives_from more target name version ≡ true
  derives_more target name version e =
      let levels : suc (length classes + 1) ≡ length more + 1 = let h = length-append classes (class ∷ []) in omega (arith, h) in
      or_true (bytes_eq name target) (has_base (length classes + 1) classes target name version) (bytes_eq name target) (has_base (length more + 1) more target name version) (λ t. t)
      (λ t. subst (λ n. has_base n more target name version ≡ true) levels (deeper more target (length classes + 1) name version (base_more target (length classes + 1) name version t)))
      e

  pub put_more : (name : List ℕ) → can_be_put classes name ≡ true → can_be_put more name ≡ true
  put_more name e =
      or_true _ _ _ _ (and_true (is_headed (form_of name)) _ _ (newest_more classes class name)) (λ t. t) e

-- The class of an object that a put takes: its name is short, and not one of the classes that the format keeps for itself.
use Rattle.std.proofs.Common.{◌≡◌, ⊎_elim, ℕ, ℤ, pos, negsuc, ◌≤◌, ◌∙◌, codes, List, [], ◌∷◌, ◌++◌, length, Bool, true, false, cond, not, ◌&&◌, Some, None, refl, sym, ap, subst, arith}
use Rattle.std.proofs.{lemmas.Bool.{and_from, and_parts, leb-true, or_cases}, lemmas.Int.{ints}, lemmas.Slice.Eq.{bytes_eq-Decides}}
use Rattle.std.specs.{Prelude.{is_some}, List.{list_all}, Str.{bytes_eq}}
use Rattle.rio_num.specs.Word.{is_item_text, is_name_text}
use Rattle.rio_format.specs.{Classes.{newer_of, newest_in}, declared.class.ClassDef.{ClassDef}, Bodies.{form_of, headed_classes}, Slots.{can_be_put, is_headed}}
use Rattle.rio_format.proofs.BuiltInLaws.{of_each}
use Rattle.rio_model.specs.{Declaring.{is_reserved_name}, StateClasses.{AreAccepted, IsDeclared, StateClasses}}
use Rattle.rio_model.specs.Stated.{has_stated_parts, is_class_version, is_stated_class}
use Rattle.rio_model.proofs.ListDepth.{in_range}
use Rattle.rio_effect.proofs.Versions.{are_in_range}

-- ---- declared classes

-- a version of a class that a line can state, and a name that isn't left to the format
abbrev is_plain : ClassDef → Bool
is_plain c = in_range c.version && (is_name_text c.name && not (is_reserved_name c.name))

version_in_range : (version : ℤ) → is_class_version version ≡ true → in_range version ≡ true
version_in_range (pos n) e = grind (arith, ints)
version_in_range (negsuc n) e = absurd (grind (arith, ints))

plain_class : (before : List ClassDef) (c : ClassDef) → IsDeclared before c → is_plain c ≡ true
unfolding is_stated_class
plain_class before c d =
    let stated = (and_parts (has_stated_parts c) _ d.stated).0 in
    let bases = (and_parts _ _ stated).0 in
    let words = (and_parts _ _ bases).0 in
    let parts = and_parts (is_name_text c.name) (is_class_version c.version) words in
    and_from _ _ (version_in_range c.version parts.1) (and_from _ _ parts.0 d.free)

all_plain : (before after : List ClassDef) → AreAccepted before after → list_all is_plain after ≡ true
all_plain before [] are = refl
all_plain before (c ∷ after) are = and_from _ _ (plain_class before c are.0) (all_plain (before ++ c ∷ []) after are.2)

all_in_range : (classes : List ClassDef) → list_all is_plain classes ≡ true → are_in_range classes ≡ true
all_in_range [] all = refl
all_in_range (c ∷ cs) all = let parts = and_parts (is_plain c) (list_all is_plain cs) all in and_from _ _ (and_parts (in_range c.version) _ parts.0).0 (all_in_range cs parts.1)

pub versions_in_range : (classes : List ClassDef) → StateClasses classes → are_in_range classes ≡ true
versions_in_range classes are = all_in_range classes (all_plain [] classes are)

-- ---- the class of an object

pub record IsObjectClass (class : List ℕ) : Type 0 where
  pub short : length class ≤ 100
  pub file : bytes_eq class (codes "TFile") ≡ false
  pub basket : bytes_eq class (codes "TBasket") ≡ false
  pub tree : bytes_eq class (codes "TTree") ≡ false

pub short_name : (name : List ℕ) → is_name_text name ≡ true → length name ≤ 100
short_name [] e = absurd cc
short_name (b ∷ bs) e = leb-true _ _ (and_parts _ _ e).1

pub short_item : (name : List ℕ) → is_item_text name ≡ true → length name ≤ 100
short_item name e = leb-true _ _ (and_parts _ _ e).1

not_reserved : (class own : List ℕ) → is_reserved_name own ≡ true → not (is_reserved_name class) ≡ true → bytes_eq class own ≡ false
not_reserved class own reserved free = by (bytes_eq class own) refl
  where
    by : (b : Bool) → bytes_eq class own ≡ b → b ≡ false
    by true is = let same = (bytes_eq-Decides class own).0 is in let e : not true ≡ true = ap not (sym (ap is_reserved_name same ∙ reserved)) ∙ free in absurd cc
    by false is = refl

plain_name : (class : List ℕ) → is_name_text class ≡ true → not (is_reserved_name class) ≡ true → IsObjectClass class
plain_name class named free = record {
  short = short_name class named;
  file = not_reserved class (codes "TFile") refl free;
  basket = not_reserved class (codes "TBasket") refl free;
  tree = not_reserved class (codes "TTree") refl free;
}

declared_name : (classes : List ClassDef) (class : List ℕ) → list_all is_plain classes ≡ true → is_some (newest_in classes class) ≡ true → IsObjectClass class
declared_name [] class all e = absurd cc
declared_name (c ∷ cs) class all e =
    let parts = and_parts (is_plain c) (list_all is_plain cs) all in
    by (bytes_eq c.name class) refl e parts.0 (declared_name cs class parts.1)
  where
    by : (b : Bool) → bytes_eq c.name class ≡ b → is_some (cond b (Some (newer_of c (newest_in cs class))) (newest_in cs class)) ≡ true → is_plain c ≡ true → (is_some (newest_in cs class) ≡ true → IsObjectClass class) → IsObjectClass class
    by true is f own rest =
        let words = and_parts (is_name_text c.name) (not (is_reserved_name c.name)) (and_parts (in_range c.version) _ own).1 in
        subst IsObjectClass ((bytes_eq-Decides c.name class).0 is) (plain_name c.name words.0 words.1)
    by false is f own rest = rest f

literal_name : (class own : List ℕ) → class ≡ own → IsObjectClass own → IsObjectClass class
literal_name class own e h = subst IsObjectClass (sym e) h

pub object_class_is : (classes : List ClassDef) (class : List ℕ) → StateClasses classes → can_be_put classes class ≡ true → IsObjectClass class
object_class_is classes class are e =
    ⊎_elim
    (λ declared. declared_name classes class (all_plain [] classes are) (and_parts (is_headed (form_of class)) (is_some (newest_in classes class)) declared).1)
    (λ own.
    of_each (λ o. is_some o ≡ true → IsObjectClass class) Some None headed_classes class (
      (λ c t. literal_name class (codes "TNamed") c (record { short = omega arith; file = refl; basket = refl; tree = refl })),
      (
        (λ c t. literal_name class (codes "TObjString") c (record { short = omega arith; file = refl; basket = refl; tree = refl })),
        (
          (λ c t. literal_name class (codes "TList") c (record { short = omega arith; file = refl; basket = refl; tree = refl })),
          ((λ c t. literal_name class (codes "TObjArray") c (record { short = omega arith; file = refl; basket = refl; tree = refl })), tt),
        ),
      ),
    )
    (λ t. absurd cc) own)
    (or_cases _ _ e)

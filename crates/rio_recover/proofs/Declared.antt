-- Classes that commands have declared, in a class list.
use Rattle.std.proofs.Common.{◌≡◌, ◌∙◌, ℕ, ◌+◌, ◌<◌, ◌≤◌, add-one, drop-cons, get_or, List, [], ◌∷◌, ◌++◌, append_assoc, codes, length, take, drop, Bool, true, false, not, Some, None, Ok, Err, refl, sym, ap, subst, IsTrue, arith}
use Rattle.std.proofs.{Math.Seq.{drop-append_seam}, lemmas.List.{drop_all, take_all, take_more}}
use Rattle.std.specs.{Prelude.{◌↔◌}, Result.{result_unwrap_or}}
use Rattle.rio_format.specs.{declared.class.ClassDef.{ClassDef}, declared.fault.ObjFault.{ObjFault}, TreeClasses.{tree_classes, written_classes}}
use Rattle.rio_info.proofs.ListGrowth.{last_length_decides}
use Rattle.rio_model.specs.{Declaring.{declare_fault, declared, is_reserved_name}, Stated.{is_stated_class}}
use Rattle.rio_model.specs.StateClasses.{AreAccepted, AreDeclared, HasShortList, IsDeclared, StateClasses}
use Rattle.rio_state.specs.{Contents.{IsStateList, classes_behind, described_in, state_classes}, KeyedRecords.{KeyedRecord}}
use Rattle.rio_recover.specs.{Classes.{AreClassesOf, AreListedForState}, declared.classes.ListedClasses.{ListedClasses}}

-- ---- classes that are declared one after the other

pub accepted_declared : (before after : List ClassDef) → AreAccepted before after → AreDeclared before after
accepted_declared before [] a = tt
accepted_declared before (c ∷ after) a = (a.0, accepted_declared (before ++ c ∷ []) after a.2)

pub accepted_short : (before : List ClassDef) (c : ClassDef) (after : List ClassDef) → AreAccepted before (c ∷ after) → HasShortList (before ++ c ∷ after)
accepted_short before c [] a = a.1
accepted_short before c (d ∷ after) a = subst HasShortList (append_assoc before (c ∷ []) (d ∷ after)) (accepted_short (before ++ c ∷ []) d after a.2)

-- one class more, where it is declared with these bases
pub next_declared : (before : List ClassDef) (class : ClassDef) → IsTrue (is_stated_class class) → IsTrue (not (is_reserved_name class.name)) → declare_fault before class ≡ None
    → (declared before class).bases ≡ class.bases → IsDeclared before class
next_declared before class stated free allowed bases = record {
  stated = stated;
  free = free;
  allowed = allowed;
  newest = λ i. record class { bases = sym bases i };
}

-- ---- the list

-- the classes that a list stands for are those behind the classes of trees
pub list_classes : (r : KeyedRecord) (classes : List ClassDef) → described_in r ≡ Ok (written_classes classes) → state_classes (Some r) ≡ classes
list_classes r classes is = ap classes_behind is ∙ drop-append_seam tree_classes classes

pub is_list : (r : KeyedRecord) (classes : ListedClasses) → described_in r ≡ Ok classes.described → IsStateList r classes.registry → AreClassesOf (Some r) (Some classes)
is_list r classes described is =
    let same = list_classes r classes.registry is.list in
    (subst (IsStateList r) (sym same) is, λ i. record { described = result_unwrap_or (sym described i) []; declared = sym same i })

-- a registry has declared the classes up to an index
pub record DeclaringSoFar (classes : List ClassDef) (k : ℕ) (registry : List ClassDef) : Type 0 where
  pub registry_is : registry ≡ take k classes
  pub onward : AreDeclared [] classes → AreDeclared (take k classes) (drop k classes)
  pub back : AreDeclared (take k classes) (drop k classes) → AreDeclared [] classes

module _ (classes : List ClassDef) (k : ℕ) (class : ClassDef) (lt : k < length classes) (is : class ≡ get_or classes k class) where
  behind_here : drop k classes ≡ class ∷ drop (k + 1) classes
  behind_here = drop-cons classes k class lt ∙ (λ i. sym is i ∷ drop (sym (add-one k) i) classes)

  up_to_here : take (k + 1) classes ≡ take k classes ++ class ∷ []
  up_to_here = take_more classes k class lt ∙ ap (λ (c : ClassDef). take k classes ++ c ∷ []) (sym is)

  pub one_declared : (old new : List ClassDef) → DeclaringSoFar classes k old → IsDeclared old class → new ≡ old ++ class ∷ [] → DeclaringSoFar classes (k + 1) new
  one_declared old new sofar d grown =
      let here = subst (λ (cs : List ClassDef). IsDeclared cs class) sofar.registry_is d in
      record {
        registry_is = grown ∙ ap (λ (cs : List ClassDef). cs ++ class ∷ []) sofar.registry_is ∙ sym up_to_here;
        onward = λ all. subst (λ (cs : List ClassDef). AreDeclared cs (drop (k + 1) classes)) (sym up_to_here)
            (subst (AreDeclared (take k classes)) behind_here (sofar.onward all)).1;
        back = λ rest. sofar.back (subst (AreDeclared (take k classes)) (sym behind_here)
            (here, subst (λ (cs : List ClassDef). AreDeclared cs (drop (k + 1) classes)) up_to_here rest));
      }

  pub none_declared : (old : List ClassDef) → DeclaringSoFar classes k old → (IsDeclared old class → ⊥) → AreDeclared [] classes → ⊥
  none_declared old sofar unstated all =
      unstated (subst (λ (cs : List ClassDef). IsDeclared cs class) (sym sofar.registry_is) (subst (AreDeclared (take k classes)) behind_here (sofar.onward all)).0)

pub all_declared : (classes : List ClassDef) (k : ℕ) (registry : List ClassDef) → length classes ≤ k → DeclaringSoFar classes k registry → AreDeclared [] classes × (registry ≡ classes)
all_declared classes k registry le sofar =
    let none : drop k classes ≡ [] = drop_all k classes le in
    (sofar.back (subst (AreDeclared (take k classes)) (sym none) tt), sofar.registry_is ∙ take_all k classes le)

-- ---- the classes of trees in front

-- one list for the classes of trees and these
pub one_list : (classes a b : List ClassDef) → classes ≡ written_classes a → classes ≡ written_classes b → a ≡ b
one_list classes a b x y = sym (drop-append_seam tree_classes a) ∙ ap (drop (length tree_classes)) (sym x ∙ y) ∙ drop-append_seam tree_classes b

-- ---- classes of a state

pub is_state : (declared : List ClassDef) → AreDeclared [] declared → HasShortList declared → StateClasses declared
is_state declared are short = last_length_decides declared are short

pub none_state : (declared : List ClassDef) → length declared ≡ 0 → StateClasses declared
none_state [] e = tt
none_state (c ∷ cs) e = absurd cc

pub state_short : (declared : List ClassDef) → 0 < length declared → StateClasses declared → HasShortList declared
state_short [] some s = absurd (omega (arith, some))
state_short (c ∷ cs) some s = accepted_short [] c cs s

-- ---- one class more is declared, or isn't

-- ---- a class list that stands for no classes

module _ (r : KeyedRecord) (classes : List ClassDef) where
  pub other_class : (r.head.class ≡ codes "TList" → ⊥) → IsStateList r classes → ⊥
  other_class other s = other s.class

  pub list_fault : (e : ObjFault) → described_in r ≡ Err e → IsStateList r classes → ⊥
  list_fault e is s = let list = s.list in cc

  pub list_other : (listed : List ClassDef) → described_in r ≡ Ok listed → ((declared : List ClassDef) × (listed ≡ written_classes declared) × StateClasses declared → ⊥) → IsStateList r classes → ⊥
  list_other listed is none s =
      let list : described_in r ≡ Ok (written_classes classes) = s.list in
      let same : listed ≡ written_classes classes = cc in
      none (classes, same, s.declared)

  pub list_cycle : (listed registry : List ClassDef) (test : Bool) → described_in r ≡ Ok listed → listed ≡ written_classes registry → (IsTrue test ↔ (r.head.cycle ≤ length registry + 1)) → test ≡ false
      → IsStateList r classes → ⊥
  list_cycle listed registry test is written tells fails s =
      let list : described_in r ≡ Ok (written_classes classes) = s.list in
      let same : listed ≡ written_classes classes = cc in
      let one : registry ≡ classes = one_list listed registry classes written same in
      let h : test ≡ true = tells.1 (subst (λ (cs : List ClassDef). r.head.cycle ≤ length cs + 1) (sym one) s.cycle) in cc

-- ---- the classes behind those of trees

pub none_yet : (classes : List ClassDef) → DeclaringSoFar classes 0 []
none_yet classes = record { registry_is = refl; onward = λ all. all; back = λ all. all }

pub not_declared : (classes declared : List ClassDef) → classes ≡ written_classes declared → (AreDeclared [] declared → ⊥) → AreListedForState classes → ⊥
not_declared classes declared is none list =
    none (subst (AreDeclared []) (one_list classes list.0 declared list.1 is) (accepted_declared [] list.0 list.2))

pub not_short : (classes declared : List ClassDef) → classes ≡ written_classes declared → 0 < length declared → (HasShortList declared → ⊥) → AreListedForState classes → ⊥
not_short classes declared is some long list =
    let same = one_list classes list.0 declared list.1 is in
    long (state_short declared some (subst StateClasses same list.2))

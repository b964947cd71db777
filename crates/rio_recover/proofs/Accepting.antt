-- A class list that stands for the classes of a state, or doesn't.
use Rattle.std.proofs.Common.{◌≡◌, ◌∙◌, ◌<◌, List, [], length, Bool, true, false, sym, subst, IsTrue}
use Rattle.std.specs.Prelude.{◌↔◌}
use Rattle.rio_format.specs.{declared.class.ClassDef.{ClassDef}, TreeClasses.{written_classes}}
use Rattle.rio_model.specs.StateClasses.{AreDeclared, HasShortList, StateClasses}
use Rattle.rio_recover.specs.Classes.{AreListedForState}
use Rattle.rio_recover.proofs.Declared.{is_state, none_state, not_short}

pub state_if_empty : (declared registry : List ClassDef) → registry ≡ declared → length declared ≡ 0 → StateClasses registry
state_if_empty declared registry same none = subst StateClasses (sym same) (none_state declared none)

pub state_if_short : (declared registry seen : List ClassDef) (test : Bool) → registry ≡ declared → AreDeclared [] declared → seen ≡ registry → (IsTrue test ↔ HasShortList seen) → test ≡ true
    → StateClasses registry
state_if_short declared registry seen test same are is tells passes = subst StateClasses (sym same) (is_state declared are (subst HasShortList (is ∙ same) (tells.0 passes)))

pub not_if_long : (classes declared registry seen : List ClassDef) (test : Bool) → classes ≡ written_classes declared → 0 < length declared → registry ≡ declared → seen ≡ registry
    → (IsTrue test ↔ HasShortList seen) → test ≡ false → AreListedForState classes → ⊥
not_if_long classes declared registry seen test listed some same is tells fails =
    not_short classes declared listed some (λ short. let h : test ≡ true = tells.1 (subst HasShortList (sym (is ∙ same)) short) in cc)

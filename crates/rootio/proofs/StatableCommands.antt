-- The commands of a script can be stated.
use Rattle.std.proofs.{Common.{◌≡◌, ◌<◌, ℕ, Bool, true, false, List, length, get_or, refl, ap, ◌∙◌}, lemmas.List.Folds.{list_all_at}}
use Rattle.std.specs.List.{list_all}
use Rattle.rio_machine.specs.declared.command.Command.{Command}
use Rattle.rio_step.specs.Statable.{IsStatable, is_statable}

all_at : {X : Type 0} (p : X → Bool) (xs : List X) (i : ℕ) (d : X) → i < length xs → list_all p xs ≡ true → p (get_or xs i d) ≡ true
all_at p xs i d within all = by_test (p (get_or xs i d)) refl
  where
    by_test : (b : Bool) → p (get_or xs i d) ≡ b → p (get_or xs i d) ≡ true
    by_test true e = e
    by_test false e = let none : list_all p xs ≡ false = list_all_at p xs i d within e in absurd cc

pub statable_at : (cs : List Command) (k : ℕ) (c : Command) → k < length cs → c ≡ get_or cs k c → list_all is_statable cs ≡ true → IsStatable c
statable_at cs k c within is all = ap is_statable is ∙ all_at is_statable cs k c within all

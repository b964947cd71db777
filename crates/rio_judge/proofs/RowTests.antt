-- The tests that can refuse a row, by what its entries are and by the row.
use Rattle.std.proofs.Common.{◌≡◌, ℕ, ◌∙◌, List, [], ◌∷◌, Bool, true, false, cond, eqb, not, Option, Some, None, refl, sym, ap, subst}
use Rattle.std.proofs.lemmas.Bool.{eqb-true}
use Rattle.std.specs.{Prelude.{nat_le, option_and_then, if◌then◌else◌}, FinMap.{get}, List.{list_any}, Option.{option_map_or, option_or}}
use Rattle.rio_machine.specs.{Limits.{cycle_limit, has_long_entry, has_long_list, is_too_deep}, Rows.{row_fits}, State.{Row, State, Tree}}
use Rattle.rio_machine.specs.declared.{command.Command.TheVariants.{Fill}, entry_fault.EntryFault.{EntryFault, TheVariants.{BadRow as EntryBadRow, TooLarge as EntryTooLarge}}}
use Rattle.rio_machine.specs.declared.refusal.Refusal.{Refusal, TheVariants.{BadRow, CycleLimit, TooLarge, TooDeep, TooMany}}
use Rattle.rio_step.specs.Refusing.{fill_row, first_of, refusal_of, refused_if}
use Rattle.rio_judge.specs.{Judging.{refused_by_object, refused_by_row}, Stops.{row_tests}, Trees.{IsRowFault, IsTreeWorkOf, row_fault}, declared.work.{NewRow.{NewRow}, TreeWork.TheVariants.{Fill as Filling}}}

-- what the tests tell, where the name has this tree
abbrev told : State → Row → Option Tree → Option Refusal
told m row tree =
    option_or (refused_if (option_map_or (λ t. not (row_fits m.classes t.branches row)) tree false) BadRow)
    (option_or (refused_if (option_map_or (λ t. nat_le cycle_limit t.cycle) tree false) CycleLimit)
    (option_or (refused_if (option_map_or (λ t. has_long_entry m.classes t.branches row) tree false) TooLarge)
    (option_or (refused_if (list_any is_too_deep row) TooDeep)
    (option_or (refused_if (list_any has_long_list row) TooMany) None))))

told_is : (m : State) (name : List ℕ) (row : Row) → refused_by_row m (Fill name row) ≡ told m (fill_row m row) (get m.trees name)
told_is m name row = refl

-- of a tree it is what the fault and the cycle tell
of_fault : (cycle : ℕ) (row : Row) (fits long : Bool) → first_of (row_tests cycle (if fits then (if long then Some EntryTooLarge else None) else Some EntryBadRow) row)
    ≡ option_or (refused_if (not fits) BadRow) (option_or (refused_if (nat_le cycle_limit cycle) CycleLimit) (option_or (refused_if long TooLarge) (option_or (refused_if (list_any is_too_deep row) TooDeep) (option_or (refused_if (list_any has_long_list row) TooMany) None))))
of_fault cycle row true true = refl
of_fault cycle row true false = refl
of_fault cycle row false long = refl

pub row_judged : (r : NewRow) (fault : Option EntryFault) (m : State) (name : List ℕ) (row : Row) → refusal_of m (Fill name row) None ≡ refused_by_object m (Fill name row)
    → IsTreeWorkOf m (Fill name row) (Filling r) → IsRowFault m name r.row fault → (result : Option Refusal) → result ≡ first_of (row_tests r.cycle fault r.row) → result ≡ refusal_of m (Fill name row) None
row_judged r fault m name row first does is result tells =
    tells ∙ by (get m.trees name) does.2 is ∙ ap (λ (w : Row). told m w (get m.trees name)) does.1 ∙ sym (told_is m name row) ∙ sym first
  where
    by : (o : Option Tree) → option_map_or (λ t. eqb t.cycle r.cycle) o false ≡ true → option_and_then (λ t. row_fault m.classes t.branches r.row) o ≡ fault
        → first_of (row_tests r.cycle fault r.row) ≡ told m r.row o
    by None there is = absurd cc
    by (Some t) there is =
        ap (λ f. first_of (row_tests r.cycle f r.row)) (sym is)
        ∙ of_fault r.cycle r.row (row_fits m.classes t.branches r.row) (has_long_entry m.classes t.branches r.row)
        ∙ ap (λ n. option_or (refused_if (not (row_fits m.classes t.branches r.row)) BadRow) (option_or (refused_if (nat_le cycle_limit n) CycleLimit) (option_or (refused_if (has_long_entry m.classes t.branches r.row) TooLarge) (option_or (refused_if (list_any is_too_deep r.row) TooDeep) (option_or (refused_if (list_any has_long_list r.row) TooMany) None))))) (sym (eqb-true _ _ there))

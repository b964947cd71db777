-- A fill and a save that aren't refused name a tree of the state.
use Rattle.std.proofs.Common.{◌≡◌, List, ℕ, Bool, true, false, not, None, Some, sym, ap, ◌∙◌}
use Rattle.std.proofs.lemmas.Bool.{not-false}
use Rattle.std.specs.{Prelude.{◌||◌, is_some}, FinMap.{get}}
use Rattle.rio_num.proofs.Cases.{some_of}
use Rattle.rio_machine.specs.State.{Row, State, Tree, names_item, names_object, names_tree}
use Rattle.rio_machine.specs.{declared.command.Command.{Command, TheVariants.{Fill, Save}}, declared.refusal.Refusal.TheVariants.{NoSuchName, NotATree}}
use Rattle.rio_step.proofs.ApartLaws.{none_at, not_refused}
use Rattle.rio_step.specs.Refusing.{is_object_name, lacks_name, refusal_of, refusals}

-- something has the name, and no object has it
its_tree : (m : State) (name : List ℕ) → not (names_item m name) ≡ false → names_object m name ≡ false → (t : Tree) × (get m.trees name ≡ Some t)
its_tree m name there other =
    let item : names_item m name ≡ true = not-false (names_item m name) there in
    let tree : names_tree m name ≡ true = ap (λ (b : Bool). b || names_tree m name) (sym other) ∙ item in
    some_of (get m.trees name) tree

pub filled_tree : (m : State) (name : List ℕ) (row : Row) → refusal_of m (Fill name row) None ≡ None → (t : Tree) × (get m.trees name ≡ Some t)
unfolding refusal_of
filled_tree m name row free =
    let tests = refusals m (Fill name row) None in
    its_tree m name (not_refused (lacks_name m (Fill name row)) NoSuchName (none_at tests 2 free)) (not_refused (is_object_name m (Fill name row)) NotATree (none_at tests 5 free))

pub saved_tree : (m : State) (name : List ℕ) → refusal_of m (Save name) None ≡ None → (t : Tree) × (get m.trees name ≡ Some t)
unfolding refusal_of
saved_tree m name free =
    let tests = refusals m (Save name) None in
    its_tree m name (not_refused (lacks_name m (Save name)) NoSuchName (none_at tests 2 free)) (not_refused (is_object_name m (Save name)) NotATree (none_at tests 5 free))

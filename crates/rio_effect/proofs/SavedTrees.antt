-- A state without its pending rows, where a tree is changed.
use Rattle.std.proofs.Common.{◌≡◌, ℕ, ◌∙◌, List, Bool, true, false, cond, Option, Some, None, refl, sym, ap}
use Rattle.std.proofs.lemmas.Map.Views.{tells_apart}
use Rattle.std.specs.{FinMap.{get, get-insert, insert, same_map}, Option.{option_map, option_map_or}, Ordering.{eq_by_cmp}}
use Rattle.rio_num.specs.Word.{name_order}
use Rattle.rio_machine.proofs.OrderLaws.{names_tie, names_total}
use Rattle.rio_machine.specs.{State.{Row, State, Tree}}
use Rattle.rio_step.proofs.ClosedLaws.{saved_keeps_the_rest}
use Rattle.rio_step.specs.{Refusing.{fill_row}, Runs.{saved_of, saved_tree}, Step.{tree_filled}}
use Rattle.rio_effect.specs.FillNeeds.{FillSavesNothing}

abbrev with_other : State → List ℕ → Tree → State
with_other m name t = record m { trees = insert m.trees name t }

map_cond : (b : Bool) (t : Tree) (o : Option Tree) → option_map saved_tree (cond b (Some t) o) ≡ cond b (Some (saved_tree t)) (option_map saved_tree o)
map_cond true t o = refl
map_cond false t o = refl

trees_with : (m : State) (name : List ℕ) (t : Tree) → (saved_of (with_other m name t)).trees ≡ insert (saved_of m).trees name (saved_tree t)
trees_with m name t = same_map names_total names_tie (saved_of (with_other m name t)).trees (insert (saved_of m).trees name (saved_tree t)) (λ k.
    saved_keeps_the_rest (with_other m name t) k
    ∙ ap (λ (o : Option Tree). option_map saved_tree o) (get-insert names_total m.trees name t k)
    ∙ map_cond (eq_by_cmp name_order k name) t (get m.trees k)
    ∙ ap (λ (o : Option Tree). cond (eq_by_cmp name_order k name) (Some (saved_tree t)) o) (sym (saved_keeps_the_rest m k))
    ∙ sym (get-insert names_total (saved_of m).trees name (saved_tree t) k))

-- with another tree under a name
pub saved_with : (m : State) (name : List ℕ) (t : Tree) → saved_of (record m { trees = insert m.trees name t }) ≡ record (saved_of m) { trees = insert (saved_of m).trees name (saved_tree t) }
unfolding saved_of
saved_with m name t = let same = trees_with m name t in λ i. record m { trees = same i }

-- a tree put under its name again
same_again : (m : State) (name : List ℕ) (t : Tree) → get m.trees name ≡ Some t → insert m.trees name t ≡ m.trees
same_again m name t is = same_map names_total names_tie (insert m.trees name t) m.trees (λ k. get-insert names_total m.trees name t k ∙ by k (eq_by_cmp name_order k name) refl)
  where
    by : (k : List ℕ) (b : Bool) → eq_by_cmp name_order k name ≡ b → cond b (Some t) (get m.trees k) ≡ get m.trees k
    by k true e = sym (ap (get m.trees) (tells_apart names_tie k name e) ∙ is)
    by k false e = refl

-- a pending row more
abbrev behind : State → List ℕ → Row → Option Tree → State
behind m name row o = option_map_or (λ t. with_other m name (tree_filled row t)) o m

filled : (m : State) (name : List ℕ) (row : Row) (o : Option Tree) → get m.trees name ≡ o → saved_of (behind m name row o) ≡ saved_of m
filled m name row None e = refl
filled m name row (Some t) e =
    let again = same_again (saved_of m) name (saved_tree t) (saved_keeps_the_rest m name ∙ ap (λ (o : Option Tree). option_map saved_tree o) e) in
    saved_with m name (tree_filled row t) ∙ (λ i. record (saved_of m) { trees = again i })

pub fill_saves_nothing : FillSavesNothing
fill_saves_nothing m name row = filled m name (fill_row m row) (get m.trees name) refl

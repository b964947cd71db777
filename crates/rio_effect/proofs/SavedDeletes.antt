-- A delete doesn't look at pending rows.
use Rattle.std.proofs.Common.{◌≡◌, ℕ, ◌∙◌, List, Bool, true, false, cond, ◌==◌, Option, Some, None, refl, sym, ap}
use Rattle.std.specs.{Prelude.{if◌then◌else◌}, FinMap.{get, get-remove, remove, same_map}, Option.{option_map, option_map_or}, Ordering.{eq_by_cmp}}
use Rattle.rio_num.specs.Word.{name_order}
use Rattle.rio_machine.proofs.OrderLaws.{names_tie, names_total}
use Rattle.rio_machine.specs.{State.{State, Tree, names_tree}, declared.command.Command.TheVariants.{Delete}}
use Rattle.rio_step.proofs.ClosedLaws.{saved_keeps_the_rest}
use Rattle.rio_step.specs.{Refusing.{FullMark, refusal_of, tree_passes}, Runs.{saved_of, saved_tree}, Step.{without_item}}
use Rattle.rio_effect.specs.Deletes.{DeletesIgnorePending}
use Rattle.rio_effect.proofs.SavedPuts.{same_objects, trees_named}

-- ---- refusals

cycle_alike : (cycle : ℕ) (o : Option Tree) → option_map_or (λ (t : Tree). t.cycle == cycle) (option_map saved_tree o) false ≡ option_map_or (λ (t : Tree). t.cycle == cycle) o false
cycle_alike cycle None = refl
cycle_alike cycle (Some t) = refl

cycles_alike : (m : State) (name : List ℕ) (cycle : ℕ) → tree_passes (saved_of m) name (λ t. t.cycle == cycle) ≡ tree_passes m name (λ t. t.cycle == cycle)
cycles_alike m name cycle =
    ap (λ (o : Option Tree). option_map_or (λ (t : Tree). t.cycle == cycle) o false) (saved_keeps_the_rest m name) ∙ cycle_alike cycle (get m.trees name)

refused_alike : (m : State) (name : List ℕ) (cycle : ℕ) (mark : Option FullMark) → refusal_of (saved_of m) (Delete name cycle) mark ≡ refusal_of m (Delete name cycle) mark
unfolding refusal_of
refused_alike m name cycle mark = rw (cycles_alike m name cycle, trees_named m name, same_objects m) refl

-- ---- states

abbrev without_tree : State → List ℕ → State
without_tree m name = record m { trees = remove m.trees name }

map_cond : (b : Bool) (o : Option Tree) → cond b None (option_map saved_tree o) ≡ option_map saved_tree (cond b None o)
map_cond true o = refl
map_cond false o = refl

trees_alike : (m : State) (name : List ℕ) → remove (saved_of m).trees name ≡ (saved_of (without_tree m name)).trees
trees_alike m name = same_map names_total names_tie (remove (saved_of m).trees name) (saved_of (without_tree m name)).trees (λ k.
    get-remove names_total (saved_of m).trees name k
    ∙ ap (λ (o : Option Tree). cond (eq_by_cmp name_order k name) None o) (saved_keeps_the_rest m k)
    ∙ map_cond (eq_by_cmp name_order k name) (get m.trees k)
    ∙ ap (λ (o : Option Tree). option_map saved_tree o) (sym (get-remove names_total m.trees name k))
    ∙ sym (saved_keeps_the_rest (without_tree m name) k))

abbrev item_gone : Bool → State → List ℕ → ℕ → State
item_gone b m name cycle = if b then without_tree m name else record m { objects = remove m.objects (name, cycle) }

gone_alike : (b : Bool) (m : State) (name : List ℕ) (cycle : ℕ) → item_gone b (saved_of m) name cycle ≡ saved_of (item_gone b m name cycle)
unfolding saved_of
gone_alike true m name cycle = let same = trees_alike m name in λ i. record m { trees = same i }
gone_alike false m name cycle = refl

behind_alike : (m : State) (name : List ℕ) (cycle : ℕ) → without_item (saved_of m) name cycle ≡ saved_of (without_item m name cycle)
behind_alike m name cycle = ap (λ b. item_gone b (saved_of m) name cycle) (trees_named m name) ∙ gone_alike (names_tree m name) m name cycle

pub deletes_ignore_pending : DeletesIgnorePending
deletes_ignore_pending m name cycle = record { refused = refused_alike m name cycle; behind = behind_alike m name cycle }

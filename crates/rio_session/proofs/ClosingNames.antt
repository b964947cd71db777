-- The saves of a close are those of the trees that have pending rows, by what is kept as by the state.
use Rattle.std.proofs.Common.{◌≡◌, ◌∙◌, ◌==◌, ℕ, List, [], ◌∷◌, map, Bool, true, false, cond, not, refl, sym, ap}
use Rattle.std.specs.{FinMap.{entries}, List.{filter}}
use Rattle.rio_machine.specs.{State.{State, Tree}, declared.command.Command.TheVariants.{Save}}
use Rattle.rio_tree_table.specs.declared.table.KeptTree.{KeptTree}
use Rattle.rio_step.specs.{KeptItems.{kept_tree}, Runs.{closing_saves, has_pending}}
use Rattle.rio_session.specs.{Fillings.{has_pending_rows, pending_names}, Fills.{FilledTree, kept_tree_of}, Items.{IsOfKeys}, SessionState.{SessionState}}
use Rattle.rio_session.proofs.ClosingStages.{saves_of}

same_names : (ts : List FilledTree) (es : List (List ℕ × Tree)) → map kept_tree_of ts ≡ map kept_tree es
    → saves_of (map (λ t. t.name) (filter has_pending_rows ts)) ≡ map (λ e. Save e.0) (filter (λ e. has_pending e.1) es)
same_names [] [] same = refl
same_names [] (e ∷ es) same = absurd cc
same_names (t ∷ ts) [] same = absurd cc
same_names (t ∷ ts) (e ∷ es) same = by (has_pending_rows t) (has_pending e.1) refl refl (same_names ts es rest)
  where
    first : kept_tree_of t ≡ kept_tree e
    first = cc

    rest : map kept_tree_of ts ≡ map kept_tree es
    rest = cc

    one : has_pending_rows t ≡ has_pending e.1
    one = ap (λ (k : KeptTree). not (k.pending == 0)) first

    name_is : t.name ≡ e.0
    name_is = ap (λ (k : KeptTree). k.name) first

    by : (b c : Bool) → has_pending_rows t ≡ b → has_pending e.1 ≡ c
        → saves_of (map (λ u. u.name) (filter has_pending_rows ts)) ≡ map (λ x. Save x.0) (filter (λ x. has_pending x.1) es)
        → saves_of (map (λ u. u.name) (cond b (t ∷ filter has_pending_rows ts) (filter has_pending_rows ts))) ≡ map (λ x. Save x.0) (cond c (e ∷ filter (λ x. has_pending x.1) es) (filter (λ x. has_pending x.1) es))
    by true true is and later = λ i. Save (name_is i) ∷ later i
    by true false is and later = absurd (let f : true ≡ false = sym is ∙ one ∙ and in cc)
    by false true is and later = absurd (let f : false ≡ true = sym is ∙ one ∙ and in cc)
    by false false is and later = later

pub closing_names : (s : SessionState) (m : State) → IsOfKeys s m → saves_of (pending_names s) ≡ closing_saves m
unfolding closing_saves
closing_names s m keys = same_names s.trees (entries m.trees) keys.keys.kept

-- A closed state has no pending rows.
use Rattle.std.proofs.Common.{◌≡◌, ℕ, List, [], ◌∷◌, map, Bool, true, false, cond, not, ◌||◌, ◌⊎◌, inl, inr, Option, Some, None, refl, sym, ap, ◌∙◌}
use Rattle.std.proofs.{lemmas.Bool.{eqb-true, false_from_ne_true, not-false, or_from, or_right}, lemmas.List.{nil_from_length}, lemmas.Map.Views.{tells_apart}}
use Rattle.std.proofs.lemmas.Option.{same_Some}
use Rattle.std.specs.{FinMap.{entries, find, get, get-entries, get-from_entries, get-insert, insert}, List.{filter, fold, list_any}}
use Rattle.std.specs.{Option.{option_map, option_map_or}, Ordering.{eq_by_cmp}}
use Rattle.rio_num.specs.Word.{name_order}
use Rattle.rio_machine.proofs.OrderLaws.{names_tie, names_total}
use Rattle.rio_machine.specs.{State.{State, Tree}, declared.command.Command.{Command, TheVariants.{Save}}}
use Rattle.rio_step.specs.{Laws.{ClosedHasNonePending, SavedKeepsTheRest}, Runs.{closed_of, closing_saves, has_pending, saved_of, saved_tree}}
use Rattle.rio_step.specs.Step.{state_behind, tree_saved, with_tree}

abbrev pub Named : Type 0
Named = List ℕ × Tree

-- the tree is saved, or it is as it was and isn't among the saved ones
abbrev Closes : State → List Named → List ℕ → Tree → Type 0
Closes m es name t = (t.pending ≡ []) ⊎ ((get m.trees name ≡ Some t) × (list_any (λ e. eq_by_cmp name_order name e.0) es ≡ false))

abbrev saves : List Named → List Command
saves es = map (λ e. Save e.0) es

among : List Named → List ℕ → Bool
among es name = list_any (λ e. eq_by_cmp name_order name e.0) es

first_known : (m : State) (first : Named) (es : List Named) (name : List ℕ) (t s : Tree) (b : Bool) → eq_by_cmp name_order name first.0 ≡ b
    → cond b (Some (tree_saved s)) (get m.trees name) ≡ Some t → list_any (λ e. eq_by_cmp name_order name e.0) es ≡ false → Closes m (first ∷ es) name t
first_known m first es name t s true tie f none = inl (ap (λ x. x.pending) (sym (same_Some (tree_saved s) t f)))
first_known m first es name t s false tie f none = inr (f, or_from _ _ tie none)

first_unknown : (m : State) (first : Named) (es : List Named) (name : List ℕ) (t : Tree) (b : Bool) → eq_by_cmp name_order name first.0 ≡ b
    → get m.trees first.0 ≡ None → get m.trees name ≡ Some t → list_any (λ e. eq_by_cmp name_order name e.0) es ≡ false → Closes m (first ∷ es) name t
first_unknown m first es name t true tie lacks f none =
    let same = tells_apart names_tie name first.0 tie in
    absurd (let h = sym f ∙ ap (get m.trees) same ∙ lacks in cc)
first_unknown m first es name t false tie lacks f none = inr (f, or_from _ _ tie none)

first_closed : (m : State) (first : Named) (es : List Named) (name : List ℕ) (t : Tree) (s : Option Tree) → get m.trees first.0 ≡ s
    → get (option_map_or (λ u. record m { trees = insert m.trees first.0 (tree_saved u) }) s m).trees name ≡ Some t
    → list_any (λ e. eq_by_cmp name_order name e.0) es ≡ false → Closes m (first ∷ es) name t
first_closed m first es name t None lacks f none = first_unknown m first es name t (eq_by_cmp name_order name first.0) refl lacks f none
first_closed m first es name t (Some s) has f none =
    first_known m first es name t s (eq_by_cmp name_order name first.0) refl (sym (get-insert names_total m.trees first.0 (tree_saved s) name) ∙ f) none

first_then : (m : State) (first : Named) (es : List Named) (name : List ℕ) (t : Tree) → Closes (with_tree m first.0 tree_saved) es name t → Closes m (first ∷ es) name t
first_then m first es name t (inl p) = inl p
first_then m first es name t (inr p) = first_closed m first es name t (get m.trees first.0) refl p.0 p.1

closes : (es : List Named) (m : State) (name : List ℕ) (t : Tree) → get (fold state_behind m (saves es)).trees name ≡ Some t → Closes m es name t
closes [] m name t e = inr (e, refl)
closes (first ∷ es) m name t e = first_then m first es name t (closes es (with_tree m first.0 tree_saved) name t e)

filtered_more : (p : Bool) (first : Named) (es : List Named) (name : List ℕ) → among es name ≡ true → among (cond p (first ∷ es) es) name ≡ true
unfolding among
filtered_more true first es name e = or_right _ _ e
filtered_more false first es name e = e

pending_among : (es : List Named) (name : List ℕ) (t : Tree) → find name_order name es ≡ Some t → has_pending t ≡ true → among (filter (λ e. has_pending e.1) es) name ≡ true
unfolding among
pending_among [] name t e p = absurd cc
pending_among (first ∷ es) name t e p = by (eq_by_cmp name_order name first.0) refl e (pending_among es name t)
  where
    by : (b : Bool) → eq_by_cmp name_order name first.0 ≡ b → cond b (Some first.1) (find name_order name es) ≡ Some t
        → (find name_order name es ≡ Some t → has_pending t ≡ true → list_any (λ e. eq_by_cmp name_order name e.0) (filter (λ e. has_pending e.1) es) ≡ true)
        → list_any (λ e. eq_by_cmp name_order name e.0) (filter (λ e. has_pending e.1) (first ∷ es)) ≡ true
    by true tie f later =
        let pending : has_pending first.1 ≡ true = ap has_pending (same_Some first.1 t f) ∙ p in
        ap (λ b. list_any (λ e. eq_by_cmp name_order name e.0) (cond b (first ∷ filter (λ e. has_pending e.1) es) (filter (λ e. has_pending e.1) es))) pending
        ∙ ap (λ b. b || list_any (λ e. eq_by_cmp name_order name e.0) (filter (λ e. has_pending e.1) es)) tie
    by false tie f later = filtered_more (has_pending first.1) first (filter (λ e. has_pending e.1) es) name (later f p)

none_pending : (t : Tree) → has_pending t ≡ false → t.pending ≡ []
none_pending t e = nil_from_length t.pending (eqb-true _ _ (not-false _ e))

pub closed_has_none_pending : ClosedHasNonePending
unfolding closed_of closing_saves among
closed_has_none_pending m name t e = by (closes (filter (λ e. has_pending e.1) (entries m.trees)) m name t e)
  where
    by : Closes m (filter (λ e. has_pending e.1) (entries m.trees)) name t → t.pending ≡ []
    by (inl p) = p
    by (inr p) = none_pending t (false_from_ne_true (has_pending t) (λ pending. let h = sym (pending_among (entries m.trees) name t (sym (get-entries m.trees name) ∙ p.0) pending) ∙ p.1 in absurd cc))

-- ---- without pending rows

find_changed : (es : List Named) (change : Tree → Tree) (name : List ℕ) → find name_order name (map (λ e. (e.0, change e.1)) es) ≡ option_map change (find name_order name es)
find_changed [] change name = refl
find_changed (first ∷ es) change name = by (eq_by_cmp name_order name first.0) (find_changed es change name)
  where
    by : (b : Bool) → find name_order name (map (λ e. (e.0, change e.1)) es) ≡ option_map change (find name_order name es)
        → cond b (Some (change first.1)) (find name_order name (map (λ e. (e.0, change e.1)) es)) ≡ option_map change (cond b (Some first.1) (find name_order name es))
    by true later = refl
    by false later = later

pub saved_keeps_the_rest : SavedKeepsTheRest
unfolding saved_of
saved_keeps_the_rest m name =
    get-from_entries names_total (map (λ e. (e.0, saved_tree e.1)) (entries m.trees)) name
    ∙ find_changed (entries m.trees) saved_tree name
    ∙ ap (option_map saved_tree) (sym (get-entries m.trees name))

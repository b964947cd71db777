-- A delete takes one object or one tree away.
use Rattle.std.proofs.Common.{◌≡◌, ◌≢◌, ℕ, List, Bool, true, false, cond, not, ◌||◌, ◌&&◌, ◌==◌, ◌⊎◌, inl, inr, Option, Some, None, refl, sym, ap, subst, ◌∙◌}
use Rattle.std.proofs.{lemmas.Bool.{eqb-true, false_from_ne_true, not-false}, lemmas.Map.Views.{tells_apart}}
use Rattle.std.specs.{Option.{IsSomeAnd, is_some, option_map_or}, Cmp.{eq_by_cmp_equiv}, FinMap.{contains_key, get, get-remove, remove}}
use Rattle.rio_machine.proofs.OrderLaws.{items_tie, items_total, names_tie, names_total}
use Rattle.rio_machine.specs.{State.{NameAndCycle, State, Tree, names_item, names_tree}, declared.command.Command.TheVariants.{Delete}}
use Rattle.rio_machine.specs.declared.refusal.Refusal.TheVariants.{NoSuchName, NoSuchCycle}
use Rattle.rio_step.proofs.{ApartLaws.{cycle_object, none_at, not_refused}, StepLaws.{step_accepted}}
use Rattle.rio_step.specs.Laws.{AreNamesApart, DeletesTakeOne, HasOneLess, HasOneTreeLess}
use Rattle.rio_step.specs.Refusing.{FullMark, has_cycle, lacks_cycle, lacks_name, refusal_of, refusals}

-- ---- maps without a key

object_gone : (m : State) (item : NameAndCycle) → get (remove m.objects item) item ≡ None
object_gone m item = get-remove items_total m.objects item item ∙ ap (λ b. cond b None (get m.objects item)) ((eq_by_cmp_equiv items_total).refl item)

other_objects : (m : State) (item other : NameAndCycle) → other ≢ item → get (remove m.objects item) other ≡ get m.objects other
other_objects m item other apart =
    get-remove items_total m.objects item other
    ∙ ap (λ b. cond b None (get m.objects other)) (false_from_ne_true _ (λ e. apart (tells_apart items_tie other item e)))

tree_gone : (m : State) (name : List ℕ) → get (remove m.trees name) name ≡ None
tree_gone m name = get-remove names_total m.trees name name ∙ ap (λ b. cond b None (get m.trees name)) ((eq_by_cmp_equiv names_total).refl name)

other_trees : (m : State) (name other : List ℕ) → other ≢ name → get (remove m.trees name) other ≡ get m.trees other
other_trees m name other apart =
    get-remove names_total m.trees name other
    ∙ ap (λ b. cond b None (get m.trees other)) (false_from_ne_true _ (λ e. apart (tells_apart names_tie other name e)))

-- ---- what is there

both_parts : (a b : Bool) → (a && b) ≡ false → a ≡ true → b ≡ false
both_parts true b e h = e
both_parts false b e h = absurd cc

or_left : (a b : Bool) → (a || b) ≡ true → b ≡ false → a ≡ true
or_left true b e h = refl
or_left false b e h = absurd (let k = sym e ∙ h in cc)

or_right : (a b : Bool) → (a || b) ≡ true → a ≡ false → b ≡ true
or_right true b e h = absurd cc
or_right false b e h = e

tree_has_cycle : (t : Option Tree) (cycle : ℕ) → option_map_or (λ t. t.cycle == cycle) t false ≡ true → IsSomeAnd t (λ t. t.cycle ≡ cycle)
tree_has_cycle None cycle e = absurd cc
tree_has_cycle (Some t) cycle e = eqb-true t.cycle cycle e

no_tree_passes : (t : Option Tree) (cycle : ℕ) → is_some t ≡ false → option_map_or (λ t. t.cycle == cycle) t false ≡ false
no_tree_passes None cycle e = refl
no_tree_passes (Some t) cycle e = absurd cc

-- the cycle that is named is there
cycle_there : (m : State) (name : List ℕ) (cycle : ℕ) (mark : Option FullMark) → refusal_of m (Delete name cycle) mark ≡ None → has_cycle m name cycle ≡ true
unfolding refusal_of
cycle_there m name cycle mark e =
    let named = not-false (names_item m name) (not_refused (lacks_name m (Delete name cycle)) NoSuchName (none_at (refusals m (Delete name cycle) mark) 2 e)) in
    not-false (has_cycle m name cycle) (both_parts (names_item m name) _ (not_refused (lacks_cycle m (Delete name cycle)) NoSuchCycle (none_at (refusals m (Delete name cycle) mark) 3 e)) named)

-- ---- deletes

one_less : (m : State) (name : List ℕ) (cycle : ℕ) → AreNamesApart m → has_cycle m name cycle ≡ true → (b : Bool) → names_tree m name ≡ b
    → HasOneLess m (cond b (record m { trees = remove m.trees name }) (record m { objects = remove m.objects (name, cycle) })) (name, cycle)
    ⊎ HasOneTreeLess m (cond b (record m { trees = remove m.trees name }) (record m { objects = remove m.objects (name, cycle) })) name cycle
one_less m name cycle apart there true is =
    let no_object : contains_key m.objects (name, cycle) ≡ false = false_from_ne_true _ (λ e. let h = sym (apart name (cycle_object name m cycle e)) ∙ is in absurd cc) in
    inr (record {
      classes = refl;
      objects = refl;
      there = tree_has_cycle (get m.trees name) cycle (or_right _ _ there no_object);
      tree = tree_gone m name;
      others = other_trees m name;
    })
one_less m name cycle apart there false is =
    inl (record {
      classes = refl;
      trees = refl;
      there = or_left _ _ there (no_tree_passes (get m.trees name) cycle is);
      object = object_gone m (name, cycle);
      others = other_objects m (name, cycle);
    })

pub deletes_take_one : DeletesTakeOne
deletes_take_one m name cycle mark apart e =
    subst (λ (n : State). HasOneLess m n (name, cycle) ⊎ HasOneTreeLess m n name cycle) (sym (step_accepted m (Delete name cycle) mark e))
    (one_less m name cycle apart (cycle_there m name cycle mark e) (names_tree m name) refl)

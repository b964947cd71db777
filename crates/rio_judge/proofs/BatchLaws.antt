-- A batch is refused by the lowest refusal of its puts, and if none is refused, each does what the state's step does.
use Rattle.std.proofs.Common.{◌≡◌, ◌∙◌, ℕ, ◌+◌, List, [], ◌∷◌, ◌++◌, length, Bool, true, false, ◌||◌, Option, Some, None, Ok, Err, refl, sym, ap, subst, arith}
use Rattle.std.proofs.lemmas.Bool.{ltb-false, or_from, or_parts}
use Rattle.std.specs.{List.{list_any}, Prelude.{is_some, nat_lt, not}}
use Rattle.rio_key.specs.declared.head.KeyHead.{KeyHead}
use Rattle.rio_format.specs.declared.class.ClassDef.{ClassDef}
use Rattle.rio_tree_table.specs.{Table.{tree_of}, declared.table.KeptTree.{KeptTree}}
use Rattle.rio_machine.specs.{Limits.{batch_limit, cycle_limit, has_long_list, is_too_deep, is_too_long, item_limit, lacks_items}, State.{State, names_tree, next_cycle}}
use Rattle.rio_machine.specs.declared.{command.Command.TheVariants.{Batch}, command.PutItem.{PutItem}, refusal.Refusal.{Refusal, TheVariants.{TooMany}}}
use Rattle.rio_step.specs.{KeptItems.{AreItemsOfState}, Step.{with_object}}
use Rattle.rio_step.specs.Refusing.{first_of, is_fit, is_list_name, items_put, object_length, put_value, refusal_of, refused_if, times_put, value_lacks_class}
use Rattle.rio_step.proofs.BatchLaws.{Counts, counts_more}
use Rattle.rio_judge.specs.{Judging.{AreSteps, CanAllBePut, CanEachBePut}, Lowest.{IsFound, lowest_of}, Stops.{GoesByState, has_many_puts, lower, object_tests}}
use Rattle.rio_judge.specs.declared.{batch.Found.{Found}, stop.Stop.TheVariants.{Refused}, work.StoredObject.{StoredObject}, work.Work.TheVariants.{Batch as StoringAll}}
use Rattle.rio_judge.proofs.{ItemsOfState.{count_is}, LowestLaws.{either_tests, none_parts}, PutLaws.{step_behind}, PutTests.{by_tests, no_tree_named, object_refusal}}

-- ---- why it is refused

only_last : (b : Bool) → by_tests false false false false false false false b ≡ refused_if b TooMany
only_last true = refl
only_last false = refl

-- the refusal of puts behind these, by a state
abbrev puts_refusal : State → List PutItem → List PutItem → Option Refusal
puts_refusal m before puts =
    by_tests (list_any (λ p. is_list_name p.name) puts) (list_any (λ p. names_tree m p.name) puts) (list_any (λ p. value_lacks_class m p.value) puts)
    (list_any (λ p. not (is_fit m.classes (put_value m p.value))) puts) (list_any (λ item. nat_lt cycle_limit item.1) (items_put m before puts))
    (list_any (λ p. is_too_long (object_length m.classes p.name (put_value m p.value))) puts) (list_any (λ p. is_too_deep (put_value m p.value)) puts)
    (list_any (λ p. has_long_list (put_value m p.value)) puts)

batch_is : (m : State) (puts : List PutItem) → refusal_of m (Batch puts) None
    ≡ by_tests (list_any (λ p. is_list_name p.name) puts) (list_any (λ p. names_tree m p.name) puts) (list_any (λ p. value_lacks_class m p.value) puts)
    (list_any (λ p. not (is_fit m.classes (put_value m p.value))) puts) (list_any (λ item. nat_lt cycle_limit item.1) (items_put m [] puts))
    (list_any (λ p. is_too_long (object_length m.classes p.name (put_value m p.value))) puts) (list_any (λ p. is_too_deep (put_value m p.value)) puts)
    ((nat_lt batch_limit (length puts) || lacks_items m (length puts)) || list_any (λ p. has_long_list (put_value m p.value)) puts)
unfolding refusal_of
batch_is m puts = refl

module _ (heads : List KeyHead) (trees : List KeptTree) (m : State) (are : AreItemsOfState heads trees m) where
  all_lowest : (before puts : List PutItem) → puts_refusal m before puts ≡ lowest_of m.classes heads trees before puts
  all_lowest before [] = refl
  all_lowest before (p ∷ ps) =
      let first = object_refusal heads trees m p.name p.value (times_put p.name before) are in
      let rest = all_lowest (before ++ p ∷ []) ps in
      either_tests (is_list_name p.name) (names_tree m p.name) (value_lacks_class m p.value) (not (is_fit m.classes (put_value m p.value))) (nat_lt cycle_limit (next_cycle m p.name + times_put p.name before))
      (is_too_long (object_length m.classes p.name (put_value m p.value))) (is_too_deep (put_value m p.value)) (has_long_list (put_value m p.value))
      (list_any (λ p. is_list_name p.name) ps) (list_any (λ p. names_tree m p.name) ps) (list_any (λ p. value_lacks_class m p.value) ps)
      (list_any (λ p. not (is_fit m.classes (put_value m p.value))) ps) (list_any (λ item. nat_lt cycle_limit item.1) (items_put m (before ++ p ∷ []) ps))
      (list_any (λ p. is_too_long (object_length m.classes p.name (put_value m p.value))) ps) (list_any (λ p. is_too_deep (put_value m p.value)) ps)
      (list_any (λ p. has_long_list (put_value m p.value)) ps)
      ∙ (λ i. lower (first i) (rest i))

  pub batch_refusal : (puts : List PutItem) → refusal_of m (Batch puts) None ≡ lower (refused_if (has_many_puts heads (length puts)) TooMany) (lowest_of m.classes heads trees [] puts)
  batch_refusal puts =
      let many : Bool = nat_lt batch_limit (length puts) || lacks_items m (length puts) in
      let count = count_is heads trees m are in
      let counted : many ≡ has_many_puts heads (length puts) = ap (λ (n : ℕ). nat_lt batch_limit (length puts) || nat_lt item_limit (n + length puts)) count in
      let front = only_last many ∙ ap (λ (b : Bool). refused_if b TooMany) counted in
      let lowest = all_lowest [] puts in
      batch_is m puts
      ∙ either_tests false false false false false false false many
      (list_any (λ p. is_list_name p.name) puts) (list_any (λ p. names_tree m p.name) puts) (list_any (λ p. value_lacks_class m p.value) puts)
      (list_any (λ p. not (is_fit m.classes (put_value m p.value))) puts) (list_any (λ item. nat_lt cycle_limit item.1) (items_put m [] puts))
      (list_any (λ p. is_too_long (object_length m.classes p.name (put_value m p.value))) puts) (list_any (λ p. is_too_deep (put_value m p.value)) puts)
      (list_any (λ p. has_long_list (put_value m p.value)) puts)
      ∙ (λ i. lower (front i) (lowest i))

  -- ---- what it does

  abbrev tests_of : List PutItem → PutItem → Option Refusal
  tests_of before p = first_of (object_tests m.classes heads trees p.name p.value (times_put p.name before))

  -- each put does what the step does, in the state behind those before it
  steps : (before puts : List PutItem) (os : List StoredObject) (n : State) → Counts m before n → n.classes ≡ m.classes
      → lowest_of m.classes heads trees before puts ≡ None → CanEachBePut m.classes heads before puts os → AreSteps n puts os
  steps before [] [] n counts same none each = tt
  steps before [] (o ∷ os) n counts same none each = absurd each
  steps before (p ∷ ps) [] n counts same none each = absurd each
  steps before (p ∷ ps) (o ∷ os) n counts same none each =
      let times = times_put p.name before in
      let parts = none_parts (tests_of before p) (lowest_of m.classes heads trees (before ++ p ∷ []) ps) none in
      let apart : tree_of o.name trees ≡ None = ap (λ (name : List ℕ). tree_of name trees) each.0 ∙ no_tree_named m.classes heads trees p.name p.value times parts.0 in
      let counted : next_cycle n o.name ≡ next_cycle m o.name + times = subst (λ (name : List ℕ). next_cycle n name ≡ next_cycle m name + times) (sym each.0) (counts p.name) in (
        each.0,
        step_behind heads trees m n times p.value o are apart same counted each.1,
        steps (before ++ p ∷ []) ps os (with_object n p.name p.value) (counts_more m n before p counts) same parts.1 each.2,
      )

-- no tree has one of the names
untreed : (classes : List ClassDef) (heads : List KeyHead) (trees : List KeptTree) (before puts : List PutItem) → lowest_of classes heads trees before puts ≡ None
    → list_any (λ p. is_some (tree_of p.name trees)) puts ≡ false
untreed classes heads trees before [] none = refl
untreed classes heads trees before (p ∷ ps) none =
    let times = times_put p.name before in
    let parts = none_parts (first_of (object_tests classes heads trees p.name p.value times)) (lowest_of classes heads trees (before ++ p ∷ []) ps) none in
    or_from _ _ (ap is_some (no_tree_named classes heads trees p.name p.value times parts.0)) (untreed classes heads trees (before ++ p ∷ []) ps parts.1)

-- ---- what was found

not_refused : (b : Bool) (r : Refusal) → refused_if b r ≡ None → b ≡ false
not_refused true r e = absurd cc
not_refused false r e = refl

module _ (classes : List ClassDef) (heads : List KeyHead) (trees : List KeptTree) (puts : List PutItem) (found : Found) (f : IsFound classes heads trees puts found) where
  refusal_found : (m : State) → m.classes ≡ classes → AreItemsOfState heads trees m → refusal_of m (Batch puts) None ≡ found.lowest
  refusal_found m same are =
      batch_refusal heads trees m are puts
      ∙ ap (λ (cs : List ClassDef). lower (refused_if (has_many_puts heads (length puts)) TooMany) (lowest_of cs heads trees [] puts)) same
      ∙ sym f.lowest

  pub batch_stops : (refusal : Refusal) → found.lowest ≡ Some refusal → (m : State) → m.classes ≡ classes → AreItemsOfState heads trees m → GoesByState m (Batch puts) (Err (Refused refusal))
  batch_stops refusal is m same are = refusal_found m same are ∙ is

  module _ (none : found.lowest ≡ None) where
    abbrev many_refused : Option Refusal
    many_refused = refused_if (has_many_puts heads (length puts)) TooMany

    parts_none : (many_refused ≡ None) × (lowest_of classes heads trees [] puts ≡ None)
    parts_none = none_parts many_refused (lowest_of classes heads trees [] puts) (sym f.lowest ∙ none)

    pub batch_goes : (m : State) → m.classes ≡ classes → AreItemsOfState heads trees m → GoesByState m (Batch puts) (Ok (StoringAll found.objects))
    batch_goes m same are =
        let lowest : lowest_of m.classes heads trees [] puts ≡ None = ap (λ (cs : List ClassDef). lowest_of cs heads trees [] puts) same ∙ parts_none.1 in
        let each : CanEachBePut m.classes heads [] puts found.objects = subst (λ (cs : List ClassDef). CanEachBePut cs heads [] puts found.objects) (sym same) (f.objects none) in
        (refusal_found m same are ∙ none, steps heads trees m are [] puts found.objects m (λ name. omega arith) refl lowest each)

    pub batch_can : CanAllBePut classes heads puts found.objects
    batch_can =
        let many = or_parts (nat_lt batch_limit (length puts)) (nat_lt item_limit (length heads + length puts)) (not_refused (has_many_puts heads (length puts)) TooMany parts_none.0) in
        record {
          each = f.objects none;
          few = ltb-false _ _ many.0;
          room = ltb-false _ _ many.1;
        }

    pub batch_untreed : list_any (λ p. is_some (tree_of p.name trees)) puts ≡ false
    batch_untreed = untreed classes heads trees [] puts parts_none.1

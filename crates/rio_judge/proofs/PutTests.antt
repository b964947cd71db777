-- The tests that can refuse the object of a put, by the classes, the keys and the trees.
use Rattle.std.proofs.Common.{◌≡◌, ℕ, ◌+◌, ◌∙◌, List, [], ◌∷◌, ◌++◌, length, Bool, true, false, ◌||◌, not, Option, Some, None, Result, Err, refl, sym, ap, subst, arith}
use Rattle.std.specs.{Prelude.{is_some, nat_le, nat_lt, unwrap_or}, Option.{option_or}}
use Rattle.rio_key.specs.declared.head.KeyHead.{KeyHead}
use Rattle.rio_dir.specs.Table.{greatest_cycle}
use Rattle.rio_format.specs.{declared.class.ClassDef.{ClassDef}, declared.value.Value.{Value}}
use Rattle.rio_model.specs.Resolving.{resolved}
use Rattle.rio_machine.specs.Limits.{cycle_limit, data_length, has_all_items, has_long_list, is_too_deep, is_too_long, item_limit}
use Rattle.rio_machine.specs.{State.{State, names_tree, next_cycle}, declared.command.Command.TheVariants.{Put}}
use Rattle.rio_machine.specs.declared.refusal.Refusal.{Refusal, TheVariants.{BadName, NameIsTree, NoSuchClass, DoesNotFit, CycleLimit, TooLarge, TooDeep, TooMany}}
use Rattle.rio_tree_table.specs.{Table.{tree_of}, declared.table.KeptTree.{KeptTree}}
use Rattle.rio_step.specs.KeptItems.{AreItemsOfState}
use Rattle.rio_step.specs.Refusing.{first_of, is_fit, is_kept_out, is_list_name, object_class, object_length, put_value, refusal_of, refused_if, value_lacks_class}
use Rattle.rio_judge.specs.{Stops.{GoesByTests, StopsAt, object_tests, tests_of_stored}, declared.stop.Stop.{Stop}}
use Rattle.rio_judge.proofs.{ItemsOfState.{count_is, names_objects, tree_is}, TestsInOrder.{none_behind, one_by_one, stops_behind, stops_in_front}}

abbrev pub name_tests : List ℕ → List (Option Refusal)
name_tests name = refused_if (is_list_name name) BadName ∷ []

abbrev pub tree_tests : List KeptTree → List ℕ → List (Option Refusal)
tree_tests trees name = refused_if (is_some (tree_of name trees)) NameIsTree ∷ []

abbrev pub class_tests : List ClassDef → Value → List (Option Refusal)
class_tests classes v = refused_if (not (is_some (resolved classes v))) NoSuchClass ∷ []

abbrev pub fit_tests : List ClassDef → Value → List (Option Refusal)
fit_tests classes stored = refused_if (is_kept_out classes stored) NoSuchClass ∷ refused_if (not (is_fit classes stored)) DoesNotFit ∷ []

abbrev pub cycle_tests : List KeyHead → List ℕ → ℕ → List (Option Refusal)
cycle_tests heads name before = refused_if (nat_lt cycle_limit (greatest_cycle name heads + 1 + before)) CycleLimit ∷ []

abbrev pub length_tests : List ClassDef → List ℕ → Value → List (Option Refusal)
length_tests classes name stored = refused_if (is_too_long (object_length classes name stored)) TooLarge ∷ []

-- those of the length, where the class of the object is this one
abbrev pub own_length_tests : List ClassDef → List ℕ → List ℕ → Value → List (Option Refusal)
own_length_tests classes own name stored = refused_if (is_too_long (data_length classes own name stored)) TooLarge ∷ []

abbrev pub count_tests : Value → List (Option Refusal)
count_tests stored = refused_if (is_too_deep stored) TooDeep ∷ refused_if (has_long_list stored) TooMany ∷ []

-- whether there is room for an item more
abbrev pub item_tests : List KeyHead → List (Option Refusal)
item_tests heads = refused_if (nat_le item_limit (length heads)) TooMany ∷ []

second_none : (b : Bool) (one : Refusal) (o : Option KeptTree) (rest : Option Refusal) → option_or (refused_if b one) (option_or (refused_if (is_some o) NameIsTree) rest) ≡ None → o ≡ None
second_none true one o rest e = absurd cc
second_none false one None rest e = refl
second_none false one (Some t) rest e = absurd cc

module _ (classes : List ClassDef) (heads : List KeyHead) (trees : List KeptTree) (name : List ℕ) (v : Value) (before : ℕ) where
  abbrev behind_cycle : Value → List (Option Refusal)
  behind_cycle stored = length_tests classes name stored ++ count_tests stored

  abbrev behind_fit : Value → List (Option Refusal)
  behind_fit stored = cycle_tests heads name before ++ behind_cycle stored

  abbrev behind_known : Value → List (Option Refusal)
  behind_known stored = fit_tests classes stored ++ behind_fit stored

  abbrev behind_tree : Value → List (Option Refusal)
  behind_tree stored = class_tests classes v ++ behind_known stored

  abbrev behind_name : Value → List (Option Refusal)
  behind_name stored = tree_tests trees name ++ behind_tree stored

  -- ---- where it stops

  -- it stops so
  abbrev pub PutStops : Stop → Type 0
  PutStops stop = StopsAt (first_of (object_tests classes heads trees name v before)) stop

  module _ (stop : Stop) where
    stops : (stored : Value) → unwrap_or (resolved classes v) v ≡ stored → StopsAt (first_of (tests_of_stored classes heads trees name v before stored)) stop → PutStops stop
    stops stored is told = subst (λ (w : Value). StopsAt (first_of (tests_of_stored classes heads trees name v before w)) stop) (sym is) told

    pub stops_at_name : StopsAt (first_of (name_tests name)) stop → PutStops stop
    stops_at_name told =
        let stored : Value = unwrap_or (resolved classes v) v in
        stops stored refl (stops_in_front (name_tests name) (behind_name stored) stop told)

    module _ (named : first_of (name_tests name) ≡ None) where
      stops_named : (stored : Value) → unwrap_or (resolved classes v) v ≡ stored → StopsAt (first_of (behind_name stored)) stop → PutStops stop
      stops_named stored is told = stops stored is (stops_behind (name_tests name) (behind_name stored) stop named told)

      pub stops_at_tree : StopsAt (first_of (tree_tests trees name)) stop → PutStops stop
      stops_at_tree told =
          let stored : Value = unwrap_or (resolved classes v) v in
          stops_named stored refl (stops_in_front (tree_tests trees name) (behind_tree stored) stop told)

      module _ (apart : first_of (tree_tests trees name) ≡ None) where
        pub stops_at_class : StopsAt (first_of (class_tests classes v)) stop → PutStops stop
        stops_at_class told =
            let stored : Value = unwrap_or (resolved classes v) v in
            stops_named stored refl
            (stops_behind (tree_tests trees name) (behind_tree stored) stop apart
            (stops_in_front (class_tests classes v) (behind_known stored) stop told))

        module _ (stored : Value) (known : resolved classes v ≡ Some stored) where
          stops_known : StopsAt (first_of (behind_known stored)) stop → PutStops stop
          stops_known told =
              let tested : first_of (class_tests classes v) ≡ None = ap (λ o. first_of (refused_if (not (is_some o)) NoSuchClass ∷ [])) known in
              stops_named stored (ap (λ o. unwrap_or o v) known)
              (stops_behind (tree_tests trees name) (behind_tree stored) stop apart
              (stops_behind (class_tests classes v) (behind_known stored) stop tested told))

          pub stops_at_fit : StopsAt (first_of (fit_tests classes stored)) stop → PutStops stop
          stops_at_fit told = stops_known (stops_in_front (fit_tests classes stored) (behind_fit stored) stop told)

          module _ (fitting : first_of (fit_tests classes stored) ≡ None) where
            stops_fitting : StopsAt (first_of (behind_fit stored)) stop → PutStops stop
            stops_fitting told = stops_known (stops_behind (fit_tests classes stored) (behind_fit stored) stop fitting told)

            pub stops_at_cycle : StopsAt (first_of (cycle_tests heads name before)) stop → PutStops stop
            stops_at_cycle told = stops_fitting (stops_in_front (cycle_tests heads name before) (behind_cycle stored) stop told)

            module _ (numbered : first_of (cycle_tests heads name before) ≡ None) (own : List ℕ) (class : object_class stored ≡ Some own) where
              same_length : first_of (length_tests classes name stored) ≡ first_of (own_length_tests classes own name stored)
              same_length = ap (λ (o : Option (List ℕ)). first_of (own_length_tests classes (unwrap_or o []) name stored)) class

              pub stops_at_length : StopsAt (first_of (own_length_tests classes own name stored)) stop → PutStops stop
              stops_at_length told =
                  stops_fitting
                  (stops_behind (cycle_tests heads name before) (behind_cycle stored) stop numbered
                  (stops_in_front (length_tests classes name stored) (count_tests stored) stop
                  (subst (λ (first : Option Refusal). StopsAt first stop) (sym same_length) told)))

              pub stops_at_counts : first_of (own_length_tests classes own name stored) ≡ None → StopsAt (first_of (count_tests stored)) stop → PutStops stop
              stops_at_counts short told =
                  stops_fitting
                  (stops_behind (cycle_tests heads name before) (behind_cycle stored) stop numbered
                  (stops_behind (length_tests classes name stored) (count_tests stored) stop (same_length ∙ short) told))

  -- no test stops it
  pub passes_all : (stored : Value) (own : List ℕ) → resolved classes v ≡ Some stored → object_class stored ≡ Some own
      → first_of (name_tests name) ≡ None → first_of (tree_tests trees name) ≡ None → first_of (fit_tests classes stored) ≡ None
      → first_of (cycle_tests heads name before) ≡ None → first_of (own_length_tests classes own name stored) ≡ None → first_of (count_tests stored) ≡ None
      → first_of (object_tests classes heads trees name v before) ≡ None
  passes_all stored own known class named apart fitting numbered short counted =
      let tested : first_of (class_tests classes v) ≡ None = ap (λ o. first_of (refused_if (not (is_some o)) NoSuchClass ∷ [])) known in
      let short_enough : first_of (length_tests classes name stored) ≡ None =
      ap (λ (o : Option (List ℕ)). first_of (own_length_tests classes (unwrap_or o []) name stored)) class ∙ short in
      let after_fit = none_behind (cycle_tests heads name before) (behind_cycle stored) numbered (none_behind (length_tests classes name stored) (count_tests stored) short_enough counted) in
      let after_tree = none_behind (class_tests classes v) (behind_known stored) tested (none_behind (fit_tests classes stored) (behind_fit stored) fitting after_fit) in
      ap (λ (o : Option Value). first_of (tests_of_stored classes heads trees name v before (unwrap_or o v))) known
      ∙ none_behind (name_tests name) (behind_name stored) named (none_behind (tree_tests trees name) (behind_tree stored) apart after_tree)

  -- then no tree has the name
  pub no_tree_named : first_of (object_tests classes heads trees name v before) ≡ None → tree_of name trees ≡ None
  no_tree_named passed = second_none (is_list_name name) BadName (tree_of name trees) (first_of (behind_tree (unwrap_or (resolved classes v) v))) passed

  -- what is returned is where it stopped
  pub stopped : {A : Type 0} (r : Result A Stop) (d stop : Stop) → r ≡ Err d → d ≡ stop → PutStops stop → GoesByTests (object_tests classes heads trees name v before) r
  stopped {A} r d stop is same goes = subst (λ (x : Result A Stop). GoesByTests (object_tests classes heads trees name v before) x) (sym (is ∙ ap (λ x. Err x) same)) goes

-- ---- by a state

-- the first refusal of an object, by its tests
abbrev pub by_tests : Bool → Bool → Bool → Bool → Bool → Bool → Bool → Bool → Option Refusal
by_tests named tree class unfit cycle large deep many =
    first_of
    (refused_if named BadName
    ∷ refused_if tree NameIsTree
    ∷ refused_if class NoSuchClass
    ∷ refused_if unfit DoesNotFit
    ∷ refused_if cycle CycleLimit
    ∷ refused_if large TooLarge
    ∷ refused_if deep TooDeep
    ∷ refused_if many TooMany
    ∷ [])

-- of one behind so many puts of its name
abbrev pub object_refusal_of : State → List ℕ → Value → ℕ → Option Refusal
object_refusal_of m name v before =
    let stored = put_value m v in
    by_tests (is_list_name name) (names_tree m name) (value_lacks_class m v) (not (is_fit m.classes stored)) (nat_lt cycle_limit (next_cycle m name + before))
    (is_too_long (object_length m.classes name stored)) (is_too_deep stored) (has_long_list stored)

-- the tests behind those of the classes, where the name gets this cycle
abbrev behind_class : List ClassDef → List ℕ → Value → ℕ → Option Refusal
behind_class classes name stored cycle =
    option_or (refused_if (not (is_fit classes stored)) DoesNotFit)
    (option_or (refused_if (nat_lt cycle_limit cycle) CycleLimit)
    (option_or (refused_if (is_too_long (object_length classes name stored)) TooLarge)
    (option_or (refused_if (is_too_deep stored) TooDeep)
    (option_or (refused_if (has_long_list stored) TooMany) None))))

-- all of them, where it is known whether the name is a tree's
abbrev whole : List ClassDef → List ℕ → Value → Value → Bool → ℕ → Option Refusal
whole classes name v stored tree cycle =
    option_or (refused_if (is_list_name name) BadName)
    (option_or (refused_if tree NameIsTree)
    (option_or (refused_if (not (is_some (resolved classes v)) || is_kept_out classes stored) NoSuchClass)
    (behind_class classes name stored cycle)))

-- all of them, where the name is that of this tree or of none
abbrev told_by_tree : List ClassDef → List KeyHead → List KeptTree → List ℕ → Value → ℕ → Value → Option KeptTree → Option Refusal
told_by_tree classes heads trees name v before stored o =
    option_or (refused_if (is_list_name name) BadName) (option_or (refused_if (is_some o) NameIsTree) (first_of (behind_tree classes heads trees name v before stored)))

-- they are the state's
pub object_refusal : (heads : List KeyHead) (trees : List KeptTree) (m : State) (name : List ℕ) (v : Value) (before : ℕ) → AreItemsOfState heads trees m
    → object_refusal_of m name v before ≡ first_of (object_tests m.classes heads trees name v before)
object_refusal heads trees m name v before are = by (tree_of name trees) refl
  where
    by : (o : Option KeptTree) → tree_of name trees ≡ o → object_refusal_of m name v before ≡ first_of (object_tests m.classes heads trees name v before)
    by (Some t) is =
        let tree : names_tree m name ≡ true = tree_is heads trees m are name ∙ ap is_some is in
        (λ i. whole m.classes name v (put_value m v) (tree i) (next_cycle m name + before))
        ∙ ap (told_by_tree m.classes heads trees name v before (put_value m v)) (sym is)
    by None is =
        let stored : Value = put_value m v in
        let tree : names_tree m name ≡ false = tree_is heads trees m are name ∙ ap is_some is in
        let cycle = (names_objects heads trees m are name is).last in
        let known : ◌≡◌ {A = Option Refusal} (object_refusal_of m name v before) (whole m.classes name v stored false (greatest_cycle name heads + 1 + before)) =
        λ i. whole m.classes name v stored (tree i) (cycle i + 1 + before) in
        known
        ∙ ap (option_or (refused_if (is_list_name name) BadName)) (one_by_one (not (is_some (resolved m.classes v))) (is_kept_out m.classes stored) NoSuchClass (behind_class m.classes name stored (greatest_cycle name heads + 1 + before)))
        ∙ ap (told_by_tree m.classes heads trees name v before stored) (sym is)

-- ---- a put

-- the tests before that of too many, by a state
abbrev front_tests : State → List ℕ → Value → List (Option Refusal)
front_tests m name v =
    let stored = put_value m v in
    refused_if (is_list_name name) BadName
    ∷ refused_if (names_tree m name) NameIsTree
    ∷ refused_if (value_lacks_class m v) NoSuchClass
    ∷ refused_if (not (is_fit m.classes stored)) DoesNotFit
    ∷ refused_if (nat_lt cycle_limit (next_cycle m name)) CycleLimit
    ∷ refused_if (is_too_long (object_length m.classes name stored)) TooLarge
    ∷ refused_if (is_too_deep stored) TooDeep
    ∷ []

put_is : (m : State) (name : List ℕ) (v : Value)
    → refusal_of m (Put name v) None ≡ first_of (front_tests m name v ++ refused_if (has_long_list (put_value m v) || has_all_items m) TooMany ∷ [])
unfolding refusal_of
put_is m name v = refl

-- a test of two things at the end
last_apart : (xs : List (Option Refusal)) (a b : Bool) (refusal : Refusal)
    → first_of (xs ++ refused_if (a || b) refusal ∷ []) ≡ option_or (first_of (xs ++ refused_if a refusal ∷ [])) (first_of (refused_if b refusal ∷ []))
last_apart [] a b refusal = one_by_one a b refusal None ∙ by (refused_if a refusal) (first_of (refused_if b refusal ∷ []))
  where
    by : (x y : Option Refusal) → option_or x y ≡ option_or (option_or x None) y
    by None y = refl
    by (Some x) y = refl
last_apart (None ∷ xs) a b refusal = last_apart xs a b refusal
last_apart (Some x ∷ xs) a b refusal = refl

-- the object is refused, or it is one item too many
pub put_refusal : (heads : List KeyHead) (trees : List KeptTree) (m : State) (name : List ℕ) (v : Value) → AreItemsOfState heads trees m
    → refusal_of m (Put name v) None ≡ option_or (first_of (object_tests m.classes heads trees name v 0)) (first_of (item_tests heads))
put_refusal heads trees m name v are =
    let same : next_cycle m name ≡ next_cycle m name + 0 = omega arith in
    let count = count_is heads trees m are in
    put_is m name v
    ∙ last_apart (front_tests m name v) (has_long_list (put_value m v)) (has_all_items m) TooMany
    ∙ (λ i. option_or (front_by (same i)) (first_of (refused_if (nat_le item_limit (count i)) TooMany ∷ [])))
    ∙ ap (λ (o : Option Refusal). option_or o (first_of (item_tests heads))) (object_refusal heads trees m name v 0 are)
  where
    front_by : ℕ → Option Refusal
    front_by cycle =
        let stored = put_value m v in
        by_tests (is_list_name name) (names_tree m name) (value_lacks_class m v) (not (is_fit m.classes stored)) (nat_lt cycle_limit cycle)
        (is_too_long (object_length m.classes name stored)) (is_too_deep stored) (has_long_list stored)

-- A put that passes all tests can be done, and does what the state's step does.
use Rattle.std.proofs.Common.{◌≡◌, ℕ, ◌+◌, ◌∙◌, List, [], length, leb, not, Option, None, Some, Result, Ok, Err, refl, sym, ap, subst, arith}
use Rattle.std.proofs.lemmas.Bool.{leb-false, ltb-false, not-false}
use Rattle.std.specs.{Prelude.{unwrap_or}, Option.{option_or}}
use Rattle.rio_key.specs.declared.head.KeyHead.{KeyHead}
use Rattle.rio_dir.specs.Table.{greatest_cycle, head_of}
use Rattle.rio_format.specs.{declared.class.ClassDef.{ClassDef}, declared.value.Value.{Value}, Written.{written_form}}
use Rattle.rio_model.specs.Resolving.{resolved}
use Rattle.rio_machine.specs.{Limits.{data_length, has_long_list, is_too_deep, is_too_long, item_limit}, State.{State, next_cycle}}
use Rattle.rio_machine.specs.declared.command.Command.TheVariants.{Put}
use Rattle.rio_machine.specs.declared.refusal.Refusal.{Refusal, TheVariants.{BadName, NoSuchClass, DoesNotFit, CycleLimit, TooLarge, TooDeep, TooMany}}
use Rattle.rio_tree_table.specs.{Table.{tree_of}, declared.table.KeptTree.{KeptTree}}
use Rattle.rio_step.specs.{KeptItems.{AreItemsOfState}, Refusing.{first_of, is_fit, is_kept_out, is_list_name, object_class, refusal_of}}
use Rattle.rio_judge.specs.Judging.{CanBePut, CanBeStored, IsStep}
use Rattle.rio_judge.specs.{Stops.{GoesByState, StopsAt, object_tests}, declared.stop.Stop.{Stop}, declared.work.{StoredObject.{StoredObject}, Work.{Work, TheVariants.{Put as Storing}}}}
use Rattle.rio_judge.proofs.{ItemsOfState.{names_objects}, KeysOfState.{next_is_new}}
use Rattle.rio_judge.proofs.PutTests.{count_tests, cycle_tests, fit_tests, item_tests, name_tests, own_length_tests, put_refusal}
use Rattle.rio_judge.proofs.TestsInOrder.{passes_one, passes_two, stops_first, stops_then}

-- ---- an object behind so many puts of its name

module _ (classes : List ClassDef) (heads : List KeyHead) (before : ℕ) (v : Value) (o : StoredObject) where
  -- what was found on the way, and that no test stopped
  pub record Passed : Type 0 where
    pub value : resolved classes v ≡ Some o.value
    pub class : object_class o.value ≡ Some o.class
    pub cycle : o.cycle ≡ greatest_cycle o.name heads + 1 + before
    pub written : (start : ℕ) → o.length ≡ length (written_form classes start o.value)
    pub by_name : first_of (name_tests o.name) ≡ None
    pub by_fit : first_of (fit_tests classes o.value) ≡ None
    pub by_cycle : first_of (cycle_tests heads o.name before) ≡ None
    pub by_length : first_of (own_length_tests classes o.class o.name o.value) ≡ None
    pub by_counts : first_of (count_tests o.value) ≡ None

  pub can_be_put : Passed → CanBePut classes heads before v o
  can_be_put p =
      let fit = passes_two (is_kept_out classes o.value) (not (is_fit classes o.value)) NoSuchClass DoesNotFit p.by_fit in
      let below = ltb-false _ _ (passes_one _ CycleLimit p.by_cycle) in
      let counts = passes_two (is_too_deep o.value) (has_long_list o.value) TooDeep TooMany p.by_counts in
      let short = passes_one (is_too_long (data_length classes o.class o.name o.value)) TooLarge p.by_length in
      record {
        value = p.value;
        class = p.class;
        object = record {
          taken = fit.0;
          fit = not-false _ fit.1;
          short = ap (λ c. is_too_long (data_length classes (unwrap_or c []) o.name o.value)) p.class ∙ short;
          shallow = counts.0;
          few = counts.1;
        };
        written = p.written;
        free = passes_one (is_list_name o.name) BadName p.by_name;
        cycle = p.cycle;
        last = omega (arith, below, p.cycle);
      }

-- it is what the step stores, in a state with so many objects more of the name
pub step_behind : (heads : List KeyHead) (trees : List KeptTree) (m n : State) (before : ℕ) (v : Value) (o : StoredObject) → AreItemsOfState heads trees m
    → tree_of o.name trees ≡ None → n.classes ≡ m.classes → next_cycle n o.name ≡ next_cycle m o.name + before → CanBePut m.classes heads before v o → IsStep n v o
step_behind heads trees m n before v o are apart same counted p =
    let last = (names_objects heads trees m are o.name apart).last in
    record {
      value = sym (ap (λ (x : Option Value). unwrap_or x v) p.value) ∙ ap (λ (cs : List ClassDef). unwrap_or (resolved cs v) v) (sym same);
      class = p.class;
      cycle = p.cycle ∙ ap (λ (k : ℕ). k + 1 + before) (sym last) ∙ sym counted;
      written = p.written 0 ∙ ap (λ (cs : List ClassDef). length (written_form cs 0 o.value)) (sym same);
    }

-- ---- a put

-- alone it can be stored, where there is room for one item more
pub can_be_stored : (classes : List ClassDef) (heads : List KeyHead) (v : Value) (o : StoredObject) → CanBePut classes heads 0 v o → first_of (item_tests heads) ≡ None
    → CanBeStored classes heads v o
can_be_stored classes heads v o p room =
    let cycle : o.cycle ≡ greatest_cycle o.name heads + 1 = omega (arith, p.cycle) in
    record {
      value = p.value;
      class = p.class;
      object = p.object;
      written = p.written;
      free = p.free;
      cycle = cycle;
      last = p.last;
      new = ap (λ n. head_of o.name (Some n) heads) cycle ∙ next_is_new o.name heads;
      room = leb-false _ _ (passes_one (leb item_limit (length heads)) TooMany room);
    }

module _ (classes : List ClassDef) (heads : List KeyHead) (trees : List KeptTree) (name : List ℕ) (v : Value) where
  -- for each state that has the classes and for whose items the keys and trees stand
  abbrev pub PutGoes : Result Work Stop → Type 0
  PutGoes r = (m : State) → m.classes ≡ classes → AreItemsOfState heads trees m → GoesByState m (Put name v) r

  abbrev first_refusal : Option Refusal
  first_refusal = option_or (first_of (object_tests classes heads trees name v 0)) (first_of (item_tests heads))

  refusal_is : (m : State) → m.classes ≡ classes → AreItemsOfState heads trees m → refusal_of m (Put name v) None ≡ first_refusal
  refusal_is m same are =
      put_refusal heads trees m name v are ∙ ap (λ (cs : List ClassDef). option_or (first_of (object_tests cs heads trees name v 0)) (first_of (item_tests heads))) same

  module _ (r : Result Work Stop) (d stop : Stop) (is : r ≡ Err d) (goes_on : d ≡ stop) where
    -- what is returned is where it stopped
    put_stopped : StopsAt first_refusal stop → PutGoes r
    put_stopped told m same are =
        subst (λ (x : Result Work Stop). GoesByState m (Put name v) x) (sym (is ∙ ap (λ x. Err x) goes_on))
        (subst (λ (first : Option Refusal). StopsAt first stop) (sym (refusal_is m same are)) told)

    pub stopped_by_object : StopsAt (first_of (object_tests classes heads trees name v 0)) stop → PutGoes r
    stopped_by_object told = put_stopped (stops_first (first_of (object_tests classes heads trees name v 0)) (first_of (item_tests heads)) stop told)

    pub stopped_by_items : first_of (object_tests classes heads trees name v 0) ≡ None → StopsAt (first_of (item_tests heads)) stop → PutGoes r
    stopped_by_items passed told = put_stopped (stops_then (first_of (object_tests classes heads trees name v 0)) (first_of (item_tests heads)) stop passed told)

  -- it does what the step does
  pub put_goes : (o : StoredObject) → o.name ≡ name → tree_of name trees ≡ None → CanBePut classes heads 0 v o
      → first_of (object_tests classes heads trees name v 0) ≡ None → first_of (item_tests heads) ≡ None → PutGoes (Ok (Storing o))
  put_goes o named apart p passed room m same are =
      let none : refusal_of m (Put name v) None ≡ None = refusal_is m same are ∙ ap (λ (x : Option Refusal). option_or x (first_of (item_tests heads))) passed ∙ room in
      let alone = ap (λ n. tree_of n trees) named ∙ apart in
      let counted : next_cycle m o.name ≡ next_cycle m o.name + 0 = omega arith in
      (none, (named, step_behind heads trees m m 0 v o are alone refl counted (subst (λ (cs : List ClassDef). CanBePut cs heads 0 v o) (sym same) p)))

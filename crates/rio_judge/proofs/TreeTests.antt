-- The tests that can refuse to make, fill, save or scan a tree, by the classes, the keys and the trees.
use Rattle.std.proofs.Common.{◌≡◌, ℕ, ◌∙◌, List, [], ◌∷◌, ◌++◌, length, Bool, true, false, ◌||◌, leb, not, Option, Some, None, Result, Ok, Err, refl, sym, ap, subst}
use Rattle.std.proofs.lemmas.Bool.{not-false}
use Rattle.std.specs.{Prelude.{is_some, nat_le, unwrap_or, option_and_then}, FinMap.{get}, List.{list_any}, Option.{option_map_or, option_or}}
use Rattle.rio_num.proofs.Cases.{some_of}
use Rattle.rio_key.specs.declared.head.KeyHead.{KeyHead}
use Rattle.rio_dir.specs.Table.{head_of}
use Rattle.rio_leaf.specs.declared.branch.BranchDef.{BranchDef}
use Rattle.rio_tree_table.specs.{Table.{tree_of}, declared.table.KeptTree.{KeptTree}}
use Rattle.rio_format.specs.{declared.class.Base.{Base}, declared.class.ClassDef.{ClassDef}}
use Rattle.rio_model.specs.{Declaring.{is_declared}, Resolving.{is_known_version, resolved_row}}
use Rattle.rio_machine.specs.{Limits.{cycle_limit, has_many_branches, item_limit}, State.{Row, State, Tree, item_count, names_object, names_tree}}
use Rattle.rio_machine.specs.declared.command.Command.{Command, TheVariants.{Tree as MakeTree, Fill, Save, Scan}}
use Rattle.rio_machine.specs.declared.refusal.Refusal.{Refusal, TheVariants.{BadName, NoSuchName, NotATree, NameInUse, NoSuchClass, BadRow, NoVersion, CycleLimit, TooLarge, TooDeep, TooMany}}
use Rattle.rio_step.specs.KeptItems.{AreItemsOfState}
use Rattle.rio_step.specs.Refusing.{change_in, fill_row, first_of, goes_too_deep, has_too_many, is_at_last_cycle, is_bad_row, is_list_name, is_too_large, kind_change, lacks_class, lacks_version, refusal_of, refused_if, row_seen_by, row_seen_in, rows_of_tree, rows_seen_in}
use Rattle.rio_model.specs.Declaring.{shape_lacks_class}
use Rattle.rio_judge.specs.{Judging.{refused_by_object, refused_by_row}, Stops.{GoesByTree, StopsAt, tree_tests}, Trees.{HasTree, IsTreeKeyOf}, declared.stop.Stop.{Stop}, declared.work.TreeWork.{TreeWork}}
use Rattle.rio_judge.proofs.{ItemsOfState.{count_is, names_objects, names_one_tree, tree_is}, TestsInOrder.{passes_two, same_front, stops_in_front}, TreeFacts.{has_tree, same_cycle}, Unversioned.{none_changed}}

-- ---- the key of a tree

-- the tests that it takes, by the keys and trees
abbrev pub key_tests : List KeyHead → List KeptTree → List ℕ → List (Option Refusal)
key_tests heads trees name = refused_if (not (is_some (head_of name None heads))) NoSuchName ∷ refused_if (not (is_some (tree_of name trees))) NotATree ∷ []

-- the same by the state, and by what has the name; and then others
abbrev named_tests : Bool → Bool → Option Refusal → Option Refusal
named_tests named tree later = option_or (refused_if (not (named || tree)) NoSuchName) (option_or (refused_if named NotATree) later)

abbrev keyed_tests : Bool → Bool → Option Refusal → Option Refusal
keyed_tests key tree later = option_or (refused_if (not key) NoSuchName) (option_or (refused_if (not tree) NotATree) later)

no_tree_tests : (b : Bool) (later : Option Refusal) → named_tests b false later ≡ keyed_tests b false later
no_tree_tests true later = refl
no_tree_tests false later = refl

-- the classes of a row, the cycle of a tree that is saved
abbrev pub known_tests : List ClassDef → Row → List (Option Refusal)
known_tests classes row = refused_if (not (is_some (resolved_row classes row))) NoSuchClass ∷ []

abbrev pub last_tests : ℕ → List (Option Refusal)
last_tests cycle = refused_if (nat_le cycle_limit cycle) CycleLimit ∷ []

-- the class that is asked for is declared, and known in the version
abbrev pub asked_tests : List ClassDef → Option Base → List (Option Refusal)
asked_tests classes class =
    refused_if (option_map_or (λ asked. not (is_declared classes asked.name)) class false) NoSuchClass
    ∷ refused_if (option_map_or (λ asked. not (is_known_version classes asked.name asked.version)) class false) NoVersion
    ∷ []

-- a version that isn't known is told whether before or behind a change of kinds
version_first : (m : State) (name : List ℕ) (class : Option Base)
    → option_or (kind_change m (Scan name class)) (option_or (refused_if (lacks_version m (Scan name class)) NoVersion) None)
    ≡ option_or (refused_if (lacks_version m (Scan name class)) NoVersion) (option_or (kind_change m (Scan name class)) None)
version_first m name None = refl
version_first m name (Some asked) = by (is_known_version m.classes asked.name asked.version) refl
  where
    by : (b : Bool) → is_known_version m.classes asked.name asked.version ≡ b
        → option_or (kind_change m (Scan name (Some asked))) (option_or (refused_if (not (is_known_version m.classes asked.name asked.version)) NoVersion) None)
        ≡ option_or (refused_if (not (is_known_version m.classes asked.name asked.version)) NoVersion) (option_or (kind_change m (Scan name (Some asked))) None)
    by true is =
        ap (λ b. option_or (kind_change m (Scan name (Some asked))) (option_or (refused_if (not b) NoVersion) None)) is
        ∙ sym (ap (λ b. option_or (refused_if (not b) NoVersion) (option_or (kind_change m (Scan name (Some asked))) None)) is)
    by false is =
        let none : kind_change m (Scan name (Some asked)) ≡ None = no_kinds (get m.trees name) is in
        let version = refused_if (not (is_known_version m.classes asked.name asked.version)) NoVersion in
        ap (λ (k : Option Refusal). option_or k (option_or version None)) none ∙ ap (λ (k : Option Refusal). option_or version (option_or k None)) (sym none)
      where
        no_kinds : (o : Option Tree) → is_known_version m.classes asked.name asked.version ≡ false → option_and_then (λ t. change_in (rows_seen_in m.classes (Some asked) (rows_of_tree t))) o ≡ None
        no_kinds None unknown = refl
        no_kinds (Some t) unknown = none_changed m.classes asked unknown (rows_of_tree t)

module _ (heads : List KeyHead) (trees : List KeptTree) (m : State) (are : AreItemsOfState heads trees m) (name : List ℕ) where
  named_are : (later : Option Refusal) → named_tests (names_object m name) (names_tree m name) later ≡ keyed_tests (is_some (head_of name None heads)) (is_some (tree_of name trees)) later
  named_are later = by (tree_of name trees) refl
    where
      by : (o : Option KeptTree) → tree_of name trees ≡ o → named_tests (names_object m name) (names_tree m name) later ≡ keyed_tests (is_some (head_of name None heads)) (is_some (tree_of name trees)) later
      by (Some t) is =
          let facts = names_one_tree heads trees m are name t is in
          let tree : names_tree m name ≡ true = tree_is heads trees m are name ∙ ap is_some is in
          (λ i. named_tests (facts.free i) (tree i) later) ∙ (λ i. keyed_tests (is_some (sym facts.found i)) (is_some (sym is i)) later)
      by None is =
          let facts = names_objects heads trees m are name is in
          let tree : names_tree m name ≡ false = tree_is heads trees m are name ∙ ap is_some is in
          (λ i. named_tests (facts.named i) (tree i) later) ∙ no_tree_tests (is_some (head_of name None heads)) later
          ∙ ap (λ o. keyed_tests (is_some (head_of name None heads)) (is_some o) later) (sym is)

  -- an object or a tree has the name exactly where a key has it
  pub item_named : (names_object m name || names_tree m name) ≡ is_some (head_of name None heads)
  item_named = by (tree_of name trees) refl
    where
      by : (o : Option KeptTree) → tree_of name trees ≡ o → (names_object m name || names_tree m name) ≡ is_some (head_of name None heads)
      by (Some t) is =
          let facts = names_one_tree heads trees m are name t is in
          let tree : names_tree m name ≡ true = tree_is heads trees m are name ∙ ap is_some is in
          (λ i. facts.free i || tree i) ∙ ap is_some (sym facts.found)
      by None is =
          let facts = names_objects heads trees m are name is in
          let tree : names_tree m name ≡ false = tree_is heads trees m are name ∙ ap is_some is in
          (λ i. facts.named i || tree i) ∙ or_false (is_some (head_of name None heads))
        where
          or_false : (b : Bool) → (b || false) ≡ b
          or_false true = refl
          or_false false = refl

  -- where they pass, the tree has the cycle of its key
  pub has_tree_of : (h : KeyHead) → first_of (key_tests heads trees name) ≡ None → head_of name None heads ≡ Some h → HasTree m name h.cycle
  has_tree_of h none key =
      let both = passes_two (not (is_some (head_of name None heads))) (not (is_some (tree_of name trees))) NoSuchName NotATree none in
      let t = some_of (tree_of name trees) (not-false _ both.1) in
      has_tree heads m name t.0 (names_one_tree heads trees m are name t.0 t.1) h key

  -- ---- a row is added

  -- those of the branches and of the row itself
  abbrev pub state_tests : Command → List (Option Refusal)
  state_tests c =
      refused_if (is_bad_row m c) BadRow
      ∷ refused_if (is_at_last_cycle m c) CycleLimit
      ∷ refused_if (is_too_large m c) TooLarge
      ∷ refused_if (goes_too_deep m c) TooDeep
      ∷ refused_if (has_too_many m c) TooMany
      ∷ []

  abbrev pub fill_tests : List ClassDef → Row → List (Option Refusal)
  fill_tests classes row = key_tests heads trees name ++ (known_tests classes row ++ state_tests (Fill name row))

  fill_is : (row : Row) → refusal_of m (Fill name row) None ≡ named_tests (names_object m name) (names_tree m name) (first_of (known_tests m.classes row ++ state_tests (Fill name row)))
  unfolding refusal_of
  fill_is row = refl

  pub fill_refusal : (classes : List ClassDef) (row : Row) → m.classes ≡ classes → refusal_of m (Fill name row) None ≡ first_of (fill_tests classes row)
  fill_refusal classes row same = fill_is row ∙ named_are (first_of (known_tests m.classes row ++ state_tests (Fill name row))) ∙ ap (λ cs. first_of (fill_tests cs row)) same

  -- ---- a tree is saved

  save_is : refusal_of m (Save name) None ≡ named_tests (names_object m name) (names_tree m name) (first_of (refused_if (is_at_last_cycle m (Save name)) CycleLimit ∷ []))
  unfolding refusal_of
  save_is = refl

  save_keyed : refusal_of m (Save name) None ≡ first_of (key_tests heads trees name ++ refused_if (is_at_last_cycle m (Save name)) CycleLimit ∷ [])
  save_keyed = save_is ∙ named_are (first_of (refused_if (is_at_last_cycle m (Save name)) CycleLimit ∷ []))

  -- it isn't saved for want of a tree
  pub save_stops : (stop : Stop) → StopsAt (first_of (key_tests heads trees name)) stop → StopsAt (refusal_of m (Save name) None) stop
  save_stops stop told =
      subst (λ (first : Option Refusal). StopsAt first stop) (sym save_keyed)
      (stops_in_front (key_tests heads trees name) (refused_if (is_at_last_cycle m (Save name)) CycleLimit ∷ []) stop told)

  -- or by its cycle alone
  pub save_refusal : (h : KeyHead) → first_of (key_tests heads trees name) ≡ None → head_of name None heads ≡ Some h → refusal_of m (Save name) None ≡ first_of (last_tests h.cycle)
  save_refusal h none key =
      let both = passes_two (not (is_some (head_of name None heads))) (not (is_some (tree_of name trees))) NoSuchName NotATree none in
      let t = some_of (tree_of name trees) (not-false _ both.1) in
      let facts = names_one_tree heads trees m are name t.0 t.1 in
      save_keyed ∙ same_front (key_tests heads trees name) (refused_if (is_at_last_cycle m (Save name)) CycleLimit ∷ []) none
      ∙ ap (λ (o : Option Tree). first_of (refused_if (option_map_or (λ t. nat_le cycle_limit t.cycle) o false) CycleLimit ∷ [])) facts.there
      ∙ ap (λ c. first_of (last_tests c)) (same_cycle heads m name t.0 facts h key)

  -- ---- a tree is made

  make_is : (branches : List BranchDef) → refusal_of m (MakeTree name branches) None
      ≡ first_of (refused_if (is_list_name name) BadName ∷ refused_if (names_object m name || names_tree m name) NameInUse
      ∷ refused_if (list_any (λ b. shape_lacks_class m.classes b.shape) branches) NoSuchClass ∷ refused_if (leb item_limit (item_count m) || has_many_branches branches) TooMany ∷ [])
  unfolding refusal_of
  make_is branches = refl

  pub make_refusal : (classes : List ClassDef) (branches : List BranchDef) → m.classes ≡ classes → refusal_of m (MakeTree name branches) None ≡ first_of (tree_tests classes heads name branches)
  make_refusal classes branches same =
      make_is branches
      ∙ (λ i. first_of (refused_if (is_list_name name) BadName ∷ refused_if (item_named i) NameInUse
      ∷ refused_if (list_any (λ b. shape_lacks_class (same i) b.shape) branches) NoSuchClass ∷ refused_if (leb item_limit (count_is heads trees m are i) || has_many_branches branches) TooMany ∷ []))

  -- ---- a tree is scanned

  abbrev pub scan_tests : List ClassDef → Option Base → List (Option Refusal)
  scan_tests classes class = key_tests heads trees name ++ (asked_tests classes class ++ kind_change m (Scan name class) ∷ [])

  scan_is : (class : Option Base) → refusal_of m (Scan name class) None
      ≡ named_tests (names_object m name) (names_tree m name)
      (option_or (refused_if (lacks_class m (Scan name class)) NoSuchClass) (option_or (kind_change m (Scan name class)) (option_or (refused_if (lacks_version m (Scan name class)) NoVersion) None)))
  unfolding refusal_of
  scan_is class = refl

  pub scan_refusal : (classes : List ClassDef) (class : Option Base) → m.classes ≡ classes → refusal_of m (Scan name class) None ≡ first_of (scan_tests classes class)
  scan_refusal classes class same =
      scan_is class
      ∙ ap (λ o. named_tests (names_object m name) (names_tree m name) (option_or (refused_if (lacks_class m (Scan name class)) NoSuchClass) o)) (version_first m name class)
      ∙ named_are (first_of (asked_tests m.classes class ++ kind_change m (Scan name class) ∷ []))
      ∙ ap (λ cs. first_of (scan_tests cs class)) same

-- ---- what stops one

-- it stops by the tests that are the state's
pub stops_by : (first : Option Refusal) (tests : List (Option Refusal)) (stop : Stop) → first ≡ first_of tests → StopsAt (first_of tests) stop → StopsAt first stop
stops_by first tests stop is told = subst (λ (o : Option Refusal). StopsAt o stop) (sym is) told

-- what is returned is where it stopped
pub stopped : (m : State) (c : Command) (r : Result TreeWork Stop) (d stop : Stop) → r ≡ Err d → d ≡ stop → StopsAt (refusal_of m c None) stop → GoesByTree m c r
stopped m c r d stop is same told = subst (λ (x : Result TreeWork Stop). GoesByTree m c x) (sym (is ∙ ap (λ x. Err x) same)) told

-- The tests that can refuse a get, by the keys and trees, and what it tells; and those of bad lines and lists.
use Rattle.std.proofs.Common.{◌≡◌, ℕ, ◌∙◌, Bool, true, false, ◌&&◌, ◌||◌, eqb, not, List, Option, Some, None, Ok, refl, sym, ap}
use Rattle.std.specs.{Prelude.{is_some, option_and_then, ℤ}, FinMap.{contains_key, get}, Option.{option_map_or, option_or}}
use Rattle.rio_key.specs.declared.head.KeyHead.{KeyHead}
use Rattle.rio_dir.specs.Table.{head_of}
use Rattle.rio_tree_table.specs.{Table.{tree_of}, declared.table.KeptTree.{KeptTree}}
use Rattle.rio_format.specs.declared.value.Value.{Value}
use Rattle.rio_machine.specs.{State.{State, Tree, last_cycle, names_object}, declared.command.Command.TheVariants.{Bad, Get, Ls}}
use Rattle.rio_machine.specs.declared.refusal.Refusal.{Refusal, TheVariants.{BadLine, NoSuchName, NoSuchCycle, NameIsTree, NoVersion}}
use Rattle.rio_step.specs.{KeptItems.{AreItemsOfState}, Refusing.{kind_change, lacks_version, meant_object, refusal_of, refused_if}}
use Rattle.rio_judge.specs.{Judging.{refused_by_object}, Stops.{GoesByState}, declared.work.Work.TheVariants.{Get as Telling}}
use Rattle.rio_judge.proofs.{ItemsOfState.{NamesObjects, NamesTree, names_objects, names_one_tree}, KeysOfState.{first_is_found, found_key}, TreeFacts.{same_cycle}}

-- what the object tells, by the last tests of a get
abbrev by_object : State → List ℕ → Option ℕ → Option ℤ → Option Refusal
by_object m name cycle version = option_or (kind_change m (Get name cycle version)) (option_or (refused_if (lacks_version m (Get name cycle version)) NoVersion) None)

-- what the tests tell, where an object or a tree may have the name, a cycle may be there, and the object tells this
abbrev whole : Bool → Option Tree → (ℕ → Bool) → Option Refusal → Option ℕ → Option Refusal
whole named tree has told cycle =
    option_or (refused_if (not (named || is_some tree)) NoSuchName)
    (option_or (refused_if (option_map_or (λ c. (named || is_some tree) && not (has c || option_map_or (λ t. eqb t.cycle c) tree false)) cycle false) NoSuchCycle)
    (option_or (refused_if (is_some tree) NameIsTree) told))

whole_is : (m : State) (name : List ℕ) (cycle : Option ℕ) (version : Option ℤ)
    → refusal_of m (Get name cycle version) None ≡ whole (names_object m name) (get m.trees name) (λ c. contains_key m.objects (name, c)) (by_object m name cycle version) cycle
unfolding refusal_of
whole_is m name cycle version = refl

-- without a version it tells nothing
none_asked : (meant : Option Value) → option_or (option_and_then (λ v. None) meant) (option_or (refused_if (option_map_or (λ v. false) meant false) NoVersion) None) ≡ None
none_asked None = refl
none_asked (Some v) = refl

told_by_object : (m : State) (name : List ℕ) (cycle : Option ℕ) (version : Option ℤ) → by_object m name cycle version ≡ refused_by_object m (Get name cycle version)
told_by_object m name cycle None = none_asked (meant_object m name cycle)
told_by_object m name cycle (Some version) = refl

module _ (heads : List KeyHead) (m : State) (name : List ℕ) (version : Option ℤ) where
  -- ---- no tree has the name

  module _ (facts : NamesObjects heads m name) where
    named_is : (o : Option KeyHead) → head_of name None heads ≡ o → names_object m name ≡ is_some o
    named_is o e = facts.named ∙ ap is_some e

    has_is : (cycle : ℕ) (o : Option KeyHead) → head_of name (Some cycle) heads ≡ o → contains_key m.objects (name, cycle) ≡ is_some o
    has_is cycle o e = facts.has cycle ∙ ap is_some e

    tree_is : get m.trees name ≡ None
    tree_is = facts.tree

    -- no key has the name
    pub none_named : (cycle : Option ℕ) → head_of name None heads ≡ None → refusal_of m (Get name cycle version) None ≡ Some NoSuchName
    none_named cycle e =
        let named = named_is None e in
        whole_is m name cycle version ∙ (λ i. whole (named i) (tree_is i) (λ c. contains_key m.objects (name, c)) (by_object m name cycle version) cycle)

    -- a key has the name, and none has it with this cycle
    pub no_cycle : (h : KeyHead) (cycle : ℕ) → head_of name None heads ≡ Some h → head_of name (Some cycle) heads ≡ None
        → refusal_of m (Get name (Some cycle) version) None ≡ Some NoSuchCycle
    no_cycle h cycle e f =
        let named = named_is (Some h) e in
        let has = has_is cycle None f in
        whole_is m name (Some cycle) version
        ∙ (λ i. option_or (refused_if (not (named i || is_some (tree_is i))) NoSuchName)
        (option_or (refused_if ((named i || is_some (tree_is i)) && not (has i || option_map_or (λ t. eqb t.cycle cycle) (tree_is i) false)) NoSuchCycle)
        (option_or (refused_if (is_some (get m.trees name)) NameIsTree) (by_object m name (Some cycle) version))))

    -- a key has the name and this cycle
    pub in_cycle : (h k : KeyHead) (cycle : ℕ) → head_of name None heads ≡ Some h → head_of name (Some cycle) heads ≡ Some k
        → refusal_of m (Get name (Some cycle) version) None ≡ refused_by_object m (Get name (Some cycle) version)
    in_cycle h k cycle e f =
        let named = named_is (Some h) e in
        let has = has_is cycle (Some k) f in
        whole_is m name (Some cycle) version
        ∙ (λ i. option_or (refused_if (not (named i || is_some (tree_is i))) NoSuchName)
        (option_or (refused_if ((named i || is_some (tree_is i)) && not (has i || option_map_or (λ t. eqb t.cycle cycle) (tree_is i) false)) NoSuchCycle)
        (option_or (refused_if (is_some (tree_is i)) NameIsTree) (by_object m name (Some cycle) version))))
        ∙ told_by_object m name (Some cycle) version

    -- a key has the name
    pub in_newest : (h : KeyHead) → head_of name None heads ≡ Some h → refusal_of m (Get name None version) None ≡ refused_by_object m (Get name None version)
    in_newest h e =
        let named = named_is (Some h) e in
        whole_is m name None version
        ∙ (λ i. option_or (refused_if (not (named i || is_some (tree_is i))) NoSuchName)
        (option_or (refused_if (is_some (tree_is i)) NameIsTree) (by_object m name None version)))
        ∙ told_by_object m name None version

    -- the key of the object that the command names
    pub tells_cycle : (h k : KeyHead) (cycle : ℕ) → head_of name None heads ≡ Some h → head_of name (Some cycle) heads ≡ Some k
        → GoesByState m (Get name (Some cycle) version) (Ok (Telling k version))
    tells_cycle h k cycle e f =
        let its = found_key name cycle heads k f in
        (in_cycle h k cycle e f, (its.0, its.1, has_is cycle (Some k) f, refl))

    -- or of the one of the greatest cycle
    pub tells_newest : (h : KeyHead) → last_cycle m name ≡ h.cycle → head_of name None heads ≡ Some h → GoesByState m (Get name None version) (Ok (Telling h version))
    tells_newest h most e =
        let newest = first_is_found name heads h e in
        let has = facts.has h.cycle ∙ ap is_some newest in
        (in_newest h e, ((found_key name h.cycle heads h newest).0, sym most, ap (λ c. contains_key m.objects (name, c)) most ∙ has, refl))

  -- ---- a tree has the name

  module _ (t : KeptTree) (facts : NamesTree heads m name t) (h : KeyHead) (e : head_of name None heads ≡ Some h) where
    of_tree : (cycle : Option ℕ) → refusal_of m (Get name cycle version) None ≡ whole false (Some facts.tree) (λ c. false) (by_object m name cycle version) cycle
    of_tree None = whole_is m name None version ∙ (λ i. whole (facts.free i) (facts.there i) (λ c. false) (by_object m name None version) None)
    of_tree (Some cycle) =
        whole_is m name (Some cycle) version
        ∙ (λ i. option_or (refused_if (not (facts.free i || is_some (facts.there i))) NoSuchName)
        (option_or (refused_if ((facts.free i || is_some (facts.there i)) && not (facts.has cycle i || option_map_or (λ t. eqb t.cycle cycle) (facts.there i) false)) NoSuchCycle)
        (option_or (refused_if (is_some (facts.there i)) NameIsTree) (by_object m name (Some cycle) version))))

    -- whatever its cycle is
    pub is_tree : refusal_of m (Get name None version) None ≡ Some NameIsTree
    is_tree = of_tree None

    in_tree_cycle : (cycle : ℕ) (b : Bool) → eqb h.cycle cycle ≡ b → refusal_of m (Get name (Some cycle) version) None ≡ option_or (refused_if (not b) NoSuchCycle) (Some NameIsTree)
    in_tree_cycle cycle b is =
        let tested : eqb facts.tree.cycle cycle ≡ b = ap (λ c. eqb c cycle) (same_cycle heads m name t facts h e) ∙ is in
        of_tree (Some cycle) ∙ ap (λ b. option_or (refused_if (not b) NoSuchCycle) (Some NameIsTree)) tested

    -- in its cycle, and in another one
    pub is_tree_in_cycle : (cycle : ℕ) → eqb h.cycle cycle ≡ true → refusal_of m (Get name (Some cycle) version) None ≡ Some NameIsTree
    is_tree_in_cycle cycle is = in_tree_cycle cycle true is

    pub no_tree_cycle : (cycle : ℕ) → eqb h.cycle cycle ≡ false → refusal_of m (Get name (Some cycle) version) None ≡ Some NoSuchCycle
    no_tree_cycle cycle is = in_tree_cycle cycle false is

-- no key has the name
pub no_name : (heads : List KeyHead) (trees : List KeptTree) (m : State) (name : List ℕ) (version : Option ℤ) → AreItemsOfState heads trees m → (cycle : Option ℕ) → head_of name None heads ≡ None → refusal_of m (Get name cycle version) None ≡ Some NoSuchName
no_name heads trees m name version are cycle e = by (tree_of name trees) refl
  where
    by : (o : Option KeptTree) → tree_of name trees ≡ o → refusal_of m (Get name cycle version) None ≡ Some NoSuchName
    by None is = none_named heads m name version (names_objects heads trees m are name is) cycle e
    by (Some t) is = let facts = names_one_tree heads trees m are name t is in let found = facts.found in absurd cc

-- ---- the others

pub bad_line_refused : (m : State) (line place : ℕ) → refusal_of m (Bad line place) None ≡ Some (BadLine line place)
unfolding refusal_of
bad_line_refused m line place = refl

pub list_accepted : (m : State) → refusal_of m Ls None ≡ None
unfolding refusal_of
list_accepted m = refl

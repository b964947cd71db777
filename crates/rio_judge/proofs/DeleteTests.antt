-- The tests that can refuse a delete, by the keys and trees, and what it takes away.
use Rattle.std.proofs.Common.{◌≡◌, ℕ, ◌∙◌, Bool, true, false, ◌&&◌, ◌||◌, eqb, not, List, Option, Some, None, Ok, refl, ap}
use Rattle.std.proofs.lemmas.Bool.{eq-eqb}
use Rattle.std.specs.{Prelude.{is_some}, FinMap.{contains_key, get}, Option.{option_map_or, option_or}}
use Rattle.rio_key.specs.declared.head.KeyHead.{KeyHead}
use Rattle.rio_dir.specs.Table.{head_of}
use Rattle.rio_tree_table.specs.{Table.{tree_of}, declared.table.KeptTree.{KeptTree}}
use Rattle.rio_machine.specs.{State.{State, Tree, names_object}, declared.command.Command.TheVariants.{Delete}}
use Rattle.rio_machine.specs.declared.refusal.Refusal.{Refusal, TheVariants.{NoSuchName, NoSuchCycle}}
use Rattle.rio_step.specs.{KeptItems.{AreItemsOfState}, Refusing.{refusal_of, refused_if}}
use Rattle.rio_judge.specs.{Stops.{GoesByState, GoesByTree}, declared.work.{TreeWork.TheVariants.{Delete as DeletingTree}, Work.TheVariants.{Delete as Deleting}}}
use Rattle.rio_judge.proofs.{ItemsOfState.{NamesObjects, NamesTree, names_objects, names_one_tree}, KeysOfState.{found_key}, TreeFacts.{has_tree, key_named, same_cycle}}

-- what the tests tell, where an object or a tree may have the name, and an object the cycle too
abbrev whole : Bool → Option Tree → Bool → ℕ → Option Refusal
whole named tree has cycle =
    option_or (refused_if (not (named || is_some tree)) NoSuchName)
    (option_or (refused_if ((named || is_some tree) && not (has || option_map_or (λ t. eqb t.cycle cycle) tree false)) NoSuchCycle) None)

whole_is : (m : State) (name : List ℕ) (cycle : ℕ)
    → refusal_of m (Delete name cycle) None ≡ whole (names_object m name) (get m.trees name) (contains_key m.objects (name, cycle)) cycle
unfolding refusal_of
whole_is m name cycle = refl

module _ (heads : List KeyHead) (m : State) (name : List ℕ) (cycle : ℕ) where
  -- ---- no tree has the name

  module _ (facts : NamesObjects heads m name) where
    -- no key has it
    none_named : head_of name None heads ≡ None → refusal_of m (Delete name cycle) None ≡ Some NoSuchName
    none_named e = whole_is m name cycle ∙ (λ i. whole ((facts.named ∙ ap is_some e) i) (facts.tree i) (contains_key m.objects (name, cycle)) cycle)

    -- a key has the name, and one or none has it with this cycle
    by_cycle : (h : KeyHead) (o : Option KeyHead) → head_of name None heads ≡ Some h → head_of name (Some cycle) heads ≡ o
        → refusal_of m (Delete name cycle) None ≡ refused_if (not (is_some o)) NoSuchCycle
    by_cycle h o e f =
        whole_is m name cycle ∙ (λ i. whole ((facts.named ∙ ap is_some e) i) (facts.tree i) ((facts.has cycle ∙ ap is_some f) i) cycle) ∙ last (is_some o)
      where
        last : (has : Bool) → whole true None has cycle ≡ refused_if (not has) NoSuchCycle
        last true = refl
        last false = refl

    pub no_cycle : (h : KeyHead) → head_of name None heads ≡ Some h → head_of name (Some cycle) heads ≡ None
        → refusal_of m (Delete name cycle) None ≡ Some NoSuchCycle
    no_cycle h e f = by_cycle h None e f

    -- the key of the object that the command names
    pub takes_cycle : (h k : KeyHead) → head_of name None heads ≡ Some h → head_of name (Some cycle) heads ≡ Some k
        → GoesByState m (Delete name cycle) (Ok (Deleting k))
    takes_cycle h k e f =
        let its = found_key name cycle heads k f in
        (by_cycle h (Some k) e f, (its.0, its.1, facts.has cycle ∙ ap is_some f))

  -- ---- a tree has the name

  module _ (t : KeptTree) (facts : NamesTree heads m name t) (h : KeyHead) (e : head_of name None heads ≡ Some h) where
    by_tree : (b : Bool) → eqb h.cycle cycle ≡ b → refusal_of m (Delete name cycle) None ≡ refused_if (not b) NoSuchCycle
    by_tree b is =
        let tested : eqb facts.tree.cycle cycle ≡ b = ap (λ c. eqb c cycle) (same_cycle heads m name t facts h e) ∙ is in
        whole_is m name cycle
        ∙ (λ i. whole (facts.free i) (facts.there i) (facts.has cycle i) cycle)
        ∙ ap (λ b. option_or (refused_if (not b) NoSuchCycle) None) tested ∙ last b
      where
        last : (b : Bool) → option_or (refused_if (not b) NoSuchCycle) None ≡ refused_if (not b) NoSuchCycle
        last true = refl
        last false = refl

    pub no_tree_cycle : eqb h.cycle cycle ≡ false → refusal_of m (Delete name cycle) None ≡ Some NoSuchCycle
    no_tree_cycle is = by_tree false is

    pub takes_tree : h.cycle ≡ cycle → GoesByTree m (Delete name cycle) (Ok (DeletingTree h))
    takes_tree is = (by_tree true (eq-eqb _ _ is), (key_named heads name h e, is, has_tree heads m name t facts h e))

-- no key has the name
pub no_name : (heads : List KeyHead) (trees : List KeptTree) (m : State) (name : List ℕ) → AreItemsOfState heads trees m → (cycle : ℕ) → head_of name None heads ≡ None → refusal_of m (Delete name cycle) None ≡ Some NoSuchName
no_name heads trees m name are cycle e = by (tree_of name trees) refl
  where
    by : (o : Option KeptTree) → tree_of name trees ≡ o → refusal_of m (Delete name cycle) None ≡ Some NoSuchName
    by None is = none_named heads m name cycle (names_objects heads trees m are name is) e
    by (Some t) is = let facts = names_one_tree heads trees m are name t is in let found = facts.found in absurd cc

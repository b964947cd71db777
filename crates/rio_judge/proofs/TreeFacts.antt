-- What is told of a name that a tree has, by the key of the name.
use Rattle.std.proofs.Common.{◌≡◌, ℕ, ◌∙◌, List, Bool, true, false, eqb, Option, Some, None, sym, ap}
use Rattle.std.proofs.lemmas.Bool.{eq-eqb}
use Rattle.std.specs.{FinMap.{get}, Option.{option_map_or}}
use Rattle.rio_key.specs.declared.head.KeyHead.{KeyHead}
use Rattle.rio_dir.specs.Table.{head_of}
use Rattle.rio_tree_table.specs.declared.table.KeptTree.{KeptTree}
use Rattle.rio_machine.specs.State.{State, Tree}
use Rattle.rio_judge.specs.Trees.{HasTree}
use Rattle.rio_judge.proofs.{ItemsOfState.{NamesTree}, KeysOfState.{first_is_found, found_key}}

-- the first key of a name has it
pub key_named : (heads : List KeyHead) (name : List ℕ) (h : KeyHead) → head_of name None heads ≡ Some h → h.name ≡ name
key_named heads name h e = (found_key name h.cycle heads h (first_is_found name heads h e)).0

same_key : (x y : KeyHead) → ◌≡◌ {A = Option KeyHead} (Some x) (Some y) → x ≡ y
same_key x y e = cc

module _ (heads : List KeyHead) (m : State) (name : List ℕ) (t : KeptTree) (facts : NamesTree heads m name t) (h : KeyHead) (e : head_of name None heads ≡ Some h) where
  pub same_cycle : facts.tree.cycle ≡ h.cycle
  same_cycle = facts.cycle ∙ ap (λ (k : KeyHead). k.cycle) (same_key facts.key h (sym facts.found ∙ e))

  pub has_tree : HasTree m name h.cycle
  has_tree = ap (λ (o : Option Tree). option_map_or (λ t. eqb t.cycle h.cycle) o false) facts.there ∙ eq-eqb _ _ same_cycle

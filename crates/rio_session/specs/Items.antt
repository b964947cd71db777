-- A state for which the keys and trees stand that a session keeps.
use Rattle.std.specs.Prelude.{◌≡◌, List, [], ◌∷◌}
use Rattle.rio_key.specs.declared.head.KeyHead.{KeyHead}
use Rattle.rio_tree_table.specs.declared.table.KeptTree.{KeptTree}
use Rattle.rio_machine.specs.State.{State}
use Rattle.rio_state.specs.KeyedRecords.{is_tree_key}
use Rattle.rio_step.specs.KeptItems.{AreItemsOfState}
use Rattle.rio_step.specs.KeptItems as items
use Rattle.rio_session.specs.SessionState.{SessionState, kept_trees}

-- the keys under the names of these trees are those of headers, and the others aren't
abbrev pub AreTreeKeys : List KeyHead → List KeptTree → Type 0
AreTreeKeys [] trees = Unit {0}
AreTreeKeys (h ∷ heads) trees = (items.is_tree_key trees h ≡ is_tree_key h) × AreTreeKeys heads trees

-- a state that has the kept classes, and for whose objects and trees the kept keys and trees stand
pub record IsOfKeys (s : SessionState) (m : State) : Type 0 where
  pub classes : m.classes ≡ s.classes
  pub keys : AreItemsOfState s.heads (kept_trees s) m
  pub trees : AreTreeKeys s.heads (kept_trees s)

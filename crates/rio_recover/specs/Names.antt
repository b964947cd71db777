-- The names of a file's objects and trees, as they are kept to be looked up.
use Rattle.std.specs.{Prelude.{◌≡◌, List, Bool, ◌&&◌, not}, List.{list_any}}
use Rattle.rio_machine.specs.State.{NameAndCycle}
use Rattle.rio_state.specs.KeyedRecords.{KeyedRecord, is_tree_key, item_of_key}
use Rattle.rio_recover.specs.declared.names.NameIndex.{NameIndex}

-- Of the trees and of the objects it has those names and cycles that these records have.
pub record IndexesNames (tops : List KeyedRecord) (names : NameIndex) : Type 0 where
  pub of_trees : (test : NameAndCycle → Bool)
      → list_any (λ h. test (item_of_key h)) names.trees.heads ≡ list_any (λ r. test (item_of_key r.head) && is_tree_key r.head) tops
  pub of_objects : (test : NameAndCycle → Bool)
      → list_any (λ h. test (item_of_key h)) names.objects.heads ≡ list_any (λ r. test (item_of_key r.head) && not (is_tree_key r.head)) tops

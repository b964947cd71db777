-- What a session keeps of a tree beside the records of a file.
use Rattle.std.specs.{Prelude.{◌≡◌, ℕ, List, [], true, map, Some}, List.{flat_map}}
use Rattle.rio_machine.specs.State.{State, Tree}
use Rattle.rio_tree.specs.{WrittenLaws.{AreReadableBranches, FitsTreeHeader}, declared.head.TreeHead.{TreeHead}}
use Rattle.rio_state.specs.{Contents.{file_classes}, KeyedRecords.{KeyedRecord, info_key, keyed_records, record_at, top_keys, tree_records}}
use Rattle.rio_state.specs.Trees.{all_places_named, are_named_once}
use Rattle.rio_effect.specs.{PutBaskets.{AreAllPut}, TreeChanges.{FileRecords, cuts_of_tree, header_of, header_record_of}}

-- Of a tree of the state: its header is read, and behind its baskets those that were put since its last save hold the entries of its pending
-- rows that are cut off. No tree names these.
pub record KeepsTree (now : FileRecords) (m : State) (name : List ℕ) (t : Tree) : Type 0 where
  pub r : KeyedRecord
  pub record_is : header_record_of now.links name ≡ Some r
  pub head : TreeHead
  pub head_is : header_of now.links r ≡ Some head
  pub readable : AreReadableBranches head.entries [] head.branches
  pub fits : FitsTreeHeader head
  pub put : AreAllPut (record_at (keyed_records now.links)) head.entries head.branches (cuts_of_tree m t) (now.put name)
  pub fresh : are_named_once (all_places_named (file_classes (info_key (keyed_records now.links))) (tree_records (top_keys (keyed_records now.links))))
      (flat_map (map (λ at. at.seek)) (now.put name)) ≡ true

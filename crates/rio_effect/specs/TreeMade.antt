-- What `tree` makes of a file: the class list, where it has none, and the header of the tree.
use Rattle.std.specs.Prelude.{◌≡◌, ◌<◌, ◌≤◌, ◌^◌, ℕ, ◌+◌, List, length, map, take, true, None, Some}
use Rattle.rio_num.specs.Word.{is_item_text}
use Rattle.rio_key.specs.declared.head.KeyHead.{KeyHead}
use Rattle.rio_leaf.specs.declared.branch.BranchDef.{BranchDef}
use Rattle.rio_chain.specs.{Changes.{with_record}, Placing.{IsPlaceFor}, Segments.{IsChain, IsRecord, Link, segment_of}}
use Rattle.rio_dir.specs.Table.{with_head}
use Rattle.rio_model.specs.StateClasses.{HasShortList}
use Rattle.rio_machine.specs.{State.{State}, declared.command.Command.TheVariants.{Tree}}
use Rattle.rio_state.specs.{Closing.{held_with, kept_with}, Contents.{file_classes}, DirectoryKeys.{AreKeysOf}, KeyedRecords.{info_key, keyed_records}, Reads.{AreRecordsOf}, TreeLengths.{PendingRows, pending_in}}
use Rattle.rio_step.specs.{Costs.{cost_of, info_size}, Refusing.{refusal_of}, Runs.{saved_of}, Step.{state_behind}, Storable.{IsFillable}}
use Rattle.rio_effect.specs.{AllItems.{AreAllItems}, Changes.{Change, added_place, all_changed}, ClassRecord.{list_data, list_key, list_record, list_words}, Classes.{KeepsOneList, PendingFit, list_in}}
use Rattle.rio_effect.specs.{Garbage.{ArePassed}, HeaderRecords.{IsHeaderRecord}, TreeChanges.{changes_of_tree, list_if_none}, TreeRecords.{header_data, header_key, header_words, new_head}}

-- ---- the first class list

-- where the class list of a state is put, in a file that has none
abbrev pub with_first_list : List Link → State → ℕ → ℕ → List Link
with_first_list links m place datime = with_record place (list_record place datime 1 m.classes) links

-- The records stand for the same, and so do the keys; headers are read as before. The list counts. The file keeps one record more, and holds
-- no more than the list is long.
pub record HasFirstList (links : List Link) (m : State) (place datime : ℕ) : Type 0 where
  pub whole : IsRecord place (list_record place datime 1 m.classes)
  pub records : AreRecordsOf (keyed_records (with_first_list links m place datime)) m
  pub keys : (heads : List KeyHead) → AreKeysOf (keyed_records links) heads → AreKeysOf (keyed_records (with_first_list links m place datime)) heads
  pub info : list_in (with_first_list links m place datime) ≡ Some (list_key place datime 1 m.classes)
  pub items : AreAllItems links → AreAllItems (with_first_list links m place datime)
  pub kept : (pending : PendingRows) → PendingFit pending links → KeepsOneList links (kept_with pending links) (kept_with pending (with_first_list links m place datime))
  pub held : (pending : PendingRows) → PendingFit pending links → held_with pending (with_first_list links m place datime) ≤ held_with pending links + (100 + info_size m.classes)

abbrev pub FirstListIsPut : Type 0
FirstListIsPut = (file : List ℕ) (links : List Link) (m : State) (place datime : ℕ) → place < 2 ^ 32 → datime < 2 ^ 32 → IsChain links file → AreRecordsOf (keyed_records links) m
    → info_key (keyed_records links) ≡ None → HasShortList m.classes → IsPlaceFor (map segment_of links) (length (list_record place datime 1 m.classes)) place → HasFirstList links m place datime

-- the pending rows of a state whose trees can be filled fit the branches of their trees in the file
abbrev pub PendingRowsFit : Type 0
PendingRowsFit = (file : List ℕ) (links : List Link) (m : State) → IsChain links file → AreAllItems links → IsFillable m → AreRecordsOf (keyed_records links) (saved_of m) → PendingFit (pending_in m) links

-- ---- the tree

module _ (datime : ℕ) (links : List Link) (m : State) (name : List ℕ) (branches : List BranchDef) where
  -- the class list, if it is put
  abbrev pub list_added : List Change
  list_added = list_if_none datime (info_key (keyed_records links)) m.classes

  abbrev pub links_listed : List Link
  links_listed = all_changed links list_added

  -- where the header is put, and its key
  abbrev pub tree_place : ℕ
  tree_place = let words = header_words 0 datime name 1 in added_place links_listed words (header_data words name (new_head m.classes branches))

  abbrev pub tree_key : KeyHead
  tree_key = header_key tree_place datime name 1 (new_head m.classes branches)

-- The records of the file stand for the state without its pending rows, and no header is outdated. Nothing refuses the tree, whose header can be
-- written, and so can the class list.
pub record CanBeMade (datime : ℕ) (file : List ℕ) (links : List Link) (m : State) (name : List ℕ) (branches : List BranchDef) : Type 0 where
  pub chain : IsChain links file
  pub records : AreRecordsOf (keyed_records links) (saved_of m)
  pub items : AreAllItems links
  pub fillable : IsFillable m
  pub taken : refusal_of m (Tree name branches) None ≡ None
  pub item : is_item_text name ≡ true
  pub soon : datime < 2 ^ 32
  pub short : HasShortList m.classes
  pub low : (let words = list_words 0 datime 1 in added_place links words (list_data words m.classes)) < 2 ^ 32
  pub written : IsHeaderRecord (file_classes (info_key (keyed_records (links_listed datime links m name branches)))) (tree_place datime links m name branches) datime name 1 (new_head m.classes branches)

-- the links after the first k changes
abbrev pub links_made : ℕ → List Link → State → List ℕ → List BranchDef → ℕ → List Link
links_made datime links m name branches k = all_changed links (take k (changes_of_tree datime links m name branches))

-- Until the header is put the records stand for the state before, and then for that with the tree.
pub record TreeEffect (datime : ℕ) (links : List Link) (m : State) (name : List ℕ) (branches : List BranchDef) : Type 0 where
  pub early : (k : ℕ) → k ≤ length (list_added datime links m name branches) → ArePassed links (changes_of_tree datime links m name branches) k
      → AreRecordsOf (keyed_records (links_made datime links m name branches k)) (saved_of m)
  pub late : (k : ℕ) → length (list_added datime links m name branches) < k → k ≤ length (changes_of_tree datime links m name branches) → ArePassed links (changes_of_tree datime links m name branches) k
      → AreRecordsOf (keyed_records (links_made datime links m name branches k)) (saved_of (state_behind m (Tree name branches)))

abbrev pub TreeTakesEffect : Type 0
TreeTakesEffect = (datime : ℕ) (file : List ℕ) (links : List Link) (m : State) (name : List ℕ) (branches : List BranchDef) → CanBeMade datime file links m name branches → TreeEffect datime links m name branches

-- Among the keys that of the header stands in its place. Each record that is put is kept more, and the file holds no more than the tree costs.
pub record TreeEnd (datime : ℕ) (links : List Link) (m : State) (name : List ℕ) (branches : List BranchDef) : Type 0 where
  pub keys : (heads : List KeyHead) → AreKeysOf (keyed_records links) heads
      → AreKeysOf (keyed_records (all_changed links (changes_of_tree datime links m name branches))) (with_head (tree_key datime links m name branches) heads)
  pub items : AreAllItems (all_changed links (changes_of_tree datime links m name branches))
  pub name_is : (kept_with (pending_in (state_behind m (Tree name branches))) (all_changed links (changes_of_tree datime links m name branches))).name ≡ (kept_with (pending_in m) links).name
  pub count : (kept_with (pending_in (state_behind m (Tree name branches))) (all_changed links (changes_of_tree datime links m name branches))).count
      ≡ (kept_with (pending_in m) links).count + length (changes_of_tree datime links m name branches)
  pub held : held_with (pending_in (state_behind m (Tree name branches))) (all_changed links (changes_of_tree datime links m name branches)) ≤ held_with (pending_in m) links + cost_of m (Tree name branches)

abbrev pub TreeEnds : Type 0
TreeEnds = (datime : ℕ) (file : List ℕ) (links : List Link) (m : State) (name : List ℕ) (branches : List BranchDef) → CanBeMade datime file links m name branches
    → ArePassed links (changes_of_tree datime links m name branches) (length (changes_of_tree datime links m name branches)) → TreeEnd datime links m name branches

-- The trees of a file as they are recovered: of each name the header that counts.
use Rattle.std.specs.Prelude.{ℕ, List, length, map, Bool, true, ◌≡◌, ◌≤◌, Option, Some, None, option_and_then, Ok, Err}
use Rattle.std.specs.{List.{filter_map, flat_map, list_all, Sorted.{IsPermutation}}, Option.{option_map}, Result.{result_ok}}
use Rattle.rio_num.specs.{Reading.{some_if}, Room.{is_padding}}
use Rattle.rio_format.specs.{Frames.{Step}, declared.class.ClassDef.{ClassDef}, declared.value.Value.{Value}}
use Rattle.rio_leaf.specs.Stated.{are_stated_branches}
use Rattle.rio_machine.specs.Limits.{branch_limit}
use Rattle.rio_tree.specs.{Header.{tree_head_in}, WrittenLaws.{stated_defs}, declared.head.TreeHead.{TreeHead}}
use Rattle.rio_entry.specs.SavedRows.{is_whole}
use Rattle.rio_state.specs.{Contents.{FileClasses, file_classes}, KeyedRecords.{KeyedRecord, info_key, top_keys, tree_records}}
use Rattle.rio_state.specs.Trees.{basket_places, header_in, is_written_header}
use Rattle.rio_recover.specs.{TreeTable.{AreInOrder}, declared.trees.TreeAt.{TreeAt}}

-- ---- one tree

-- what the value says, where it is the header that is written for that
abbrev pub written_head : List ClassDef → List ℕ → Value → Option TreeHead
written_head classes name v = option_and_then (λ head. some_if (is_written_header classes name v head) head) (result_ok (tree_head_in v))

-- it was read from a value, and its branches are such as a line of the script declares
pub record IsReadHead (head : TreeHead) : Type 0 where
  pub value : Value
  pub reads : tree_head_in value ≡ Ok head
  pub few : length head.branches ≤ branch_limit
  pub stated : are_stated_branches (stated_defs head.branches) ≡ true

-- no branch is refused either, and each of its baskets has an entry or more
pub record AreWholeBranches (head : TreeHead) : Type 0 where
  pub read : IsReadHead head
  pub whole : list_all is_whole head.branches ≡ true

-- what is read, if at most three zero bytes follow it
abbrev pub padded_in : Step Value → Option Value
padded_in (Ok x) = some_if (is_padding x.1.at.rest) x.0
padded_in (Err e) = None

-- the tree of a record's header, if it is read
abbrev pub tree_at : FileClasses → KeyedRecord → Option TreeAt
tree_at classes r = option_map (λ head. record { name = r.head.name; head = head }) (header_in classes r)

-- ---- all trees

-- those of some headers
abbrev pub trees_at : FileClasses → List KeyedRecord → List TreeAt
trees_at classes headers = filter_map (tree_at classes) headers

-- where the baskets of some trees begin
abbrev pub places_of : List TreeAt → List ℕ
places_of trees = flat_map (λ t. basket_places t.head) trees

-- The trees of a file with these records are those of its headers that count, in order of names: of each tree its name and what its header
-- says, that is the number of its saved rows, its branches, and where the baskets of each branch stand.
pub record AreTreesOf (records : List KeyedRecord) (trees : List TreeAt) : Type 0 where
  pub ordered : AreInOrder trees
  pub each : IsPermutation (trees_at (file_classes (info_key records)) (tree_records (top_keys records))) trees

-- What the header of a new tree, and that of a save, makes of the keys that are kept beside a file, and of what its close needs.
use Rattle.std.specs.Prelude.{◌≡◌, ◌≤◌, ℕ, ◌+◌, ◌*◌, List, [], length, map, true, Some}
use Rattle.rio_leaf.specs.declared.branch.BranchDef.{BranchDef}
use Rattle.rio_format.specs.declared.class.ClassDef.{ClassDef}
use Rattle.rio_num.specs.Word.{is_item_text}
use Rattle.rio_key.specs.declared.head.KeyHead.{KeyHead}
use Rattle.rio_chain.specs.{Changes.{with_record}, Placing.{IsPlaceFor}, Segments.{IsChain, Link, segment_of}}
use Rattle.rio_dir.specs.Table.{with_head}
use Rattle.rio_state.specs.{Closing.{held_with, kept_with}, Contents.{file_classes}, DirectoryKeys.{AreKeysOf}, KeyedRecords.{info_key, is_top_key, is_tree_key, keyed_records}}
use Rattle.rio_state.specs.{OneMore.{KeyIsRead, keyed_bytes}, TreeLengths.{PendingRows}, Trees.{header_in}}
use Rattle.rio_tree.specs.{HeaderLength.{header_size}, declared.head.TreeHead.{TreeHead}}
use Rattle.rio_effect.specs.{AllItems.{AreAllItems, IsNewName}, HeaderRecords.{IsHeaderRecord}, TreeDeletes.{KeepsTreeLess}, TreeRecords.{header_record, new_head}}

-- ---- a new tree

-- The record's key is that of a tree under a new name, and its header is read as this by the classes of the file.
pub record IsNewHeader (links : List Link) (place : ℕ) (bytes : List ℕ) (head : KeyHead) (said : TreeHead) : Type 0 where
  pub read : KeyIsRead place bytes head
  pub top : is_top_key head ≡ true
  pub tree : is_tree_key head ≡ true
  pub new : IsNewName links head.name
  pub header : header_in (file_classes (info_key (keyed_records links))) (keyed_bytes head bytes) ≡ Some said

-- its key stands in its place among the keys
abbrev pub NewHeaderKeyFollows : Type 0
NewHeaderKeyFollows = (links : List Link) (place : ℕ) (bytes : List ℕ) (head : KeyHead) (said : TreeHead) (heads : List KeyHead) → IsNewHeader links place bytes head said
    → AreAllItems links → AreKeysOf (keyed_records links) heads → AreKeysOf (keyed_records (with_record place bytes links)) (with_head head heads)

-- what the file keeps before is what it keeps with the tree, a tree less
abbrev pub NewHeaderKeepsMore : Type 0
NewHeaderKeepsMore = (pending : PendingRows) (file : List ℕ) (links : List Link) (place : ℕ) (bytes : List ℕ) (head : KeyHead) (said : TreeHead) → IsChain links file
    → IsNewHeader links place bytes head said → AreAllItems links
    → KeepsTreeLess pending (file_classes (info_key (keyed_records links))) (keyed_bytes head bytes) said (kept_with pending (with_record place bytes links)) (kept_with pending links)

-- The header of a tree that is made, at the place of the rule, raises what the file holds by no more than the cost of its command but for the
-- class list.
abbrev pub NewHeaderHeldGrows : Type 0
NewHeaderHeldGrows = (pending : PendingRows) (file : List ℕ) (links : List Link) (classes : List ClassDef) (place datime : ℕ) (name : List ℕ) (branches : List BranchDef) → IsChain links file
    → AreAllItems links → IsNewName links name → is_item_text name ≡ true → pending name ≡ []
    → IsHeaderRecord (file_classes (info_key (keyed_records links))) place datime name 1 (new_head classes branches)
    → IsPlaceFor (map segment_of links) (length (header_record place datime name 1 (new_head classes branches))) place
    → held_with pending (with_record place (header_record place datime name 1 (new_head classes branches)) links) ≤ held_with pending links + (500 + 2 * header_size name branches)

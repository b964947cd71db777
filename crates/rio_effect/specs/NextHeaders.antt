-- What the header of a save makes of the keys that are kept beside a file, and of what the file keeps, once the header before is released.
use Rattle.std.specs.Prelude.{◌≡◌, ◌<◌, ℕ, List, true, Some}
use Rattle.rio_key.specs.declared.head.KeyHead.{KeyHead}
use Rattle.rio_chain.specs.{Changes.{with_record}, Segments.{IsChain, Link}}
use Rattle.rio_dir.specs.Table.{with_head, without_head}
use Rattle.rio_machine.specs.State.{State}
use Rattle.rio_state.specs.{Closing.{kept_with}, Contents.{file_classes}, DirectoryKeys.{AreKeysOf}, KeyedRecords.{KeyedRecord, info_key, is_top_key, is_tree_key, keyed_records}}
use Rattle.rio_state.specs.{OneLess.{links_without}, OneMore.{KeyIsRead, keyed_bytes}, Reads.{AreRecordsOf}, TreeLengths.{PendingRows}, Trees.{header_in}}
use Rattle.rio_tree.specs.declared.head.TreeHead.{TreeHead}
use Rattle.rio_effect.specs.{AllItems.{AreAllItems}, TreeDeletes.{HasHeader, KeepsTreeLess}}

-- The record's key is that of the same tree in a later cycle, and its header is read as this by the classes of the file.
pub record IsLaterHeader (links : List Link) (s : KeyedRecord) (place : ℕ) (bytes : List ℕ) (head : KeyHead) (said : TreeHead) : Type 0 where
  pub read : KeyIsRead place bytes head
  pub top : is_top_key head ≡ true
  pub tree : is_tree_key head ≡ true
  pub name : head.name ≡ s.head.name
  pub later : s.head.cycle < head.cycle
  pub header : header_in (file_classes (info_key (keyed_records links))) (keyed_bytes head bytes) ≡ Some said

-- the links with the record, and then without the header before
abbrev pub links_replaced : List Link → KeyedRecord → ℕ → List ℕ → List Link
links_replaced links s place bytes = links_without (with_record place bytes links) s

-- A header of a file that stands for a state, and a later one, whose record some file has.
pub record IsReplaced (file image : List ℕ) (links : List Link) (m : State) (s : KeyedRecord) (before : TreeHead) (place : ℕ) (bytes : List ℕ) (head : KeyHead) (said : TreeHead) : Type 0 where
  pub has : HasHeader file links s before
  pub records : AreRecordsOf (keyed_records links) m
  pub later : IsLaterHeader links s place bytes head said
  pub chain : IsChain (with_record place bytes links) image

-- Among the keys the later one stands in place of the one before: as soon as it is put, and when the one before is released. No header is
-- outdated then. Of the rest what the file keeps stays: with either header it is what it keeps without them, a tree more.
pub record HeaderIsReplaced (links : List Link) (s : KeyedRecord) (before : TreeHead) (place : ℕ) (bytes : List ℕ) (head : KeyHead) (said : TreeHead) : Type 0 where
  pub put : (heads : List KeyHead) → AreKeysOf (keyed_records links) heads → AreKeysOf (keyed_records (with_record place bytes links)) (with_head head (without_head s.head.name s.head.cycle heads))
  pub keys : (heads : List KeyHead) → AreKeysOf (keyed_records links) heads → AreKeysOf (keyed_records (links_replaced links s place bytes)) (with_head head (without_head s.head.name s.head.cycle heads))
  pub info : info_key (keyed_records (links_replaced links s place bytes)) ≡ info_key (keyed_records links)
  pub items : AreAllItems (links_replaced links s place bytes)
  pub kept_before : (pending : PendingRows) → KeepsTreeLess pending (file_classes (info_key (keyed_records links))) s before (kept_with pending links) (kept_with pending (links_without links s))
  pub kept : (pending : PendingRows)
      → KeepsTreeLess pending (file_classes (info_key (keyed_records links))) (keyed_bytes head bytes) said (kept_with pending (links_replaced links s place bytes)) (kept_with pending (links_without links s))

abbrev pub LaterHeaderReplaces : Type 0
LaterHeaderReplaces = (file image : List ℕ) (links : List Link) (m : State) (s : KeyedRecord) (before : TreeHead) (place : ℕ) (bytes : List ℕ) (head : KeyHead) (said : TreeHead)
    → IsReplaced file image links m s before place bytes head said → HeaderIsReplaced links s before place bytes head said

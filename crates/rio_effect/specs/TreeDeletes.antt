-- What the delete of a tree makes of a file. First the record of its header is released: without it the records stand for the state
-- without the tree, and nothing refers to the tree's baskets. They are released then, one after the other.
use Rattle.std.specs.Prelude.{◌≡◌, ◌⊎◌, ◌↔◌, ℕ, ◌+◌, List, [], ◌∷◌, true, length, Option, Some, None}
use Rattle.std.specs.List.{Contains, Sorted.{IsStrictlyIncreasing}}
use Rattle.rio_key.specs.declared.head.KeyHead.{KeyHead}
use Rattle.rio_chain.specs.Segments.{IsChain, Link}
use Rattle.rio_machine.specs.{State.{State, names_tree}, declared.command.Command.TheVariants.{Delete}}
use Rattle.rio_dir.specs.Table.{head_of, without_head}
use Rattle.rio_state.specs.{Closing.{KeptRecords, kept_with}, Contents.{FileClasses, file_classes}, DirectoryKeys.{AreKeysOf}}
use Rattle.rio_state.specs.KeyedRecords.{KeyedRecord, begins_at, info_key, keyed_records, top_keys}
use Rattle.rio_state.specs.{OneLess.{HasRecord, NeedsNoMore, links_without}, OneMore.{HasOneMoreIn}, Reads.{AreRecordsOf}, Referred.{is_tree_item}}
use Rattle.rio_state.specs.{TreeLengths.{PendingRows, cuts_of, pending_in, put_count, tree_lengths}, Trees.{are_named_once, basket_places}}
use Rattle.rio_tree.specs.{WrittenLaws.{stated_defs}, declared.head.TreeHead.{TreeHead}}
use Rattle.rio_step.specs.{Refusing.{FullMark, refusal_of}, Runs.{saved_of}}
use Rattle.rio_effect.specs.{AllItems.{AreAllItems}, Deletes.{state_without}, Garbage.{AreGarbage, IsGarbageAt, releases}}
use Rattle.rio_effect.specs.TreeChanges.{FileRecords, changes_of_tree_delete, header_of, header_record_of, places_of_baskets}

-- ---- the header

-- The file has these links, in which no header is outdated, and among them the header of a tree, which is read as this.
pub record HasHeader (file : List ℕ) (links : List Link) (r : KeyedRecord) (head : TreeHead) : Type 0 where
  pub record_is : HasRecord file links r
  pub items : AreAllItems links
  pub tree : is_tree_item (top_keys (keyed_records links)) r ≡ true
  pub header : header_of links r ≡ Some head

-- The tree of a name and cycle has such a header, whose key is among the keys beside the file. It is the one of the name.
pub record HasHeaderOf (file : List ℕ) (links : List Link) (heads : List KeyHead) (name : List ℕ) (cycle : ℕ) : Type 0 where
  pub r : KeyedRecord
  pub head : TreeHead
  pub has : HasHeader file links r head
  pub name_is : r.head.name ≡ name
  pub cycle_is : r.head.cycle ≡ cycle
  pub found : head_of name (Some cycle) heads ≡ Some r.head
  pub counts : header_record_of links name ≡ Some r

-- the tree of a delete that isn't refused has a header, and a key
abbrev pub DeletesHaveHeaders : Type 0
DeletesHaveHeaders = (file : List ℕ) (links : List Link) (heads : List KeyHead) (m : State) (name : List ℕ) (cycle : ℕ) (mark : Option FullMark) → IsChain links file
    → AreKeysOf (keyed_records links) heads → AreRecordsOf (keyed_records links) (saved_of m) → AreAllItems links → names_tree m name ≡ true
    → refusal_of m (Delete name cycle) mark ≡ None → HasHeaderOf file links heads name cycle

-- ---- without the header

-- The records stand for the state without the tree, and still no header is outdated. Of the states this part is what the records stand
-- for: all of them, or all but their pending rows.
pub record IsTreeGone (links : List Link) (m : State) : Type 0 where
  pub records : AreRecordsOf (keyed_records links) m
  pub items : AreAllItems links

abbrev pub TreeDeleteTakesEffect : (State → State) → Type 0
TreeDeleteTakesEffect part = (file : List ℕ) (links : List Link) (m : State) (r : KeyedRecord) (head : TreeHead) → HasHeader file links r head
    → AreRecordsOf (keyed_records links) (part m) → IsTreeGone (links_without links r) (part (state_without m r))

-- the tree's key is taken out of the keys beside the file
abbrev pub TreeDeleteKeyFollows : Type 0
TreeDeleteKeyFollows = (file : List ℕ) (links : List Link) (m : State) (heads : List KeyHead) (r : KeyedRecord) (head : TreeHead) → HasHeader file links r head
    → AreRecordsOf (keyed_records links) m → AreKeysOf (keyed_records links) heads
    → AreKeysOf (keyed_records (links_without links r)) (without_head r.head.name r.head.cycle heads)

-- At each of these places, none of which stands twice, a record begins that the header names, or that nothing refers to.
pub record AreBasketsOf (links : List Link) (head : TreeHead) (places : List ℕ) : Type 0 where
  pub each : (place : ℕ) → Contains places place → Contains (basket_places head) place ⊎ IsGarbageAt links place
  pub once : are_named_once [] places ≡ true

-- without the header nothing refers to them
abbrev pub BasketsAreGarbage : Type 0
BasketsAreGarbage = (file : List ℕ) (links : List Link) (m : State) (r : KeyedRecord) (head : TreeHead) (places : List ℕ) → HasHeader file links r head
    → AreRecordsOf (keyed_records links) m → AreBasketsOf links head places → AreGarbage (links_without links r) places

-- ---- what a file keeps

-- how many baskets of the tree were put since its last save
abbrev pub put_since : PendingRows → FileClasses → KeyedRecord → TreeHead → ℕ
put_since pending classes r head = put_count (cuts_of classes.declared (stated_defs head.branches) (pending r.head.name))

-- One key less, and one tree. Of the records the header and the tree's baskets are kept no more, those of pending rows too.
pub record KeepsTreeLess (pending : PendingRows) (classes : FileClasses) (r : KeyedRecord) (head : TreeHead) (old new : KeptRecords) : Type 0 where
  pub name : new.name ≡ old.name
  pub heads : HasOneMoreIn new.heads old.heads r.head
  pub count : new.count + (1 + length (basket_places head) + put_since pending classes r head) ≡ old.count
  pub trees : HasOneMoreIn new.trees old.trees (tree_lengths classes.declared r.head.name (pending r.head.name) head)

abbrev pub TreeDeleteKeepsLess : Type 0
TreeDeleteKeepsLess = (pending : PendingRows) (file : List ℕ) (links : List Link) (r : KeyedRecord) (head : TreeHead) → HasHeader file links r head
    → KeepsTreeLess pending (file_classes (info_key (keyed_records links))) r head (kept_with pending links) (kept_with pending (links_without links r))

-- a close needs no more, nor does the file hold more
abbrev pub TreeDeleteNeedsNoMore : Type 0
TreeDeleteNeedsNoMore = (pending : PendingRows) (file : List ℕ) (links : List Link) (r : KeyedRecord) (head : TreeHead) → HasHeader file links r head
    → NeedsNoMore pending links (links_without links r)

-- the pending rows of the tree are forgotten: without the header what a file keeps doesn't look at them
abbrev pub TreeDeleteForgetsRows : Type 0
TreeDeleteForgetsRows = (file : List ℕ) (links : List Link) (m : State) (r : KeyedRecord) (head : TreeHead) → HasHeader file links r head
    → AreRecordsOf (keyed_records links) (saved_of m)
    → kept_with (pending_in (state_without m r)) (links_without links r) ≡ kept_with (pending_in m) (links_without links r)

-- ---- the changes

-- They are the release of the header, and then those of its baskets: at places that rise, each of them that of a record, where these are the
-- places of all baskets that the header names and of those that were put since.
abbrev pub TreeDeleteChanges : Type 0
TreeDeleteChanges = (file : List ℕ) (now : FileRecords) (heads : List KeyHead) (name : List ℕ) (cycle : ℕ) (places : List ℕ) (x : HasHeaderOf file now.links heads name cycle)
    → IsStrictlyIncreasing places → ((place : ℕ) → Contains places place ↔ Contains (places_of_baskets now name x.head) place)
    → ((place : ℕ) → Contains places place → begins_at (keyed_records now.links) place ≡ true)
    → changes_of_tree_delete now name ≡ releases (x.r.head.seek ∷ places)

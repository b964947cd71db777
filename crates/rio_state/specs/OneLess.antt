-- What one record less in the chain of a file makes of the file's records, of what they stand for, of the keys that are kept
-- beside it, and of what its close needs.
use Rattle.std.specs.{Prelude.{◌≡◌, ◌≢◌, ◌≤◌, ◌+◌, ℕ, List, true, false, ◌&&◌}, FinMap.{remove}, List.{Contains, list_any}, Str.{bytes_eq}}
use Rattle.rio_key.specs.declared.head.KeyHead.{KeyHead}
use Rattle.rio_chain.specs.{Changes.{without_record}, Segments.{IsChain, Link, chain_end}}
use Rattle.rio_machine.specs.State.{State}
use Rattle.rio_state.specs.{Contents.{file_classes}, Closing.{close_need, held_with, kept_with, name_in}, DirectoryKeys.{AreKeysOf}, TreeLengths.{PendingRows}}
use Rattle.rio_state.specs.KeyedRecords.{KeyedRecord, first_place, info_key, is_tree_key, keyed_records, top_keys}
use Rattle.rio_state.specs.{OneMore.{HasOneMoreIn}, Reads.{AreRecordsOf, info_place}, Referred.{is_referred, is_tree_item}, Trees.{places_named}}

-- the links without a record
abbrev pub links_without : List Link → KeyedRecord → List Link
links_without links r = without_record r.head.seek links

-- the file has these links, and this record among them
pub record HasRecord (file : List ℕ) (links : List Link) (r : KeyedRecord) : Type 0 where
  pub chain : IsChain links file
  pub among : Contains (keyed_records links) r

-- a record that is released is one less among the records of a file, and the others stay as they are
abbrev pub RecordLess : Type 0
RecordLess = (file : List ℕ) (links : List Link) (r : KeyedRecord) → HasRecord file links r
    → HasOneMoreIn (keyed_records (links_without links r)) (keyed_records links) r

-- without another record the first stays the first
abbrev pub FirstIsKept : Type 0
FirstIsKept = (file : List ℕ) (links : List Link) (r : KeyedRecord) → HasRecord file links r → r.head.seek ≢ first_place
    → name_in (keyed_records (links_without links r)) ≡ name_in (keyed_records links)

-- ---- a record that nothing refers to

-- without the record the file's records stand for the same state, with the same keys, class list and name, and what it keeps
-- stays
pub record IsSameWithout (links : List Link) (r : KeyedRecord) : Type 0 where
  pub records : (m : State) → AreRecordsOf (keyed_records links) m → AreRecordsOf (keyed_records (links_without links r)) m
  pub keys : (heads : List KeyHead) → AreKeysOf (keyed_records links) heads → AreKeysOf (keyed_records (links_without links r)) heads
  pub info : info_key (keyed_records (links_without links r)) ≡ info_key (keyed_records links)
  pub name : name_in (keyed_records (links_without links r)) ≡ name_in (keyed_records links)
  pub kept : (pending : PendingRows) → kept_with pending (links_without links r) ≡ kept_with pending links

abbrev pub GarbageGoes : Type 0
GarbageGoes = (file : List ℕ) (links : List Link) (r : KeyedRecord) → HasRecord file links r → is_referred (keyed_records links) r ≡ false
    → IsSameWithout links r

-- what is referred to is the same
abbrev pub OthersAreReferred : Type 0
OthersAreReferred = (file : List ℕ) (links : List Link) (r s : KeyedRecord) → HasRecord file links r → is_referred (keyed_records links) r ≡ false
    → is_referred (keyed_records (links_without links r)) s ≡ is_referred (keyed_records links) s

-- ---- the header of a tree

-- The record is that of a tree's header, and no other header has the tree's name, an outdated one neither.
pub record IsLastHeader (links : List Link) (r : KeyedRecord) : Type 0 where
  pub tree : is_tree_item (top_keys (keyed_records links)) r ≡ true
  pub last : list_any (λ s. bytes_eq s.head.name r.head.name && is_tree_key s.head) (top_keys (keyed_records (links_without links r))) ≡ false

abbrev pub without_tree : State → List ℕ → State
without_tree m name = record m { trees = remove m.trees name }

-- Without it the file's records stand for the state without the tree, and nothing refers to the baskets that it named.
pub record IsWithoutTree (links : List Link) (r : KeyedRecord) : Type 0 where
  pub records : (m : State) → AreRecordsOf (keyed_records links) m → AreRecordsOf (keyed_records (links_without links r)) (without_tree m r.head.name)
  pub baskets : (m : State) → AreRecordsOf (keyed_records links) m → (s : KeyedRecord) → Contains (keyed_records links) s
      → Contains (places_named (file_classes (info_key (keyed_records links))) r) s.head.seek → is_referred (keyed_records (links_without links r)) s ≡ false

abbrev pub TreeGoes : Type 0
TreeGoes = (file : List ℕ) (links : List Link) (r : KeyedRecord) → HasRecord file links r → IsLastHeader links r → IsWithoutTree links r

-- ---- what a close needs

-- with these rows pending a close needs no more, nor do END and that together rise, and the file holds no more
pub record NeedsNoMore (pending : PendingRows) (before after : List Link) : Type 0 where
  pub need : close_need (kept_with pending after) ≤ close_need (kept_with pending before)
  pub end : chain_end after + close_need (kept_with pending after) ≤ chain_end before + close_need (kept_with pending before)
  pub held : held_with pending after ≤ held_with pending before

-- So it is without a record that is neither the first, nor that of the class list that counts, nor a tree's.
abbrev pub NeedFalls : Type 0
NeedFalls = (pending : PendingRows) (file : List ℕ) (links : List Link) (r : KeyedRecord) → HasRecord file links r → r.head.seek ≢ first_place
    → r.head.seek ≢ info_place (info_key (keyed_records links)) → is_tree_item (top_keys (keyed_records links)) r ≡ false
    → NeedsNoMore pending links (links_without links r)

-- What one record more in the chain of a file makes of the file's records, of what they stand for, and of the keys that are kept
-- beside it, whatever command put it.
use Rattle.std.specs.{Prelude.{◌≡◌, ℕ, ◌+◌, List, [], ◌∷◌, ◌++◌, map, true, false, None, Ok}, List.{find}}
use Rattle.rio_key.specs.{Key.{key_at}, declared.head.KeyHead.{KeyHead}}
use Rattle.rio_dir.specs.Table.{is_at_cycle, with_head}
use Rattle.rio_chain.specs.{Changes.{with_record}, Placing.{record_count}, Segments.{IsChain, Link, RecordAt, segment_of}}
use Rattle.rio_machine.specs.State.{State, empty_state}
use Rattle.rio_state.specs.{Closing.{kept_with, name_in}, DirectoryKeys.{AreKeysOf}, TreeLengths.{PendingRows}}
use Rattle.rio_state.specs.{KeyedRecords.{KeyedRecord, begins_at, info_key, is_info_key, is_internal, is_top_key, is_tree_key, keyed_records}, Reads.{AreRecordsOf}}

-- the second list is the first with one more in it
pub record HasOneMoreIn {A : Type 0} (old new : List A) (x : A) : Type 0 where
  pub front : List A
  pub back : List A
  pub before : old ≡ front ++ back
  pub after : new ≡ front ++ x ∷ back

-- this key is read of a record's bytes
abbrev pub KeyIsRead : ℕ → List ℕ → KeyHead → Type 0
KeyIsRead place bytes head = key_at (record { place = place; rest = bytes }) ≡ Ok head

-- a record with its key
abbrev pub keyed_bytes : KeyHead → List ℕ → KeyedRecord
keyed_bytes head bytes = record { head = head; bytes = bytes }

-- a record that is put is one more among the records of a file
abbrev pub RecordMore : Type 0
RecordMore = (links : List Link) (place : ℕ) (bytes : List ℕ) (head : KeyHead) → KeyIsRead place bytes head
    → HasOneMoreIn (keyed_records links) (keyed_records (with_record place bytes links)) (keyed_bytes head bytes)

-- of the records of a chain no other begins at the place of one
abbrev pub PlacesDiffer : Type 0
PlacesDiffer = (file : List ℕ) (links : List Link) (others : List KeyedRecord) (r : KeyedRecord) → IsChain links file → HasOneMoreIn others (keyed_records links) r
    → begins_at others r.head.seek ≡ false

-- one that isn't a class list leaves the class list that counts
abbrev pub InfoStays : Type 0
InfoStays = (old new : List KeyedRecord) (r : KeyedRecord) → HasOneMoreIn old new r → is_info_key r.head ≡ false → info_key new ≡ info_key old

-- the first record stays the first
abbrev pub FirstStays : Type 0
FirstStays = (file : List ℕ) (links : List Link) (place : ℕ) (bytes : List ℕ) → IsChain links file
    → name_in (keyed_records (with_record place bytes links)) ≡ name_in (keyed_records links)

-- and there is one segment more that is a record
abbrev pub CountGrows : Type 0
CountGrows = (links : List Link) (place : ℕ) (bytes : List ℕ) → record_count (map segment_of (with_record place bytes links)) ≡ record_count (map segment_of links) + 1

-- A file that is just made has its first record alone. It reads as the empty state and has no keys.
pub record ReadsAsEmpty (links : List Link) : Type 0 where
  pub records : AreRecordsOf (keyed_records links) empty_state
  pub keys : AreKeysOf (keyed_records links) []
  pub kept : (pending : PendingRows) → kept_with pending links ≡ record { name = name_in (keyed_records links); heads = []; count = 1; trees = [] }

abbrev pub EmptyIsRead : Type 0
EmptyIsRead = (file : List ℕ) (place : ℕ) (bytes : List ℕ) → IsChain (RecordAt place bytes ∷ []) file → ReadsAsEmpty (RecordAt place bytes ∷ [])

-- with one more record that the file itself needs, at whose place no record began, the records stand for the same state
abbrev pub InternalStays : Type 0
InternalStays = (old new : List KeyedRecord) (r : KeyedRecord) (m : State) → HasOneMoreIn old new r → is_internal r.head ≡ true → begins_at old r.head.seek ≡ false
    → AreRecordsOf old m → AreRecordsOf new m

-- the key of one more object, whose name and cycle are new, stands in its place
abbrev pub KeysFollow : Type 0
KeysFollow = (old new : List KeyedRecord) (r : KeyedRecord) (heads : List KeyHead) → HasOneMoreIn old new r → is_top_key r.head ≡ true → is_tree_key r.head ≡ false
    → find (is_at_cycle r.head.name r.head.cycle) heads ≡ None → AreKeysOf old heads → AreKeysOf new (with_head r.head heads)

-- with one more record that the file itself needs the keys stay
abbrev pub KeysStay : Type 0
KeysStay = (old new : List KeyedRecord) (r : KeyedRecord) (heads : List KeyHead) → HasOneMoreIn old new r → is_internal r.head ≡ true
    → AreKeysOf old heads → AreKeysOf new heads

-- a record more that the file itself needs isn't one that it keeps
abbrev pub NeedStays : Type 0
NeedStays = (pending : PendingRows) (file : List ℕ) (links : List Link) (place : ℕ) (bytes : List ℕ) (head : KeyHead) → IsChain links file → KeyIsRead place bytes head → is_internal head ≡ true
    → kept_with pending (with_record place bytes links) ≡ kept_with pending links

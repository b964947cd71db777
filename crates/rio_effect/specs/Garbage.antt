-- Records that nothing refers to are released, one after the other: each time the records stand for the same, and a close needs no more.
use Rattle.std.specs.Prelude.{◌≡◌, ◌≢◌, ◌<◌, ◌≤◌, ℕ, List, [], length, map, take, true, false}
use Rattle.std.specs.List.{Contains}
use Rattle.rio_key.specs.declared.head.KeyHead.{KeyHead}
use Rattle.rio_chain.specs.{Changes.{without_record}, Segments.{IsChain, Link}}
use Rattle.rio_machine.specs.State.{State}
use Rattle.rio_state.specs.{Closing.{kept_with, name_in}, DirectoryKeys.{AreKeysOf}, TreeLengths.{PendingRows}, Trees.{are_named_once}}
use Rattle.rio_state.specs.KeyedRecords.{KeyedRecord, info_key, keyed_records, top_keys, tree_records}
use Rattle.rio_state.specs.{OneLess.{NeedsNoMore}, Reads.{AreRecordsOf}, Referred.{is_referred}}
use Rattle.rio_effect.specs.{AllItems.{AreAllItems}, Changes.{Change, all_changed, released}}

-- Later links stand for what links before them stand for, with the same keys, class list and name. What the file keeps stays, whatever
-- rows are pending, and no header is outdated where none was.
pub record StandsAlike (before after : List Link) : Type 0 where
  pub records : (m : State) → AreRecordsOf (keyed_records before) m → AreRecordsOf (keyed_records after) m
  pub keys : (heads : List KeyHead) → AreKeysOf (keyed_records before) heads → AreKeysOf (keyed_records after) heads
  pub info : info_key (keyed_records after) ≡ info_key (keyed_records before)
  pub name : name_in (keyed_records after) ≡ name_in (keyed_records before)
  pub kept : (pending : PendingRows) → kept_with pending after ≡ kept_with pending before
  pub items : AreAllItems before → AreAllItems after

-- and a close needs no more
pub record StandsForSame (before after : List Link) : Type 0 where
  pub alike : StandsAlike before after
  pub need : (pending : PendingRows) → NeedsNoMore pending before after

-- ---- one record

-- at this place a record begins that nothing refers to
pub record IsGarbageAt (links : List Link) (place : ℕ) : Type 0 where
  pub r : KeyedRecord
  pub among : Contains (keyed_records links) r
  pub seek : r.head.seek ≡ place
  pub free : is_referred (keyed_records links) r ≡ false

-- without it the records stand for the same, and other garbage is there still
pub record IsGarbageReleased (links : List Link) (place : ℕ) : Type 0 where
  pub same : StandsForSame links (without_record place links)
  pub others : (other : ℕ) → other ≢ place → IsGarbageAt links other → IsGarbageAt (without_record place links) other

abbrev pub GarbageIsReleased : Type 0
GarbageIsReleased = (file : List ℕ) (links : List Link) (place : ℕ) → IsChain links file → IsGarbageAt links place → IsGarbageReleased links place

-- ---- several

abbrev pub releases : List ℕ → List Change
releases places = map released places

-- before each of the first k changes some file has the links that there are then
abbrev pub ArePassed : List Link → List Change → ℕ → Type 0
ArePassed links changes k = (j : ℕ) → j < k → (image : List ℕ) × IsChain (all_changed links (take j changes)) image

-- at each of these places, none of which stands twice, garbage begins
pub record AreGarbage (links : List Link) (places : List ℕ) : Type 0 where
  pub each : (place : ℕ) → Contains places place → IsGarbageAt links place
  pub once : are_named_once [] places ≡ true

-- after the first k of these releases the records stand for the same
abbrev pub ReleasesKeepAll : Type 0
ReleasesKeepAll = (links : List Link) (places : List ℕ) (k : ℕ) → AreGarbage links places → k ≤ length places → ArePassed links (releases places) k
    → StandsForSame links (all_changed links (take k (releases places)))

-- ---- pending rows

-- What a file keeps looks at the pending rows of its trees alone.
abbrev pub PendingByNames : Type 0
PendingByNames = (pending other : PendingRows) (links : List Link)
    → ((r : KeyedRecord) → Contains (tree_records (top_keys (keyed_records links))) r → pending r.head.name ≡ other r.head.name)
    → kept_with pending links ≡ kept_with other links

-- What a file reads as. By a walk: its bytes are segments, and the segments' records stand for a state. By its key list: the
-- records that the list names stand for the state.
use Rattle.std.specs.Prelude.{◌≡◌, ℕ, List, [], ◌∷◌, ◌++◌, length, map, Bool, true, false, ◌==◌, ◌&&◌, not, MatchBool, Option, Some, None, is_some, option_and_then, Ok}
use Rattle.std.specs.{FinMap.{get}, List.{All, Contains, find, list_all, list_any}}
use Rattle.rio_num.specs.{Word.{is_item_text}, Room.{is_padding}}
use Rattle.rio_format.specs.{declared.class.ClassDef.{ClassDef}, declared.value.Value.{Value}}
use Rattle.rio_key.specs.declared.head.KeyHead.{KeyHead}
use Rattle.rio_head.specs.{Form.{is_large_head}, Head.{head_at}, declared.head.FileHead.{FileHead}}
use Rattle.rio_free.specs.Record.{free_bytes}
use Rattle.rio_dir.specs.{Closed.{closed_file}, Unborn.{is_unborn}, declared.closed.Closed.{Closed}}
use Rattle.rio_chain.specs.{Placing.{gaps_in}, Segments.{IsChain, Link, chain_end, segment_of}}
use Rattle.rio_machine.specs.State.{NameAndCycle, State, empty_state}
use Rattle.rio_state.specs.{Contents.{HasStateClasses, object_in, state_classes}, Trees.{tree_of, tree_under, trees_beside}}
use Rattle.rio_state.specs.KeyedRecords.{KeyedRecord, has_item, info_key, is_elsewhere, is_mixed_name, is_top_key, item_of_key, keyed_records, object_records, record_data, top_keys, tree_records}

-- ---- keys with their records

-- the name is one of the script language, and the title is empty
abbrev pub is_named_key : KeyHead → Bool
is_named_key head = is_item_text head.name && (length head.title == 0)

-- no two have the same name and cycle
abbrev pub are_distinct : List KeyedRecord → Bool
are_distinct [] = true
are_distinct (r ∷ rs) = not (list_any (has_item (item_of_key r.head)) rs) && are_distinct rs

-- what the records have under a name and cycle
abbrev pub object_under : List ClassDef → List KeyedRecord → NameAndCycle → Option Value
object_under classes tops item = option_and_then (object_in classes) (find (has_item item) (object_records tops))

-- These keys of objects and trees, with their records, and this class list stand for the state, among all records of a file.
pub record StandsForState (records : List KeyedRecord) (info : Option KeyedRecord) (tops : List KeyedRecord) (m : State) : Type 0 where
  -- the classes are those of the class list
  pub listed : HasStateClasses info
  pub classes : m.classes ≡ state_classes info
  -- each key has a name that a script can say, and no title
  pub named : list_all (λ r. is_named_key r.head) tops ≡ true
  -- name and cycle differ between keys, and no name is that of a tree and of an object
  pub distinct : are_distinct tops ≡ true
  pub apart : list_all (λ r. not (is_mixed_name tops r.head.name)) tops ≡ true
  -- each key but those of trees is that of an object, and these are the state's objects
  pub readable : list_all (λ r. is_some (object_in (state_classes info) r)) (object_records tops) ≡ true
  pub objects : (item : NameAndCycle) → get m.objects item ≡ object_under (state_classes info) tops item
  -- of each name of trees the key with the greatest cycle is that of a tree, and these are the state's trees
  pub tree_readable : list_all (λ r. is_some (tree_of (trees_beside info records tops) r)) (tree_records tops) ≡ true
  pub trees : (name : List ℕ) → get m.trees name ≡ tree_under (trees_beside info records tops) name

-- ---- by a walk

-- the keys of a file's records are in its directory and stand for the state
pub record AreRecordsOf (records : List KeyedRecord) (m : State) : Type 0 where
  pub here : list_all (λ r. not (is_elsewhere r.head)) records ≡ true
  pub stand : StandsForState records (info_key records) (top_keys records) m

-- A file that is made reads as the state: its header breaks no rule and has the small form, and the records of its segments
-- stand for the state. Of the header nothing else matters, and of the directory record its version alone.
pub record ReadsAsMade (file : List ℕ) (m : State) : Type 0 where
  pub head : FileHead
  pub head_is : head_at file ≡ Ok head
  pub small : is_large_head head.version ≡ false
  pub links : List Link
  pub chain : IsChain links file
  pub records : AreRecordsOf (keyed_records links) m

-- a file reads as a state by the walk; one that isn't made yet as the empty state
abbrev pub ReadsAsState : List ℕ → State → Type 0
ReadsAsState file m = MatchBool (is_unborn file) (m ≡ empty_state) (ReadsAsMade file m)

-- ---- by the key list

-- the place of the class list that counts, and 0 where there is none
abbrev pub info_place : Option KeyedRecord → ℕ
info_place None = 0
info_place (Some r) = r.head.seek

-- the free record at a place holds the entries of the file's gaps and of what is behind its END
pub record IsFreeRecordAt (links : List Link) (place : ℕ) : Type 0 where
  pub r : KeyedRecord
  pub there : Contains (keyed_records links) r
  pub seek : r.head.seek ≡ place
  pub zeros : List ℕ
  pub padding : is_padding zeros ≡ true
  pub written : record_data r ≡ free_bytes (gaps_in (map segment_of links)) (chain_end links) ++ zeros

-- A closed file reads as the state by its key list: header, directory record and key list break no rule; each head of the list
-- is the key of a record of the file that may be an object or a tree, the class list that counts is where the header says, and
-- these records stand for the state. The header says END, and the free record is written for the gaps. (The class list of a record of the chain is never compressed,
-- and it has a reading where it stands for classes; so the file breaks no rule of the class list either.)
pub record ReadsClosed (file : List ℕ) (m : State) : Type 0 where
  pub closed : Closed
  pub closed_is : closed_file file ≡ Ok closed
  pub small : is_large_head closed.head.version ≡ false
  pub links : List Link
  pub chain : IsChain links file
  pub here : list_all (λ r. not (is_elsewhere r.head)) (keyed_records links) ≡ true
  pub info : closed.head.seek_info ≡ info_place (info_key (keyed_records links))
  pub listed : List KeyedRecord
  pub heads : map (λ r. r.head) listed ≡ closed.keys
  pub there : All (Contains (keyed_records links)) listed
  pub tops : list_all (λ r. is_top_key r.head) listed ≡ true
  pub stand : StandsForState (keyed_records links) (info_key (keyed_records links)) listed m
  pub end : closed.head.end ≡ chain_end links
  pub free : IsFreeRecordAt links closed.head.seek_free

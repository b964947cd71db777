-- What the record of a put makes of what a file reads as, of the keys that are kept beside it, and of what its close needs.
use Rattle.std.specs.{Prelude.{◌≡◌, ◌<◌, ◌≤◌, ℕ, ◌+◌, ◌^◌, List, [], drop, length, map, not, true, false, Option, Some, None, Ok, unwrap_or}, FinMap.{empty, entries, get}}
use Rattle.std.specs.{List.{Contains, filter, find, sum_by}}
use Rattle.rio_num.specs.Word.{is_item_text}
use Rattle.rio_format.specs.{declared.value.Value.{Value}, Objects.{value_at}}
use Rattle.rio_key.specs.{Written.{written_key}, declared.head.KeyHead.{KeyHead}}
use Rattle.rio_head.specs.{Form.{is_large_head}, Head.{head_at}, declared.head.FileHead.{FileHead}}
use Rattle.rio_model.specs.StateClasses.{StateClasses}
use Rattle.rio_machine.specs.{Limits.{head_length}, State.{NameAndCycle, State, names_tree, next_cycle}, declared.command.Command.TheVariants.{Put}}
use Rattle.rio_dir.specs.Table.{greatest_cycle, is_at_cycle, with_head}
use Rattle.rio_chain.specs.{Changes.{with_record}, Placing.{IsPlaceFor}, Segments.{IsChain, IsRecord, Link, RecordAt, segment_of}, Stops.{KeepsFront}}
use Rattle.rio_chain.specs.Record.{FitsWords}
use Rattle.rio_state.specs.{Closing.{KeptRecords, closing_lengths, held_with, kept_of, kept_with, name_in, padded_length}, DirectoryKeys.{AreKeysOf}, TreeLengths.{PendingRows}}
use Rattle.rio_state.specs.KeyedRecords.{KeyedRecord, begins_at, info_key, is_elsewhere, is_info_key, is_top_key, is_tree_key, keyed_records, top_keys, tree_records}
use Rattle.rio_state.specs.{Reads.{AreRecordsOf, ReadsAsMade, ReadsAsState}, OneMore.{KeyIsRead}}
use Rattle.rio_step.specs.{Costs.{cost_of, value_size}, ItemKeys.{AreKeysOfState, told_by_key}, Refusing.{FullMark, object_class, put_value, refusal_of}, Runs.{saved_of}}
use Rattle.rio_step.specs.Step.{listed_object, state_behind}
use Rattle.rio_effect.specs.{More.{KeepsOneMore}, ObjectRecord.{data_of_put, key_of_put, record_of_put, words_of_put}}

-- ---- what the records stand for

-- a key of the directory that is that of an object: neither a tree's nor the class list's
pub record IsObjectKey (head : KeyHead) : Type 0 where
  pub top : is_top_key head ≡ true
  pub object : is_tree_key head ≡ false
  pub here : is_elsewhere head ≡ false
  pub other : is_info_key head ≡ false

-- The record of the object that a put adds: the words of its key fit their fields, it is a whole one with this key, which is an
-- object's, and it is as long as the value at whatever place makes it.
pub record IsPutRecord (m : State) (place datime : ℕ) (name : List ℕ) (v : Value) : Type 0 where
  pub fit : FitsWords (words_of_put m place datime name v) (length (data_of_put m place datime name v))
  pub whole : IsRecord place (record_of_put m place datime name v)
  pub read : KeyIsRead place (record_of_put m place datime name v) (key_of_put m place datime name v)
  pub key : IsObjectKey (key_of_put m place datime name v)
  pub long : length (record_of_put m place datime name v)
      ≡ padded_length (head_length (unwrap_or (object_class (put_value m v)) []) name + value_size m.classes (put_value m v))

-- a put that isn't refused has such a record
abbrev pub PutsHaveRecords : Type 0
PutsHaveRecords = (m : State) (place datime : ℕ) (name : List ℕ) (v : Value) (mark : Option FullMark) → place < 2 ^ 32 → datime < 2 ^ 32
    → StateClasses m.classes → is_item_text name ≡ true → refusal_of m (Put name v) mark ≡ None → IsPutRecord m place datime name v

-- with the record of an object that a put adds, at a place where no record begins, the records stand for the state behind the put
abbrev pub PutTakesEffect : Type 0
PutTakesEffect = (links : List Link) (m : State) (place datime : ℕ) (name : List ℕ) (v : Value) (mark : Option FullMark) → place < 2 ^ 32 → datime < 2 ^ 32
    → begins_at (keyed_records links) place ≡ false → AreRecordsOf (keyed_records links) m → is_item_text name ≡ true → refusal_of m (Put name v) mark ≡ None
    → AreRecordsOf (keyed_records (with_record place (record_of_put m place datime name v) links)) (state_behind m (Put name v))

-- A put doesn't look at pending rows: it is refused or not, and adds the same object, in the state without them.
pub record IsPutAlike (m : State) (name : List ℕ) (v : Value) : Type 0 where
  pub refused : (mark : Option FullMark) → refusal_of (saved_of m) (Put name v) mark ≡ refusal_of m (Put name v) mark
  pub trees : names_tree (saved_of m) name ≡ names_tree m name
  pub cycle : next_cycle (saved_of m) name ≡ next_cycle m name
  pub value : put_value (saved_of m) v ≡ put_value m v
  pub behind : state_behind (saved_of m) (Put name v) ≡ saved_of (state_behind m (Put name v))

abbrev pub PutsIgnorePending : Type 0
PutsIgnorePending = (m : State) (name : List ℕ) (v : Value) → IsPutAlike m name v

-- the same of states of which a stop leaves all but the pending rows
abbrev pub SavedPutTakesEffect : Type 0
SavedPutTakesEffect = (links : List Link) (m : State) (place datime : ℕ) (name : List ℕ) (v : Value) (mark : Option FullMark) → place < 2 ^ 32 → datime < 2 ^ 32
    → begins_at (keyed_records links) place ≡ false → AreRecordsOf (keyed_records links) (saved_of m) → is_item_text name ≡ true → refusal_of m (Put name v) mark ≡ None
    → AreRecordsOf (keyed_records (with_record place (record_of_put m place datime name v) links)) (saved_of (state_behind m (Put name v)))

-- ---- the keys beside a file

-- The keys tell the next cycle of a name that isn't a tree's, and no key has it yet.
pub record IsNextCycle (heads : List KeyHead) (name : List ℕ) (cycle : ℕ) : Type 0 where
  pub told : cycle ≡ greatest_cycle name heads + 1
  pub new : find (is_at_cycle name cycle) heads ≡ None

abbrev pub KeysTellNextCycle : Type 0
KeysTellNextCycle = (records : List KeyedRecord) (heads : List KeyHead) (m : State) (name : List ℕ) → AreKeysOf records heads → AreRecordsOf records m
    → names_tree m name ≡ false → IsNextCycle heads name (next_cycle m name)

-- the key of the object that a put adds stands in its place among the keys
abbrev pub PutKeyFollows : Type 0
PutKeyFollows = (links : List Link) (m : State) (heads : List KeyHead) (place datime : ℕ) (name : List ℕ) (v : Value) (mark : Option FullMark) → place < 2 ^ 32 → datime < 2 ^ 32
    → AreRecordsOf (keyed_records links) m → is_item_text name ≡ true → refusal_of m (Put name v) mark ≡ None → AreKeysOf (keyed_records links) heads
    → AreKeysOf (keyed_records (with_record place (record_of_put m place datime name v) links)) (with_head (key_of_put m place datime name v) heads)

-- the same where the records stand for the state without its pending rows
abbrev pub SavedPutKeyFollows : Type 0
SavedPutKeyFollows = (links : List Link) (m : State) (heads : List KeyHead) (place datime : ℕ) (name : List ℕ) (v : Value) (mark : Option FullMark) → place < 2 ^ 32 → datime < 2 ^ 32
    → AreRecordsOf (keyed_records links) (saved_of m) → is_item_text name ≡ true → refusal_of m (Put name v) mark ≡ None → AreKeysOf (keyed_records links) heads
    → AreKeysOf (keyed_records (with_record place (record_of_put m place datime name v) links)) (with_head (key_of_put m place datime name v) heads)

-- the keys of objects among some keys, and those of trees
abbrev pub object_keys : List KeyHead → List KeyHead
object_keys heads = filter (λ h. not (is_tree_key h)) heads

abbrev pub tree_keys : List KeyHead → List KeyHead
tree_keys heads = filter is_tree_key heads

-- the keys of objects, in their order, tell what is listed of the objects of the state that a file's records stand for
abbrev pub ObjectKeysStand : Type 0
ObjectKeysStand = (records : List KeyedRecord) (heads : List KeyHead) (m : State) → AreKeysOf records heads → AreRecordsOf records m
    → map told_by_key (object_keys heads) ≡ map listed_object (entries m.objects)

-- the keys of a file stand for the objects of the state that its records stand for, where it has no trees
abbrev pub KeysStandForState : Type 0
KeysStandForState = (records : List KeyedRecord) (heads : List KeyHead) (m : State) → AreKeysOf records heads → AreRecordsOf records m → m.trees ≡ empty → AreKeysOfState heads m

-- each key is that of an object of the state
abbrev pub KeysNameObjects : Type 0
KeysNameObjects = (heads : List KeyHead) (m : State) (head : KeyHead) → AreKeysOfState heads m → Contains heads head
    → (v : Value) × (get m.objects (head.name, head.cycle) ≡ Some v)

-- A record of the key stands at the place that the key says, and its data are read as the value.
pub record HasRecordOf (links : List Link) (m : State) (head : KeyHead) (v : Value) : Type 0 where
  pub bytes : List ℕ
  pub there : Contains links (RecordAt head.seek bytes)
  pub whole : IsRecord head.seek bytes
  pub key : KeyIsRead head.seek bytes head
  pub read : value_at m.classes head.class head.keylen (drop head.keylen bytes) ≡ Ok v

-- the record of an object is found by its key, and read back as the object
abbrev pub KeysHaveRecords : Type 0
KeysHaveRecords = (file : List ℕ) (links : List Link) (heads : List KeyHead) (m : State) (head : KeyHead) (v : Value) → IsChain links file
    → AreKeysOf (keyed_records links) heads → AreRecordsOf (keyed_records links) m → Contains heads head → get m.objects (head.name, head.cycle) ≡ Some v
    → HasRecordOf links m head v

-- ---- what a close needs

-- one object more is one more that the file keeps
abbrev pub NeedGrows : Type 0
NeedGrows = (pending : PendingRows) (file : List ℕ) (links : List Link) (place : ℕ) (bytes : List ℕ) (head : KeyHead) → IsChain links file → KeyIsRead place bytes head → is_top_key head ≡ true → is_tree_key head ≡ false
    → KeepsOneMore (kept_with pending links) (kept_with pending (with_record place bytes links)) head

-- what a file keeps with these rows pending, with the keys as they are kept beside it
abbrev pub kept_by_keys : PendingRows → List Link → List KeyHead → KeptRecords
kept_by_keys pending links heads =
    let records = keyed_records links in
    kept_of pending (name_in records) (info_key records) heads (tree_records (top_keys records))

-- a close writes as much by these keys
abbrev pub NeedByKeys : Type 0
NeedByKeys = (pending : PendingRows) (links : List Link) (heads : List KeyHead) (m : State) → AreKeysOf (keyed_records links) heads → AreRecordsOf (keyed_records links) m
    → closing_lengths (kept_by_keys pending links heads) ≡ closing_lengths (kept_with pending links)

-- how long the head of an object is in the key list
abbrev pub listed_length : NameAndCycle × Value → ℕ
listed_length e = head_length (unwrap_or (object_class e.1) []) e.0.0

-- What a file keeps, by the state that it stands for: a head for each object. The heads of trees, and their records, come beside these.
pub record IsKeptOfState (kept : KeptRecords) (m : State) : Type 0 where
  pub heads : sum_by (λ h. length (written_key h)) (object_keys kept.heads) ≡ sum_by listed_length (entries m.objects)
  pub count : length (object_keys kept.heads) ≡ length (entries m.objects)

-- a close lists as many objects, in as many bytes, as the state has
abbrev pub NeedOfState : Type 0
NeedOfState = (pending : PendingRows) (file : List ℕ) (links : List Link) (heads : List KeyHead) (m : State) → IsChain links file → AreKeysOf (keyed_records links) heads
    → AreRecordsOf (keyed_records links) m → IsKeptOfState (kept_with pending links) m

-- The record of a put's object, at the place of the rule, raises what the file holds by no more than the put's cost.
abbrev pub HeldGrows : Type 0
HeldGrows = (pending : PendingRows) (file : List ℕ) (links : List Link) (m : State) (place datime : ℕ) (name : List ℕ) (v : Value) → place < 2 ^ 32 → datime < 2 ^ 32
    → IsChain links file → IsPlaceFor (map segment_of links) (length (record_of_put m place datime name v)) place
    → StateClasses m.classes → is_item_text name ≡ true → refusal_of m (Put name v) None ≡ None
    → held_with pending (with_record place (record_of_put m place datime name v) links) ≤ held_with pending links + cost_of m (Put name v)

-- ---- files

-- a file with this header, whose records stand for the state
pub record ReadsByHead (file : List ℕ) (head : FileHead) (m : State) : Type 0 where
  pub head_is : head_at file ≡ Ok head
  pub made : ReadsAsMade file m
  pub reads : ReadsAsState file m

-- A file that keeps its first 100 bytes keeps its header, and reads as the state that the records of its segments stand for.
abbrev pub FrontTells : Type 0
FrontTells = (old new : List ℕ) (before after : List Link) (head : FileHead) (m : State) → IsChain before old → head_at old ≡ Ok head → is_large_head head.version ≡ false
    → KeepsFront old new → IsChain after new → AreRecordsOf (keyed_records after) m → ReadsByHead new head m

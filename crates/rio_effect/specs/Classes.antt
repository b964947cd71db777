-- What the record of the class list that a class command writes makes of what a file reads as, of the keys that are kept beside it,
-- and of what its close needs.
use Rattle.std.specs.{Prelude.{◌≡◌, ◌<◌, ◌≤◌, ℕ, ◌+◌, ◌^◌, List, length, map, true, false, Option, Some, None}, List.{Contains, list_all}, Option.{option_map_or}}
use Rattle.rio_format.specs.declared.class.ClassDef.{ClassDef}
use Rattle.rio_key.specs.declared.head.KeyHead.{KeyHead}
use Rattle.rio_model.specs.{Described.{is_described}, StateClasses.{StateClasses}, Stated.{is_stated_class}}
use Rattle.rio_machine.specs.{Rows.{row_fits}, State.{State}, declared.command.Command.TheVariants.{Class}}
use Rattle.rio_chain.specs.{Changes.{with_record}, Placing.{IsPlaceFor}, Record.{FitsWords}, Segments.{IsChain, IsRecord, Link, segment_of}}
use Rattle.rio_state.specs.{Closing.{KeptRecords, held_with, kept_with, padded_length}, Contents.{file_classes}, DirectoryKeys.{AreKeysOf}, KeyedRecords.{KeyedRecord, begins_at, info_key, is_info_key, keyed_records, top_keys, tree_records}, Left.{info_head}}
use Rattle.rio_state.specs.{OneMore.{KeyIsRead}, Reads.{AreRecordsOf}, Referred.{is_referred}, TreeLengths.{PendingRows}, Trees.{header_in}}
use Rattle.rio_tree.specs.{WrittenLaws.{stated_defs}, declared.head.TreeHead.{TreeHead}}
use Rattle.rio_step.specs.{Costs.{cost_of, info_size}, Refusing.{refusal_of, with_class}, Step.{state_behind}}
use Rattle.rio_effect.specs.{ClassRecord.{key_of_class, list_data, list_key_size, list_words, next_list_cycle, record_of_class}, Deletes.{IgnoresPending}}

-- a class list describes the classes of a state as they are
abbrev pub StatesAreDescribed : Type 0
StatesAreDescribed = (classes : List ClassDef) → StateClasses classes → list_all is_described classes ≡ true

-- the command doesn't look at pending rows
abbrev pub ClassesIgnorePending : Type 0
ClassesIgnorePending = (m : State) (class : ClassDef) → IgnoresPending m (Class class)

-- the class list that counts among the records of a file
abbrev pub list_in : List Link → Option KeyHead
list_in links = info_head (info_key (keyed_records links))

-- The record that a class command writes: the words of its key fit their fields, it is a whole one with this key, which is a class
-- list's, and it is as long as its list at whatever place makes it.
pub record IsClassRecord (info : Option KeyHead) (m : State) (place datime : ℕ) (class : ClassDef) : Type 0 where
  pub fit : FitsWords (list_words place datime (next_list_cycle info)) (length (list_data (list_words place datime (next_list_cycle info)) (with_class m.classes class)))
  pub whole : IsRecord place (record_of_class info m place datime class)
  pub read : KeyIsRead place (record_of_class info m place datime class) (key_of_class info m place datime class)
  pub key : is_info_key (key_of_class info m place datime class) ≡ true
  pub long : length (record_of_class info m place datime class) ≡ padded_length (list_key_size + info_size (with_class m.classes class))

-- a class command that isn't refused has such a record
abbrev pub ClassesHaveRecords : Type 0
ClassesHaveRecords = (links : List Link) (m : State) (place datime : ℕ) (class : ClassDef) → place < 2 ^ 32 → datime < 2 ^ 32
    → AreRecordsOf (keyed_records links) m → is_stated_class class ≡ true → refusal_of m (Class class) None ≡ None
    → IsClassRecord (list_in links) m place datime class

-- the links with that record
abbrev pub with_class_record : List Link → State → ℕ → ℕ → ClassDef → List Link
with_class_record links m place datime class = with_record place (record_of_class (list_in links) m place datime class) links

-- These rows fit the branches of the trees whose names they are pending under.
abbrev pub PendingFit : PendingRows → List Link → Type 0
PendingFit pending links =
    let classes = file_classes (info_key (keyed_records links)) in
    (r : KeyedRecord) (head : TreeHead) → Contains (tree_records (top_keys (keyed_records links))) r → header_in classes r ≡ Some head
    → list_all (row_fits classes.declared (stated_defs head.branches)) (pending r.head.name) ≡ true

-- What a file keeps with a new class list that counts: a record more where there was none before.
pub record KeepsOneList (links : List Link) (old new : KeptRecords) : Type 0 where
  pub name : new.name ≡ old.name
  pub heads : new.heads ≡ old.heads
  pub count : new.count + option_map_or (λ h. 1) (list_in links) 0 ≡ old.count + 1
  pub trees : new.trees ≡ old.trees

-- With the record the records stand for the state after the command: all of its objects and trees are as before. The keys that are
-- kept beside the file stay. The list counts, and nothing refers to the one before, where the place is one for a new record. A close
-- writes of one record more, where there was no class list.
pub record IsDeclared (links : List Link) (m : State) (place datime : ℕ) (class : ClassDef) : Type 0 where
  pub records : AreRecordsOf (keyed_records (with_class_record links m place datime class)) (state_behind m (Class class))
  pub keys : (heads : List KeyHead) → AreKeysOf (keyed_records links) heads → AreKeysOf (keyed_records (with_class_record links m place datime class)) heads
  pub info : list_in (with_class_record links m place datime class) ≡ Some (key_of_class (list_in links) m place datime class)
  pub old : IsPlaceFor (map segment_of links) (length (record_of_class (list_in links) m place datime class)) place → (r : KeyedRecord) → info_key (keyed_records links) ≡ Some r
      → is_referred (keyed_records (with_class_record links m place datime class)) r ≡ false
  pub kept : (pending : PendingRows) → PendingFit pending links → KeepsOneList links (kept_with pending links) (kept_with pending (with_class_record links m place datime class))

abbrev pub ClassTakesEffect : Type 0
ClassTakesEffect = (file : List ℕ) (links : List Link) (m : State) (place datime : ℕ) (class : ClassDef) → place < 2 ^ 32 → datime < 2 ^ 32
    → begins_at (keyed_records links) place ≡ false → IsChain links file → AreRecordsOf (keyed_records links) m → is_stated_class class ≡ true
    → refusal_of m (Class class) None ≡ None → IsDeclared links m place datime class

-- The record, at the place of the rule, raises what the file holds by no more than the command's cost.
abbrev pub ClassHeldGrows : Type 0
ClassHeldGrows = (pending : PendingRows) (file : List ℕ) (links : List Link) (m : State) (place datime : ℕ) (class : ClassDef) → place < 2 ^ 32 → datime < 2 ^ 32
    → IsChain links file → AreRecordsOf (keyed_records links) m → is_stated_class class ≡ true → refusal_of m (Class class) None ≡ None
    → IsPlaceFor (map segment_of links) (length (record_of_class (list_in links) m place datime class)) place → PendingFit pending links
    → held_with pending (with_class_record links m place datime class) ≤ held_with pending links + cost_of m (Class class)

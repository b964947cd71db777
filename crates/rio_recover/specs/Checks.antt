-- The keys of objects and trees while they are checked one after the other.
use Rattle.std.specs.Prelude.{◌≡◌, ℕ, List, [], ◌∷◌, ◌++◌, length, map, Bool, true, false, ◌==◌, ◌&&◌, ◌||◌, not, Option, Some, None, Result, Ok, Err, option_and_then, if◌then◌else◌}
use Rattle.std.specs.{List.{All, Contains, filter, find, list_all, list_any, Sorted.{IsPermutation}}, Option.{is_none, is_some}}
use Rattle.rio_num.specs.{At.{AreBytes}, Reading.{some_if}}
use Rattle.rio_key.specs.declared.head.KeyHead.{KeyHead}
use Rattle.rio_head.specs.declared.reason.Reason.TheVariants.{BadObject, BadTree, DoubleKey, MixedName}
use Rattle.rio_dir.specs.Table.{is_at_cycle, with_head}
use Rattle.rio_tree.specs.declared.head.TreeHead.{TreeHead}
use Rattle.rio_state.specs.{KeyedRecords.{KeyedRecord, has_item, is_mixed_name, is_outdated, is_tree_key, is_tree_record, item_of_key, record_at, record_data, top_keys, tree_records}}
use Rattle.rio_state.specs.{Reasons.{Beside, ReasonAt, is_bad_object, is_bad_tree, reason_if}, Trees.{all_places_named, basket_places, header_in, records_before, saved_rows}}
use Rattle.rio_recover.specs.{Baskets.{AreNoted, AreOnce, HasPlaces, has_baskets}, Classes.{classes_in}, Keys.{StandsIn, keyed, keyed_by, record_heads}, Names.{IndexesNames}, Trees.{AreWholeBranches, places_of, trees_at}, TreeTable.{has_name, with_tree}}
use Rattle.rio_recover.specs.declared.fault.RecoverFault.{RecoverFault, TheVariants.{BadFile, ReadOnly, NoMemory, HostFault}}
use Rattle.rio_recover.specs.{declared.classes.ListedClasses.{ListedClasses}, declared.judge.KeyCheck.{KeyCheck}, declared.named.NamedPlaces.{NamedPlaces}, declared.trees.TreeAt.{TreeAt}}
use Rattle.rio_recover.specs.declared.judge.KeyKind.{KeyKind, TheVariants.{Object, Tree, Outdated}}

-- the key has no title
abbrev pub is_untitled : KeyHead → Bool
is_untitled head = length head.title == 0

-- ---- which keys are those of items

-- the key of an object, of a tree, or of a header of whose name another one has a greater cycle
abbrev pub kind_of : List KeyedRecord → KeyHead → KeyKind
kind_of tops head = if not (is_tree_key head) then Object else if is_outdated tops (keyed head) then Outdated else Tree

-- a tree's, of the greatest cycle of its name
abbrev pub is_header_key : List KeyedRecord → KeyHead → Bool
is_header_key tops head = is_tree_key head && not (is_outdated tops (keyed head))

-- an object's, or such a tree's
abbrev pub is_item_key : List KeyedRecord → KeyHead → Bool
is_item_key tops head = not (is_tree_key head) || not (is_outdated tops (keyed head))

-- those of some records
abbrev pub item_records : List KeyedRecord → List KeyedRecord → List KeyedRecord
item_records tops rs = filter (λ r. is_item_key tops r.head) rs

abbrev pub outdated_records : List KeyedRecord → List KeyedRecord → List KeyedRecord
outdated_records tops rs = filter (λ r. not (is_item_key tops r.head)) rs

abbrev pub header_records : List KeyedRecord → List KeyedRecord → List KeyedRecord
header_records tops rs = filter (is_tree_record tops) rs

-- ---- where a file is known

-- what is to be known beside a key of the file with these classes
abbrev pub beside_of : ListedClasses → List KeyedRecord → Beside
beside_of classes records = record { classes = classes_in classes; records = records; tops = top_keys records }

-- the file has these classes, and records with these keys
pub record IsBesideOf (file : List ℕ) (classes : ListedClasses) (heads : List KeyHead) (beside : Beside) : Type 0 where
  pub classes_are : beside.classes ≡ classes_in classes
  pub tops_are : beside.tops ≡ top_keys beside.records
  pub stand : All (StandsIn file) beside.records
  pub heads_are : heads ≡ record_heads beside.records

-- the record is that of an object or a tree, and these are those before it
pub record IsNext (beside : Beside) (before : List KeyedRecord) (r : KeyedRecord) : Type 0 where
  pub top : Contains beside.tops r
  pub others : All (Contains beside.tops) before
  pub earlier : records_before (tree_records beside.tops) r ≡ header_records beside.tops before

-- the record's data are bytes
abbrev pub AreDataBytes : KeyedRecord → Type 0
AreDataBytes r = AreBytes (record_data r)

-- the baskets of the trees before are noted
abbrev pub HasNamed : Beside → List KeyedRecord → NamedPlaces → Type 0
HasNamed beside before named = HasPlaces (all_places_named beside.classes (header_records beside.tops before)) named

-- it has the names of all keys, and the keys before
pub record HasKeys (beside : Beside) (before : List KeyedRecord) (check : KeyCheck) : Type 0 where
  pub names : IndexesNames beside.tops check.names
  pub items : IsPermutation (record_heads (item_records beside.tops before)) check.items.heads
  pub outdated : IsPermutation (record_heads (outdated_records beside.tops before)) check.outdated.heads

-- and the trees before, with the places of their baskets; what was read of their headers is bytes
pub record IsChecking (beside : Beside) (before : List KeyedRecord) (check : KeyCheck) : Type 0 where
  pub keys : HasKeys beside before check
  pub trees : IsPermutation (trees_at beside.classes (header_records beside.tops before)) check.trees
  pub named : HasNamed beside before check.named
  pub plain : All AreDataBytes (header_records beside.tops before)

-- ---- one key

-- of the reasons against a key those of its value
abbrev pub value_reasons : Beside → KeyedRecord → List ReasonAt
value_reasons beside r = reason_if (is_bad_object beside r) r.head.seek BadObject ++ reason_if (is_bad_tree beside r) r.head.seek BadTree

-- and those behind its value's
abbrev pub item_reasons : Beside → List KeyedRecord → KeyedRecord → List ReasonAt
item_reasons beside before r =
    reason_if (list_any (has_item (item_of_key r.head)) before) r.head.seek DoubleKey ++ reason_if (is_mixed_name beside.tops r.head.name) r.head.seek MixedName

-- what a header says whose rows are there
abbrev pub whole_header : Beside → KeyedRecord → Option TreeHead
whole_header beside r =
    option_and_then (λ head. some_if (is_some (saved_rows beside.classes.declared (record_at beside.records) head)) head) (header_in beside.classes r)

-- it is what the header says, of data that are bytes, and its baskets are noted too
pub record GivesHeader (beside : Beside) (before : List KeyedRecord) (r : KeyedRecord) (named : NamedPlaces) (tree : TreeHead) : Type 0 where
  pub header : header_in beside.classes r ≡ Some tree
  pub noted : HasNamed beside (before ++ r ∷ []) named
  pub plain : AreDataBytes r

-- the same of a tree's key that counts; of another key nothing
pub record GivesTree (beside : Beside) (before : List KeyedRecord) (r : KeyedRecord) (named : NamedPlaces) (tree : Option TreeHead) : Type 0 where
  pub header : tree ≡ (if is_tree_record beside.tops r then header_in beside.classes r else None)
  pub noted : HasNamed beside (before ++ r ∷ []) named
  pub plain : is_tree_record beside.tops r ≡ true → AreDataBytes r

-- the key or its tree is put
abbrev pub with_key : Bool → KeyHead → List KeyHead → List KeyHead
with_key put head heads = if put then with_head head heads else heads

abbrev pub is_item_kind : KeyKind → Bool
is_item_kind Object = true
is_item_kind Tree = true
is_item_kind Outdated = false

abbrev pub tree_named : KeyHead → TreeHead → TreeAt
tree_named head tree = record { name = head.name; head = tree }

-- a key of this name and cycle was checked
abbrev pub has_passed : KeyCheck → KeyHead → Bool
has_passed check head = is_some (find (is_at_cycle head.name head.cycle) check.items.heads) || is_some (find (is_at_cycle head.name head.cycle) check.outdated.heads)

-- the key is one more that was checked
pub record PassesKey (head : KeyHead) (kind : KeyKind) (old new : KeyCheck) : Type 0 where
  pub items : new.items.heads ≡ with_key (is_item_kind kind) head old.items.heads
  pub outdated : new.outdated.heads ≡ with_key (not (is_item_kind kind)) head old.outdated.heads
  pub names : new.names ≡ old.names
  pub trees : new.trees ≡ old.trees
  pub named : new.named ≡ old.named

-- ---- whatever the host tells

-- its branches are whole, and its baskets are records of the file and are noted: none was noted before, and none stands twice
pub record NotesHeader (heads : List KeyHead) (old new : NamedPlaces) (tree : TreeHead) : Type 0 where
  pub whole : AreWholeBranches tree
  pub baskets : has_baskets heads tree ≡ true
  pub noted : (others : List ℕ) → HasPlaces others old → AreNoted others (basket_places tree) new true

abbrev pub NotesTreeFound : List KeyHead → NamedPlaces → NamedPlaces → Option TreeHead → Type 0
NotesTreeFound heads old new None = ⊥
NotesTreeFound heads old new (Some tree) = NotesHeader heads old new tree

-- a tree's header is noted; of another key nothing is given
abbrev pub GivesValue : List KeyHead → KeyKind → NamedPlaces → NamedPlaces → Option TreeHead → Type 0
GivesValue heads Object old new found = (found ≡ None) × (new ≡ old)
GivesValue heads Tree old new found = NotesTreeFound heads old new found
GivesValue heads Outdated old new found = (found ≡ None) × (new ≡ old)

-- the tree is one more, unless one of its name is there
abbrev pub NotesTree : KeyHead → TreeHead → KeyCheck → KeyCheck → Result (Unit {0}) RecoverFault → Type 0
NotesTree head tree old new (Ok x) = is_none (find (has_name head.name) old.trees) ≡ true × (new ≡ record old { trees = with_tree (tree_named head tree) old.trees })
NotesTree head tree old new (Err (ReadOnly place reason)) = (place ≡ head.seek) × (reason ≡ DoubleKey) × (is_none (find (has_name head.name) old.trees) ≡ false)
NotesTree head tree old new (Err (BadFile place kind)) = ⊥
NotesTree head tree old new (Err NoMemory) = Unit {0}
NotesTree head tree old new (Err HostFault) = ⊥

-- These keys were checked, of the file with all of these: the items' are in the table, each tree has one of them, its branches are whole,
-- its baskets are records of the file, and no basket stands twice.
pub record HasChecked (all before : List KeyHead) (check : KeyCheck) : Type 0 where
  pub names : IndexesNames (top_keys (keyed_by all)) check.names
  pub items : IsPermutation (filter (is_item_key (top_keys (keyed_by all))) before) check.items.heads
  pub untitled : list_all is_untitled check.items.heads ≡ true
  pub trees : IsPermutation (map (λ h. h.name) (filter (is_header_key (top_keys (keyed_by all))) before)) (map (λ t. t.name) check.trees)
  pub heads_are : All (λ t. AreWholeBranches t.head) check.trees
  pub baskets : All (λ t. has_baskets all t.head ≡ true) check.trees
  pub named : HasPlaces (places_of check.trees) check.named
  pub once : AreOnce (places_of check.trees)

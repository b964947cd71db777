-- The records of a file with their keys: those of its directory, those of objects and trees, and the class list that counts.
use Rattle.std.specs.Prelude.{ℕ, List, [], ◌∷◌, drop, codes, Bool, ◌==◌, ◌&&◌, ◌||◌, not, nat_lt, Option, Some, None, Result, Ok, Err, if◌then◌else◌}
use Rattle.std.specs.{List.{filter, filter_map, find, list_any}, Str.{bytes_eq}}
use Rattle.rio_key.specs.{Key.{key_at}, declared.head.KeyHead.{KeyHead}, declared.fault.KeyFault.{KeyFault}}
use Rattle.rio_chain.specs.Segments.{Link, RecordAt, GapAt}
use Rattle.rio_machine.specs.State.{NameAndCycle}

-- a record by its key, which says its place, and its bytes, those of the key first
pub record KeyedRecord : Type 0 where
  pub head : KeyHead
  pub bytes : List ℕ

-- its data stand behind its key
abbrev pub record_data : KeyedRecord → List ℕ
record_data r = drop r.head.keylen r.bytes

abbrev pub record_with_head : List ℕ → Result KeyHead KeyFault → Option KeyedRecord
record_with_head bytes (Ok head) = Some (record { head = head; bytes = bytes })
record_with_head bytes (Err e) = None

-- the record of a segment; a gap has none
abbrev pub record_in_link : Link → Option KeyedRecord
record_in_link (RecordAt place bytes) = record_with_head bytes (key_at (record { place = place; rest = bytes }))
record_in_link (GapAt place n) = None

-- the records of a file by its segments, in order of place
abbrev pub keyed_records : List Link → List KeyedRecord
keyed_records links = filter_map record_in_link links

-- the record that begins at a place, if one does
abbrev pub record_at : List KeyedRecord → ℕ → Option KeyedRecord
record_at records place = find (λ r. r.head.seek == place) records

-- a record begins there
abbrev pub begins_at : List KeyedRecord → ℕ → Bool
begins_at records place = list_any (λ r. r.head.seek == place) records

-- ---- the directory

-- where the first record stands, and the directory that it holds
abbrev pub first_place : ℕ
first_place = 100

abbrev pub has_class : List ℕ → KeyHead → Bool
has_class class head = bytes_eq head.class class

-- what the file itself needs: its first record, its key list and its free record, or a basket
abbrev pub is_internal : KeyHead → Bool
is_internal head = has_class (codes "TFile") head || has_class (codes "TBasket") head

-- the key belongs to the directory
abbrev pub is_in_directory : KeyHead → Bool
is_in_directory head = (head.pdir == first_place) && not (is_internal head)

-- the key belongs to another directory
abbrev pub is_elsewhere : KeyHead → Bool
is_elsewhere head = not (head.pdir == first_place) && not (is_internal head)

-- the name of class lists
abbrev pub has_info_name : KeyHead → Bool
has_info_name head = bytes_eq head.name (codes "StreamerInfo")

-- ---- the class list that counts

abbrev pub is_info_key : KeyHead → Bool
is_info_key head = is_in_directory head && has_info_name head

-- of two, in order of place, the one with the greater cycle, and of equal cycles the later one
abbrev pub later_info : KeyedRecord → Option KeyedRecord → Option KeyedRecord
later_info r None = Some r
later_info r (Some later) = if nat_lt later.head.cycle r.head.cycle then Some r else Some later

-- the class list with the greatest cycle, and of equal cycles the last in the file
abbrev pub info_key : List KeyedRecord → Option KeyedRecord
info_key [] = None
info_key (r ∷ records) = if is_info_key r.head then later_info r (info_key records) else info_key records

-- ---- objects and trees

abbrev pub is_top_key : KeyHead → Bool
is_top_key head = is_in_directory head && not (has_info_name head)

-- the records of objects and trees, in order of place
abbrev pub top_keys : List KeyedRecord → List KeyedRecord
top_keys records = filter (λ r. is_top_key r.head) records

abbrev pub is_tree_key : KeyHead → Bool
is_tree_key head = has_class (codes "TTree") head

-- those of objects: all that aren't trees
abbrev pub object_records : List KeyedRecord → List KeyedRecord
object_records tops = filter (λ r. not (is_tree_key r.head)) tops

-- a tree of the same name has a greater cycle
abbrev pub is_outdated : List KeyedRecord → KeyedRecord → Bool
is_outdated tops r = list_any (λ s. is_tree_key s.head && bytes_eq s.head.name r.head.name && nat_lt r.head.cycle s.head.cycle) tops

-- the record is a tree's: of several with one name those with the greatest cycle
abbrev pub is_tree_record : List KeyedRecord → KeyedRecord → Bool
is_tree_record tops r = is_tree_key r.head && not (is_outdated tops r)

abbrev pub tree_records : List KeyedRecord → List KeyedRecord
tree_records tops = filter (is_tree_record tops) tops

-- ---- names and cycles

abbrev pub item_of_key : KeyHead → NameAndCycle
item_of_key head = (head.name, head.cycle)

abbrev pub has_item : NameAndCycle → KeyedRecord → Bool
has_item item r = bytes_eq r.head.name item.0 && (r.head.cycle == item.1)

-- a tree and an object have the name
abbrev pub is_mixed_name : List KeyedRecord → List ℕ → Bool
is_mixed_name tops name =
    list_any (λ s. bytes_eq s.head.name name && is_tree_key s.head) tops
    && list_any (λ s. bytes_eq s.head.name name && not (is_tree_key s.head)) tops

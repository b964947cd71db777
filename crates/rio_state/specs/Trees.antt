-- The tree that a header's record represents, with its saved rows: what the header says, which baskets it names, and the rows that
-- their entries are. All of it is over the records of a file, so it is the same for a walk through the file and for its key list.
use Rattle.std.specs.Prelude.{ℕ, List, [], ◌∷◌, map, codes, length, Bool, true, ◌==◌, ◌&&◌, not, nat_lt, Option, None, option_and_then, Ok, Err}
use Rattle.std.specs.{List.{filter, find, flat_map, list_any}, Option.{option_map_or}, Result.{result_ok}, Str.{bytes_eq}}
use Rattle.rio_num.specs.{Reading.{some_if}, Room.{is_padding}}
use Rattle.rio_leaf.specs.{Stated.{are_stated_branches}, declared.branch.BranchDef.{BranchDef}}
use Rattle.rio_format.specs.{declared.class.ClassDef.{ClassDef}, Codes.{is_coded_same}, declared.value.Value.{Value}, Frames.{Step}, Objects.{first_at}}
use Rattle.rio_format.specs.contracts.value.Value as values
use Rattle.rio_model.specs.Declaring.{shape_lacks_class}
use Rattle.rio_machine.specs.{Limits.{has_many_branches}, RowEntries.{fitting_row}, State.{Row, Tree}}
use Rattle.rio_tree.specs.{Header.{tree_head_in}, Members.{◌>>=◌}, SavedEntries.{BasketBytes, rows_by}, WrittenLaws.{stated_defs}, WrittenTree.{tree_value_of}}
use Rattle.rio_tree.specs.{declared.basket_at.BasketAt.{BasketAt}, declared.head.TreeHead.{TreeHead}}
use Rattle.rio_state.specs.{Contents.{FileClasses, file_classes}, KeyedRecords.{KeyedRecord, has_class, record_at, record_data, tree_records}}

-- ---- saved rows

-- the record that begins at a place of a file, if one does
abbrev pub RecordsAt : Type 0
RecordsAt = ℕ → Option KeyedRecord

-- the record's bytes, if it is one of a basket and as long as the header says
abbrev pub bytes_as_said : BasketAt → KeyedRecord → Option (List ℕ)
bytes_as_said at r = some_if (has_class (codes "TBasket") r.head && (length r.bytes == at.bytes)) r.bytes

-- the bytes of a basket
unfoldable pub basket_bytes : RecordsAt → BasketBytes
basket_bytes at_place at = option_and_then (bytes_as_said at) (at_place at.seek)

-- The rows that a header names, where each of its branches is read, each of its baskets has an entry or more, and each row fits the
-- branches.
unfoldable pub saved_rows : List ClassDef → RecordsAt → TreeHead → Option (List Row)
saved_rows classes at_place head = rows_by (fitting_row classes (stated_defs head.branches)) (basket_bytes at_place) head

-- ---- the header

-- branches that a tree can be declared with
abbrev pub can_be_branches : List ClassDef → List BranchDef → Bool
can_be_branches classes branches =
    are_stated_branches branches && not (has_many_branches branches) && not (list_any (λ b. shape_lacks_class classes b.shape) branches)

abbrev pub is_same_value : Value → Value → Bool
is_same_value = is_coded_same values.the_row.coded

-- The value is the header that is written for what it says of a tree of this name. The versions of classes that it says may be any.
unfoldable pub is_written_header : List ClassDef → List ℕ → Value → TreeHead → Bool
is_written_header classes name v head =
    can_be_branches classes (stated_defs head.branches) && is_same_value v (tree_value_of name head)

abbrev pub header_by : List ClassDef → List ℕ → Step Value → Option TreeHead
header_by classes name (Err e) = None
header_by classes name (Ok x) = do
  head ← result_ok (tree_head_in x.0)
  some_if (is_padding x.1.at.rest && is_written_header classes name x.0 head) head

-- What the header says that stands in a record, by the classes of the file. At most three zero bytes follow it.
unfoldable pub header_in : FileClasses → KeyedRecord → Option TreeHead
header_in classes r = header_by classes.declared r.head.name (first_at classes.described r.head.class r.head.keylen (record_data r))

-- ---- the baskets that headers name

-- where the baskets begin that a header names
abbrev pub basket_places : TreeHead → List ℕ
basket_places head = flat_map (λ b. map (λ at. at.seek) b.baskets) head.branches

-- where those begin that the header in a record names; a header that isn't read names none
unfoldable pub places_named : FileClasses → KeyedRecord → List ℕ
places_named classes r = option_map_or basket_places (header_in classes r) []

-- those that some headers name
abbrev pub all_places_named : FileClasses → List KeyedRecord → List ℕ
all_places_named classes headers = flat_map (places_named classes) headers

-- a basket that some headers name begins there
abbrev pub is_named_place : FileClasses → List KeyedRecord → ℕ → Bool
is_named_place classes headers place = list_any (λ p. p == place) (all_places_named classes headers)

-- the records that stand before one in the file
abbrev pub records_before : List KeyedRecord → KeyedRecord → List KeyedRecord
records_before headers r = filter (λ s. nat_lt s.head.seek r.head.seek) headers

-- none of these places is among the others, and none stands twice
abbrev pub are_named_once : List ℕ → List ℕ → Bool
are_named_once others [] = true
are_named_once others (p ∷ ps) = not (list_any (λ q. p == q) others) && are_named_once (p ∷ others) ps

-- ---- trees

-- What is to be known beside a tree's record: the classes and the records of the file, and the records of the headers of its trees,
-- of each name those of the greatest cycle.
pub record TreesBeside : Type 0 where
  pub classes : FileClasses
  pub records : List KeyedRecord
  pub headers : List KeyedRecord

-- by the class list that counts and the keys of objects and trees
abbrev pub trees_beside : Option KeyedRecord → List KeyedRecord → List KeyedRecord → TreesBeside
trees_beside info records tops = record { classes = file_classes info; records = records; headers = tree_records tops }

abbrev pub saved_tree : KeyedRecord → TreeHead → List Row → Tree
saved_tree r head rows = record { cycle = r.head.cycle; branches = stated_defs head.branches; saved = rows; pending = [] }

-- the tree of a header that is read: its rows are there, and none of its baskets stands at one of these places or is named twice
unfoldable pub tree_by : List ClassDef → RecordsAt → List ℕ → KeyedRecord → TreeHead → Option Tree
tree_by classes at_place before r head = do
  rows ← saved_rows classes at_place head
  some_if (are_named_once before (basket_places head)) (saved_tree r head rows)

-- The tree that a record represents, with its saved rows, if it does. No basket is named twice, in its header or in it and in that
-- of another tree; that counts at the later of the two.
unfoldable pub tree_of : TreesBeside → KeyedRecord → Option Tree
tree_of beside r = do
  head ← header_in beside.classes r
  tree_by beside.classes.declared (record_at beside.records) (all_places_named beside.classes (records_before beside.headers r)) r head

-- that of a name
abbrev pub tree_under : TreesBeside → List ℕ → Option Tree
tree_under beside name = option_and_then (tree_of beside) (find (λ r. bytes_eq r.head.name name) beside.headers)

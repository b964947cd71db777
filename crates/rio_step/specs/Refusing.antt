-- Why a command is refused: nineteen tests, in order. The first that holds is told.
use Rattle.std.specs.Prelude.{ℕ, List, [], ◌∷◌, ◌++◌, length, codes, Bool, false, ◌==◌, ◌+◌, ◌&&◌, ◌||◌, not, nat_lt, nat_le, Option, Some, None, is_some, unwrap_or, option_and_then, Ok, Err, ℤ, if◌then◌else◌}
use Rattle.std.specs.{FinMap.{contains_key, get}, List.{filter, list_any}, Option.{option_map, option_map_or, option_or}, Str.{bytes_eq}}
use Rattle.rio_num.specs.Reading.{◌>>=◌}
use Rattle.rio_format.specs.{Classes.{find_in}, declared.class.Base.{Base}, declared.class.ClassDef.{ClassDef}, declared.value.Value.{Value, out-Value, TheOpen.{Value-F, Object}}, declared.value.Part.{Part}}
use Rattle.rio_format.specs.{Fits.{fits}, Slots.{can_be_put}, WrittenBytes.{written_list}}
use Rattle.rio_model.specs.Declaring.{class_limit, declared, holds_itself, is_declared, is_reserved_name, knows_all, shape_lacks_class}
use Rattle.rio_model.specs.Resolving.{is_known_version, resolved, resolved_row}
use Rattle.rio_machine.specs.Limits.{batch_limit, cycle_limit, data_length, has_all_items, has_long_entry, has_long_list, has_many_branches, is_too_deep, is_too_long, lacks_items}
use Rattle.rio_machine.specs.{Rows.{row_fits}, State.{NameAndCycle, Row, State, Tree, last_cycle, names_item, names_object, names_tree, next_cycle}}
use Rattle.rio_machine.specs.declared.command.Command.{Command, TheVariants.{Bad, Class, Put, Batch, Delete, Tree as MakeTree, Fill, Save, Get, Scan}}
use Rattle.rio_machine.specs.declared.command.PutItem.{PutItem}
use Rattle.rio_machine.specs.declared.refusal.Refusal.{Refusal, TheVariants.{BadLine, BadName, NoSuchName, NoSuchCycle, NameIsTree, NotATree, NameInUse, NoSuchClass, SameVersion, HoldsItself, DoesNotFit, BadRow, KindChanged, NoVersion, CycleLimit, TooLarge, TooDeep, TooMany, Full}}
use Rattle.rio_model.specs.{Mapping.{Mapped, as_version}, declared.map_fault.MapFault.TheVariants.{KindChanged as Changed}}

-- ---- what a command is about

-- the value that a put stores, and the row that a fill adds: with its versions, or as it is where it names no known class
abbrev pub put_value : State → Value → Value
put_value m v = unwrap_or (resolved m.classes v) v

abbrev pub fill_row : State → Row → Row
fill_row m row = unwrap_or (resolved_row m.classes row) row

-- the class of an object; none of another value
abbrev pub object_class : Value → Option (List ℕ)
object_class v = by (out-Value v)
  where
    by : Value-F Value Part → Option (List ℕ)
    by (Object class version parts) = Some class
    by other = None

-- the class of an object, and no name for another value
abbrev pub object_class_name : Value → List ℕ
object_class_name v = unwrap_or (object_class v) []

-- the cycle that is meant: the greatest, where none is named
abbrev pub meant_cycle : State → List ℕ → Option ℕ → ℕ
meant_cycle m name cycle = unwrap_or cycle (last_cycle m name)

-- the object that a get tells
abbrev pub meant_object : State → List ℕ → Option ℕ → Option Value
meant_object m name cycle = get m.objects (name, meant_cycle m name cycle)

-- all rows of a tree, the saved ones first
abbrev pub rows_of_tree : Tree → List Row
rows_of_tree t = t.saved ++ t.pending

-- a test of the tree of a name, if there is one
abbrev pub tree_passes : State → List ℕ → (Tree → Bool) → Bool
tree_passes m name test = option_map_or test (get m.trees name) false

-- ---- batches

-- how many of these puts have the name
abbrev pub times_put : List ℕ → List PutItem → ℕ
times_put name puts = length (filter (λ p. bytes_eq p.name name) puts)

-- the item that a put gives an object, behind these puts of its batch: their cycles of its name are counted
abbrev pub item_put : State → List PutItem → PutItem → NameAndCycle
item_put m before p = (p.name, next_cycle m p.name + times_put p.name before)

-- the items that puts give their objects, behind these puts of their batch
abbrev pub items_put : State → List PutItem → List PutItem → List NameAndCycle
items_put m before [] = []
items_put m before (p ∷ ps) = item_put m before p ∷ items_put m (before ++ p ∷ []) ps

-- ---- names

abbrev pub bad_line : Command → Option Refusal
bad_line (Bad line place) = Some (BadLine line place)
bad_line other = None

-- the name of the class list
abbrev pub is_list_name : List ℕ → Bool
is_list_name name = bytes_eq name (codes "StreamerInfo")

abbrev pub has_bad_name : Command → Bool
has_bad_name (Class class) = is_reserved_name class.name
has_bad_name (Put name v) = is_list_name name
has_bad_name (Batch puts) = list_any (λ p. is_list_name p.name) puts
has_bad_name (MakeTree name branches) = is_list_name name
has_bad_name other = false

-- the name of what a command wants to be there
abbrev pub wanted_name : Command → Option (List ℕ)
wanted_name (Delete name cycle) = Some name
wanted_name (Fill name row) = Some name
wanted_name (Save name) = Some name
wanted_name (Get name cycle version) = Some name
wanted_name (Scan name class) = Some name
wanted_name other = None

abbrev pub lacks_name : State → Command → Bool
lacks_name m c = option_map_or (λ name. not (names_item m name)) (wanted_name c) false

-- an object or a tree has this name and cycle
abbrev pub has_cycle : State → List ℕ → ℕ → Bool
has_cycle m name cycle = contains_key m.objects (name, cycle) || tree_passes m name (λ t. t.cycle == cycle)

abbrev pub wanted_cycle : Command → Option ℕ
wanted_cycle (Delete name cycle) = Some cycle
wanted_cycle (Get name cycle version) = cycle
wanted_cycle other = None

-- something has the name, but not in the cycle that is named
abbrev pub lacks_cycle : State → Command → Bool
lacks_cycle m c =
    option_map_or (λ name. option_map_or (λ cycle. names_item m name && not (has_cycle m name cycle)) (wanted_cycle c) false) (wanted_name c) false

-- an object is put or told under the name of a tree
abbrev pub is_tree_name : State → Command → Bool
is_tree_name m (Put name v) = names_tree m name
is_tree_name m (Batch puts) = list_any (λ p. names_tree m p.name) puts
is_tree_name m (Get name cycle version) = names_tree m name
is_tree_name m other = false

-- a tree is filled, saved or told under the name of an object
abbrev pub is_object_name : State → Command → Bool
is_object_name m (Fill name row) = names_object m name
is_object_name m (Save name) = names_object m name
is_object_name m (Scan name class) = names_object m name
is_object_name m other = false

abbrev pub is_name_in_use : State → Command → Bool
is_name_in_use m (MakeTree name branches) = names_item m name
is_name_in_use m other = false

-- ---- classes

-- an object of a class that is built in, but that no put takes
abbrev pub is_kept_out : List ClassDef → Value → Bool
is_kept_out classes v = option_map_or (λ class. not (can_be_put classes class)) (object_class v) false

-- a value to be put names a class that isn't known, or is of one that may not stand there
abbrev pub value_lacks_class : State → Value → Bool
value_lacks_class m v = not (is_some (resolved m.classes v)) || is_kept_out m.classes (put_value m v)

-- a class is named that isn't known, or may not stand there; the class of a branch or of a scan is a declared one
abbrev pub lacks_class : State → Command → Bool
lacks_class m (Class class) = not (knows_all m.classes class)
lacks_class m (Put name v) = value_lacks_class m v
lacks_class m (Batch puts) = list_any (λ p. value_lacks_class m p.value) puts
lacks_class m (MakeTree name branches) = list_any (λ b. shape_lacks_class m.classes b.shape) branches
lacks_class m (Fill name row) = not (is_some (resolved_row m.classes row))
lacks_class m (Scan name class) = option_map_or (λ asked. not (is_declared m.classes asked.name)) class false
lacks_class m other = false

abbrev pub is_same_version : State → Command → Bool
is_same_version m (Class class) = is_some (find_in m.classes class.name class.version)
is_same_version m other = false

abbrev pub would_hold_itself : State → Command → Bool
would_hold_itself m (Class class) = holds_itself m.classes class
would_hold_itself m other = false

-- ---- values and rows

-- an object that fits its class
abbrev pub is_fit : List ClassDef → Value → Bool
is_fit classes v = option_map_or (λ class. fits classes class v) (object_class v) false

abbrev pub is_unfit : State → Command → Bool
is_unfit m (Put name v) = not (is_fit m.classes (put_value m v))
is_unfit m (Batch puts) = list_any (λ p. not (is_fit m.classes (put_value m p.value))) puts
is_unfit m other = false

abbrev pub is_bad_row : State → Command → Bool
is_bad_row m (Fill name row) = tree_passes m name (λ t. not (row_fits m.classes t.branches (fill_row m row)))
is_bad_row m other = false

-- ---- objects in another version

-- an object in the version that is asked, if one is asked
abbrev pub seen_in : List ClassDef → Option ℤ → Value → Mapped Value
seen_in classes None v = Ok v
seen_in classes (Some version) v = as_version classes (unwrap_or (object_class v) []) version v

abbrev pub row_seen_by : (Value → Mapped Value) → Row → Mapped Row
row_seen_by see [] = Ok []
row_seen_by see (v ∷ vs) = see v >>= λ w. row_seen_by see vs >>= λ ws. Ok (w ∷ ws)

-- a row with the objects of a class in the version that is asked, if one is asked
abbrev pub row_seen_in : List ClassDef → Option Base → Row → Mapped Row
row_seen_in classes None row = Ok row
row_seen_in classes (Some asked) row = row_seen_by (as_version classes asked.name asked.version) row

abbrev pub rows_seen_in : List ClassDef → Option Base → List Row → Mapped (List Row)
rows_seen_in classes asked [] = Ok []
rows_seen_in classes asked (r ∷ rs) = row_seen_in classes asked r >>= λ s. rows_seen_in classes asked rs >>= λ ss. Ok (s ∷ ss)

-- the base or member that has changed its kind, if that is why something can't be had
abbrev pub change_in : {A : Type 0} → Mapped A → Option Refusal
change_in (Ok x) = None
change_in (Err (Changed member)) = Some (KindChanged member)
change_in (Err other) = None

-- what an object, or the first row of a tree, has that can't be had in the asked version
abbrev pub kind_change : State → Command → Option Refusal
kind_change m (Get name cycle version) = option_and_then (λ v. change_in (seen_in m.classes version v)) (meant_object m name cycle)
kind_change m (Scan name class) = option_and_then (λ t. change_in (rows_seen_in m.classes class (rows_of_tree t))) (get m.trees name)
kind_change m other = None

abbrev pub is_version_missing : List ClassDef → Option ℤ → Value → Bool
is_version_missing classes version v =
    option_map_or (λ asked. option_map_or (λ class. not (is_known_version classes class asked)) (object_class v) false) version false

abbrev pub lacks_version : State → Command → Bool
lacks_version m (Get name cycle version) = option_map_or (is_version_missing m.classes version) (meant_object m name cycle) false
lacks_version m (Scan name class) = option_map_or (λ asked. not (is_known_version m.classes asked.name asked.version)) class false
lacks_version m other = false

-- ---- limits

abbrev pub is_at_last_cycle : State → Command → Bool
is_at_last_cycle m (Put name v) = nat_lt cycle_limit (next_cycle m name)
is_at_last_cycle m (Batch puts) = list_any (λ item. nat_lt cycle_limit item.1) (items_put m [] puts)
is_at_last_cycle m (Fill name row) = tree_passes m name (λ t. nat_le cycle_limit t.cycle)
is_at_last_cycle m (Save name) = tree_passes m name (λ t. nat_le cycle_limit t.cycle)
is_at_last_cycle m other = false

-- how long the data of an object would be
abbrev pub object_length : List ClassDef → List ℕ → Value → ℕ
object_length classes name v = data_length classes (unwrap_or (object_class v) []) name v

-- the classes with one more
abbrev pub with_class : List ClassDef → ClassDef → List ClassDef
with_class classes class = classes ++ declared classes class ∷ []

abbrev pub is_too_large : State → Command → Bool
is_too_large m (Class class) = is_too_long (length (written_list 0 (with_class m.classes class)))
is_too_large m (Put name v) = is_too_long (object_length m.classes name (put_value m v))
is_too_large m (Batch puts) = list_any (λ p. is_too_long (object_length m.classes p.name (put_value m p.value))) puts
is_too_large m (Fill name row) = tree_passes m name (λ t. has_long_entry m.classes t.branches (fill_row m row))
is_too_large m other = false

abbrev pub goes_too_deep : State → Command → Bool
goes_too_deep m (Put name v) = is_too_deep (put_value m v)
goes_too_deep m (Batch puts) = list_any (λ p. is_too_deep (put_value m p.value)) puts
goes_too_deep m (Fill name row) = list_any is_too_deep (fill_row m row)
goes_too_deep m other = false

abbrev pub has_too_many : State → Command → Bool
has_too_many m (Class class) = nat_le class_limit (length m.classes)
has_too_many m (Put name v) = has_long_list (put_value m v) || has_all_items m
has_too_many m (Batch puts) = (nat_lt batch_limit (length puts) || lacks_items m (length puts)) || list_any (λ p. has_long_list (put_value m p.value)) puts
has_too_many m (MakeTree name branches) = has_all_items m || has_many_branches branches
has_too_many m (Fill name row) = list_any has_long_list (fill_row m row)
has_too_many m other = false

-- ---- all tests

-- there is no room for a command's records: where the chain of records ends, and how many bytes they have together
pub record FullMark : Type 0 where
  pub end : ℕ
  pub wanted : ℕ

abbrev pub marked_full : Option FullMark → Option Refusal
marked_full mark = option_map (λ full. Full full.end full.wanted) mark

abbrev pub refused_if : Bool → Refusal → Option Refusal
refused_if b refusal = if b then Some refusal else None

-- the tests by their numbers
abbrev pub refusals : State → Command → Option FullMark → List (Option Refusal)
refusals m c mark =
    bad_line c
    ∷ refused_if (has_bad_name c) BadName
    ∷ refused_if (lacks_name m c) NoSuchName
    ∷ refused_if (lacks_cycle m c) NoSuchCycle
    ∷ refused_if (is_tree_name m c) NameIsTree
    ∷ refused_if (is_object_name m c) NotATree
    ∷ refused_if (is_name_in_use m c) NameInUse
    ∷ refused_if (lacks_class m c) NoSuchClass
    ∷ refused_if (is_same_version m c) SameVersion
    ∷ refused_if (would_hold_itself m c) HoldsItself
    ∷ refused_if (is_unfit m c) DoesNotFit
    ∷ refused_if (is_bad_row m c) BadRow
    ∷ kind_change m c
    ∷ refused_if (lacks_version m c) NoVersion
    ∷ refused_if (is_at_last_cycle m c) CycleLimit
    ∷ refused_if (is_too_large m c) TooLarge
    ∷ refused_if (goes_too_deep m c) TooDeep
    ∷ refused_if (has_too_many m c) TooMany
    ∷ marked_full mark
    ∷ []

abbrev pub first_of : {A : Type 0} → List (Option A) → Option A
first_of [] = None
first_of (x ∷ xs) = option_or x (first_of xs)

-- the first refusal that holds
unfoldable pub refusal_of : State → Command → Option FullMark → Option Refusal
refusal_of m c mark = first_of (refusals m c mark)

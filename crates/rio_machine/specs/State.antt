-- The state that commands change: declared classes, objects and trees. It has no keys, records or places.
use Rattle.std.specs.{Prelude.{◌≡◌, ℕ, ◌+◌, List, [], map, Bool, ◌||◌}, List.{filter, list_any}, Str.{bytes_eq}, Cmp.{IsTotalOrder}}
use Rattle.std.specs.{FinMap.{FinMap, IsAntisymmetric, contains_key, empty, get, keys, len}, Ordering.{flip_args, nat_cmp, on, then_cmp}}
use Rattle.std.specs.declared.cmp.Ordering.{Ordering}
use Rattle.rio_num.specs.Word.{name_order}
use Rattle.rio_leaf.specs.declared.branch.BranchDef.{BranchDef}
use Rattle.rio_format.specs.{declared.class.ClassDef.{ClassDef}, Depth.{greatest}, declared.value.Value.{Value}}

-- ---- orders

-- the name and the cycle of an object
abbrev pub NameAndCycle : Type 0
NameAndCycle = List ℕ × ℕ

-- by name, and of one name the greatest cycle first: the order in which a file lists what it has
abbrev pub item_order : NameAndCycle → NameAndCycle → Ordering
item_order = then_cmp (on (λ item. item.0) name_order) (on (λ item. item.1) (flip_args nat_cmp))

-- ---- states

-- A row has one value for each leaf, and one for each branch of objects.
abbrev pub Row : Type 0
Row = List Value

-- a tree: its rows are saved or still pending
pub record Tree : Type 0 where
  pub cycle : ℕ
  pub branches : List BranchDef
  pub saved : List Row
  pub pending : List Row

-- The classes stand in the order in which they were declared. The objects are a map from name and cycle, and the trees one
-- from the name, each a list in the order of its keys, which strictly rise; so two states with the same content are equal.
pub record State : Type 0 where
  pub classes : List ClassDef
  pub objects : FinMap item_order Value
  pub trees : FinMap name_order Tree

-- that of a file that isn't made yet
abbrev pub empty_state : State
empty_state = record { classes = []; objects = empty; trees = empty }

-- ---- what is there

-- the cycles of the objects of a name
abbrev pub cycles_of : State → List ℕ → List ℕ
cycles_of m name = map (λ item. item.1) (filter (λ item. bytes_eq item.0 name) (keys m.objects))

-- the greatest cycle of the objects of a name, and 0 where there are none
abbrev pub last_cycle : State → List ℕ → ℕ
last_cycle m name = greatest (cycles_of m name)

-- one more than the greatest cycle of the objects of a name, and 1 where there are none
abbrev pub next_cycle : State → List ℕ → ℕ
next_cycle m name = last_cycle m name + 1

-- an object has the name
abbrev pub names_object : State → List ℕ → Bool
names_object m name = list_any (λ item. bytes_eq item.0 name) (keys m.objects)

-- a tree has the name
abbrev pub names_tree : State → List ℕ → Bool
names_tree m name = contains_key m.trees name

-- an item is an object in one cycle, or a tree
abbrev pub names_item : State → List ℕ → Bool
names_item m name = names_object m name || names_tree m name

abbrev pub item_count : State → ℕ
item_count m = len m.objects + len m.trees

-- ---- laws

-- the orders are total and only equal keys tie; and states that have the same classes, and the same at each name and
-- cycle, are equal
pub record OrdersAreTotal : Type 0 where
  pub items : IsTotalOrder item_order
  pub names : IsTotalOrder name_order
  pub items_tie : IsAntisymmetric item_order
  pub names_tie : IsAntisymmetric name_order
  pub same_state : (m n : State) → m.classes ≡ n.classes → ((item : NameAndCycle) → get m.objects item ≡ get n.objects item)
      → ((name : List ℕ) → get m.trees name ≡ get n.trees name) → m ≡ n

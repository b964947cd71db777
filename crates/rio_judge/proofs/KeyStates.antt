-- The keys of any table stand for a state, and so do keys and trees that have keys among them.
use Rattle.std.proofs.{Common.{◌≡◌, ℕ, ◌∙◌, List, [], ◌∷◌, map, replicate, true, Option, Some, None, pos, refl, sym, ap}, lemmas.Bool.{and_from}, lemmas.List.{length-replicate, nil_from_length}}
use Rattle.std.proofs.lemmas.Float.{T_from_true}
use Rattle.std.specs.{Prelude.{unwrap_or}, FinMap.{empty, entries, entries-from_sorted, from_sorted, len-empty, len-entries, Entries.{below_all, is_sorted}}, List.{filter}}
use Rattle.rio_num.specs.Word.{name_order}
use Rattle.rio_key.specs.declared.head.KeyHead.{KeyHead}
use Rattle.rio_dir.specs.Table.{AreBehind, AreOrdered}
use Rattle.rio_format.specs.{declared.value.Part.{Part}, declared.value.Value.{Value, Object, out-roll-Value, TheOpen.{Value-F}, TheVariants.{rolls-Object}}}
use Rattle.rio_format.specs.declared.value.Value.TheOpen as layer
use Rattle.rio_machine.specs.State.{NameAndCycle, Row, State, Tree, item_order}
use Rattle.rio_step.specs.{ItemKeys.{told_by_key}, Refusing.{object_class}, Step.{listed_object, object_listed}}
use Rattle.rio_tree_table.specs.{Table.{AreBehind as AreTreesBehind, AreOrdered as AreTreesOrdered}, declared.table.KeptTree.{KeptTree}}
use Rattle.rio_step.specs.KeptItems.{is_object_key, is_tree_key, item_of_key, item_of_tree, kept_tree}
use Rattle.rio_judge.specs.{Judging.{KeysHaveStates}, Trees.{ItemsHaveStates, KeysOfObjectsAreItems}}
use Rattle.rio_judge.proofs.{Divided.{ordered_kept}, KeysOfState.{first_is, item_of, keys_are_ordered}}

-- an object of the class
abbrev bare : List ℕ → Value
bare class = Object class (pos 0) []

class_is : (class : List ℕ) → object_class (bare class) ≡ Some class
class_is class = ap object_class (sym (rolls-Object class (pos 0) [])) ∙ ap object_class_of (out-roll-Value (layer.Object class (pos 0) []))
  where
    object_class_of : Value-F Value Part → Option (List ℕ)
    object_class_of (layer.Object class version parts) = Some class
    object_class_of other = None

-- an object for each key
abbrev objects_of : List KeyHead → List (NameAndCycle × Value)
objects_of heads = map (λ h. (item_of h, bare h.class)) heads

listed : (heads : List KeyHead) → map told_by_key heads ≡ map listed_object (objects_of heads)
listed [] = refl
listed (h ∷ hs) =
    let rest = listed hs in
    λ i. (item_of h, object_listed (unwrap_or (sym (class_is h.class) i) [])) ∷ rest i

below : (name : List ℕ) (cycle : ℕ) (hs : List KeyHead) → AreBehind name cycle hs → below_all item_order (name, cycle) (objects_of hs) ≡ true
below name cycle [] are = refl
below name cycle (h ∷ hs) are = and_from _ _ (first_is (name_order name h.name) h.cycle cycle ∙ are.0) (below name cycle hs are.1)

rising : (heads : List KeyHead) → AreOrdered heads → is_sorted item_order (objects_of heads) ≡ true
rising [] are = refl
rising (h ∷ hs) are = and_from _ _ (below h.name h.cycle hs are.0) (rising hs are.1)

pub keys_have_states : KeysHaveStates
keys_have_states classes heads are =
    let m : State = record { classes = classes; objects = from_sorted (objects_of heads); trees = empty } in (
      m,
      refl,
      record {
        objects = listed heads ∙ ap (map listed_object) (sym (entries-from_sorted item_order (objects_of heads) (T_from_true _ (rising heads are))));
        trees = refl;
      },
    )

-- ---- trees

rows : ℕ → List Row
rows n = replicate n []

-- a tree with so many rows as are kept of it, in the cycle of its key
abbrev tree_with : ℕ → KeptTree → List ℕ × Tree
tree_with cycle t = (t.name, record { cycle = cycle; branches = t.branches; saved = rows t.saved; pending = rows t.pending })

abbrev trees_of : List KeyHead → List KeptTree → List (List ℕ × Tree)
trees_of [] trees = []
trees_of (h ∷ hs) [] = []
trees_of (h ∷ hs) (t ∷ ts) = tree_with h.cycle t ∷ trees_of hs ts

abbrev HaveNames : List KeyHead → List KeptTree → Type 0
HaveNames hs ts = map (λ h. h.name) hs ≡ map (λ t. t.name) ts

cycles_told : (hs : List KeyHead) (ts : List KeptTree) → HaveNames hs ts → map item_of_key hs ≡ map item_of_tree (trees_of hs ts)
cycles_told [] ts same = refl
cycles_told (h ∷ hs) [] same = absurd cc
cycles_told (h ∷ hs) (t ∷ ts) same =
    let first : h.name ≡ t.name = cc in
    let later : HaveNames hs ts = cc in
    let rest = cycles_told hs ts later in
    λ i. (first i, h.cycle) ∷ rest i

kept_again : (t : KeptTree) (cycle : ℕ) → t ≡ kept_tree (tree_with cycle t)
unfolding rows
kept_again t cycle =
    let saved = sym (length-replicate t.saved []) in
    let pending = sym (length-replicate t.pending []) in
    λ i. record { name = t.name; branches = t.branches; saved = saved i; pending = pending i }

trees_kept : (hs : List KeyHead) (ts : List KeptTree) → HaveNames hs ts → ts ≡ map kept_tree (trees_of hs ts)
trees_kept [] [] same = refl
trees_kept [] (t ∷ ts) same = absurd cc
trees_kept (h ∷ hs) [] same = absurd cc
trees_kept (h ∷ hs) (t ∷ ts) same =
    let later : HaveNames hs ts = cc in
    let rest = trees_kept hs ts later in
    let first = kept_again t h.cycle in
    λ i. first i ∷ rest i

names_below : (name : List ℕ) (hs : List KeyHead) (ts : List KeptTree) → AreTreesBehind name ts → below_all name_order name (trees_of hs ts) ≡ true
names_below name [] ts are = refl
names_below name (h ∷ hs) [] are = refl
names_below name (h ∷ hs) (t ∷ ts) are = and_from _ _ are.0 (names_below name hs ts are.1)

names_rising : (hs : List KeyHead) (ts : List KeptTree) → AreTreesOrdered ts → is_sorted name_order (trees_of hs ts) ≡ true
names_rising [] ts are = refl
names_rising (h ∷ hs) [] are = refl
names_rising (h ∷ hs) (t ∷ ts) are = and_from _ _ (names_below t.name hs ts are.0) (names_rising hs ts are.1)

pub items_have_states : ItemsHaveStates
items_have_states classes heads trees are have =
    let of_objects = filter (is_object_key trees) heads in
    let of_trees = filter (is_tree_key trees) heads in
    let m : State = record { classes = classes; objects = from_sorted (objects_of of_objects); trees = from_sorted (trees_of of_trees trees) } in
    let objects = sym (entries-from_sorted item_order (objects_of of_objects) (T_from_true _ (rising of_objects (ordered_kept (is_object_key trees) heads are)))) in
    let entries_are = sym (entries-from_sorted name_order (trees_of of_trees trees) (T_from_true _ (names_rising of_trees trees have.ordered))) in (
      m,
      refl,
      record {
        ordered = are;
        objects = listed of_objects ∙ ap (map listed_object) objects;
        cycles = cycles_told of_trees trees have.keys ∙ ap (map item_of_tree) entries_are;
        kept = trees_kept of_trees trees have.keys ∙ ap (map kept_tree) entries_are;
      },
    )

-- ---- no trees

all_of_objects : (heads : List KeyHead) → filter (is_object_key []) heads ≡ heads
all_of_objects [] = refl
all_of_objects (h ∷ hs) = ap (λ (l : List KeyHead). h ∷ l) (all_of_objects hs)

none_of_trees : (heads : List KeyHead) → filter (is_tree_key []) heads ≡ []
none_of_trees [] = refl
none_of_trees (h ∷ hs) = none_of_trees hs

no_entries : entries (empty {X = Tree} {R = name_order}) ≡ []
no_entries = nil_from_length _ (sym (len-entries (empty {X = Tree} {R = name_order})) ∙ len-empty name_order Tree)

pub keys_of_objects_are_items : KeysOfObjectsAreItems
keys_of_objects_are_items heads m are =
    let none : entries m.trees ≡ [] = ap entries are.trees ∙ no_entries in
    record {
      ordered = keys_are_ordered heads m are.objects;
      objects = ap (map told_by_key) (all_of_objects heads) ∙ are.objects;
      cycles = ap (map item_of_key) (none_of_trees heads) ∙ ap (map item_of_tree) (sym none);
      kept = ap (map kept_tree) (sym none);
    }

-- What a close of a state needs, by the keys of its objects.
use Rattle.std.proofs.Common.{◌≡◌, ℕ, ◌+◌, ◌≤◌, true, false, Bool, cond, List, [], ◌∷◌, map, length, codes, Option, Some, None, refl, sym, ap, ◌∙◌, arith}
use Rattle.std.proofs.{lemmas.List.{length-append, length-map}, lemmas.Bool.{and_from, and_parts, eqb-true}, lemmas.List.{Filters.{sum_by-filter_both}, Sums.{sum_by-append, sum_by-cons}}, lemmas.Slice.Eq.{bytes_eq-Decides}}
use Rattle.std.specs.{FinMap.{entries, len-entries}, List.{filter, flat_map, list_all, sum_by}, Option.{option_map_or}}
use Rattle.rio_key.specs.{Written.{written_key}, declared.head.KeyHead.{KeyHead}}
use Rattle.rio_format.specs.declared.value.Value.{Value}
use Rattle.rio_dir.specs.Table.{heads_size, with_head}
use Rattle.rio_tree_table.specs.declared.table.KeptTree.{KeptTree}
use Rattle.rio_chain.specs.{Placing.{record_count}, Record.{new_key}, declared.segment.Segment.{Segment}}
use Rattle.rio_tree.specs.declared.basket_at.BasketAt.{BasketAt}
use Rattle.rio_fill.specs.Fill.{BranchFill}
use Rattle.rio_state.specs.{KeyedRecords.{KeyedRecord, is_tree_key}, Left.{info_head}, Sizes.{close_size}}
use Rattle.rio_machine.specs.{Limits.{head_length}, State.{NameAndCycle, State, Tree}}
use Rattle.rio_chain.proofs.Records.{key_long}
use Rattle.rio_chain.specs.declared.record.NewRecord.{NewRecord}
use Rattle.rio_step.specs.{ItemKeys.{told_by_key}, KeptItems.{AreItemsOfState, is_object_key, item_of_key, item_of_tree}, Step.{Listed, listed_object, object_listed, tree_listed}, Refusing.{object_class_name}}
use Rattle.rio_step.specs.KeptItems as items
use Rattle.rio_judge.proofs.ItemsOfState.{count_is}
use Rattle.rio_state.proofs.CloseSizes.{close_size_is_need}
use Rattle.rio_state.specs.Closing.{close_need, end_limit}
use Rattle.rio_recover.specs.Closable.{is_sized, kept_with, list_count}
use Rattle.rio_recover.proofs.Rooms.{need_same}
use Rattle.rio_session.specs.{Due.{IsClosableWith, due_of, kept_records, need_with, written_count}, Fills.{FilledTree, places_of_fill, places_of_trees}, Items.{AreTreeKeys}, Puts.{CanBePut}, Session.{SessionState}}
use Rattle.rio_session.specs.Marks.{basket_total, key_of_object, key_of_tree, kept_of, state_need}
use Rattle.rio_session.proofs.{FillSums.{AreLow, need_bounds, need_by_due}, Keeps.{size_with}}

abbrev written_size : KeyHead → ℕ
written_size h = length (written_key h)

class_listed : Listed → List ℕ
class_listed (object_listed class) = class
class_listed (tree_listed saved pending) = []

-- a key is as long as one with the same class and name
abbrev key_like : List ℕ → List ℕ → ℕ → KeyHead
key_like class name cycle = new_key (record { place = 0; directory = 100; datime = 0; cycle = cycle; class = class; name = name; title = [] }) 0

one_size : (h : KeyHead) (class name : List ℕ) (cycle : ℕ) → class ≡ h.class → name ≡ h.name → is_sized h ≡ true → written_size (key_like class name cycle) ≡ written_size h
one_size h class name cycle a b sized =
    key_long (record { place = 0; directory = 100; datime = 0; cycle = cycle; class = class; name = name; title = [] }) 0
    ∙ ap (λ (x : List ℕ × List ℕ). head_length x.0 x.1) (λ i. (a i, b i))
    ∙ sym (eqb-true (written_size h) (head_length h.class h.name) sized)

-- ---- objects

sizes : (heads : List KeyHead) (es : List (NameAndCycle × Value)) → map told_by_key heads ≡ map listed_object es → list_all is_sized heads ≡ true
    → sum_by written_size (map key_of_object es) ≡ sum_by written_size heads
unfolding class_listed
sizes [] [] same sized = refl
sizes [] (e ∷ es) same sized = absurd cc
sizes (h ∷ heads) [] same sized = absurd cc
sizes (h ∷ heads) (e ∷ es) same sized =
    let parts = and_parts (is_sized h) (list_all is_sized heads) sized in
    let first : told_by_key h ≡ listed_object e = cc in
    let others : map told_by_key heads ≡ map listed_object es = cc in
    let one = one_size h (object_class_name e.1) e.0.0 e.0.1 (λ i. class_listed (sym first i).1) (λ i. (sym first i).0.0) parts.0 in
    let more = sizes heads es others parts.1 in
    sum_by-cons written_size (key_of_object e) (map key_of_object es)
    ∙ (λ i. one i + more i)
    ∙ sym (sum_by-cons written_size h heads)

-- ---- trees

tree_sizes : (heads : List KeyHead) (es : List (List ℕ × Tree)) → map item_of_key heads ≡ map item_of_tree es → list_all is_sized heads ≡ true → list_all is_tree_key heads ≡ true
    → sum_by written_size (map key_of_tree es) ≡ sum_by written_size heads
tree_sizes [] [] same sized kind = refl
tree_sizes [] (e ∷ es) same sized kind = absurd cc
tree_sizes (h ∷ heads) [] same sized kind = absurd cc
tree_sizes (h ∷ heads) (e ∷ es) same sized kind =
    let parts = and_parts (is_sized h) (list_all is_sized heads) sized in
    let kinds = and_parts (is_tree_key h) (list_all is_tree_key heads) kind in
    let first : item_of_key h ≡ item_of_tree e = cc in
    let others : map item_of_key heads ≡ map item_of_tree es = cc in
    let one = one_size h (codes "TTree") e.0 e.1.cycle (sym ((bytes_eq-Decides h.class (codes "TTree")).0 kinds.0)) (λ i. (sym first i).0) parts.0 in
    let more = tree_sizes heads es others parts.1 kinds.1 in
    sum_by-cons written_size (key_of_tree e) (map key_of_tree es)
    ∙ (λ i. one i + more i)
    ∙ sym (sum_by-cons written_size h heads)

-- what holds of all keys holds of some
pub all_some : (p q : KeyHead → Bool) (heads : List KeyHead) → list_all p heads ≡ true → list_all p (filter q heads) ≡ true
all_some p q [] all = refl
all_some p q (h ∷ heads) all = by (q h) (all_some p q heads parts.1)
  where
    parts : (p h ≡ true) × (list_all p heads ≡ true)
    parts = and_parts (p h) (list_all p heads) all

    by : (b : Bool) → list_all p (filter q heads) ≡ true → list_all p (cond b (h ∷ filter q heads) (filter q heads)) ≡ true
    by true later = and_from (p h) (list_all p (filter q heads)) parts.0 later
    by false later = later

trees_kinds : (trees : List KeptTree) (heads : List KeyHead) → AreTreeKeys heads trees → list_all is_tree_key (filter (items.is_tree_key trees) heads) ≡ true
trees_kinds trees [] are = refl
trees_kinds trees (h ∷ heads) are = by (items.is_tree_key trees h) refl (trees_kinds trees heads are.1)
  where
    first : items.is_tree_key trees h ≡ is_tree_key h
    first = are.0

    by : (b : Bool) → items.is_tree_key trees h ≡ b → list_all is_tree_key (filter (items.is_tree_key trees) heads) ≡ true
        → list_all is_tree_key (cond b (h ∷ filter (items.is_tree_key trees) heads) (filter (items.is_tree_key trees) heads)) ≡ true
    by true is later = and_from (is_tree_key h) (list_all is_tree_key (filter (items.is_tree_key trees) heads)) (sym first ∙ is) later
    by false is later = later

-- ---- all

-- the class list counts as one where there is one
pub list_counted : (info : Option KeyHead) (found : Option KeyedRecord) → info ≡ info_head found → option_map_or (λ (r : KeyedRecord). 1) found 0 ≡ list_count info
list_counted info None is = ap list_count (sym is)
list_counted info (Some r) is = ap list_count (sym is)

-- what a close of a state needs, by its keys, how many class lists are kept, and which baskets
module _ (heads : List KeyHead) (trees : List KeptTree) (m : State) (are : AreItemsOfState heads trees m) (kinds : AreTreeKeys heads trees) (sized : list_all is_sized heads ≡ true) where
  all_sizes : (name : List ℕ) (lists : ℕ) (filled : List FilledTree) → heads_size (kept_of name lists filled m).heads ≡ heads_size heads
  all_sizes name lists filled =
      let of_objects = filter (is_object_key trees) heads in
      let of_trees = filter (items.is_tree_key trees) heads in
      omega (
        arith,
        sum_by-append written_size (map key_of_object (entries m.objects)) (map key_of_tree (entries m.trees)),
        sizes of_objects (entries m.objects) are.objects (all_some is_sized (is_object_key trees) heads sized),
        tree_sizes of_trees (entries m.trees) are.cycles (all_some is_sized (items.is_tree_key trees) heads sized) (trees_kinds trees heads kinds),
        sum_by-filter_both (items.is_tree_key trees) (is_object_key trees) (λ h. refl) written_size heads,
      )

  pub need_by_keys : (name : List ℕ) (lists : ℕ) (filled : List FilledTree) → state_need name lists filled m ≡ need_with name heads (1 + lists + length heads + basket_total filled) filled
  unfolding state_need
  need_by_keys name lists filled =
      let count : (kept_of name lists filled m).count ≡ 1 + lists + length heads + basket_total filled = omega (arith, count_is heads trees m are, len-entries m.objects, len-entries m.trees) in
      need_same (kept_of name lists filled m) (kept_records name heads (1 + lists + length heads + basket_total filled) filled) refl (all_sizes name lists filled) count refl refl

-- there are as many baskets as they have places
pub places_counted : (branches : List BranchFill) → written_count branches ≡ length (flat_map (λ (b : BranchFill). map (λ (at : BasketAt). at.seek) b.baskets) branches)
places_counted [] = refl
places_counted (b ∷ bs) =
    omega (
      arith,
      sum_by-cons (λ (b : BranchFill). length b.baskets) b bs,
      length-append (map (λ (at : BasketAt). at.seek) b.baskets) (flat_map (λ (b : BranchFill). map (λ (at : BasketAt). at.seek) b.baskets) bs),
      length-map b.baskets (λ (at : BasketAt). at.seek),
      places_counted bs,
    )

pub baskets_counted : (filled : List FilledTree) → basket_total filled ≡ length (places_of_trees filled)
baskets_counted [] = refl
baskets_counted (t ∷ ts) =
    omega (
      arith,
      sum_by-cons (λ (t : FilledTree). written_count t.fill.branches) t ts,
      length-append (places_of_fill t.fill) (places_of_trees ts),
      places_counted t.fill.branches,
      baskets_counted ts,
    )

-- ---- by lengths

-- without trees to save it is told by lengths
pub need_is_size : (name : List ℕ) (heads : List KeyHead) (count : ℕ) → close_need (kept_with name heads count) ≡ close_size name (heads_size heads) count
need_is_size name heads count =
    let same : count + 0 ≡ count = omega arith in
    omega (arith, close_size_is_need (kept_with name heads count), ap (close_size name (heads_size heads)) same)

size_more : (name : List ℕ) (heads few count : ℕ) → few ≤ count → close_size name heads few ≤ close_size name heads count
unfolding close_size
size_more name heads few count less = omega (arith, less)

-- with trees to save no less is needed
pub need_least : (name : List ℕ) (heads : List KeyHead) (count : ℕ) (trees : List FilledTree) → close_need (kept_with name heads count) ≤ need_with name heads count trees
need_least name heads count trees =
    omega (arith, need_is_size name heads count, need_by_due name heads count trees, size_more name (heads_size heads) count (count + (due_of trees).baskets) (omega arith))

-- where there is room for a close, there are few keys and records
pub kept_bounds : (segments : List Segment) (heads : List KeyHead) (trees : List FilledTree) (info : Option KeyHead) (name : List ℕ) → IsClosableWith segments heads trees info name → AreLow heads (record_count segments) trees end_limit
kept_bounds segments heads trees info name kept = need_bounds name heads (record_count segments) trees end_limit (omega (arith, kept.room))

-- where there is room for a close with one key more, its bytes and those of the others are few
pub key_bytes : (s : SessionState) (made : NewRecord) → CanBePut s made → heads_size s.heads + length (written_key made.head) ≤ end_limit
key_bytes s made can =
    let low = need_bounds s.name (with_head made.head s.heads) (record_count s.segments + 1) s.trees end_limit (omega (arith, can.room)) in
    omega (arith, low.heads, size_with made.head s.heads)

-- what a close needs with one key more
pub need_with_key : (name : List ℕ) (heads : List KeyHead) (trees : List FilledTree) (h : KeyHead) (class own : List ℕ) (count : ℕ) → is_sized h ≡ true → h.class ≡ class → h.name ≡ own
    → need_with name (with_head h heads) count trees ≡ (due_of trees).bytes + close_size name (heads_size heads + head_length class own) (count + (due_of trees).baskets)
need_with_key name heads trees h class own count sized a b =
    let long : length (written_key h) ≡ head_length class own = eqb-true (length (written_key h)) (head_length h.class h.name) sized ∙ ap (λ (x : List ℕ × List ℕ). head_length x.0 x.1) (λ i. (a i, b i)) in
    need_by_due name (with_head h heads) count trees
    ∙ ap (λ (n : ℕ). (due_of trees).bytes + close_size name n (count + (due_of trees).baskets)) (size_with h heads ∙ ap (λ (n : ℕ). heads_size heads + n) long)

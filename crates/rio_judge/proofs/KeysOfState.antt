-- What keys tell of the objects for which they stand: which names and cycles there are, and the next cycle.
use Rattle.std.proofs.Common.{◌≡◌, ℕ, ◌+◌, ◌<◌, ◌∙◌, List, [], ◌∷◌, map, Bool, true, false, cond, ◌&&◌, ◌||◌, ltb, eqb, max, Some, None, refl, sym, ap, subst, arith}
use Rattle.std.proofs.{lemmas.Bool.{and_from, and_parts, eq-eqb, eqb-true}, lemmas.Cmp.{nat_list_eq_equiv}}
use Rattle.std.proofs.lemmas.Map.Views.{tells_apart}
use Rattle.std.specs.{Prelude.{is_some}, Cmp.{both_ways, eq_by_cmp_equiv}}
use Rattle.std.specs.FinMap.{contains_key, contains_key-keys, entries, entries_sorted, keys, get, get-empty, Entries.{below_all, is_sorted}}
use Rattle.std.specs.{List.{filter, find, list_any}, Ordering.{eq_by_cmp, is_lt, nat_cmp, ordering_then}, Str.{bytes_eq}}
use Rattle.std.specs.declared.cmp.Ordering.{Ordering, TheVariants.{Less, Equal, Greater}}
use Rattle.rio_num.proofs.{NameSets.{any_map}, Cases.{is_true}}
use Rattle.rio_num.specs.Word.{name_order}
use Rattle.rio_key.specs.declared.head.KeyHead.{KeyHead}
use Rattle.rio_dir.specs.Table.{AreBehind, AreOrdered, first_by, greatest_cycle, head_of, is_at_cycle, is_of_name}
use Rattle.rio_dir.proofs.{TableLists.{cycle_of, greatest_is}, TableOrder.{at_is}}
use Rattle.rio_format.specs.{Depth.{greatest}, declared.value.Value.{Value}}
use Rattle.rio_machine.proofs.OrderLaws.{items_tie, items_total}
use Rattle.rio_machine.specs.State.{NameAndCycle, State, item_order, last_cycle, names_object}
use Rattle.rio_step.specs.{ItemKeys.{AreKeysOfState, told_by_key}, Step.{listed_object}}

-- these keys, in this order, tell what is listed of the state's objects
abbrev pub AreKeysOfObjects : List KeyHead → State → Type 0
AreKeysOfObjects heads m = map told_by_key heads ≡ map listed_object (entries m.objects)

-- the name and cycle that a key tells
abbrev pub item_of : KeyHead → NameAndCycle
item_of h = (h.name, h.cycle)

-- ---- names and cycles in order

items_told : (heads : List KeyHead) → map (λ x. x.0) (map told_by_key heads) ≡ map item_of heads
items_told [] = refl
items_told (h ∷ hs) = ap (λ xs. item_of h ∷ xs) (items_told hs)

items_listed : (es : List (NameAndCycle × Value)) → map (λ x. x.0) (map listed_object es) ≡ map (λ x. x.0) es
items_listed [] = refl
items_listed (e ∷ es) = ap (λ xs. e.0 ∷ xs) (items_listed es)

-- the keys tell the names and cycles of the objects
pub keys_are : (heads : List KeyHead) (m : State) → AreKeysOfObjects heads m → keys m.objects ≡ map item_of heads
keys_are heads m are =
    sym (items_listed (entries m.objects)) ∙ ap (λ xs. map (λ x. x.0) xs) (sym are) ∙ items_told heads

-- ---- what there is

any_found : (p : KeyHead → Bool) (heads : List KeyHead) → list_any p heads ≡ is_some (find p heads)
any_found p [] = refl
any_found p (h ∷ hs) = by (p h) (any_found p hs)
  where
    by : (b : Bool) → list_any p hs ≡ is_some (find p hs) → (b || list_any p hs) ≡ is_some (cond b (Some h) (find p hs))
    by true ih = refl
    by false ih = ih

-- an object has the name exactly where a key has it
pub names_are : (heads : List KeyHead) (m : State) (name : List ℕ) → AreKeysOfObjects heads m → names_object m name ≡ is_some (head_of name None heads)
names_are heads m name are =
    ap (list_any (λ item. bytes_eq item.0 name)) (keys_are heads m are) ∙ any_map item_of (λ item. bytes_eq item.0 name) heads ∙ any_found (is_of_name name) heads

at_item : (name : List ℕ) (cycle : ℕ) (h : KeyHead) → eq_by_cmp item_order (name, cycle) (item_of h) ≡ is_at_cycle name cycle h
at_item name cycle h = both_ways _ _ one two
  where
    one : eq_by_cmp item_order (name, cycle) (item_of h) ≡ true → is_at_cycle name cycle h ≡ true
    one e =
        let same = tells_apart items_tie (name, cycle) (item_of h) e in
        and_from _ _
        (ap (λ x. bytes_eq x name) (sym (ap (λ x. x.0) same)) ∙ nat_list_eq_equiv.refl name)
        (eq-eqb _ _ (sym (ap (λ x. x.1) same)))

    two : is_at_cycle name cycle h ≡ true → eq_by_cmp item_order (name, cycle) (item_of h) ≡ true
    two e =
        let is = at_is name cycle h e in
        let same : ◌≡◌ {A = NameAndCycle} (name, cycle) (item_of h) = λ i. (sym is.0 i, sym is.1 i) in
        ap (eq_by_cmp item_order (name, cycle)) (sym same) ∙ (eq_by_cmp_equiv items_total).refl (name, cycle)

-- an object of the name is there in the cycle exactly where its key is
pub contains_is : (heads : List KeyHead) (m : State) (name : List ℕ) (cycle : ℕ) → AreKeysOfObjects heads m
    → contains_key m.objects (name, cycle) ≡ is_some (head_of name (Some cycle) heads)
contains_is heads m name cycle are =
    contains_key-keys m.objects (name, cycle)
    ∙ ap (list_any (eq_by_cmp item_order (name, cycle))) (keys_are heads m are)
    ∙ any_map item_of (eq_by_cmp item_order (name, cycle)) heads
    ∙ (λ i. list_any (λ h. at_item name cycle h i) heads)
    ∙ any_found (is_at_cycle name cycle) heads

-- no tree has a name
pub no_tree : (heads : List KeyHead) (m : State) (name : List ℕ) → AreKeysOfState heads m → get m.trees name ≡ None
no_tree heads m name are = ap (λ trees. get trees name) are.trees ∙ get-empty name_order name

-- ---- cycles

greatest_of : (name : List ℕ) (heads : List KeyHead)
    → greatest (map (λ item. item.1) (filter (λ item. bytes_eq item.0 name) (map item_of heads))) ≡ greatest_cycle name heads
greatest_of name [] = refl
greatest_of name (h ∷ hs) = by (bytes_eq h.name name) (greatest_of name hs)
  where
    rest : List NameAndCycle
    rest = filter (λ item. bytes_eq item.0 name) (map item_of hs)

    by : (b : Bool) → greatest (map (λ item. item.1) (filter (λ item. bytes_eq item.0 name) (map item_of hs))) ≡ greatest_cycle name hs
        → greatest (map (λ item. item.1) (cond b (item_of h ∷ filter (λ item. bytes_eq item.0 name) (map item_of hs)) (filter (λ item. bytes_eq item.0 name) (map item_of hs))))
        ≡ cond b (max h.cycle (greatest_cycle name hs)) (greatest_cycle name hs)
    by true ih = ap (max h.cycle) ih
    by false ih = ih

-- the greatest cycle of a name's keys is that of its objects
pub cycles_are : (heads : List KeyHead) (m : State) (name : List ℕ) → AreKeysOfObjects heads m → last_cycle m name ≡ greatest_cycle name heads
cycles_are heads m name are =
    ap (λ items. greatest (map (λ item. item.1) (filter (λ item. bytes_eq item.0 name) items))) (keys_are heads m are) ∙ greatest_of name heads

-- no key has a cycle above the greatest of its name
pub above_none : (name : List ℕ) (n : ℕ) (heads : List KeyHead) → greatest_cycle name heads < n → find (is_at_cycle name n) heads ≡ None
above_none name n [] below = refl
above_none name n (h ∷ hs) below = by (bytes_eq h.name name) (above_none name n hs) below
  where
    by : (b : Bool) → (greatest_cycle name hs < n → find (is_at_cycle name n) hs ≡ None)
        → cond b (max h.cycle (greatest_cycle name hs)) (greatest_cycle name hs) < n
        → cond (b && eqb h.cycle n) (Some h) (find (is_at_cycle name n) hs) ≡ None
    by true ih below = at (eqb h.cycle n) refl
      where
        at : (c : Bool) → eqb h.cycle n ≡ c → cond c (Some h) (find (is_at_cycle name n) hs) ≡ None
        at true e = absurd (omega (arith, below, eqb-true _ _ e))
        at false e = ih (omega (arith, below))
    by false ih below = ih below

-- no key has the next cycle of its name
pub next_is_new : (name : List ℕ) (heads : List KeyHead) → head_of name (Some (greatest_cycle name heads + 1)) heads ≡ None
next_is_new name heads = above_none name (greatest_cycle name heads + 1) heads (omega arith)

-- ---- the keys stand in order

less_is : (a b : ℕ) → is_lt (nat_cmp a b) ≡ ltb a b
less_is a b = by (ltb a b) (eqb a b)
  where
    by : (l e : Bool) → is_lt (cond l Less (cond e Equal Greater)) ≡ l
    by true e = refl
    by false true = refl
    by false false = refl

-- how two items compare is how their keys do
pub first_is : (o : Ordering) (a b : ℕ) → is_lt (ordering_then o (nat_cmp a b)) ≡ first_by o (ltb a b)
first_is Less a b = refl
first_is Equal a b = less_is a b
first_is Greater a b = refl

behind : (name : List ℕ) (cycle : ℕ) (hs : List KeyHead) (es : List (NameAndCycle × Value)) → map (λ e. e.0) es ≡ map item_of hs
    → below_all item_order (name, cycle) es ≡ true → AreBehind name cycle hs
behind name cycle [] es same below = tt
behind name cycle (h ∷ hs) [] same below = absurd cc
behind name cycle (h ∷ hs) (e ∷ es) same below =
    let first : e.0 ≡ item_of h = cc in
    let rest : map (λ e. e.0) es ≡ map item_of hs = cc in
    let parts = and_parts (is_lt (item_order (name, cycle) e.0)) (below_all item_order (name, cycle) es) below in
    let before : is_lt (item_order (name, cycle) (item_of h)) ≡ true = subst (λ item. is_lt (item_order (name, cycle) item) ≡ true) first parts.0 in
    (sym (first_is (name_order name h.name) h.cycle cycle) ∙ before, behind name cycle hs es rest parts.1)

ordered : (hs : List KeyHead) (es : List (NameAndCycle × Value)) → map (λ e. e.0) es ≡ map item_of hs
    → is_sorted item_order es ≡ true → AreOrdered hs
ordered [] es same rising = tt
ordered (h ∷ hs) [] same rising = absurd cc
ordered (h ∷ hs) (e ∷ es) same rising =
    let first : e.0 ≡ item_of h = cc in
    let rest : map (λ e. e.0) es ≡ map item_of hs = cc in
    let parts = and_parts (below_all item_order e.0 es) (is_sorted item_order es) rising in
    (behind h.name h.cycle hs es rest (subst (λ item. below_all item_order item es ≡ true) first parts.0), ordered hs es rest parts.1)

-- they stand in the order of the key list
pub keys_are_ordered : (heads : List KeyHead) (m : State) → AreKeysOfObjects heads m → AreOrdered heads
keys_are_ordered heads m are = ordered heads (entries m.objects) (keys_are heads m are) (is_true _ (entries_sorted m.objects))

-- the first key of a name has the greatest cycle of its objects
pub first_is_greatest : (heads : List KeyHead) (m : State) (name : List ℕ) (h : KeyHead) → AreKeysOfObjects heads m
    → head_of name None heads ≡ Some h → last_cycle m name ≡ h.cycle
first_is_greatest heads m name h are found =
    cycles_are heads m name are ∙ greatest_is name heads (keys_are_ordered heads m are) ∙ ap cycle_of found

-- no key of a name has a cycle above the first one's
pub none_above_first : (heads : List KeyHead) (name : List ℕ) (h : KeyHead) (cycle : ℕ) → AreOrdered heads
    → head_of name None heads ≡ Some h → h.cycle < cycle → head_of name (Some cycle) heads ≡ None
none_above_first heads name h cycle ordered found above =
    let first : greatest_cycle name heads ≡ h.cycle = greatest_is name heads ordered ∙ ap cycle_of found in
    above_none name cycle heads (omega (arith, first, above))

-- the first key of a name is found by its cycle
pub first_is_found : (name : List ℕ) (heads : List KeyHead) (h : KeyHead) → head_of name None heads ≡ Some h → head_of name (Some h.cycle) heads ≡ Some h
first_is_found name [] h found = absurd cc
first_is_found name (k ∷ ks) h found = by (bytes_eq k.name name) found (first_is_found name ks h)
  where
    by : (b : Bool) → cond b (Some k) (find (is_of_name name) ks) ≡ Some h
        → (find (is_of_name name) ks ≡ Some h → find (is_at_cycle name h.cycle) ks ≡ Some h)
        → cond (b && eqb k.cycle h.cycle) (Some k) (find (is_at_cycle name h.cycle) ks) ≡ Some h
    by true found ih =
        let same : k ≡ h = cc in
        ap (λ b. cond b (Some k) (find (is_at_cycle name h.cycle) ks)) (eq-eqb k.cycle h.cycle (ap (λ (x : KeyHead). x.cycle) same)) ∙ found
    by false found ih = ih found

-- a key that is found has the name and the cycle
pub found_key : (name : List ℕ) (cycle : ℕ) (heads : List KeyHead) (h : KeyHead) → head_of name (Some cycle) heads ≡ Some h → (h.name ≡ name) × (h.cycle ≡ cycle)
found_key name cycle [] h found = absurd cc
found_key name cycle (k ∷ ks) h found = by (is_at_cycle name cycle k) refl found (found_key name cycle ks h)
  where
    by : (b : Bool) → is_at_cycle name cycle k ≡ b → cond b (Some k) (find (is_at_cycle name cycle) ks) ≡ Some h
        → (find (is_at_cycle name cycle) ks ≡ Some h → (h.name ≡ name) × (h.cycle ≡ cycle)) → (h.name ≡ name) × (h.cycle ≡ cycle)
    by true is found ih =
        let same : k ≡ h = cc in
        subst (λ (x : KeyHead). (x.name ≡ name) × (x.cycle ≡ cycle)) same (at_is name cycle k is)
    by false is found ih = ih found

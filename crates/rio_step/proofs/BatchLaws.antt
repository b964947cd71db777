-- The puts of a batch, one after the other: next cycles, and what they leave as it was.
use Rattle.std.proofs.Common.{◌≡◌, ℕ, ◌+◌, max, List, [], ◌∷◌, ◌++◌, map, length, Bool, true, false, cond, refl, sym, ap, subst, ◌∙◌, arith}
use Rattle.std.proofs.{lemmas.Map.Views.{tells_apart}, lemmas.Slice.Eq.{bytes_eq-Decides}}
use Rattle.std.specs.{FinMap.{entries, entries-insert}, FinMap.Entries.{by_order, put}, List.{filter}, Ordering.{is_eq}, Str.{bytes_eq}}
use Rattle.std.specs.declared.cmp.Ordering.{Ordering, TheVariants.{Less, Equal, Greater}}
use Rattle.rio_format.specs.{Depth.{greatest}, declared.value.Value.{Value}}
use Rattle.rio_machine.proofs.OrderLaws.{items_tie, items_total}
use Rattle.rio_machine.specs.State.{NameAndCycle, State, item_order, last_cycle, next_cycle}
use Rattle.rio_machine.specs.declared.command.PutItem.{PutItem}
use Rattle.rio_step.specs.Laws.{CyclesCountUp, items_along}
use Rattle.rio_step.specs.{Refusing.{items_put, put_value, times_put}, Step.{with_object, with_objects}}

-- ---- greatest cycles

abbrev Entry : Type 0
Entry = NameAndCycle × Value

abbrev cycle_in : List ℕ → List Entry → ℕ
cycle_in name es = greatest (map (λ item. item.1) (filter (λ item. bytes_eq item.0 name) (map (λ e. e.0) es)))

abbrev raised : Bool → ℕ → ℕ → ℕ
raised b cycle n = cond b (max cycle n) n

first_cycle : (name : List ℕ) (e : Entry) (es : List Entry) (b : Bool) → bytes_eq e.0.0 name ≡ b → cycle_in name (e ∷ es) ≡ raised b e.0.1 (cycle_in name es)
first_cycle name e es true is = rw is refl
first_cycle name e es false is = rw is refl

swapped : (a b : Bool) (x y n : ℕ) → raised a x (raised b y n) ≡ raised b y (raised a x n)
swapped true true x y n = omega arith
swapped true false x y n = refl
swapped false true x y n = refl
swapped false false x y n = refl

twice : (b : Bool) (x n : ℕ) → raised b x n ≡ raised b x (raised b x n)
twice true x n = omega arith
twice false x n = refl

-- in place of an item of the same cycle
in_place : (name : List ℕ) (item : NameAndCycle) (v w : Value) (es : List Entry) → cycle_in name ((item, v) ∷ es) ≡ raised (bytes_eq item.0 name) item.1 (cycle_in name ((item, w) ∷ es))
in_place name item v w es =
    let b = bytes_eq item.0 name in
    first_cycle name (item, v) es b refl ∙ twice b item.1 (cycle_in name es) ∙ ap (raised b item.1) (sym (first_cycle name (item, w) es b refl))

-- an entry more
one_more : (name : List ℕ) (item : NameAndCycle) (v : Value) (es : List Entry) → cycle_in name (put item_order item v es) ≡ raised (bytes_eq item.0 name) item.1 (cycle_in name es)
one_more name item v [] = first_cycle name (item, v) [] (bytes_eq item.0 name) refl
one_more name item v (e ∷ es) = by (item_order item e.0) refl (one_more name item v es)
  where
    by : (o : Ordering) → item_order item e.0 ≡ o → cycle_in name (put item_order item v es) ≡ raised (bytes_eq item.0 name) item.1 (cycle_in name es)
        → cycle_in name (by_order o ((item, v) ∷ e ∷ es) ((e.0, v) ∷ es) (e ∷ put item_order item v es)) ≡ raised (bytes_eq item.0 name) item.1 (cycle_in name (e ∷ es))
    by Less is later = first_cycle name (item, v) (e ∷ es) (bytes_eq item.0 name) refl
    by Equal is later =
        let same : item ≡ e.0 = tells_apart items_tie item e.0 (ap is_eq is) in
        subst (λ (k : NameAndCycle). cycle_in name ((k, v) ∷ es) ≡ raised (bytes_eq item.0 name) item.1 (cycle_in name ((k, e.1) ∷ es))) same (in_place name item v e.1 es)
    by Greater is later =
        let own = bytes_eq e.0.0 name in
        let new = bytes_eq item.0 name in
        first_cycle name e (put item_order item v es) own refl
        ∙ ap (raised own e.0.1) later
        ∙ swapped own new e.0.1 item.1 (cycle_in name es)
        ∙ ap (raised new item.1) (sym (first_cycle name e es own refl))

-- ---- next cycles

-- behind a put its name has one cycle more
put_cycle : (m : State) (p : PutItem) (name : List ℕ) → next_cycle (with_object m p.name p.value) name ≡ next_cycle m name + times_put name (p ∷ [])
put_cycle m p name =
    let item : NameAndCycle = (p.name, next_cycle m p.name) in
    let v = put_value m p.value in
    let last : last_cycle (with_object m p.name p.value) name ≡ raised (bytes_eq p.name name) (next_cycle m p.name) (last_cycle m name) =
    ap (cycle_in name) (entries-insert items_total m.objects item v) ∙ one_more name item v (entries m.objects) in
    ap (λ n. n + 1) last ∙ by (bytes_eq p.name name) refl
  where
    by : (b : Bool) → bytes_eq p.name name ≡ b → raised b (next_cycle m p.name) (last_cycle m name) + 1 ≡ next_cycle m name + length (cond b (p ∷ []) [])
    by true is =
        let same : next_cycle m p.name ≡ next_cycle m name = ap (next_cycle m) ((bytes_eq-Decides p.name name).0 is) in
        omega (arith, same)
    by false is = omega arith

pub times_more : (name : List ℕ) (before : List PutItem) (p : PutItem) → times_put name (before ++ p ∷ []) ≡ times_put name before + times_put name (p ∷ [])
times_more name [] p = omega arith
times_more name (q ∷ qs) p = by (bytes_eq q.name name) (times_more name qs p)
  where
    by : (b : Bool) → times_put name (qs ++ p ∷ []) ≡ times_put name qs + times_put name (p ∷ [])
        → length (cond b (q ∷ filter (λ r. bytes_eq r.name name) (qs ++ p ∷ [])) (filter (λ r. bytes_eq r.name name) (qs ++ p ∷ [])))
        ≡ length (cond b (q ∷ filter (λ r. bytes_eq r.name name) qs) (filter (λ r. bytes_eq r.name name) qs)) + times_put name (p ∷ [])
    by true later = omega (arith, later)
    by false later = later

-- the state behind these puts counts their cycles
abbrev pub Counts : State → List PutItem → State → Type 0
Counts m before n = (name : List ℕ) → next_cycle n name ≡ next_cycle m name + times_put name before

pub counts_more : (m n : State) (before : List PutItem) (p : PutItem) → Counts m before n → Counts m (before ++ p ∷ []) (with_object n p.name p.value)
counts_more m n before p counts name =
    let own = put_cycle n p name in
    let there = counts name in
    let more = times_more name before p in
    omega (arith, own, there, more)

follow : (m n : State) (before puts : List PutItem) → Counts m before n → items_put m before puts ≡ items_along n puts
follow m n before [] counts = refl
follow m n before (p ∷ ps) counts =
    let first = sym (counts p.name) in
    let rest = follow m (with_object n p.name p.value) (before ++ p ∷ []) ps (counts_more m n before p counts) in
    λ i. (p.name, first i) ∷ rest i

pub cycles_count_up : CyclesCountUp
cycles_count_up m puts = follow m m [] puts (λ name. omega arith)

-- ---- what isn't changed

pub same_classes : (puts : List PutItem) (m : State) → (with_objects m puts).classes ≡ m.classes
same_classes [] m = refl
same_classes (p ∷ ps) m = same_classes ps (with_object m p.name p.value)

pub same_trees : (puts : List PutItem) (m : State) → (with_objects m puts).trees ≡ m.trees
same_trees [] m = refl
same_trees (p ∷ ps) m = same_trees ps (with_object m p.name p.value)

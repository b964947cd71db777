-- What a command leaves as it was.
use Rattle.std.proofs.Common.{◌≡◌, ◌≢◌, ℕ, ◌<◌, List, [], ◌∷◌, map, Bool, true, false, cond, Option, Some, None, refl, sym, ap, subst, ◌∙◌, arith}
use Rattle.std.proofs.{lemmas.Cmp.{nat_list_eq_equiv}, lemmas.Map.Views.{tells_apart}, lemmas.Bool.{false_from_ne_true}}
use Rattle.std.specs.{Cmp.{eq_by_cmp_equiv}, FinMap.{contains_key-keys, get, get-insert, insert, keys}, List.{filter, list_any}}
use Rattle.std.specs.{Ordering.{eq_by_cmp}, Str.{bytes_eq}}
use Rattle.rio_num.proofs.Cases.{none_from}
use Rattle.rio_format.specs.{Depth.{greatest}, declared.value.Value.{Value}}
use Rattle.rio_machine.proofs.OrderLaws.{items_tie, items_total}
use Rattle.rio_machine.specs.State.{NameAndCycle, State, item_order, next_cycle}
use Rattle.rio_machine.specs.declared.command.Command.{Command, TheVariants.{Bad, Class, Put, Batch, Delete, Tree as MakeTree, Fill, Save, Get, Scan, Ls}}
use Rattle.rio_machine.specs.declared.refusal.Refusal.{Refusal}
use Rattle.rio_step.specs.{Laws.{HasOneMore, PutsAddOne, RefusedChangesNothing}, Refusing.{FullMark, refusal_of, put_value}}
use Rattle.rio_step.specs.Step.{by_refusal, refused, reply_to, state_behind, step}

-- ---- refused commands

unrefused : (m : State) (c : Command) (refusal : Refusal) → reply_to m c ≡ refused refusal → state_behind m c ≡ m
unrefused m (Bad line place) refusal e = refl
unrefused m (Class class) refusal e = absurd cc
unrefused m (Put name v) refusal e = absurd cc
unrefused m (Batch puts) refusal e = absurd cc
unrefused m (Delete name cycle) refusal e = absurd cc
unrefused m (MakeTree name branches) refusal e = absurd cc
unrefused m (Fill name row) refusal e = absurd cc
unrefused m (Save name) refusal e = absurd cc
unrefused m (Get name cycle version) refusal e = refl
unrefused m (Scan name class) refusal e = refl
unrefused m Ls refusal e = refl

refused_or_not : (m : State) (c : Command) (r : Option Refusal) (refusal : Refusal) → (by_refusal m c r).reply ≡ refused refusal → (by_refusal m c r).state ≡ m
refused_or_not m c (Some s) refusal e = refl
refused_or_not m c None refusal e = unrefused m c refusal e

pub refused_changes_nothing : RefusedChangesNothing
unfolding step
refused_changes_nothing m c mark refusal e = refused_or_not m c (refusal_of m c mark) refusal e

-- ---- accepted commands

pub step_accepted : (m : State) (c : Command) (mark : Option FullMark) → refusal_of m c mark ≡ None → (step m c mark).state ≡ state_behind m c
unfolding step
step_accepted m c mark e = ap (λ r. (by_refusal m c r).state) e

-- ---- puts

-- an item of the name has a cycle that isn't above the greatest
named_apart : (name : List ℕ) (n : ℕ) (item : NameAndCycle) (rest : List ℕ) → greatest (cond (bytes_eq item.0 name) (item.1 ∷ rest) rest) < n → eq_by_cmp item_order (name, n) item ≡ true → ⊥
named_apart name n item rest below e =
    let same = tells_apart items_tie (name, n) item e in
    let named : bytes_eq item.0 name ≡ true = ap (λ x. bytes_eq x name) (sym (ap (λ x. x.0) same)) ∙ nat_list_eq_equiv.refl name in
    let cycle : n ≡ item.1 = ap (λ x. x.1) same in
    let within : greatest (item.1 ∷ rest) < n = subst (λ b. greatest (cond b (item.1 ∷ rest) rest) < n) named below in
    omega (arith, within, cycle)

rest_below : (name : List ℕ) (n : ℕ) (item : NameAndCycle) (rest : List ℕ) (b : Bool) → greatest (cond b (item.1 ∷ rest) rest) < n → greatest rest < n
rest_below name n item rest true below = omega (arith, below)
rest_below name n item rest false below = below

cycles_in : List ℕ → List NameAndCycle → List ℕ
cycles_in name items = map (λ item. item.1) (filter (λ item. bytes_eq item.0 name) items)

cycles_first : (name : List ℕ) (item : NameAndCycle) (items : List NameAndCycle) (b : Bool) → bytes_eq item.0 name ≡ b
    → cycles_in name (item ∷ items) ≡ cond (bytes_eq item.0 name) (item.1 ∷ cycles_in name items) (cycles_in name items)
unfolding cycles_in
cycles_first name item items true e = rw e refl
cycles_first name item items false e = rw e refl

none_above : (name : List ℕ) (n : ℕ) (items : List NameAndCycle) → greatest (cycles_in name items) < n → list_any (eq_by_cmp item_order (name, n)) items ≡ false
none_above name n [] below = refl
none_above name n (item ∷ items) below =
    let all = subst (λ xs. greatest xs < n) (cycles_first name item items (bytes_eq item.0 name) refl) below in
    let first = false_from_ne_true _ (named_apart name n item (cycles_in name items) all) in
    let others = none_above name n items (rest_below name n item (cycles_in name items) (bytes_eq item.0 name) all) in
    rw (first, others) refl

pub next_is_free : (m : State) (name : List ℕ) → get m.objects (name, next_cycle m name) ≡ None
unfolding cycles_in
next_is_free m name =
    none_from _ (contains_key-keys m.objects (name, next_cycle m name) ∙ none_above name (next_cycle m name) (keys m.objects) (omega arith))

put_there : (m : State) (item : NameAndCycle) (v : Value) → get (insert m.objects item v) item ≡ Some v
put_there m item v =
    get-insert items_total m.objects item v item ∙ ap (λ b. cond b (Some v) (get m.objects item)) ((eq_by_cmp_equiv items_total).refl item)

put_elsewhere : (m : State) (item : NameAndCycle) (v : Value) (other : NameAndCycle) → other ≢ item → get (insert m.objects item v) other ≡ get m.objects other
put_elsewhere m item v other apart =
    get-insert items_total m.objects item v other
    ∙ ap (λ b. cond b (Some v) (get m.objects other)) (false_from_ne_true _ (λ e. apart (tells_apart items_tie other item e)))

one_more : (m : State) (name : List ℕ) (v : Value) → HasOneMore m (state_behind m (Put name v)) name v
one_more m name v = record {
  classes = refl;
  trees = refl;
  free = next_is_free m name;
  object = put_there m (name, next_cycle m name) (put_value m v);
  others = put_elsewhere m (name, next_cycle m name) (put_value m v);
}

pub puts_add_one : PutsAddOne
puts_add_one m name v mark e = subst (λ (n : State). HasOneMore m n name v) (sym (step_accepted m (Put name v) mark e)) (one_more m name v)

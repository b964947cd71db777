-- A batch that isn't refused puts its objects one after the other, and none of these puts is refused.
use Rattle.std.proofs.Common.{◌≡◌, ◌≤◌, ℕ, ◌+◌, List, [], ◌∷◌, length, Bool, true, false, cond, not, ◌||◌, Option, None, refl, sym, ap, ◌∙◌, arith}
use Rattle.std.proofs.lemmas.Bool.{lt-leb, ltb-false, or_parts}
use Rattle.std.specs.{FinMap.{contains_key, len, len-insert}, List.{list_any}, Prelude.{nat_lt}}
use Rattle.rio_format.specs.declared.value.Value.{Value}
use Rattle.rio_machine.proofs.OrderLaws.{items_total}
use Rattle.rio_machine.specs.Limits.{batch_limit, cycle_limit, has_all_items, has_long_list, is_too_deep, is_too_long, item_limit, lacks_items}
use Rattle.rio_machine.specs.State.{State, item_count, names_tree, next_cycle}
use Rattle.rio_machine.specs.declared.command.{Command.TheVariants.{Put, Batch}, PutItem.{PutItem}}
use Rattle.rio_machine.specs.declared.refusal.Refusal.{Refusal, TheVariants.{BadName, NoSuchName, NoSuchCycle, NameIsTree, NotATree, NameInUse, NoSuchClass, SameVersion, HoldsItself, DoesNotFit, BadRow, NoVersion, CycleLimit, TooLarge, TooDeep, TooMany}}
use Rattle.rio_step.proofs.{ApartLaws.{none_at, not_refused}, BatchLaws.{cycles_count_up}, StepLaws.{step_accepted}}
use Rattle.rio_step.specs.Laws.{AreTaken, BatchesTakeAll, items_along}
use Rattle.rio_step.specs.Refusing.{FullMark, first_of, goes_too_deep, has_bad_name, has_too_many, is_at_last_cycle, is_fit, is_list_name, is_too_large, is_tree_name, is_unfit, lacks_class, object_length, put_value, refusal_of, refusals, refused_if, value_lacks_class}
use Rattle.rio_step.specs.Step.{with_object}

-- ---- a put

-- the tests of a put, by those that may hold
put_tests : Bool → Bool → Bool → Bool → Bool → Bool → Bool → Bool → List (Option Refusal)
put_tests named tree class unfit cycle large deep many =
    None
    ∷ refused_if named BadName
    ∷ refused_if false NoSuchName
    ∷ refused_if false NoSuchCycle
    ∷ refused_if tree NameIsTree
    ∷ refused_if false NotATree
    ∷ refused_if false NameInUse
    ∷ refused_if class NoSuchClass
    ∷ refused_if false SameVersion
    ∷ refused_if false HoldsItself
    ∷ refused_if unfit DoesNotFit
    ∷ refused_if false BadRow
    ∷ None
    ∷ refused_if false NoVersion
    ∷ refused_if cycle CycleLimit
    ∷ refused_if large TooLarge
    ∷ refused_if deep TooDeep
    ∷ refused_if many TooMany
    ∷ None
    ∷ []

none_holds : (named tree class unfit cycle large deep many : Bool) → named ≡ false → tree ≡ false → class ≡ false → unfit ≡ false → cycle ≡ false → large ≡ false → deep ≡ false → many ≡ false
    → first_of (put_tests named tree class unfit cycle large deep many) ≡ None
unfolding put_tests
none_holds named tree_name class unfit cycle large deep many a b c d e f g h = rw (a, b, c, d, e, f, g, h) refl

-- what the tests of a put, or of each put of a batch, would find
record Passes (n : State) (name : List ℕ) (v : Value) : Type 0 where
  named : is_list_name name ≡ false
  tree : names_tree n name ≡ false
  class : value_lacks_class n v ≡ false
  fit : not (is_fit n.classes (put_value n v)) ≡ false
  cycle : nat_lt cycle_limit (next_cycle n name) ≡ false
  short : is_too_long (object_length n.classes name (put_value n v)) ≡ false
  shallow : is_too_deep (put_value n v) ≡ false
  few : has_long_list (put_value n v) ≡ false
  room : has_all_items n ≡ false

put_taken : (n : State) (name : List ℕ) (v : Value) → Passes n name v → refusal_of n (Put name v) None ≡ None
unfolding refusal_of put_tests
put_taken n name v p =
    let many : (has_long_list (put_value n v) || has_all_items n) ≡ false = ap (λ b. b || has_all_items n) p.few ∙ p.room in
    none_holds (is_list_name name) (names_tree n name) (value_lacks_class n v) (not (is_fit n.classes (put_value n v))) (nat_lt cycle_limit (next_cycle n name))
    (is_too_long (object_length n.classes name (put_value n v))) (is_too_deep (put_value n v)) (has_long_list (put_value n v) || has_all_items n)
    p.named p.tree p.class p.fit p.cycle p.short p.shallow many

-- ---- puts one after the other

record AllPass (n : State) (puts : List PutItem) : Type 0 where
  named : list_any (λ p. is_list_name p.name) puts ≡ false
  tree : list_any (λ p. names_tree n p.name) puts ≡ false
  class : list_any (λ p. value_lacks_class n p.value) puts ≡ false
  fit : list_any (λ p. not (is_fit n.classes (put_value n p.value))) puts ≡ false
  cycle : list_any (λ item. nat_lt cycle_limit item.1) (items_along n puts) ≡ false
  short : list_any (λ p. is_too_long (object_length n.classes p.name (put_value n p.value))) puts ≡ false
  shallow : list_any (λ p. is_too_deep (put_value n p.value)) puts ≡ false
  few : list_any (λ p. has_long_list (put_value n p.value)) puts ≡ false
  room : item_count n + length puts ≤ item_limit

-- an item more at most
counted : (n : State) (p : PutItem) → item_count (with_object n p.name p.value) ≤ item_count n + 1
counted n p =
    let more = len-insert items_total n.objects (p.name, next_cycle n p.name) (put_value n p.value) in
    by (contains_key n.objects (p.name, next_cycle n p.name)) more
  where
    by : (b : Bool) → len (with_object n p.name p.value).objects ≡ cond b (len n.objects) (len n.objects + 1) → item_count (with_object n p.name p.value) ≤ item_count n + 1
    by true e = omega (arith, e)
    by false e = omega (arith, e)

first_passes : (n : State) (p : PutItem) (ps : List PutItem) → AllPass n (p ∷ ps) → Passes n p.name p.value
first_passes n p ps a =
    let room = a.room in
    record {
      named = (or_parts _ _ a.named).0;
      tree = (or_parts _ _ a.tree).0;
      class = (or_parts _ _ a.class).0;
      fit = (or_parts _ _ a.fit).0;
      cycle = (or_parts _ _ a.cycle).0;
      short = (or_parts _ _ a.short).0;
      shallow = (or_parts _ _ a.shallow).0;
      few = (or_parts _ _ a.few).0;
      room = lt-leb item_limit (item_count n) (omega (arith, room));
    }

others_pass : (n : State) (p : PutItem) (ps : List PutItem) → AllPass n (p ∷ ps) → AllPass (with_object n p.name p.value) ps
others_pass n p ps a =
    let room = a.room in
    let more = counted n p in
    record {
      named = (or_parts _ _ a.named).1;
      tree = (or_parts _ _ a.tree).1;
      class = (or_parts _ _ a.class).1;
      fit = (or_parts _ _ a.fit).1;
      cycle = (or_parts _ _ a.cycle).1;
      short = (or_parts _ _ a.short).1;
      shallow = (or_parts _ _ a.shallow).1;
      few = (or_parts _ _ a.few).1;
      room = omega (arith, room, more);
    }

all_taken : (puts : List PutItem) (n : State) → AllPass n puts → AreTaken n puts
all_taken [] n a = tt
all_taken (p ∷ ps) n a = (put_taken n p.name p.value (first_passes n p ps a), all_taken ps (with_object n p.name p.value) (others_pass n p ps a))

-- ---- batches

pub batch_taken : (m : State) (puts : List PutItem) (mark : Option FullMark) → refusal_of m (Batch puts) mark ≡ None → AreTaken m puts
unfolding refusal_of
batch_taken m puts mark e =
    let c = Batch puts in
    let tests = refusals m c mark in
    let cycles = not_refused (is_at_last_cycle m c) CycleLimit (none_at tests 14 e) in
    let many = or_parts (nat_lt batch_limit (length puts) || lacks_items m (length puts)) (list_any (λ p. has_long_list (put_value m p.value)) puts) (not_refused (has_too_many m c) TooMany (none_at tests 17 e)) in
    let lacks = or_parts (nat_lt batch_limit (length puts)) (lacks_items m (length puts)) many.0 in
    all_taken puts m (record {
      named = not_refused (has_bad_name c) BadName (none_at tests 1 e);
      tree = not_refused (is_tree_name m c) NameIsTree (none_at tests 4 e);
      class = not_refused (lacks_class m c) NoSuchClass (none_at tests 7 e);
      fit = not_refused (is_unfit m c) DoesNotFit (none_at tests 10 e);
      cycle = ap (list_any (λ item. nat_lt cycle_limit item.1)) (sym (cycles_count_up m puts)) ∙ cycles;
      short = not_refused (is_too_large m c) TooLarge (none_at tests 15 e);
      shallow = not_refused (goes_too_deep m c) TooDeep (none_at tests 16 e);
      few = many.1;
      room = ltb-false item_limit (item_count m + length puts) lacks.1;
    })

pub batches_take_all : BatchesTakeAll
batches_take_all m puts mark e = record { state = step_accepted m (Batch puts) mark e; taken = batch_taken m puts mark e }

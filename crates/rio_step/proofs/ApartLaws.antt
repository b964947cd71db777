-- No command makes a name that of an object and of a tree.
use Rattle.std.proofs.Common.{◌≡◌, ℕ, zero, suc, List, [], ◌∷◌, Bool, true, false, cond, ◌||◌, Option, Some, None, refl, sym, ap, ◌∙◌}
use Rattle.std.proofs.{lemmas.Cmp.{nat_list_eq_equiv}, lemmas.Map.Views.{tells_apart}, lemmas.Bool.{false_from_ne_true, or_parts, or_right}}
use Rattle.std.specs.Cmp.{eq_by_cmp_equiv, Lexicographic.{same_text}}
use Rattle.std.specs.{FinMap.{contains_key, contains_key-keys, get, get-insert, get-remove, insert, keys, remove}, List.{list_any, slice_index_or}}
use Rattle.std.specs.{Option.{is_some, option_map_or}, Ordering.{eq_by_cmp}, Str.{bytes_eq}}
use Rattle.rio_num.specs.Word.{name_order}
use Rattle.rio_format.specs.declared.value.Value.{Value}
use Rattle.rio_machine.proofs.OrderLaws.{items_tie, items_total, names_tie, names_total}
use Rattle.rio_machine.specs.State.{NameAndCycle, State, Tree, item_order, names_object, names_tree, next_cycle}
use Rattle.rio_machine.specs.declared.command.Command.{Command, TheVariants.{Bad, Class, Put, Batch, Delete, Tree as MakeTree, Fill, Save, Get, Scan, Ls}}
use Rattle.rio_machine.specs.declared.command.PutItem.{PutItem}
use Rattle.rio_machine.specs.declared.refusal.Refusal.{Refusal, TheVariants.{NameIsTree, NameInUse}}
use Rattle.rio_step.specs.Laws.{AreNamesApart, NamesStayApart}
use Rattle.rio_step.specs.Refusing.{FullMark, first_of, refusals, is_tree_name, is_name_in_use, refusal_of, refused_if, fill_row, put_value}
use Rattle.rio_step.specs.Step.{by_refusal, new_tree, state_behind, step, tree_filled, tree_saved, with_object, with_objects, with_tree, without_item}

-- ---- a name has an object exactly where one cycle does

-- the cycle of the first item, or one of the others
ThereIs : List ℕ → List NameAndCycle → Type 0
ThereIs name items = (cycle : ℕ) × (list_any (eq_by_cmp item_order (name, cycle)) items ≡ true)

there_first : (name : List ℕ) (item : NameAndCycle) (items : List NameAndCycle) (b : Bool) → bytes_eq item.0 name ≡ b
    → (list_any (λ item. bytes_eq item.0 name) items ≡ true → ThereIs name items)
    → (b || list_any (λ item. bytes_eq item.0 name) items) ≡ true → ThereIs name (item ∷ items)
unfolding ThereIs
there_first name item items true is later f =
    let n = same_text item.0 name (sym is) in
    let same : ◌≡◌ {A = NameAndCycle} (name, item.1) item = λ i. (sym n i, item.1) in
    (item.1, ap (λ b. b || list_any (eq_by_cmp item_order (name, item.1)) items) (ap (eq_by_cmp item_order (name, item.1)) (sym same) ∙ (eq_by_cmp_equiv items_total).refl (name, item.1)))
there_first name item items false is later f =
    let rest = later f in
    (rest.0, or_right (eq_by_cmp item_order (name, rest.0) item) _ rest.1)

key_named : (name : List ℕ) (items : List NameAndCycle) → list_any (λ item. bytes_eq item.0 name) items ≡ true → ThereIs name items
unfolding ThereIs
key_named name [] e = absurd cc
key_named name (item ∷ items) e = there_first name item items (bytes_eq item.0 name) refl (key_named name items) e

named_first : (name : List ℕ) (cycle : ℕ) (item : NameAndCycle) (items : List NameAndCycle) (b : Bool) → eq_by_cmp item_order (name, cycle) item ≡ b
    → (list_any (eq_by_cmp item_order (name, cycle)) items ≡ true → list_any (λ item. bytes_eq item.0 name) items ≡ true)
    → (b || list_any (eq_by_cmp item_order (name, cycle)) items) ≡ true → list_any (λ item. bytes_eq item.0 name) (item ∷ items) ≡ true
named_first name cycle item items true is later f =
    let same = tells_apart items_tie (name, cycle) item is in
    ap (λ b. b || list_any (λ item. bytes_eq item.0 name) items) (ap (λ x. bytes_eq x name) (sym (ap (λ x. x.0) same)) ∙ nat_list_eq_equiv.refl name)
named_first name cycle item items false is later f = or_right (bytes_eq item.0 name) _ (later f)

named_key : (name : List ℕ) (cycle : ℕ) (items : List NameAndCycle) → list_any (eq_by_cmp item_order (name, cycle)) items ≡ true → list_any (λ item. bytes_eq item.0 name) items ≡ true
named_key name cycle [] e = absurd cc
named_key name cycle (item ∷ items) e = named_first name cycle item items (eq_by_cmp item_order (name, cycle) item) refl (named_key name cycle items) e

object_cycle : (name : List ℕ) (m : State) → names_object m name ≡ true → (cycle : ℕ) × (contains_key m.objects (name, cycle) ≡ true)
unfolding ThereIs
object_cycle name m e =
    let key = key_named name (keys m.objects) e in
    (key.0, contains_key-keys m.objects (name, key.0) ∙ key.1)

pub cycle_object : (name : List ℕ) (m : State) (cycle : ℕ) → contains_key m.objects (name, cycle) ≡ true → names_object m name ≡ true
cycle_object name m cycle e = named_key name cycle (keys m.objects) (sym (contains_key-keys m.objects (name, cycle)) ∙ e)

-- ---- what changes

-- an object more, of a name that is no tree's
put_apart : (m : State) (name : List ℕ) (cycle : ℕ) (v : Value) → names_tree m name ≡ false → AreNamesApart m → AreNamesApart (record m { objects = insert m.objects (name, cycle) v })
put_apart m name cycle v none apart q e = by (eq_by_cmp item_order (q, own.0) (name, cycle)) refl (sym (ap is_some (get-insert items_total m.objects (name, cycle) v (q, own.0))) ∙ own.1)
  where
    own : (c : ℕ) × (contains_key (insert m.objects (name, cycle) v) (q, c) ≡ true)
    own = object_cycle q (record m { objects = insert m.objects (name, cycle) v }) e

    by : (b : Bool) → eq_by_cmp item_order (q, own.0) (name, cycle) ≡ b → is_some (cond b (Some v) (get m.objects (q, own.0))) ≡ true → names_tree m q ≡ false
    by true is f = let same = ap (λ x. x.0) (tells_apart items_tie (q, own.0) (name, cycle) is) in ap (names_tree m) same ∙ none
    by false is f = apart q (cycle_object q m own.0 f)

-- an object less
delete_apart : (m : State) (item : NameAndCycle) → AreNamesApart m → AreNamesApart (record m { objects = remove m.objects item })
delete_apart m item apart q e = by (eq_by_cmp item_order (q, own.0) item) (sym (ap is_some (get-remove items_total m.objects item (q, own.0))) ∙ own.1)
  where
    own : (c : ℕ) × (contains_key (remove m.objects item) (q, c) ≡ true)
    own = object_cycle q (record m { objects = remove m.objects item }) e

    by : (b : Bool) → is_some (cond b None (get m.objects (q, own.0))) ≡ true → names_tree m q ≡ false
    by true f = absurd cc
    by false f = apart q (cycle_object q m own.0 f)

-- a tree more or another one, of a name that is no object's
tree_apart : (m : State) (name : List ℕ) (t : Tree) → names_object m name ≡ false → AreNamesApart m → AreNamesApart (record m { trees = insert m.trees name t })
tree_apart m name t none apart q e = ap is_some (get-insert names_total m.trees name t q) ∙ by (eq_by_cmp name_order q name) refl
  where
    by : (b : Bool) → eq_by_cmp name_order q name ≡ b → is_some (cond b (Some t) (get m.trees q)) ≡ false
    by true is = absurd (let same = tells_apart names_tie q name is in let h = sym none ∙ ap (names_object m) (sym same) ∙ e in cc)
    by false is = apart q e

-- a tree less
tree_deleted_apart : (m : State) (name : List ℕ) → AreNamesApart m → AreNamesApart (record m { trees = remove m.trees name })
tree_deleted_apart m name apart q e = ap is_some (get-remove names_total m.trees name q) ∙ by (eq_by_cmp name_order q name)
  where
    by : (b : Bool) → is_some (cond b None (get m.trees q)) ≡ false
    by true = refl
    by false = apart q e

changed_apart : (m : State) (name : List ℕ) (change : Tree → Tree) → AreNamesApart m → AreNamesApart (with_tree m name change)
changed_apart m name change apart = by (get m.trees name) refl
  where
    by : (t : Option Tree) → get m.trees name ≡ t → AreNamesApart (option_map_or (λ t. record m { trees = insert m.trees name (change t) }) t m)
    by None e = apart
    by (Some t) e = tree_apart m name (change t) (false_from_ne_true _ (λ o. let h = sym (ap is_some e) ∙ apart name o in absurd cc)) apart

item_deleted_apart : (m : State) (name : List ℕ) (cycle : ℕ) → AreNamesApart m → AreNamesApart (without_item m name cycle)
item_deleted_apart m name cycle apart = by (names_tree m name)
  where
    by : (b : Bool) → AreNamesApart (cond b (record m { trees = remove m.trees name }) (record m { objects = remove m.objects (name, cycle) }))
    by true = tree_deleted_apart m name apart
    by false = delete_apart m (name, cycle) apart

-- ---- tests that didn't hold

pub none_at : (xs : List (Option Refusal)) (k : ℕ) → first_of xs ≡ None → slice_index_or xs k None ≡ None
none_at [] k e = refl
none_at (None ∷ xs) zero e = refl
none_at (None ∷ xs) (suc k) e = none_at xs k e
none_at (Some x ∷ xs) k e = absurd cc

pub not_refused : (b : Bool) (r : Refusal) → refused_if b r ≡ None → b ≡ false
not_refused true r e = absurd cc
not_refused false r e = refl

no_tree_name : (m : State) (c : Command) (mark : Option FullMark) → refusal_of m c mark ≡ None → is_tree_name m c ≡ false
unfolding refusal_of
no_tree_name m c mark e = not_refused (is_tree_name m c) NameIsTree (none_at (refusals m c mark) 4 e)

pub no_name_in_use : (m : State) (c : Command) (mark : Option FullMark) → refusal_of m c mark ≡ None → is_name_in_use m c ≡ false
unfolding refusal_of
no_name_in_use m c mark e = not_refused (is_name_in_use m c) NameInUse (none_at (refusals m c mark) 6 e)

-- objects more, of names that are no trees'
batch_apart : (puts : List PutItem) (m : State) → list_any (λ p. names_tree m p.name) puts ≡ false → AreNamesApart m → AreNamesApart (with_objects m puts)
batch_apart [] m none apart = apart
batch_apart (p ∷ ps) m none apart =
    let parts = or_parts (names_tree m p.name) (list_any (λ q. names_tree m q.name) ps) none in
    batch_apart ps (with_object m p.name p.value) parts.1 (put_apart m p.name (next_cycle m p.name) (put_value m p.value) parts.0 apart)

accepted_apart : (m : State) (c : Command) (mark : Option FullMark) → refusal_of m c mark ≡ None → AreNamesApart m → AreNamesApart (state_behind m c)
accepted_apart m (Bad line place) mark e apart = apart
accepted_apart m (Class class) mark e apart = apart
accepted_apart m (Put name v) mark e apart = put_apart m name (next_cycle m name) (put_value m v) (no_tree_name m (Put name v) mark e) apart
accepted_apart m (Batch puts) mark e apart = batch_apart puts m (no_tree_name m (Batch puts) mark e) apart
accepted_apart m (Delete name cycle) mark e apart = item_deleted_apart m name cycle apart
accepted_apart m (MakeTree name branches) mark e apart = tree_apart m name (new_tree branches) ((or_parts _ _ (no_name_in_use m (MakeTree name branches) mark e)).0) apart
accepted_apart m (Fill name row) mark e apart = changed_apart m name (tree_filled (fill_row m row)) apart
accepted_apart m (Save name) mark e apart = changed_apart m name tree_saved apart
accepted_apart m (Get name cycle version) mark e apart = apart
accepted_apart m (Scan name class) mark e apart = apart
accepted_apart m Ls mark e apart = apart

pub names_stay_apart : NamesStayApart
unfolding step
names_stay_apart m c mark apart = by (refusal_of m c mark) refl
  where
    by : (r : Option Refusal) → refusal_of m c mark ≡ r → AreNamesApart (by_refusal m c r).state
    by None e = accepted_apart m c mark e apart
    by (Some refusal) e = apart

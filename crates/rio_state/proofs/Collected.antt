-- A map of what records hold, by their keys.
use Rattle.std.proofs.Common.{◌≡◌, ◌∙◌, ℕ, List, [], ◌∷◌, Bool, true, false, cond, ◌==◌, Option, Some, None, refl, sym, ap}
use Rattle.std.proofs.{lemmas.Bool.{and_from, and_parts, eq-eqb, eqb-true}, lemmas.Map.Views.{tells_apart}, lemmas.Slice.Eq.{bytes_eq-Decides}}
use Rattle.std.specs.{Cmp.{IsTotalOrder, eq_by_cmp_equiv}, FinMap.{from_entries, get, get-empty, get-insert}, List.{find, list_all}}
use Rattle.std.specs.{Option.{is_some, option_and_then}, Ordering.{eq_by_cmp}, Str.{bytes_eq}, declared.cmp.Ordering.{Ordering}}
use Rattle.rio_num.specs.Word.{name_order}
use Rattle.rio_num.proofs.Cases.{both_or_none}
use Rattle.rio_machine.proofs.OrderLaws.{items_tie, items_total, names_tie, names_total}
use Rattle.rio_machine.specs.State.{NameAndCycle, item_order}
use Rattle.rio_state.specs.KeyedRecords.{KeyedRecord, has_item, item_of_key}

-- ---- keys

pub name_same : (name : List ℕ) (r : KeyedRecord) → eq_by_cmp name_order name r.head.name ≡ bytes_eq r.head.name name
name_same name r =
    let decides = bytes_eq-Decides r.head.name name in
    both_or_none (eq_by_cmp name_order name r.head.name) (bytes_eq r.head.name name)
    (λ e. decides.1 (sym (tells_apart names_tie name r.head.name e)))
    (λ e. ap (eq_by_cmp name_order name) (decides.0 e) ∙ (eq_by_cmp_equiv names_total).refl name)

pub own_item : (r : KeyedRecord) → has_item (item_of_key r.head) r ≡ true
own_item r = and_from _ _ ((bytes_eq-Decides r.head.name r.head.name).1 refl) (eq-eqb r.head.cycle r.head.cycle refl)

item_is : (item : NameAndCycle) (r : KeyedRecord) → has_item item r ≡ true → item_of_key r.head ≡ item
item_is item r e =
    let x = and_parts (bytes_eq r.head.name item.0) (r.head.cycle == item.1) e in
    let name : r.head.name ≡ item.0 = (bytes_eq-Decides r.head.name item.0).0 x.0 in
    let cycle : r.head.cycle ≡ item.1 = eqb-true r.head.cycle item.1 x.1 in
    λ i. (name i, cycle i)

pub item_same : (item : NameAndCycle) (r : KeyedRecord) → eq_by_cmp item_order item (item_of_key r.head) ≡ has_item item r
item_same item r =
    both_or_none (eq_by_cmp item_order item (item_of_key r.head)) (has_item item r)
    (λ e. ap (λ (x : NameAndCycle). has_item x r) (tells_apart items_tie item (item_of_key r.head) e) ∙ own_item r)
    (λ e. ap (eq_by_cmp item_order item) (item_is item r e) ∙ (eq_by_cmp_equiv items_total).refl item)

-- ---- maps

module _ {K X : Type 0} {R : K → K → Ordering} (o : IsTotalOrder R) (key : KeyedRecord → K) (has : K → KeyedRecord → Bool)
    (same : (k : K) (r : KeyedRecord) → eq_by_cmp R k (key r) ≡ has k r) (read : KeyedRecord → Option X) where
  abbrev pub with_pair : K → Option X → List (K × X) → List (K × X)
  with_pair k None es = es
  with_pair k (Some v) es = (k, v) ∷ es

  abbrev pub pairs : List KeyedRecord → List (K × X)
  pairs [] = []
  pairs (r ∷ rs) = with_pair (key r) (read r) (pairs rs)

  chosen : (r : KeyedRecord) (v : X) (held : Option X) (found : Option KeyedRecord) (b : Bool) → read r ≡ Some v → held ≡ option_and_then read found
      → cond b (Some v) held ≡ option_and_then read (cond b (Some r) found)
  chosen r v held found true is rest = sym is
  chosen r v held found false is rest = rest

  held_by : (r : KeyedRecord) (rs : List KeyedRecord) (k : K) (v : Option X) → read r ≡ v → is_some v ≡ true
      → get (from_entries {R = R} (pairs rs)) k ≡ option_and_then read (find (has k) rs)
      → get (from_entries {R = R} (with_pair (key r) v (pairs rs))) k ≡ option_and_then read (find (has k) (r ∷ rs))
  held_by r rs k None is some rest = absurd cc
  held_by r rs k (Some v) is some rest =
      let held = get (from_entries {R = R} (pairs rs)) k in
      get-insert o (from_entries {R = R} (pairs rs)) (key r) v k
      ∙ ap (λ (b : Bool). cond b (Some v) held) (same k r)
      ∙ chosen r v held (find (has k) rs) (has k r) is rest

  -- at each key the map has what the first record of the key holds
  pub held : (rs : List KeyedRecord) → list_all (λ r. is_some (read r)) rs ≡ true → (k : K)
      → get (from_entries {R = R} (pairs rs)) k ≡ option_and_then read (find (has k) rs)
  held [] all k = get-empty R k
  held (r ∷ rs) all k =
      let x = and_parts (is_some (read r)) (list_all (λ s. is_some (read s)) rs) all in
      held_by r rs k (read r) refl x.0 (held rs x.1 k)

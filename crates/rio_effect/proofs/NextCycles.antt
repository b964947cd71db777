-- The keys beside a file tell the next cycle of a name.
use Rattle.std.proofs.Common.{◌≡◌, ◌⊎◌, inl, inr, ℕ, ◌+◌, ◌≤◌, ◌∙◌, max, List, [], ◌∷◌, Bool, true, false, cond, Some, refl, sym, ap, subst, arith}
use Rattle.std.proofs.{lemmas.Bool.{and_from, and_parts}, lemmas.Map.Views.{tells_apart}, lemmas.Slice.Eq.{bytes_eq-Decides}}
use Rattle.std.specs.{Prelude.{is_some}, Cmp.{eq_by_cmp_equiv}, FinMap.{contains_key-keys, get, keys}, List.{filter, list_any}, Ordering.{eq_by_cmp}}
use Rattle.std.specs.Str.{bytes_eq}
use Rattle.rio_num.proofs.Cases.{some_of}
use Rattle.rio_format.specs.{Depth.{greatest}, declared.value.Value.{Value}}
use Rattle.rio_key.specs.declared.head.KeyHead.{KeyHead}
use Rattle.rio_dir.proofs.TableOrder.{at_is}
use Rattle.rio_dir.specs.Table.{greatest_cycle, is_at_cycle, is_of_name}
use Rattle.rio_machine.proofs.OrderLaws.{items_tie, items_total}
use Rattle.rio_machine.specs.State.{NameAndCycle, State, cycles_of, item_order, last_cycle, names_tree, next_cycle}
use Rattle.rio_state.specs.{DirectoryKeys.{AreKeysOf}, KeyedRecords.{KeyedRecord, info_key, is_tree_key, is_tree_record, top_keys, tree_records}}
use Rattle.rio_state.specs.Reads.{AreRecordsOf}
use Rattle.rio_effect.specs.Laws.{IsNextCycle, KeysTellNextCycle}
use Rattle.rio_effect.proofs.FreeItems.{is_tree_named, no_tree_named}
use Rattle.rio_state.proofs.{Insertion.{find_none}, KeyRecords.{ObjectOf, TreeOf, holder, item_is, key_record, object_of, record_key}}
use Rattle.rio_state.proofs.Members.{In, any_from, filter_in, in_filter, in_map, map_in, none_at, none_from, passing}

-- ---- greatest cycles

heads_low : (name : List ℕ) (n : ℕ) (heads : List KeyHead) → ((h : KeyHead) → In h heads → is_of_name name h ≡ true → h.cycle ≤ n) → greatest_cycle name heads ≤ n
heads_low name n [] low = omega arith
heads_low name n (h ∷ hs) low = by (is_of_name name h) refl (heads_low name n hs (λ k i e. low k (inr i) e))
  where
    by : (b : Bool) → is_of_name name h ≡ b → greatest_cycle name hs ≤ n → cond b (max h.cycle (greatest_cycle name hs)) (greatest_cycle name hs) ≤ n
    by true is rest = let own = low h (inl refl) is in omega (arith, own, rest)
    by false is rest = rest

heads_high : (name : List ℕ) (heads : List KeyHead) (h : KeyHead) → In h heads → is_of_name name h ≡ true → h.cycle ≤ greatest_cycle name heads
heads_high name [] h i e = absurd i
heads_high name (k ∷ ks) h (inl same) e =
    let is : is_of_name name k ≡ true = ap (is_of_name name) same ∙ e in
    let cycle : k.cycle ≡ h.cycle = ap (λ (x : KeyHead). x.cycle) same in
    subst (λ (b : Bool). h.cycle ≤ cond b (max k.cycle (greatest_cycle name ks)) (greatest_cycle name ks)) (sym is) (omega (arith, cycle))
heads_high name (k ∷ ks) h (inr i) e = by (is_of_name name k) (heads_high name ks h i e)
  where
    by : (b : Bool) → h.cycle ≤ greatest_cycle name ks → h.cycle ≤ cond b (max k.cycle (greatest_cycle name ks)) (greatest_cycle name ks)
    by true le = omega (arith, le)
    by false le = le

greatest_low : (n : ℕ) (xs : List ℕ) → ((x : ℕ) → In x xs → x ≤ n) → greatest xs ≤ n
greatest_low n [] low = omega arith
greatest_low n (x ∷ xs) low = let own = low x (inl refl) in let rest = greatest_low n xs (λ y i. low y (inr i)) in omega (arith, own, rest)

greatest_high : (xs : List ℕ) (x : ℕ) → In x xs → x ≤ greatest xs
greatest_high [] x i = absurd i
greatest_high (y ∷ ys) x (inl same) = omega (arith, same)
greatest_high (y ∷ ys) x (inr i) = let rest = greatest_high ys x i in omega (arith, rest)

-- ---- items of a state

module _ (m : State) (item : NameAndCycle) where
  key_held : In item (keys m.objects) → (v : Value) × (get m.objects item ≡ Some v)
  key_held i =
      some_of (get m.objects item) (contains_key-keys m.objects item ∙ any_from (eq_by_cmp item_order item) item (keys m.objects) i ((eq_by_cmp_equiv items_total).refl item))

  held_key : (v : Value) → get m.objects item ≡ Some v → In item (keys m.objects)
  held_key v e =
      let there : list_any (eq_by_cmp item_order item) (keys m.objects) ≡ true = sym (contains_key-keys m.objects item) ∙ ap is_some e in
      let p = passing (eq_by_cmp item_order item) (keys m.objects) there in
      subst (λ (k : NameAndCycle). In k (keys m.objects)) (sym (tells_apart items_tie item p.x p.passes)) p.among

own_name : (a b : List ℕ) → a ≡ b → bytes_eq a b ≡ true
own_name a b e = (bytes_eq-Decides a b).1 e

module _ (records : List KeyedRecord) (heads : List KeyHead) (m : State) (name : List ℕ) (are : AreKeysOf records heads) (is : AreRecordsOf records m) (apart : names_tree m name ≡ false) where
  no_tree : (r : KeyedRecord) → In r (tree_records (top_keys records)) → r.head.name ≡ name → ⊥
  no_tree r i same =
      let tree = filter_in (is_tree_record (top_keys records)) r (top_keys records) i in
      let none = no_tree_named records (info_key records) (top_keys records) m is.stand name apart in
      none_at (is_tree_named name) r (top_keys records) none tree.0 (and_from _ _ (own_name r.head.name name same) (and_parts (is_tree_key r.head) _ tree.1).0)

  -- a key of the name has a cycle of the name's objects
  key_cycle : (h : KeyHead) → In h heads → h.name ≡ name → In h.cycle (cycles_of m name)
  key_cycle h i same = by (key_record records m is heads are h i)
    where
      by : ObjectOf records m is h ⊎ TreeOf records m is h → In h.cycle (cycles_of m name)
      by (inl o) =
          let x = object_of records m is o.r o.among in
          let item = held_key m (o.r.head.name, o.r.head.cycle) x.v x.object in
          let named = own_name o.r.head.name name (ap (λ (k : KeyHead). k.name) o.head_is ∙ same) in
          let cycle = in_map (λ (k : NameAndCycle). k.1) (o.r.head.name, o.r.head.cycle) _ (in_filter (λ (k : NameAndCycle). bytes_eq k.0 name) (o.r.head.name, o.r.head.cycle) (keys m.objects) item named) in
          subst (λ (k : KeyHead). In k.cycle (cycles_of m name)) o.head_is cycle
      by (inr t) = absurd (no_tree t.r t.among (ap (λ (k : KeyHead). k.name) t.head_is ∙ same))

  -- and each of those is that of a key
  cycle_key : (cycle : ℕ) → In cycle (cycles_of m name) → cycle ≤ greatest_cycle name heads
  cycle_key cycle i =
      let from = map_in (λ (k : NameAndCycle). k.1) cycle (filter (λ (k : NameAndCycle). bytes_eq k.0 name) (keys m.objects)) i in
      let kept = filter_in (λ (k : NameAndCycle). bytes_eq k.0 name) from.0 (keys m.objects) from.1 in
      let held = key_held m from.0 kept.0 in
      let x = holder records m is from.0 held.0 held.1 in
      let own = item_is from.0 x.r x.has in
      let high = heads_high name heads x.r.head (record_key records m is heads are x.r x.among) (own_name x.r.head.name name (own.0 ∙ (bytes_eq-Decides from.0.0 name).0 kept.1)) in
      let same : x.r.head.cycle ≡ cycle = own.1 ∙ from.2 in
      omega (arith, high, same)

  told : next_cycle m name ≡ greatest_cycle name heads + 1
  told =
      let low = greatest_low (greatest_cycle name heads) (cycles_of m name) cycle_key in
      let high = heads_low name (last_cycle m name) heads (λ h i e. greatest_high (cycles_of m name) h.cycle (key_cycle h i ((bytes_eq-Decides h.name name).0 e))) in
      omega (arith, low, high)

  not_there : (h : KeyHead) → In h heads → is_at_cycle name (next_cycle m name) h ≡ true → ⊥
  not_there h i e =
      let same = at_is name (next_cycle m name) h e in
      let high = heads_high name heads h i (own_name h.name name same.0) in
      let is_next = told in
      omega (arith, high, same.1, is_next)

  pub is_next_cycle : IsNextCycle heads name (next_cycle m name)
  is_next_cycle = record { told = told; new = find_none (is_at_cycle name (next_cycle m name)) heads (none_from (is_at_cycle name (next_cycle m name)) heads not_there) }

pub keys_tell_next_cycle : KeysTellNextCycle
keys_tell_next_cycle records heads m name are is apart = is_next_cycle records heads m name are is apart

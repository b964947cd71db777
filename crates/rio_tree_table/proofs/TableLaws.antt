-- What a search among ordered trees finds, and what they are once one is put in or taken out.
use Rattle.std.proofs.Common.{◌≡◌, inl, inr, ℕ, zero, suc, ◌+◌, ◌<◌, ◌≤◌, Bool, true, false, cond, List, [], ◌∷◌, length, get_or, Option, Some, None, Result, Ok, Err, IsOk, is_ok, rules, refl, ap, subst, sym, ◌∙◌, arith}
use Rattle.std.proofs.{Math.Numerals.{one-add}, lemmas.Bool.{cases_lt}, lemmas.Option.{get_or_from_slice_get}, lemmas.Cmp.{nat_list_cmp_total}, lemmas.Slice.Eq.{bytes_eq-Decides}}
use Rattle.std.proofs.lemmas.{List.Sums.{prefix_len-le-length, prefix_len_passes, prefix_len_stops}, Map.Text.{is_eq-slice_cmp}}
use Rattle.std.specs.{List.{find, insert, prefix_len, remove, slice_get, slice_set, Sorted.{IsPartitionedBy, IsPartitionPoint}}, Option.{option_map_or}, Set.{remove_key}}
use Rattle.std.specs.{Ordering.{is_eq, is_lt, ordering_reverse}, Str.{bytes_eq}}
use Rattle.std.specs.declared.cmp.Ordering.{Ordering, TheVariants.{Less, Equal, Greater}}
use Rattle.rio_num.specs.Word.{name_order}
use Rattle.rio_tree_table.specs.Table.{AreBehind, AreOrdered, if_matching, is_before, is_of_name, renumbered, with_rows, with_tree}
use Rattle.rio_tree_table.specs.declared.table.KeptTree.{KeptTree}

some_tree : KeptTree
some_tree = record { name = []; branches = []; saved = 0; pending = 0 }

-- ---- names

is_less : (r : Ordering) → is_lt r ≡ true → r ≡ Less
is_less Less e = refl
is_less Equal e = absurd cc
is_less Greater e = absurd cc

pub before_trans : (a b c : List ℕ) → is_lt (name_order a b) ≡ true → is_lt (name_order b c) ≡ true → is_lt (name_order a c) ≡ true
before_trans a b c e f = ap is_lt (nat_list_cmp_total.trans a b c (is_less _ e) (is_less _ f))

other_names : (a b : List ℕ) (r : Ordering) → name_order a b ≡ r → is_eq r ≡ false → bytes_eq a b ≡ false
other_names a b r is differ = sym (is_eq-slice_cmp a b) ∙ ap is_eq is ∙ differ

-- a tree before a name hasn't it, and none behind it has
pub before_not_of : (name : List ℕ) (t : KeptTree) → is_before name t ≡ true → is_of_name name t ≡ false
before_not_of name t e = other_names t.name name Less (is_less _ e) refl

pub behind_not_of : (name : List ℕ) (t : KeptTree) → is_lt (name_order name t.name) ≡ true → is_of_name name t ≡ false
behind_not_of name t e = other_names t.name name Greater (nat_list_cmp_total.antisymm t.name name ∙ ap ordering_reverse (is_less _ e)) refl

-- one of the three holds
pub else_behind : (name : List ℕ) (t : KeptTree) → is_before name t ≡ false → is_of_name name t ≡ false → is_lt (name_order name t.name) ≡ true
else_behind name t e f = by (name_order t.name name) refl e
  where
    by : (r : Ordering) → name_order t.name name ≡ r → is_lt r ≡ false → is_lt (name_order name t.name) ≡ true
    by Less is e = absurd cc
    by Equal is e = let named : bytes_eq t.name name ≡ true = sym (is_eq-slice_cmp t.name name) ∙ ap is_eq is in absurd cc
    by Greater is e = ap is_lt (nat_list_cmp_total.antisymm name t.name ∙ ap ordering_reverse is)

-- ---- trees in order

behind_at : (name : List ℕ) (trees : List KeptTree) → AreBehind name trees → (k : ℕ) (d : KeptTree) → k < length trees → is_lt (name_order name (get_or trees k d).name) ≡ true
behind_at name [] are k d lt = absurd (omega (arith, lt))
behind_at name (t ∷ ts) are zero d lt = are.0
behind_at name (t ∷ ts) are (suc k) d lt = behind_at name ts are.1 k d (omega (arith, lt))

behind_too : (name : List ℕ) (t : KeptTree) (ts : List KeptTree) → is_lt (name_order name t.name) ≡ true → AreBehind t.name ts → AreBehind name ts
behind_too name t [] e are = tt
behind_too name t (u ∷ us) e are = (before_trans name t.name u.name e are.0, behind_too name t us e are.1)

-- none of those behind a name has it
pub none_named : (name : List ℕ) (trees : List KeptTree) → AreBehind name trees → find (is_of_name name) trees ≡ None
none_named name [] are = refl
none_named name (t ∷ ts) are = rw (behind_not_of name t are.0) (none_named name ts are.1)

pub partitioned : (name : List ℕ) (trees : List KeptTree) → AreOrdered trees → IsPartitionedBy (is_before name) trees
partitioned name [] are i j d le lt holds = absurd (omega (arith, lt))
partitioned name (t ∷ ts) are zero zero d le lt holds = holds
partitioned name (t ∷ ts) are zero (suc j) d le lt holds = before_trans t.name (get_or ts j d).name name (behind_at t.name ts are.0 j d (omega (arith, lt))) holds
partitioned name (t ∷ ts) are (suc i) zero d le lt holds = absurd (omega (arith, le))
partitioned name (t ∷ ts) are (suc i) (suc j) d le lt holds = partitioned name ts are.1 i j d (omega (arith, le)) (omega (arith, lt)) holds

-- where the trees that pass a test end
pub point_is : (p : KeptTree → Bool) (trees : List KeptTree) (i : ℕ) → i ≤ length trees → IsPartitionPoint (λ t. p t ≡ true) (λ t. p t ≡ false) trees i → i ≡ prefix_len p trees
point_is p trees i le point =
    elim (cases_lt i (prefix_len p trees)) [
      | inl lt ↦ let yes = prefix_len_passes p trees i some_tree lt in let no = point.1 i some_tree (omega arith) (omega (arith, prefix_len-le-length p trees)) in absurd cc
      | inr ge ↦ elim (cases_lt (prefix_len p trees) i) [
        | inl lt ↦ let yes = point.0 (prefix_len p trees) some_tree (omega arith) lt in let no = prefix_len_stops p trees some_tree (omega arith) in absurd cc
        | inr same ↦ omega arith
      ]
    ]

module _ (name : List ℕ) where
  pub searched : (trees : List KeptTree) → AreOrdered trees → if_matching (is_of_name name) (slice_get trees (prefix_len (is_before name) trees)) ≡ find (is_of_name name) trees
  searched [] are = refl
  searched (t ∷ ts) are = by (searched ts are.1) (is_before name t) refl
    where
      by : if_matching (is_of_name name) (slice_get ts (prefix_len (is_before name) ts)) ≡ find (is_of_name name) ts → (b : Bool) → is_before name t ≡ b
          → if_matching (is_of_name name) (slice_get (t ∷ ts) (cond b (1 + prefix_len (is_before name) ts) 0)) ≡ cond (is_of_name name t) (Some t) (find (is_of_name name) ts)
      by ih true e = rw (one-add, before_not_of name t e) ih
      by ih false e = first (is_of_name name t) refl
        where
          first : (c : Bool) → is_of_name name t ≡ c → cond c (Some t) None ≡ cond c (Some t) (find (is_of_name name) ts)
          first true f = refl
          first false f = sym (none_named name ts (behind_too name t ts (else_behind name t e f) are.0))

  pub removed : (trees : List KeptTree) → AreOrdered trees → option_map_or (is_of_name name) (slice_get trees (prefix_len (is_before name) trees)) false ≡ true → remove trees (prefix_len (is_before name) trees) ≡ remove_key (is_of_name name) trees
  removed [] are found = absurd cc
  removed (t ∷ ts) are found = by (removed ts are.1) (is_before name t) refl found
    where
      by : (option_map_or (is_of_name name) (slice_get ts (prefix_len (is_before name) ts)) false ≡ true → remove ts (prefix_len (is_before name) ts) ≡ remove_key (is_of_name name) ts) → (b : Bool) → is_before name t ≡ b
          → option_map_or (is_of_name name) (slice_get (t ∷ ts) (cond b (1 + prefix_len (is_before name) ts) 0)) false ≡ true
          → remove (t ∷ ts) (cond b (1 + prefix_len (is_before name) ts) 0) ≡ cond (is_of_name name t) ts (t ∷ remove_key (is_of_name name) ts)
      by ih true e found = rw (one-add, before_not_of name t e) (ap (λ (l : List KeptTree). t ∷ l) (ih (rw one-add at found)))
      by ih false e found = rw found refl

-- ---- one more, and one less

module _ (t : KeptTree) where
  pub inserted_is : (trees : List KeptTree) → insert trees (prefix_len (is_before t.name) trees) t ≡ with_tree t trees
  inserted_is [] = refl
  inserted_is (u ∷ us) = by (inserted_is us) (is_before t.name u)
    where
      by : insert us (prefix_len (is_before t.name) us) t ≡ with_tree t us → (b : Bool) → insert (u ∷ us) (cond b (1 + prefix_len (is_before t.name) us) 0) t ≡ cond b (u ∷ with_tree t us) (t ∷ u ∷ us)
      by ih true = rw one-add (ap (λ (l : List KeptTree). u ∷ l) ih)
      by ih false = refl

  behind_with : (u : KeptTree) (us : List KeptTree) → AreBehind u.name us → is_before t.name u ≡ true → AreBehind u.name (with_tree t us)
  behind_with u [] are e = (e, tt)
  behind_with u (v ∷ vs) are e = by (behind_with u vs are.1 e) (is_before t.name v)
    where
      by : AreBehind u.name (with_tree t vs) → (b : Bool) → AreBehind u.name (cond b (v ∷ with_tree t vs) (t ∷ v ∷ vs))
      by ih true = (are.0, ih)
      by ih false = (e, are)

  pub ordered_with : (trees : List KeptTree) → AreOrdered trees → find (is_of_name t.name) trees ≡ None → AreOrdered (with_tree t trees)
  ordered_with [] are new = (tt, tt)
  ordered_with (u ∷ us) are new = by (ordered_with us are.1) (is_before t.name u) (is_of_name t.name u) refl refl new
    where
      by : (find (is_of_name t.name) us ≡ None → AreOrdered (with_tree t us)) → (b c : Bool) → is_before t.name u ≡ b → is_of_name t.name u ≡ c
          → cond c (Some u) (find (is_of_name t.name) us) ≡ None → AreOrdered (cond b (u ∷ with_tree t us) (t ∷ u ∷ us))
      by ih b true e f new = absurd cc
      by ih true false e f new = (behind_with u us are.0 e, ih new)
      by ih false false e f new =
          let behind = else_behind t.name u e f in
          ((behind, behind_too t.name u us behind are.0), are)

behind_without : (name : List ℕ) (p : KeptTree → Bool) (us : List KeptTree) → AreBehind name us → AreBehind name (remove_key p us)
behind_without name p [] are = tt
behind_without name p (u ∷ us) are = by (behind_without name p us are.1) (p u)
  where
    by : AreBehind name (remove_key p us) → (b : Bool) → AreBehind name (cond b us (u ∷ remove_key p us))
    by ih true = are.1
    by ih false = (are.0, ih)

pub ordered_without : (p : KeptTree → Bool) (trees : List KeptTree) → AreOrdered trees → AreOrdered (remove_key p trees)
ordered_without p [] are = tt
ordered_without p (u ∷ us) are = by (ordered_without p us are.1) (p u)
  where
    by : AreOrdered (remove_key p us) → (b : Bool) → AreOrdered (cond b us (u ∷ remove_key p us))
    by ih true = are.1
    by ih false = (behind_without u.name p us are.0, ih)

-- ---- other numbers of rows

module _ (name : List ℕ) (saved pending : ℕ) where
  pub nothing_renumbered : (trees : List KeptTree) → find (is_of_name name) trees ≡ None → with_rows name saved pending trees ≡ trees
  nothing_renumbered [] none = refl
  nothing_renumbered (t ∷ ts) none = by (nothing_renumbered ts) (is_of_name name t) none
    where
      by : (find (is_of_name name) ts ≡ None → with_rows name saved pending ts ≡ ts) → (b : Bool) → cond b (Some t) (find (is_of_name name) ts) ≡ None
          → cond b (renumbered saved pending t) t ∷ with_rows name saved pending ts ≡ t ∷ ts
      by ih true none = absurd cc
      by ih false none = ap (λ (l : List KeptTree). t ∷ l) (ih none)

  renumbered_is : (d : KeptTree) (trees : List KeptTree) → AreOrdered trees → option_map_or (is_of_name name) (slice_get trees (prefix_len (is_before name) trees)) false ≡ true
      → slice_set trees (prefix_len (is_before name) trees) (renumbered saved pending (get_or trees (prefix_len (is_before name) trees) d)) ≡ with_rows name saved pending trees
  renumbered_is d [] are found = absurd cc
  renumbered_is d (t ∷ ts) are found = by (renumbered_is d ts are.1) (is_before name t) refl found
    where
      k : ℕ
      k = prefix_len (is_before name) ts

      by : (option_map_or (is_of_name name) (slice_get ts k) false ≡ true → slice_set ts k (renumbered saved pending (get_or ts k d)) ≡ with_rows name saved pending ts) → (b : Bool) → is_before name t ≡ b
          → option_map_or (is_of_name name) (slice_get (t ∷ ts) (cond b (1 + k) 0)) false ≡ true
          → slice_set (t ∷ ts) (cond b (1 + k) 0) (renumbered saved pending (get_or (t ∷ ts) (cond b (1 + k) 0) d)) ≡ cond (is_of_name name t) (renumbered saved pending t) t ∷ with_rows name saved pending ts
      by ih true e found = rw (one-add, before_not_of name t e) (ap (λ (l : List KeptTree). t ∷ l) (ih (rw one-add at found)))
      by ih false e found =
          let same : t.name ≡ name = (bytes_eq-Decides t.name name).0 found in
          let none = none_named name ts (subst (λ (n : List ℕ). AreBehind n ts) same are.0) in
          rw found (ap (λ (l : List KeptTree). renumbered saved pending t ∷ l) (sym (nothing_renumbered ts none)))

  behind_renumbered : (first : List ℕ) (trees : List KeptTree) → AreBehind first trees → AreBehind first (with_rows name saved pending trees)
  behind_renumbered first [] are = tt
  behind_renumbered first (t ∷ ts) are = (by (is_of_name name t), behind_renumbered first ts are.1)
    where
      by : (b : Bool) → is_lt (name_order first (cond b (renumbered saved pending t) t).name) ≡ true
      by true = are.0
      by false = are.0

  pub ordered_renumbered : (trees : List KeptTree) → AreOrdered trees → AreOrdered (with_rows name saved pending trees)
  ordered_renumbered [] are = tt
  ordered_renumbered (t ∷ ts) are = (by (is_of_name name t), ordered_renumbered ts are.1)
    where
      by : (b : Bool) → AreBehind (cond b (renumbered saved pending t) t).name (with_rows name saved pending ts)
      by true = behind_renumbered t.name ts are.0
      by false = behind_renumbered t.name ts are.0

-- ---- what the code reads at the place where its search ends

taken_tree : (p : KeptTree → Bool) (trees : List KeptTree) (at : ℕ) (d : KeptTree) → option_map_or p (slice_get trees at) false ≡ true → d ≡ get_or trees at d → if_matching p (slice_get trees at) ≡ Some d
taken_tree p trees at d found read = by (slice_get trees at) refl found
  where
    by : (o : Option KeptTree) → slice_get trees at ≡ o → option_map_or p o false ≡ true → if_matching p o ≡ Some d
    by None is found = absurd cc
    by (Some t) is found =
        let same : d ≡ t = read ∙ get_or_from_slice_get trees at t d is in
        rw found (ap (λ (u : KeptTree). let o : Option KeptTree = Some u in o) (sym same))

not_taken : (p : KeptTree → Bool) (o : Option KeptTree) → option_map_or p o false ≡ false → if_matching p o ≡ None
not_taken p None found = refl
not_taken p (Some t) found = rw found refl

-- a search among the items of a table, which are its trees, ends at a place; `seen` are the items that the code looks at
module _ (name : List ℕ) (items trees seen : List KeptTree) (at : ℕ) (same : items ≡ trees) (seen_is : seen ≡ items) (are : AreOrdered items) (at_is : at ≡ prefix_len (is_before name) trees) where
  ends : at ≡ prefix_len (is_before name) items
  ends = at_is ∙ ap (prefix_len (is_before name)) (sym same)

  pub found_there : if_matching (is_of_name name) (slice_get seen at) ≡ find (is_of_name name) trees
  found_there = ap (λ (l : List KeptTree). if_matching (is_of_name name) (slice_get l at)) seen_is ∙ ap (λ (k : ℕ). if_matching (is_of_name name) (slice_get items k)) ends ∙ searched name items are ∙ ap (find (is_of_name name)) same

  module _ (b : Bool) (test : b ≡ option_map_or (is_of_name name) (slice_get seen at) false) where
    tested : option_map_or (is_of_name name) (slice_get items at) false ≡ b
    tested = ap (λ (l : List KeptTree). option_map_or (is_of_name name) (slice_get l at) false) (sym seen_is) ∙ sym test

    found_in : if_matching (is_of_name name) (slice_get items at) ≡ find (is_of_name name) trees
    found_in = ap (λ (l : List KeptTree). if_matching (is_of_name name) (slice_get l at)) (sym seen_is) ∙ found_there

    pub taken_there : b ≡ true → (d : KeptTree) → d ≡ get_or items at d → find (is_of_name name) trees ≡ Some d
    taken_there hit d read = sym found_in ∙ taken_tree (is_of_name name) items at d (tested ∙ hit) read

    pub removed_there : b ≡ true → remove items at ≡ remove_key (is_of_name name) trees
    removed_there hit =
        let here = subst (λ (k : ℕ). option_map_or (is_of_name name) (slice_get items k) false ≡ true) ends (tested ∙ hit) in
        ap (remove items) ends ∙ removed name items are here ∙ ap (remove_key (is_of_name name)) same

    -- the items once the tree there has other numbers of rows; `held` are those that the code changes
    pub rows_are_set : b ≡ true → (saved pending : ℕ) (held : List KeptTree) → held ≡ items → (set : List KeptTree) → ((d : KeptTree) → set ≡ slice_set held at (renumbered saved pending (get_or held at d))) → set ≡ with_rows name saved pending trees
    rows_are_set hit saved pending held held_is set set_is =
        let here = subst (λ (k : ℕ). option_map_or (is_of_name name) (slice_get items k) false ≡ true) ends (tested ∙ hit) in
        set_is some_tree
        ∙ (λ i. slice_set (held_is i) (ends i) (renumbered saved pending (get_or (held_is i) (ends i) some_tree)))
        ∙ renumbered_is name saved pending some_tree items are here
        ∙ ap (with_rows name saved pending) same

    pub none_there : b ≡ false → find (is_of_name name) trees ≡ None
    none_there miss = sym found_in ∙ not_taken (is_of_name name) (slice_get items at) (tested ∙ miss)

pub nothing_removed : (p : KeptTree → Bool) (trees : List KeptTree) → find p trees ≡ None → remove_key p trees ≡ trees
nothing_removed p [] none = refl
nothing_removed p (t ∷ ts) none = by (nothing_removed p ts) (p t) none
  where
    by : (find p ts ≡ None → remove_key p ts ≡ ts) → (b : Bool) → cond b (Some t) (find p ts) ≡ None → cond b ts (t ∷ remove_key p ts) ≡ t ∷ ts
    by ih true none = absurd cc
    by ih false none = ap (λ (l : List KeptTree). t ∷ l) (ih none)

-- what an insert leaves that found room
pub found_room : {A E : Type 0} (r : Result A E) (new one other : List KeptTree) → IsOk r → new ≡ cond (is_ok r) one other → new ≡ one
found_room (Ok x) new one other ok is = is
found_room (Err e) new one other ok is = absurd (search rules)

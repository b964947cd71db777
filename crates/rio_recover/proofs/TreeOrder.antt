-- Trees in order of their names: what a search finds among them, and what they are with one more.
use Rattle.std.proofs.Common.{◌≡◌, ◌∙◌, inl, inr, ℕ, zero, suc, ◌+◌, ◌<◌, ◌≤◌, Bool, true, false, cond, not, List, [], ◌∷◌, length, get_or, Option, Some, None, refl, ap, subst, sym, slice_get, arith}
use Rattle.std.proofs.{Math.Numerals.{one-add}, lemmas.Bool.{cases_lt}, lemmas.Cmp.{nat_list_cmp_total}}
use Rattle.std.proofs.{lemmas.Map.Text.{is_eq-slice_cmp}, lemmas.Slice.Eq.{bytes_eq-Decides}}
use Rattle.std.proofs.lemmas.List.{Sums.{prefix_len-le-length, prefix_len_passes, prefix_len_stops}, Sorted.{IsPermutation-cons, IsPermutation-middle, IsPermutation-refl, IsPermutation-trans}}
use Rattle.std.specs.{Prelude.{option_and_then}, List.{find, insert, prefix_len, Sorted.{IsPartitionedBy, IsPartitionPoint, IsPermutation}}, Option.{is_none, is_some}, Str.{bytes_eq}, Ordering.{ordering_reverse, is_eq}}
use Rattle.std.specs.declared.cmp.Ordering.{Ordering, TheVariants.{Less, Equal, Greater}}
use Rattle.rio_num.specs.{Reading.{some_if}, Word.{name_order}}
use Rattle.rio_dir.specs.Table.{first_by}
use Rattle.rio_recover.specs.TreeTable.{AreAfter, AreInOrder, has_name, if_of_name, is_name_before, is_tree_before, with_tree}
use Rattle.rio_recover.specs.declared.trees.TreeAt.{TreeAt}

-- ---- names

by_order : (r : Ordering) (a b : List ℕ) → name_order a b ≡ r → is_name_before a b ≡ first_by r false
by_order r a b is = ap (λ (o : Ordering). first_by o false) is

pub before_trans : (a b c : List ℕ) → is_name_before a b ≡ true → is_name_before b c ≡ true → is_name_before a c ≡ true
before_trans a b c one two = by (name_order a b) (name_order b c) refl refl one two
  where
    by : (r s : Ordering) → name_order a b ≡ r → name_order b c ≡ s → first_by r false ≡ true → first_by s false ≡ true → is_name_before a c ≡ true
    by Less Less p q x y = ap (λ (o : Ordering). first_by o false) (nat_list_cmp_total.trans a b c p q)
    by Less Equal p q x y = absurd cc
    by Less Greater p q x y = absurd cc
    by Equal s p q x y = absurd cc
    by Greater s p q x y = absurd cc

same_names : (a b : List ℕ) → bytes_eq a b ≡ true → name_order a b ≡ Equal
same_names a b e = by (name_order a b) refl
  where
    by : (r : Ordering) → name_order a b ≡ r → name_order a b ≡ Equal
    by Less is = let eq : is_eq (name_order a b) ≡ true = is_eq-slice_cmp a b ∙ e in absurd (cc (ap is_eq is))
    by Equal is = is
    by Greater is = let eq : is_eq (name_order a b) ≡ true = is_eq-slice_cmp a b ∙ e in absurd (cc (ap is_eq is))

-- a name that comes before another is another one
pub before_other : (a b : List ℕ) → is_name_before a b ≡ true → bytes_eq a b ≡ false
before_other a b e = by (bytes_eq a b) refl
  where
    by : (c : Bool) → bytes_eq a b ≡ c → c ≡ false
    by true is = let f : is_name_before a b ≡ false = by_order Equal a b (same_names a b is) in absurd cc
    by false is = refl

pub behind_other : (a b : List ℕ) → is_name_before a b ≡ true → bytes_eq b a ≡ false
behind_other a b e = by (bytes_eq b a) refl
  where
    by : (c : Bool) → bytes_eq b a ≡ c → c ≡ false
    by true is = let f : is_name_before a b ≡ false = by_order Equal a b (same_names a b ((bytes_eq-Decides a b).1 (sym ((bytes_eq-Decides b a).0 is)))) in absurd cc
    by false is = refl

-- one of the three holds
pub else_before : (a b : List ℕ) → is_name_before a b ≡ false → bytes_eq a b ≡ false → is_name_before b a ≡ true
else_before a b e f = by (name_order a b) refl e
  where
    by : (r : Ordering) → name_order a b ≡ r → first_by r false ≡ false → is_name_before b a ≡ true
    by Less is e = absurd cc
    by Equal is e = let eq : bytes_eq a b ≡ true = sym (is_eq-slice_cmp a b) ∙ ap is_eq is in absurd cc
    by Greater is e = ap (λ (o : Ordering). first_by o false) (nat_list_cmp_total.antisymm b a ∙ ap ordering_reverse is)

-- ---- those behind a name

pub after_too : (name : List ℕ) (t : TreeAt) (ts : List TreeAt) → is_name_before name t.name ≡ true → AreAfter t.name ts → AreAfter name ts
after_too name t [] e are = tt
after_too name t (u ∷ us) e are = (before_trans name t.name u.name e are.0, after_too name t us e are.1)

after_at : (name : List ℕ) (ts : List TreeAt) → AreAfter name ts → (k : ℕ) (d : TreeAt) → k < length ts → is_name_before name (get_or ts k d).name ≡ true
after_at name [] are k d lt = absurd (omega (arith, lt))
after_at name (t ∷ ts) are zero d lt = are.0
after_at name (t ∷ ts) are (suc k) d lt = after_at name ts are.1 k d (omega (arith, lt))

none_after : (name : List ℕ) (ts : List TreeAt) → AreAfter name ts → find (has_name name) ts ≡ None
none_after name [] are = refl
none_after name (t ∷ ts) are = rw (behind_other name t.name are.0) (none_after name ts are.1)

-- ---- a search by name

module _ (name : List ℕ) where
  pub partitioned : (ts : List TreeAt) → AreInOrder ts → IsPartitionedBy (is_tree_before name) ts
  partitioned [] are i j d le lt holds = absurd (omega (arith, lt))
  partitioned (t ∷ ts) are zero zero d le lt holds = holds
  partitioned (t ∷ ts) are zero (suc j) d le lt holds = before_trans t.name (get_or ts j d).name name (after_at t.name ts are.0 j d (omega (arith, lt))) holds
  partitioned (t ∷ ts) are (suc i) zero d le lt holds = absurd (omega (arith, le))
  partitioned (t ∷ ts) are (suc i) (suc j) d le lt holds = partitioned ts are.1 i j d (omega (arith, le)) (omega (arith, lt)) holds

  pub searched : (ts : List TreeAt) → AreInOrder ts → option_and_then (if_of_name name) (slice_get ts (prefix_len (is_tree_before name) ts)) ≡ find (has_name name) ts
  searched [] are = refl
  searched (t ∷ ts) are = by (searched ts are.1) (is_tree_before name t) refl
    where
      by : option_and_then (if_of_name name) (slice_get ts (prefix_len (is_tree_before name) ts)) ≡ find (has_name name) ts → (b : Bool) → is_tree_before name t ≡ b
          → option_and_then (if_of_name name) (slice_get (t ∷ ts) (cond b (1 + prefix_len (is_tree_before name) ts) 0)) ≡ cond (has_name name t) (Some t) (find (has_name name) ts)
      by ih true e = rw (one-add, before_other t.name name e) ih
      by ih false e = first (has_name name t) refl
        where
          first : (c : Bool) → has_name name t ≡ c → cond c (Some t) None ≡ cond c (Some t) (find (has_name name) ts)
          first true f = refl
          first false f = sym (none_after name ts (after_too name t ts (else_before t.name name e f) are.0))

-- where the trees end whose names come before
pub point_is : (p : TreeAt → Bool) (ts : List TreeAt) (i : ℕ) → i ≤ length ts → IsPartitionPoint (λ t. p t ≡ true) (λ t. p t ≡ false) ts i → i ≡ prefix_len p ts
point_is p [] i le point = omega (arith, le)
point_is p (t ∷ ts) i le point =
    elim (cases_lt i (prefix_len p (t ∷ ts))) [
      | inl lt ↦ let yes = prefix_len_passes p (t ∷ ts) i t lt in let no = point.1 i t (omega arith) (omega (arith, prefix_len-le-length p (t ∷ ts))) in absurd cc
      | inr ge ↦ elim (cases_lt (prefix_len p (t ∷ ts)) i) [
        | inl lt ↦ let yes = point.0 (prefix_len p (t ∷ ts)) t (omega arith) lt in let no = prefix_len_stops p (t ∷ ts) t (omega arith) in absurd cc
        | inr same ↦ omega arith
      ]
    ]

-- ---- one more

module _ (t : TreeAt) where
  pub inserted_is : (ts : List TreeAt) → insert ts (prefix_len (is_tree_before t.name) ts) t ≡ with_tree t ts
  inserted_is [] = refl
  inserted_is (u ∷ us) = by (inserted_is us) (is_tree_before t.name u)
    where
      by : insert us (prefix_len (is_tree_before t.name) us) t ≡ with_tree t us → (b : Bool) → insert (u ∷ us) (cond b (1 + prefix_len (is_tree_before t.name) us) 0) t ≡ cond b (u ∷ with_tree t us) (t ∷ u ∷ us)
      by ih true = rw one-add (ap (λ (l : List TreeAt). u ∷ l) ih)
      by ih false = refl

  after_with : (u : TreeAt) (us : List TreeAt) → AreAfter u.name us → is_tree_before t.name u ≡ true → AreAfter u.name (with_tree t us)
  after_with u [] are e = (e, tt)
  after_with u (v ∷ vs) are e = by (after_with u vs are.1 e) (is_tree_before t.name v)
    where
      by : AreAfter u.name (with_tree t vs) → (b : Bool) → AreAfter u.name (cond b (v ∷ with_tree t vs) (t ∷ v ∷ vs))
      by ih true = (are.0, ih)
      by ih false = (e, are)

  pub ordered_with : (ts : List TreeAt) → AreInOrder ts → find (has_name t.name) ts ≡ None → AreInOrder (with_tree t ts)
  ordered_with [] are new = (tt, tt)
  ordered_with (u ∷ us) are new = by (ordered_with us are.1) (is_tree_before t.name u) (has_name t.name u) refl refl new
    where
      by : (find (has_name t.name) us ≡ None → AreInOrder (with_tree t us)) → (b c : Bool) → is_tree_before t.name u ≡ b → has_name t.name u ≡ c
          → cond c (Some u) (find (has_name t.name) us) ≡ None → AreInOrder (cond b (u ∷ with_tree t us) (t ∷ u ∷ us))
      by ih b true e f new = absurd cc
      by ih true false e f new = (after_with u us are.0 e, ih new)
      by ih false false e f new =
          let behind = else_before u.name t.name e f in
          ((behind, after_too t.name u us behind are.0), are)

  with_moved_by : (u : TreeAt) (us more : List TreeAt) (b : Bool) → IsPermutation (t ∷ us) more → IsPermutation (t ∷ u ∷ us) (cond b (u ∷ more) (t ∷ u ∷ us))
  with_moved_by u us more true e =
      IsPermutation-trans (t ∷ u ∷ us) (u ∷ t ∷ us) (u ∷ more) (IsPermutation-middle (t ∷ []) u us) (IsPermutation-cons u (t ∷ us) more e)
  with_moved_by u us more false e = IsPermutation-refl (t ∷ u ∷ us)

  -- the trees with one more in its place are those with it in front, in another order
  pub with_moved : (ts : List TreeAt) → IsPermutation (t ∷ ts) (with_tree t ts)
  with_moved [] = IsPermutation-refl (t ∷ [])
  with_moved (u ∷ us) = with_moved_by u us (with_tree t us) (is_tree_before t.name u) (with_moved us)

-- ---- what the code reads at the place where its search ends

pub found_name : (name one two : List ℕ) (items trees seen : List TreeAt) (at : ℕ) (o : Option TreeAt) → AreInOrder items → items ≡ trees → seen ≡ items → one ≡ name → two ≡ name
    → at ≡ prefix_len (is_tree_before one) trees → o ≡ option_and_then (if_of_name two) (slice_get seen at) → o ≡ find (has_name name) trees
found_name name one two items trees seen at o are same seen_is a b at_is is =
    is ∙ (λ i. option_and_then (if_of_name (b i)) (slice_get ((seen_is ∙ same) i) ((at_is ∙ ap (λ (n : List ℕ). prefix_len (is_tree_before n) trees) a) i)))
    ∙ searched name trees (subst AreInOrder same are)

pub none_as : {X : Type 0} (o : Option X) (b some : Bool) → is_some o ≡ some → b ≡ some → is_none o ≡ not b
none_as None true some e f = absurd (let z : false ≡ true = e ∙ sym f in cc)
none_as None false some e f = refl
none_as (Some x) true some e f = refl
none_as (Some x) false some e f = absurd (let z : true ≡ false = e ∙ sym f in cc)

pub none_is : {X : Type 0} (o : Option X) → is_none o ≡ true → o ≡ None
none_is None e = refl
none_is (Some x) e = absurd cc

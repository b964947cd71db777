-- The order of the key list.
use Rattle.std.proofs.Common.{◌≡◌, ℕ, ◌<◌, ◌&&◌, Bool, true, false, ltb, eqb, List, refl, ap, sym, subst, ◌∙◌, arith}
use Rattle.std.proofs.{lemmas.Bool.{ltb-true, ltb-false, lt-ltb, le-ltb, eqb-true, eqb-false, Decides.{nat_tests}}, lemmas.Cmp.{nat_list_cmp_total}}
use Rattle.std.proofs.{lemmas.Map.Text.{is_eq-slice_cmp}, lemmas.Slice.Eq.{bytes_eq-Decides}}
use Rattle.std.specs.{Str.{bytes_eq}, Ordering.{ordering_reverse, is_eq}}
use Rattle.std.specs.declared.cmp.Ordering.{Ordering, TheVariants.{Less, Equal, Greater}}
use Rattle.rio_num.specs.Word.{name_order}
use Rattle.rio_dir.specs.Table.{comes_before, first_by, is_at_cycle, is_before, is_name_before, is_of_name}
use Rattle.rio_key.specs.declared.head.KeyHead.{KeyHead}

equal_right : (a b c : List ℕ) → name_order b c ≡ Equal → name_order a c ≡ name_order a b
equal_right a b c e =
    nat_list_cmp_total.antisymm a c ∙ ap ordering_reverse (sym (nat_list_cmp_total.congr b c a e)) ∙ sym (nat_list_cmp_total.antisymm a b)

equal_names : (a b : List ℕ) → name_order a b ≡ Equal → a ≡ b
equal_names a b e = (bytes_eq-Decides a b).0 (sym (is_eq-slice_cmp a b) ∙ ap is_eq e)

same_names : (a b : List ℕ) → bytes_eq a b ≡ true → name_order a b ≡ Equal
same_names a b e = by (name_order a b) refl
  where
    by : (r : Ordering) → name_order a b ≡ r → name_order a b ≡ Equal
    by Less is = let eq : is_eq (name_order a b) ≡ true = is_eq-slice_cmp a b ∙ e in absurd (cc (ap is_eq is))
    by Equal is = is
    by Greater is = let eq : is_eq (name_order a b) ≡ true = is_eq-slice_cmp a b ∙ e in absurd (cc (ap is_eq is))

other_names : (a b : List ℕ) (r : Ordering) → name_order a b ≡ r → is_eq r ≡ false → bytes_eq a b ≡ false
other_names a b r is differ = sym (is_eq-slice_cmp a b) ∙ ap is_eq is ∙ differ

pub before_trans : (a : List ℕ) (m : ℕ) (b : List ℕ) (n : ℕ) (c : List ℕ) (k : ℕ) → comes_before a m b n ≡ true → comes_before b n c k ≡ true → comes_before a m c k ≡ true
before_trans a m b n c k one two = by (name_order a b) (name_order b c) refl refl one two
  where
    by : (r s : Ordering) → name_order a b ≡ r → name_order b c ≡ s → first_by r (ltb n m) ≡ true → first_by s (ltb k n) ≡ true → comes_before a m c k ≡ true
    by Less Less p q x y = ap (λ (o : Ordering). first_by o (ltb k m)) (nat_list_cmp_total.trans a b c p q)
    by Less Equal p q x y = ap (λ (o : Ordering). first_by o (ltb k m)) (equal_right a b c q ∙ p)
    by Less Greater p q x y = absurd cc
    by Equal Less p q x y = ap (λ (o : Ordering). first_by o (ltb k m)) (nat_list_cmp_total.congr a b c p ∙ q)
    by Equal Equal p q x y =
        let lower : ltb k m ≡ true = grind (arith, nat_tests, ltb-true _ _ x, ltb-true _ _ y) in
        ap (λ (o : Ordering). first_by o (ltb k m)) (nat_list_cmp_total.congr a b c p ∙ q) ∙ lower
    by Equal Greater p q x y = absurd cc
    by Greater s p q x y = absurd cc

pub before_itself : (a : List ℕ) (m : ℕ) → comes_before a m a m ≡ false
before_itself a m = ap (λ (o : Ordering). first_by o (ltb m m)) (same_names a a ((bytes_eq-Decides a a).1 refl)) ∙ le-ltb m m (omega arith)

-- ---- one head and a name and cycle

module _ (name : List ℕ) (cycle : ℕ) (h : KeyHead) where
  pub at_is : is_at_cycle name cycle h ≡ true → (h.name ≡ name) × (h.cycle ≡ cycle)
  at_is e = by (bytes_eq h.name name) refl e
    where
      by : (b : Bool) → bytes_eq h.name name ≡ b → (b && eqb h.cycle cycle) ≡ true → (h.name ≡ name) × (h.cycle ≡ cycle)
      by true is e = ((bytes_eq-Decides h.name name).0 is, eqb-true _ _ e)
      by false is e = absurd cc

  -- what comes before it isn't it
  pub before_not_at : is_before name cycle h ≡ true → is_at_cycle name cycle h ≡ false
  before_not_at e = by (is_at_cycle name cycle h) refl
    where
      by : (b : Bool) → is_at_cycle name cycle h ≡ b → is_at_cycle name cycle h ≡ false
      by true is =
          let same = at_is is in
          let again : comes_before name cycle name cycle ≡ true = subst (λ (n : List ℕ). comes_before n cycle name cycle ≡ true) same.0 (subst (λ (k : ℕ). comes_before h.name k name cycle ≡ true) same.1 e) in
          absurd (cc (before_itself name cycle))
      by false is = is

  -- nor is what comes behind it
  pub behind_not_at : comes_before name cycle h.name h.cycle ≡ true → is_at_cycle name cycle h ≡ false
  behind_not_at e = by (is_at_cycle name cycle h) refl
    where
      by : (b : Bool) → is_at_cycle name cycle h ≡ b → is_at_cycle name cycle h ≡ false
      by true is =
          let same = at_is is in
          let again : comes_before name cycle name cycle ≡ true = subst (λ (n : List ℕ). comes_before name cycle n cycle ≡ true) same.0 (subst (λ (k : ℕ). comes_before name cycle h.name k ≡ true) same.1 e) in
          absurd (cc (before_itself name cycle))
      by false is = is

  -- one of the three holds
  pub else_behind : is_before name cycle h ≡ false → is_at_cycle name cycle h ≡ false → comes_before name cycle h.name h.cycle ≡ true
  else_behind e f = by (name_order h.name name) refl e
    where
      by : (r : Ordering) → name_order h.name name ≡ r → first_by r (ltb cycle h.cycle) ≡ false → comes_before name cycle h.name h.cycle ≡ true
      by Less is e = absurd cc
      by Equal is e =
          let named : bytes_eq h.name name ≡ true = sym (is_eq-slice_cmp h.name name) ∙ ap is_eq is in
          let other : eqb h.cycle cycle ≡ false = (rw named at f) in
          let lower : ltb h.cycle cycle ≡ true = lt-ltb _ _ (omega (arith, ltb-false _ _ e, eqb-false _ _ other)) in
          ap (λ (o : Ordering). first_by o (ltb h.cycle cycle)) (nat_list_cmp_total.antisymm name h.name ∙ ap ordering_reverse is) ∙ lower
      by Greater is e = ap (λ (o : Ordering). first_by o (ltb h.cycle cycle)) (nat_list_cmp_total.antisymm name h.name ∙ ap ordering_reverse is)

-- ---- one head and a name

pub name_not_of : (name : List ℕ) (h : KeyHead) → is_name_before name h ≡ true → is_of_name name h ≡ false
name_not_of name h e = by (name_order h.name name) refl e
  where
    by : (r : Ordering) → name_order h.name name ≡ r → first_by r false ≡ true → is_of_name name h ≡ false
    by Less is e = other_names h.name name Less is refl
    by Equal is e = absurd cc
    by Greater is e = absurd cc

-- the name comes before that of a head
abbrev pub IsNameBehind : List ℕ → KeyHead → Type 0
IsNameBehind name h = name_order name h.name ≡ Less

pub else_name_behind : (name : List ℕ) (h : KeyHead) → is_name_before name h ≡ false → is_of_name name h ≡ false → IsNameBehind name h
else_name_behind name h e f = by (name_order h.name name) refl e
  where
    by : (r : Ordering) → name_order h.name name ≡ r → first_by r false ≡ false → IsNameBehind name h
    by Less is e = absurd cc
    by Equal is e = let named : bytes_eq h.name name ≡ true = sym (is_eq-slice_cmp h.name name) ∙ ap is_eq is in absurd cc
    by Greater is e = nat_list_cmp_total.antisymm name h.name ∙ ap ordering_reverse is

-- and so of those behind that head
pub names_behind : (name : List ℕ) (h k : KeyHead) → IsNameBehind name h → comes_before h.name h.cycle k.name k.cycle ≡ true → IsNameBehind name k
names_behind name h k less e = by (name_order h.name k.name) refl e
  where
    by : (r : Ordering) → name_order h.name k.name ≡ r → first_by r (ltb k.cycle h.cycle) ≡ true → IsNameBehind name k
    by Less is e = nat_list_cmp_total.trans name h.name k.name less is
    by Equal is e = equal_right name h.name k.name is ∙ less
    by Greater is e = absurd cc

pub name_behind_not_of : (name : List ℕ) (h : KeyHead) → IsNameBehind name h → is_of_name name h ≡ false
name_behind_not_of name h less = other_names h.name name Greater (nat_list_cmp_total.antisymm h.name name ∙ ap ordering_reverse less) refl

-- a head before one whose name comes before is so too
pub name_before_too : (name : List ℕ) (h k : KeyHead) → comes_before h.name h.cycle k.name k.cycle ≡ true → is_name_before name k ≡ true → is_name_before name h ≡ true
name_before_too name h k e f = by (name_order h.name k.name) (name_order k.name name) refl refl e f
  where
    by : (r s : Ordering) → name_order h.name k.name ≡ r → name_order k.name name ≡ s → first_by r (ltb k.cycle h.cycle) ≡ true → first_by s false ≡ true → is_name_before name h ≡ true
    by Less Less p q e f = ap (λ (o : Ordering). first_by o false) (nat_list_cmp_total.trans h.name k.name name p q)
    by Equal Less p q e f = ap (λ (o : Ordering). first_by o false) (nat_list_cmp_total.congr h.name k.name name p ∙ q)
    by Greater Less p q e f = absurd cc
    by r Equal p q e f = absurd cc
    by r Greater p q e f = absurd cc

-- of one name, the greater cycle comes first
pub same_name_lower : (name : List ℕ) (h k : KeyHead) → comes_before h.name h.cycle k.name k.cycle ≡ true → is_of_name name h ≡ true → is_of_name name k ≡ true → k.cycle < h.cycle
same_name_lower name h k e one two =
    let same : h.name ≡ k.name = (bytes_eq-Decides h.name name).0 one ∙ sym ((bytes_eq-Decides k.name name).0 two) in
    let is : name_order h.name k.name ≡ Equal = subst (λ (n : List ℕ). name_order h.name n ≡ Equal) same (same_names h.name h.name ((bytes_eq-Decides h.name h.name).1 refl)) in
    ltb-true _ _ (rw is at e)

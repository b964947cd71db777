-- The branches whose leaves count those of another one, found one by one.
use Rattle.std.proofs.Common.{◌≡◌, ℕ, zero, suc, ◌+◌, ◌-◌, inl, inr, ◌==◌, ◌||◌, ◌≤◌, ◌<◌, nat_lt, append_assoc, List, [], ◌∷◌, ◌++◌, length, Bool, true, false, cond, Option, Some, None, refl, sym, ap, ◌∙◌, arith}
use Rattle.std.proofs.lemmas.{Bool.{cases_lt, eq-eqb, le-ltb, lt-ltb, ne_eqb}, List.{append-nil}, List.Quantifiers.{position-Some}}
use Rattle.std.specs.{List.{list_any}, Option.{option_map_or}}
use Rattle.rio_leaf.specs.{declared.branch.BranchDef.{BranchDef}, declared.branch.Shape.TheVariants.{Leaves}, declared.leaf.Dim.{Dim, TheVariants.{One, Fixed, Counted}}, declared.leaf.Leaf.{Leaf}}
use Rattle.rio_leaf.specs.{Leaves.{has_leaf}, Stated.{leaves_of}}
use Rattle.rio_tree.specs.{HeaderLeaves.{with_branch_number}, WrittenLaws.{branch_of_leaf, counting_branches, counting_branches_behind, with_counting_branch}}
use Rattle.rio_session.specs.Counters.{counts_dim, counts_leaf}

or_no : (t : Bool) → (t || false) ≡ t
or_no true = refl
or_no false = refl

or_joined : (a b c : Bool) → ((a || b) || c) ≡ (a || (b || c))
or_joined true b c = refl
or_joined false b c = refl

some_branch : BranchDef
some_branch = record { name = []; shape = Leaves [] }

-- ---- numbers that pass a test

-- of n numbers from a on
abbrev pub passing : (ℕ → Bool) → ℕ → ℕ → List ℕ
passing p a zero = []
passing p a (suc n) = cond (p a) (a ∷ passing p (a + 1) n) (passing p (a + 1) n)

same_passing : (p q : ℕ → Bool) (a n : ℕ) → ((k : ℕ) → a ≤ k → p k ≡ q k) → passing p a n ≡ passing q a n
same_passing p q a zero same = refl
same_passing p q a (suc n) same =
    let here = same a (omega arith) in
    let rest = same_passing p q (a + 1) n (λ k le. same k (omega (arith, le))) in
    λ i. cond (here i) (a ∷ rest i) (rest i)

none_passing : (a n : ℕ) → passing (λ k. false) a n ≡ []
none_passing a zero = refl
none_passing a (suc n) = none_passing (a + 1) n

-- with one more: it is put in its place
put_front : (p : ℕ → Bool) (j a n : ℕ) → j < a → with_branch_number j (passing p a n) ≡ j ∷ passing p a n
put_front p j a zero lt = refl
put_front p j a (suc n) lt = by (put_front p j (a + 1) n (omega (arith, lt))) (p a)
  where
    by : with_branch_number j (passing p (a + 1) n) ≡ j ∷ passing p (a + 1) n → (t : Bool) → with_branch_number j (cond t (a ∷ passing p (a + 1) n) (passing p (a + 1) n)) ≡ j ∷ cond t (a ∷ passing p (a + 1) n) (passing p (a + 1) n)
    by rest true = rw (lt-ltb j a lt) refl
    by rest false = rest

module _ (p : ℕ → Bool) (j a n : ℕ) where
  abbrev rest : List ℕ
  rest = passing p (a + 1) n

  abbrev then : List ℕ
  then = passing (λ k. p k || (j == k)) (a + 1) n

  put_after : a < j → with_branch_number j rest ≡ then → (t : Bool) → with_branch_number j (cond t (a ∷ rest) rest) ≡ cond (t || (j == a)) (a ∷ then) then
  put_after later ih true =
      let less : nat_lt j a ≡ false = le-ltb j a (omega (arith, later)) in
      let other : (j == a) ≡ false = ne_eqb j a (λ same. omega (arith, later, same)) in
      rw (less, other) (ap (λ (l : List ℕ). a ∷ l) ih)
  put_after later ih false =
      let other : (j == a) ≡ false = ne_eqb j a (λ same. omega (arith, later, same)) in
      rw other ih

  same_rest : j ≡ a → rest ≡ then
  same_rest same = same_passing p (λ k. p k || (j == k)) (a + 1) n (λ k le.
      let other : (j == k) ≡ false = ne_eqb j k (λ e. omega (arith, le, same, e)) in
      sym (ap (λ (b : Bool). p k || b) other ∙ or_no (p k)))

  put_here : j ≡ a → (t : Bool) → with_branch_number j (cond t (a ∷ rest) rest) ≡ cond (t || (j == a)) (a ∷ then) then
  put_here same true =
      let less : nat_lt j a ≡ false = le-ltb j a (omega (arith, same)) in
      let equal : (j == a) ≡ true = eq-eqb j a same in
      rw (less, equal) (ap (λ (l : List ℕ). a ∷ l) (same_rest same))
  put_here same false =
      let equal : (j == a) ≡ true = eq-eqb j a same in
      rw equal (put_front p j (a + 1) n (omega (arith, same)) ∙ (λ i. same i ∷ same_rest same i))

put_one : (p : ℕ → Bool) (j a n : ℕ) → a ≤ j → j < a + n → with_branch_number j (passing p a n) ≡ passing (λ k. p k || (j == k)) a n
put_one p j a zero le lt = absurd (omega (arith, le, lt))
put_one p j a (suc n) le lt =
    elim (cases_lt a j) [
      | inl later ↦ put_after p j a n later (put_one p j (a + 1) n (omega (arith, later)) (omega (arith, lt))) (p a)
      | inr not_later ↦ put_here p j a n (omega (arith, le, not_later)) (p a)
    ]

-- ---- the branches of the counters

module _ (before : List BranchDef) where
  abbrev all : (ℕ → Bool) → List ℕ
  all p = passing p 0 (length before)

  one_dim : (p : ℕ → Bool) (dim : Dim) → with_counting_branch before dim (all p) ≡ all (λ k. p k || counts_dim before k dim)
  one_dim p One = same_passing p (λ k. p k || false) 0 (length before) (λ k le. sym (or_no (p k)))
  one_dim p (Fixed n) = same_passing p (λ k. p k || false) 0 (length before) (λ k le. sym (or_no (p k)))
  one_dim p (Counted counter times) = by (branch_of_leaf before counter) refl
    where
      by : (o : Option ℕ) → branch_of_leaf before counter ≡ o → option_map_or (λ n. with_branch_number n (all p)) o (all p) ≡ all (λ k. p k || option_map_or (λ n. n == k) o false)
      by None is = same_passing p (λ k. p k || false) 0 (length before) (λ k le. sym (or_no (p k)))
      by (Some j) is =
          let there = position-Some (λ (b : BranchDef). has_leaf (leaves_of b.shape) counter) before j some_branch is in
          put_one p j 0 (length before) (omega arith) (omega (arith, there.0))

  counting_behind : (p : ℕ → Bool) (leaves : List Leaf) → counting_branches_behind before (all p) leaves ≡ all (λ k. p k || list_any (counts_leaf before k) leaves)
  counting_behind p [] = same_passing p (λ k. p k || false) 0 (length before) (λ k le. sym (or_no (p k)))
  counting_behind p (leaf ∷ leaves) =
      ap (λ (l : List ℕ). counting_branches_behind before l leaves) (one_dim p leaf.dim)
      ∙ counting_behind (λ k. p k || counts_leaf before k leaf) leaves
      ∙ same_passing (λ k. (p k || counts_leaf before k leaf) || list_any (counts_leaf before k) leaves) (λ k. p k || (counts_leaf before k leaf || list_any (counts_leaf before k) leaves)) 0 (length before)
      (λ k le. or_joined (p k) (counts_leaf before k leaf) (list_any (counts_leaf before k) leaves))

  pub counting_is : (leaves : List Leaf) → passing (λ k. list_any (counts_leaf before k) leaves) 0 (length before) ≡ counting_branches before leaves
  counting_is leaves =
      sym (ap (λ (l : List ℕ). counting_branches_behind before l leaves) (sym (none_passing 0 (length before))) ∙ counting_behind (λ k. false) leaves)

-- ---- the loop

-- the numbers so far, and those to come
abbrev pub Finding : List BranchDef → List Leaf → ℕ → List ℕ → Type 0
Finding before leaves k numbers = numbers ++ passing (λ j. list_any (counts_leaf before j) leaves) k (length before - k) ≡ counting_branches before leaves

pub finding_begins : (before : List BranchDef) (leaves : List Leaf) → Finding before leaves 0 []
finding_begins before leaves =
    let whole : length before - 0 ≡ length before = omega arith in
    ap (passing (λ j. list_any (counts_leaf before j) leaves) 0) whole ∙ counting_is before leaves

left_more : (n k : ℕ) → k < n → n - k ≡ suc (n - (k + 1))
left_more n k lt = omega (arith, lt)

module _ (before : List BranchDef) (leaves : List Leaf) (k : ℕ) (numbers : List ℕ) (sofar : Finding before leaves k numbers) (lt : k < length before) where
  abbrev test : ℕ → Bool
  test j = list_any (counts_leaf before j) leaves

  left_is : passing test k (length before - k) ≡ cond (test k) (k ∷ passing test (k + 1) (length before - (k + 1))) (passing test (k + 1) (length before - (k + 1)))
  left_is = ap (passing test k) (left_more (length before) k lt)

  pub found_one : test k ≡ true → Finding before leaves (k + 1) (numbers ++ k ∷ [])
  found_one is =
      append_assoc numbers (k ∷ []) (passing test (k + 1) (length before - (k + 1)))
      ∙ ap (λ (l : List ℕ). numbers ++ l) (sym (left_is ∙ ap (λ (t : Bool). cond t (k ∷ passing test (k + 1) (length before - (k + 1))) (passing test (k + 1) (length before - (k + 1)))) is))
      ∙ sofar

  pub found_none : test k ≡ false → Finding before leaves (k + 1) numbers
  found_none is =
      ap (λ (l : List ℕ). numbers ++ l) (sym (left_is ∙ ap (λ (t : Bool). cond t (k ∷ passing test (k + 1) (length before - (k + 1))) (passing test (k + 1) (length before - (k + 1)))) is))
      ∙ sofar

pub finding_ends : (before : List BranchDef) (leaves : List Leaf) (k : ℕ) (numbers : List ℕ) → Finding before leaves k numbers → length before ≤ k → numbers ≡ counting_branches before leaves
finding_ends before leaves k numbers sofar end =
    let none : length before - k ≡ 0 = omega (arith, end) in
    sym (ap (λ (n : ℕ). numbers ++ passing (λ j. list_any (counts_leaf before j) leaves) k n) none ∙ append-nil numbers) ∙ sofar

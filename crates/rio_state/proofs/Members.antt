-- Elements of lists, and tests that they pass.
use Rattle.std.proofs.Common.{◌≡◌, ◌⊎◌, inl, inr, ⊎_elim, zero, suc, ◌∙◌, List, [], ◌∷◌, ◌++◌, map, Bool, true, false, cond, ◌||◌, Some, refl, sym, ap, subst, arith}
use Rattle.std.proofs.lemmas.Bool.{and_from, and_parts, or_right}
use Rattle.std.specs.List.{Contains, filter, find, list_all, list_any}

-- the element is among them
abbrev pub In : {A : Type 0} → A → List A → Type 0
In x [] = ⊥
In x (y ∷ ys) = (y ≡ x) ⊎ In x ys

module _ {A : Type 0} where
  pub in_contained : (x : A) (xs : List A) → Contains xs x → In x xs
  in_contained x [] c = absurd (let short = c.1 in omega (arith, short))
  in_contained x (y ∷ ys) (zero, lt, e) = inl e
  in_contained x (y ∷ ys) (suc k, lt, e) = inr (in_contained x ys (k, omega (arith, lt), e))

  contains_later : (x y : A) (ys : List A) → Contains ys x → Contains (y ∷ ys) x
  contains_later x y ys c = let lt = c.1 in (suc c.0, omega (arith, lt), c.2)

  pub contains_in : (x : A) (xs : List A) → In x xs → Contains xs x
  contains_in x [] i = absurd i
  contains_in x (y ∷ ys) (inl e) = (0, omega arith, e)
  contains_in x (y ∷ ys) (inr i) = contains_later x y ys (contains_in x ys i)

  pub in_left : (x : A) (xs ys : List A) → In x xs → In x (xs ++ ys)
  in_left x [] ys i = absurd i
  in_left x (z ∷ xs) ys (inl e) = inl e
  in_left x (z ∷ xs) ys (inr i) = inr (in_left x xs ys i)

  pub in_right : (x : A) (xs ys : List A) → In x ys → In x (xs ++ ys)
  in_right x [] ys i = i
  in_right x (z ∷ xs) ys i = inr (in_right x xs ys i)

  pub in_either : (x : A) (xs ys : List A) → In x (xs ++ ys) → In x xs ⊎ In x ys
  in_either x [] ys i = inr i
  in_either x (z ∷ xs) ys (inl e) = inl (inl e)
  in_either x (z ∷ xs) ys (inr i) = ⊎_elim (λ j. inl (inr j)) (λ j. inr j) (in_either x xs ys i)

  -- ---- tests

  pub all_at : (p : A → Bool) (x : A) (xs : List A) → list_all p xs ≡ true → In x xs → p x ≡ true
  all_at p x [] all i = absurd i
  all_at p x (y ∷ ys) all (inl e) = ap p (sym e) ∙ (and_parts (p y) (list_all p ys) all).0
  all_at p x (y ∷ ys) all (inr i) = all_at p x ys (and_parts (p y) (list_all p ys) all).1 i

  pub all_from : (p : A → Bool) (xs : List A) → ((x : A) → In x xs → p x ≡ true) → list_all p xs ≡ true
  all_from p [] each = refl
  all_from p (x ∷ xs) each = and_from (p x) (list_all p xs) (each x (inl refl)) (all_from p xs (λ y i. each y (inr i)))

  pub any_from : (p : A → Bool) (x : A) (xs : List A) → In x xs → p x ≡ true → list_any p xs ≡ true
  any_from p x [] i e = absurd i
  any_from p x (y ∷ ys) (inl same) e = ap (λ b. b || list_any p ys) (ap p same ∙ e)
  any_from p x (y ∷ ys) (inr i) e = or_right (p y) (list_any p ys) (any_from p x ys i e)

  -- one of them that passes
  pub record Passing (p : A → Bool) (xs : List A) : Type 0 where
    pub x : A
    pub among : In x xs
    pub passes : p x ≡ true

  pub passing : (p : A → Bool) (xs : List A) → list_any p xs ≡ true → Passing p xs
  passing p [] e = absurd cc
  passing p (y ∷ ys) e = by (p y) refl e (passing p ys)
    where
      by : (b : Bool) → p y ≡ b → (b || list_any p ys) ≡ true → (list_any p ys ≡ true → Passing p ys) → Passing p (y ∷ ys)
      by true is e rest = record { x = y; among = inl refl; passes = is }
      by false is e rest = let s = rest e in record { x = s.x; among = inr s.among; passes = s.passes }

  pub none_from : (p : A → Bool) (xs : List A) → ((x : A) → In x xs → p x ≡ true → ⊥) → list_any p xs ≡ false
  none_from p xs none = by (list_any p xs) refl
    where
      by : (b : Bool) → list_any p xs ≡ b → b ≡ false
      by true is = let s = passing p xs is in absurd (none s.x s.among s.passes)
      by false is = refl

  pub none_at : (p : A → Bool) (x : A) (xs : List A) → list_any p xs ≡ false → In x xs → p x ≡ true → ⊥
  none_at p x xs none i e = let there = any_from p x xs i e in absurd cc

  -- ---- filters

  pub in_filter : (p : A → Bool) (x : A) (xs : List A) → In x xs → p x ≡ true → In x (filter p xs)
  in_filter p x [] i e = absurd i
  in_filter p x (y ∷ ys) (inl same) e = let is : p y ≡ true = ap p same ∙ e in subst (λ (b : Bool). In x (cond b (y ∷ filter p ys) (filter p ys))) (sym is) (inl same)
  in_filter p x (y ∷ ys) (inr i) e = by (p y) (in_filter p x ys i e)
    where
      by : (b : Bool) → In x (filter p ys) → In x (cond b (y ∷ filter p ys) (filter p ys))
      by true rest = inr rest
      by false rest = rest

  pub filter_in : (p : A → Bool) (x : A) (xs : List A) → In x (filter p xs) → In x xs × (p x ≡ true)
  filter_in p x [] i = absurd i
  filter_in p x (y ∷ ys) i = by (p y) refl i (filter_in p x ys)
    where
      by : (b : Bool) → p y ≡ b → In x (cond b (y ∷ filter p ys) (filter p ys)) → (In x (filter p ys) → In x ys × (p x ≡ true)) → In x (y ∷ ys) × (p x ≡ true)
      by true is (inl same) rest = (inl same, ap p (sym same) ∙ is)
      by true is (inr i) rest = let r = rest i in (inr r.0, r.1)
      by false is i rest = let r = rest i in (inr r.0, r.1)

  -- ---- the first that passes

  pub record Found (p : A → Bool) (x : A) (xs : List A) : Type 0 where
    pub among : In x xs
    pub passes : p x ≡ true

  same_some : (x y : A) → Some x ≡ Some y → x ≡ y
  same_some x y e = cc

  pub found : (p : A → Bool) (x : A) (xs : List A) → find p xs ≡ Some x → Found p x xs
  found p x [] e = absurd cc
  found p x (y ∷ ys) e = by (p y) refl e (found p x ys)
    where
      by : (b : Bool) → p y ≡ b → cond b (Some y) (find p ys) ≡ Some x → (find p ys ≡ Some x → Found p x ys) → Found p x (y ∷ ys)
      by true is e rest = let same = same_some y x e in record { among = inl same; passes = ap p (sym same) ∙ is }
      by false is e rest = let f = rest e in record { among = inr f.among; passes = f.passes }

pub in_map : {A B : Type 0} (f : A → B) (x : A) (xs : List A) → In x xs → In (f x) (map f xs)
in_map f x [] i = absurd i
in_map f x (y ∷ ys) (inl e) = inl (ap f e)
in_map f x (y ∷ ys) (inr i) = inr (in_map f x ys i)

-- what an element of a mapped list comes from
pub map_in : {A B : Type 0} (f : A → B) (z : B) (xs : List A) → In z (map f xs) → (x : A) × In x xs × (f x ≡ z)
map_in f z [] i = absurd i
map_in f z (y ∷ ys) (inl e) = (y, inl refl, e)
map_in f z (y ∷ ys) (inr i) = let rest = map_in f z ys i in (rest.0, inr rest.1, rest.2)

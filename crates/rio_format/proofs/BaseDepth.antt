-- A class has no base that more levels find than there are classes and one more.
use Rattle.std.proofs.{Common.{◌≡◌, ◌≤◌, ◌<◌, ◌+◌, ◌-◌, ◌⊎◌, ℕ, zero, suc, List, [], ◌∷◌, length, Bool, true, false, cond, ◌||◌, ◌&&◌, Option, Some, None, refl, sym, inl, inr, arith}, lemmas.Bool.{and_parts, cond_both, or_left, or_parts, or_right}}
use Rattle.std.proofs.lemmas.Bool.Decides.{Decides-int_eq}
use Rattle.std.specs.{Prelude.{ℤ, pos, codes, find}, Cmp.Lexicographic.{same_text}, List.{list_any}, Option.{option_map}, Ordering.{int_eq}}
use Rattle.std.specs.Str.{bytes_eq}
use Rattle.rio_num.proofs.Cases.{any_weaker, either}
use Rattle.rio_format.specs.{Classes.{find_in}, declared.class.Base.{Base}, declared.class.ClassDef.{ClassDef}, Bodies.{Body, described, built_in, form_of, headed_classes, t_object_base}}
use Rattle.rio_format.specs.Slots.{body_bases, declared_body, has_base, headed_body, is_headed}
use Rattle.rio_format.proofs.BuiltInLaws.{of_body}

-- ---- counting

abbrev how_many : {X : Type 0} → (X → Bool) → List X → ℕ
how_many p [] = 0
how_many p (x ∷ xs) = cond (p x) 1 0 + how_many p xs

one_at_most : (b : Bool) → cond b 1 0 ≤ 1
one_at_most true = omega arith
one_at_most false = omega arith

how_many-le-length : {X : Type 0} (p : X → Bool) (xs : List X) → how_many p xs ≤ length xs
how_many-le-length p [] = omega arith
how_many-le-length p (x ∷ xs) = omega (arith, one_at_most (p x), how_many-le-length p xs)

one_weaker : (a b : Bool) → (a ≡ true → b ≡ true) → cond a 1 0 ≤ cond b 1 0
one_weaker true b f = rw (f refl) (omega arith)
one_weaker false true f = omega arith
one_weaker false false f = omega arith

count_weaker : {X : Type 0} (p q : X → Bool) → ((x : X) → p x ≡ true → q x ≡ true) → (xs : List X) → how_many p xs ≤ how_many q xs
count_weaker p q f [] = omega arith
count_weaker p q f (x ∷ xs) =
    omega (arith, one_weaker (p x) (q x) (f x), count_weaker p q f xs)

find_passes : {X : Type 0} (test : X → Bool) (xs : List X) (x : X) → find test xs ≡ Some x → test x ≡ true
find_passes test [] x e = absurd cc
find_passes {X} test (y ∷ ys) x e =
    let rest = find_passes test ys x in
    elim (test y) as (λ b. test y ≡ b → cond b (Some y) (find test ys) ≡ Some x → test x ≡ true) [
      | true ↦ λ is h. let same : y ≡ x = cc in rw same at is
      | false ↦ λ is h. rest h
    ] refl e

-- what is found passes one test more
count_found : {X : Type 0} (test p q : X → Bool) → ((x : X) → p x ≡ true → q x ≡ true) → (xs : List X) (x : X) → find test xs ≡ Some x → p x ≡ false → q x ≡ true → how_many p xs < how_many q xs
count_found test p q f [] x e gone there = absurd cc
count_found test p q f (y ∷ ys) x e gone there =
    let rest = count_found test p q f ys x in
    elim (test y) as (λ b. cond b (Some y) (find test ys) ≡ Some x → cond (p y) 1 0 + how_many p ys < cond (q y) 1 0 + how_many q ys) [
      | true ↦ λ h. let same : y ≡ x = cc in rw (same, gone, there) (omega (arith, count_weaker p q f ys))
      | false ↦ λ h. omega (arith, one_weaker (p y) (q y) (f y), rest h gone there)
    ] e

abbrev pub first_of_both : Option Body → Option Body → Option Body
first_of_both other (Some body) = Some body
first_of_both other None = other

module _ (classes : List ClassDef) (target : List ℕ) where
  abbrev has_among : ℕ → List Base → Bool
  has_among k bases = list_any (λ b. bytes_eq b.name target || has_base k classes target b.name b.version) bases

  -- more levels find gone further base
  abbrev IsShallow : Option Body → Type 0
  IsShallow body = (k : ℕ) → has_among k (body_bases body) ≡ has_among 0 (body_bases body)

  object_has_none : (k : ℕ) → has_base k classes target (codes "TObject") (pos 1) ≡ false
  unfolding has_base
  object_has_none zero = refl
  object_has_none (suc k) = refl

  over_object : (k : ℕ) → has_among k (t_object_base ∷ []) ≡ has_among 0 (t_object_base ∷ [])
  over_object k = rw (object_has_none k, object_has_none 0) refl

  built_is_shallow : (class : List ℕ) (version : ℤ) → IsShallow (built_in class version)
  built_is_shallow class version =
      of_body IsShallow headed_classes class version ((λ c v. over_object), ((λ c v. over_object), ((λ c v. over_object), ((λ c v. over_object), tt)))) (λ k. refl)

  -- the class is in the list, or shallow
  abbrev IsKnown : List ℕ → ℤ → Option Body → Type 0
  IsKnown class version body = ((c : ClassDef) × (find_in classes class version ≡ Some c)) ⊎ IsShallow body

  listed_is_known : (class : List ℕ) (version : ℤ) (found : Option ClassDef) → find_in classes class version ≡ found → IsKnown class version (option_map described found)
  listed_is_known class version None e = inr (λ k. refl)
  listed_is_known class version (Some c) e = inl (c, e)

  first_is_known : (class : List ℕ) (version : ℤ) (body : Option Body) → IsShallow body → IsKnown class version (first_of_both (option_map described (find_in classes class version)) body)
  first_is_known class version (Some body) shallow = inr shallow
  first_is_known class version None shallow = listed_is_known class version (find_in classes class version) refl

  is_known : (class : List ℕ) (version : ℤ) → IsKnown class version (headed_body classes class version)
  is_known class version =
      cond_both (is_headed (form_of class)) (declared_body classes class version) None (IsKnown class version)
      (λ t. first_is_known class version (built_in class version) (built_is_shallow class version)) (λ t. inr (λ k. refl))

  -- a base that one level more finds
  base_between : (k : ℕ) (bases : List Base) → has_among (suc k) bases ≡ true → has_among k bases ≡ false
      → (b : Base) × (has_base (suc k) classes target b.name b.version ≡ true) × (has_base k classes target b.name b.version ≡ false)
  base_between k [] there gone = absurd cc
  base_between k (b ∷ bs) there gone =
      let parts = or_parts (bytes_eq b.name target || has_base k classes target b.name b.version) (has_among k bs) gone in
      let own = or_parts (bytes_eq b.name target) (has_base k classes target b.name b.version) parts.0 in
      either (bytes_eq b.name target || has_base (suc k) classes target b.name b.version) (has_among (suc k) bs)
      (λ h. either (bytes_eq b.name target) (has_base (suc k) classes target b.name b.version) (λ t. absurd (cc (own.0, t))) (λ t. (b, t, own.1)) h)
      (λ h. base_between k bs h parts.1)
      there

  grows : (k : ℕ) (class : List ℕ) (version : ℤ) → has_base k classes target class version ≡ true → has_base (suc k) classes target class version ≡ true
  unfolding has_base
  grows zero class version e = absurd cc
  grows (suc k) class version e =
      any_weaker (λ b. bytes_eq b.name target || has_base k classes target b.name b.version) (λ b. bytes_eq b.name target || has_base (suc k) classes target b.name b.version)
      (λ b h. either (bytes_eq b.name target) (has_base k classes target b.name b.version)
      (λ t. or_left (bytes_eq b.name target) (has_base (suc k) classes target b.name b.version) t)
      (λ t. or_right (bytes_eq b.name target) (has_base (suc k) classes target b.name b.version) (grows k b.name b.version t)) h)
      (body_bases (headed_body classes class version)) e

  -- what no fewer levels find goes through as many classes of the list
  as_many : (k : ℕ) (class : List ℕ) (version : ℤ) → has_base (suc k) classes target class version ≡ true → has_base k classes target class version ≡ false → k ≤ how_many (λ c. has_base (suc k) classes target c.name c.version) classes
  unfolding has_base
  as_many zero class version there gone = omega arith
  as_many (suc k) class version there gone =
      let bases = body_bases (headed_body classes class version) in
      let below = base_between k bases there gone in
      let fewer = as_many k (below.0.name) (below.0.version) below.1 below.2 in
      elim (is_known class version) [
        | inl found ↦
            let test : ClassDef → Bool = λ c. bytes_eq c.name class && int_eq c.version version in
            let c : ClassDef = found.0 in
            let same = and_parts (bytes_eq c.name class) (int_eq c.version version) (find_passes test classes c found.1) in
            let name : c.name ≡ class = same_text c.name class (sym same.0) in
            let its : c.version ≡ version = (Decides-int_eq c.version version).0 same.1 in
            let more = count_found test (λ c. has_base (suc k) classes target c.name c.version) (λ c. has_base (suc (suc k)) classes target c.name c.version) (λ c. grows (suc k) c.name c.version) classes c found.1 (rw (name, its) gone) (rw (name, its) there) in
            omega arith
        | inr shallow ↦ absurd (cc (there, gone, shallow (suc k), shallow k))
      ]

  more_find_none : (k : ℕ) (class : List ℕ) (version : ℤ) → length classes < k → has_base k classes target class version ≡ false → has_base (suc k) classes target class version ≡ false
  more_find_none k class version lt gone =
      elim (has_base (suc k) classes target class version) as (λ b. has_base (suc k) classes target class version ≡ b → b ≡ false) [
        | true ↦ λ there. absurd (omega (arith, as_many k class version there gone, how_many-le-length (λ (c : ClassDef). has_base (suc k) classes target c.name c.version) classes))
        | false ↦ λ there. refl
      ] refl

  stays_none : (d k levels : ℕ) (class : List ℕ) (version : ℤ) → levels ≡ k + d → length classes < k → has_base k classes target class version ≡ false → has_base levels classes target class version ≡ false
  stays_none zero k levels class version e lt gone = let same : levels ≡ k = omega arith in rw same gone
  stays_none (suc d) k levels class version e lt gone = stays_none d (suc k) levels class version (omega arith) (omega arith) (more_find_none k class version lt gone)

  stays_found : (d k levels : ℕ) (class : List ℕ) (version : ℤ) → levels ≡ k + d → has_base k classes target class version ≡ true → has_base levels classes target class version ≡ true
  stays_found zero k levels class version e there = let same : levels ≡ k = omega arith in rw same there
  stays_found (suc d) k levels class version e there = stays_found d (suc k) levels class version (omega arith) (grows k class version there)

  pub no_base_is_deeper : (class : List ℕ) (version : ℤ) (levels : ℕ) → length classes + 1 ≤ levels → has_base levels classes target class version ≡ has_base (length classes + 1) classes target class version
  no_base_is_deeper class version levels le =
      let k = length classes + 1 in
      elim (has_base k classes target class version) as (λ b. has_base k classes target class version ≡ b → has_base levels classes target class version ≡ b) [
        | true ↦ λ there. stays_found (levels - k) k levels class version (omega arith) there
        | false ↦ λ gone. stays_none (levels - k) k levels class version (omega arith) (omega arith) gone
      ] refl

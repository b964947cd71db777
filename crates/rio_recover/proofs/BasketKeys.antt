-- The keys of baskets among the keys of a file's records: none of them is the first, the class list's or an item's, and there is one for
-- each basket.
use Rattle.std.proofs.Common.{◌≡◌, ◌⊎◌, ◌∙◌, inl, inr, ℕ, ◌+◌, ◌<◌, ◌≤◌, Bool, true, false, cond, not, ◌==◌, ◌||◌, ◌&&◌, List, [], ◌∷◌, ◌++◌, codes, length, map, Option, Some, None, refl, sym, ap, subst, arith}
use Rattle.std.proofs.lemmas.{Bool.{and_parts, eq-eqb, eqb-false, eqb-true, ne_eqb, or_parts}, List.{Elements.{All-contains}, Sums.{length-filter, sum_by-append, sum_by-cons}}}
use Rattle.std.specs.{List.{All, Contains, count_by, filter, find, flat_map, list_all, list_any, sum_by}, Int.{cast_unsigned, w32}, Option.{option_map_or}, Str.{bytes_eq}}
use Rattle.rio_key.specs.declared.head.KeyHead.{KeyHead}
use Rattle.rio_tree.specs.{declared.basket_at.BasketAt.{BasketAt}, declared.head.Branch.{Branch}, declared.head.TreeHead.{TreeHead}}
use Rattle.rio_state.specs.{KeyedRecords.{has_class, is_internal}, Trees.{basket_places}}
use Rattle.rio_state.proofs.Members.{In, all_at, contains_in, found, in_either, map_in}
use Rattle.rio_entry.specs.SavedRows.{has_basket, is_basket_key}
use Rattle.rio_recover.specs.{Baskets.{AreOnce, has_baskets}, Keys.{HeadsRise}, Trees.{places_of}, declared.trees.TreeAt.{TreeAt}}

-- ---- keys that rise

late : (p : ℕ) (hs : List KeyHead) (h : KeyHead) → HeadsRise p hs → In h hs → p ≤ h.seek
late p [] h rise i = absurd i
late p (k ∷ hs) h rise (inl same) = omega (arith, ap (λ (x : KeyHead). x.seek) same, rise.0)
late p (k ∷ hs) h rise (inr i) = omega (arith, late (k.seek + 1) hs h rise.1 i, rise.0)

-- no two stand at one place
pub same_key : (p : ℕ) (hs : List KeyHead) (h k : KeyHead) → HeadsRise p hs → In h hs → In k hs → h.seek ≡ k.seek → h ≡ k
same_key p [] h k rise i j e = absurd i
same_key p (x ∷ hs) h k rise (inl a) (inl b) e = sym a ∙ b
same_key p (x ∷ hs) h k rise (inl a) (inr j) e = absurd (omega (arith, late (x.seek + 1) hs k rise.1 j, e, ap (λ (y : KeyHead). y.seek) a))
same_key p (x ∷ hs) h k rise (inr i) (inl b) e = absurd (omega (arith, late (x.seek + 1) hs h rise.1 i, e, ap (λ (y : KeyHead). y.seek) b))
same_key p (x ∷ hs) h k rise (inr i) (inr j) e = same_key (x.seek + 1) hs h k rise.1 i j e

many_behind : (place p : ℕ) (hs : List KeyHead) → place < p → HeadsRise p hs → ◌≡◌ {A = ℕ} (count_by (λ k. k.seek == place) hs) 0
many_behind place p [] lt rise = refl
many_behind place p (k ∷ hs) lt rise =
    let here : ◌≡◌ {A = ℕ} (cond (k.seek == place) 1 0) 0 = ap (λ (b : Bool). cond b 1 0) (ne_eqb k.seek place (omega (arith, lt, rise.0))) in
    omega (arith, here, many_behind place (k.seek + 1) hs (omega (arith, lt, rise.0)) rise.1, sum_by-cons (λ (x : KeyHead). cond (x.seek == place) 1 0) k hs)

pub one_there : (p : ℕ) (hs : List KeyHead) (h : KeyHead) → HeadsRise p hs → In h hs → ◌≡◌ {A = ℕ} (count_by (λ k. k.seek == h.seek) hs) 1
one_there p [] h rise i = absurd i
one_there p (k ∷ hs) h rise (inl same) =
    let at : k.seek ≡ h.seek = ap (λ (x : KeyHead). x.seek) same in
    let here : ◌≡◌ {A = ℕ} (cond (k.seek == h.seek) 1 0) 1 = ap (λ (b : Bool). cond b 1 0) (eq-eqb k.seek h.seek at) in
    omega (arith, here, many_behind h.seek (k.seek + 1) hs (omega (arith, at)) rise.1, sum_by-cons (λ (x : KeyHead). cond (x.seek == h.seek) 1 0) k hs)
one_there p (k ∷ hs) h rise (inr i) =
    let far = late (k.seek + 1) hs h rise.1 i in
    let here : ◌≡◌ {A = ℕ} (cond (k.seek == h.seek) 1 0) 0 = ap (λ (b : Bool). cond b 1 0) (ne_eqb k.seek h.seek (omega (arith, far))) in
    omega (arith, here, one_there (k.seek + 1) hs h rise.1 i, sum_by-cons (λ (x : KeyHead). cond (x.seek == h.seek) 1 0) k hs)

-- ---- the key of a basket

-- one that stands at the place, of the class of baskets
pub record HasBasketKey (heads : List KeyHead) (place : ℕ) : Type 0 where
  pub key : KeyHead
  pub among : In key heads
  pub at : key.seek ≡ place
  pub class : has_class (codes "TBasket") key ≡ true

key_of : (heads : List KeyHead) (at : BasketAt) → has_basket heads at ≡ true → HasBasketKey heads at.seek
key_of heads at e = by (find (λ h. h.seek == at.seek) heads) refl e
  where
    class_of : (h : KeyHead) → is_basket_key at h ≡ true → has_class (codes "TBasket") h ≡ true
    class_of h f =
        let long = cast_unsigned w32 h.nbytes == at.bytes in
        (and_parts (has_class (codes "TBasket") h) long (and_parts (h.seek == at.seek) (has_class (codes "TBasket") h && long) f).1).0

    by : (o : Option KeyHead) → find (λ h. h.seek == at.seek) heads ≡ o → option_map_or (is_basket_key at) o false ≡ true → HasBasketKey heads at.seek
    by None is f = absurd cc
    by (Some h) is f =
        let there = found (λ k. k.seek == at.seek) h heads is in
        record { key = h; among = there.among; at = eqb-true h.seek at.seek there.passes; class = class_of h f }

in_flat : {A : Type 0} (f : A → List ℕ) (p : ℕ) (xs : List A) → In p (flat_map f xs) → (x : A) × In x xs × In p (f x)
in_flat f p [] i = absurd i
in_flat f p (x ∷ xs) i = by (λ j. in_flat f p xs j) (in_either p (f x) (flat_map f xs) i)
  where
    by : (In p (flat_map f xs) → (y : _) × In y xs × In p (f y)) → (In p (f x)) ⊎ In p (flat_map f xs) → (y : _) × In y (x ∷ xs) × In p (f y)
    by rest (inl j) = (x, inl refl, j)
    by rest (inr j) = let r = rest j in (r.0, inr r.1, r.2)

head_key : (heads : List KeyHead) (head : TreeHead) (p : ℕ) → has_baskets heads head ≡ true → In p (basket_places head) → HasBasketKey heads p
head_key heads head p all i =
    let x = in_flat (λ (c : Branch). map (λ (at : BasketAt). at.seek) c.baskets) p head.branches i in
    let y = map_in (λ (at : BasketAt). at.seek) p x.0.baskets x.2 in
    let one = all_at (λ (c : Branch). list_all (has_basket heads) c.baskets) x.0 head.branches all x.1 in
    subst (HasBasketKey heads) y.2 (key_of heads y.0 (all_at (has_basket heads) y.0 x.0.baskets one y.1))

pub basket_key : (heads : List KeyHead) (trees : List TreeAt) (p : ℕ) → All (λ t. has_baskets heads t.head ≡ true) trees → In p (places_of trees) → HasBasketKey heads p
basket_key heads trees p all i =
    let x = in_flat (λ (u : TreeAt). basket_places u.head) p trees i in
    head_key heads x.0.head p (All-contains (λ u. has_baskets heads u.head ≡ true) trees x.0 all (contains_in x.0 trees x.1)) x.2

-- ---- how many there are

turn : (p q : ℕ) → (p == q) ≡ (q == p)
turn p q = by (p == q) refl
  where
    by : (b : Bool) → (p == q) ≡ b → b ≡ (q == p)
    by true e = sym (eq-eqb q p (sym (eqb-true p q e)))
    by false e = sym (ne_eqb q p (λ same. let f = eqb-false p q e in f (sym same)))

swapped : {A : Type 0} (f : A → ℕ → ℕ) (xs : List A) (ps : List ℕ) → sum_by (λ x. sum_by (f x) ps) xs ≡ sum_by (λ p. sum_by (λ x. f x p) xs) ps
swapped f [] ps = none ps
  where
    none : (qs : List ℕ) → 0 ≡ sum_by (λ p. 0) qs
    none [] = refl
    none (q ∷ qs) = omega (arith, none qs, sum_by-cons (λ (p : ℕ). 0) q qs)
swapped f (x ∷ xs) ps =
    omega (arith, sum_by-cons (λ y. sum_by (f y) ps) x xs, swapped f xs ps, both ps)
  where
    both : (qs : List ℕ) → sum_by (λ p. sum_by (λ y. f y p) (x ∷ xs)) qs ≡ sum_by (f x) qs + sum_by (λ p. sum_by (λ y. f y p) xs) qs
    both [] = refl
    both (q ∷ qs) =
        omega (
          arith,
          both qs,
          sum_by-cons (λ p. sum_by (λ y. f y p) (x ∷ xs)) q qs,
          sum_by-cons (λ y. f y q) x xs,
          sum_by-cons (f x) q qs,
          sum_by-cons (λ p. sum_by (λ y. f y p) xs) q qs,
        )

-- where no place stands twice, it is there as often as it is counted
any_count : (p : ℕ) (places : List ℕ) → AreOnce places → ◌≡◌ {A = ℕ} (cond (list_any (λ q. q == p) places) 1 0) (count_by (λ q. p == q) places)
any_count p places once = by (list_any (λ q. q == p) places) refl
  where
    none_of : (ps : List ℕ) → list_any (λ q. q == p) ps ≡ false → ◌≡◌ {A = ℕ} (count_by (λ q. p == q) ps) 0
    none_of [] e = refl
    none_of (q ∷ ps) e =
        let parts = or_parts (q == p) (list_any (λ r. r == p) ps) e in
        let here : ◌≡◌ {A = ℕ} (cond (p == q) 1 0) 0 = ap (λ (b : Bool). cond b 1 0) (turn p q ∙ parts.0) in
        omega (arith, here, none_of ps parts.1, sum_by-cons (λ (r : ℕ). cond (p == r) 1 0) q ps)

    some_of : (ps : List ℕ) → list_any (λ q. q == p) ps ≡ true → 1 ≤ count_by (λ q. p == q) ps
    some_of [] e = absurd cc
    some_of (q ∷ ps) e = at (λ f. some_of ps f) (q == p) refl e
      where
        at : (list_any (λ r. r == p) ps ≡ true → 1 ≤ count_by (λ r. p == r) ps) → (b : Bool) → (q == p) ≡ b → (b || list_any (λ r. r == p) ps) ≡ true → 1 ≤ count_by (λ r. p == r) (q ∷ ps)
        at rest true is f =
            let here : ◌≡◌ {A = ℕ} (cond (p == q) 1 0) 1 = ap (λ (b : Bool). cond b 1 0) (turn p q ∙ is) in
            omega (arith, here, sum_by-cons (λ (r : ℕ). cond (p == r) 1 0) q ps)
        at rest false is f = omega (arith, rest f, sum_by-cons (λ (r : ℕ). cond (p == r) 1 0) q ps)

    by : (b : Bool) → list_any (λ q. q == p) places ≡ b → ◌≡◌ {A = ℕ} (cond b 1 0) (count_by (λ q. p == q) places)
    by true e = omega (arith, some_of places e, once p)
    by false e = omega (arith, none_of places e)

module _ (heads : List KeyHead) (rise : HeadsRise 100 heads) where
  each_once : (places : List ℕ) → ((p : ℕ) → In p places → HasBasketKey heads p) → sum_by (λ p. count_by (λ h. h.seek == p) heads) places ≡ length places
  each_once [] keys = refl
  each_once (p ∷ places) keys =
      let k = keys p (inl refl) in
      let here : ◌≡◌ {A = ℕ} (count_by (λ h. h.seek == p) heads) 1 = subst (λ (q : ℕ). ◌≡◌ {A = ℕ} (count_by (λ h. h.seek == q) heads) 1) k.at (one_there 100 heads k.key rise k.among) in
      omega (arith, here, each_once places (λ q i. keys q (inr i)), sum_by-cons (λ (q : ℕ). count_by (λ (h : KeyHead). h.seek == q) heads) p places)

  -- as many keys of baskets as there are baskets
  pub baskets_count : (places : List ℕ) → AreOnce places → ((p : ℕ) → In p places → HasBasketKey heads p) → length (filter (λ h. list_any (λ q. q == h.seek) places) heads) ≡ length places
  baskets_count places once keys =
      length-filter (λ h. list_any (λ q. q == h.seek) places) heads
      ∙ each heads
      ∙ swapped (λ (h : KeyHead) (q : ℕ). cond (h.seek == q) 1 0) heads places
      ∙ each_once places keys
    where
      each : (hs : List KeyHead) → count_by (λ h. list_any (λ q. q == h.seek) places) hs ≡ sum_by (λ h. sum_by (λ q. cond (h.seek == q) 1 0) places) hs
      each [] = refl
      each (h ∷ hs) =
          omega (
            arith,
            any_count h.seek places once,
            each hs,
            sum_by-cons (λ (k : KeyHead). cond (list_any (λ q. q == k.seek) places) 1 0) h hs,
            sum_by-cons (λ (k : KeyHead). sum_by (λ q. cond (k.seek == q) 1 0) places) h hs,
          )

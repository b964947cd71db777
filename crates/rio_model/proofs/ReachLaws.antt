-- A name reaches another within so many steps exactly where there is a way, which needn't meet a class twice.
use Rattle.std.proofs.Common.{◌≡◌, ◌≤◌, ◌<◌, ℕ, zero, suc, List, [], ◌∷◌, length, map, Bool, true, false, ◌||◌, ◌&&◌, inl, inr, refl, sym, subst, arith}
use Rattle.std.proofs.{lemmas.Bool.{and_from, and_parts, cases_Bool, or_left, or_parts, or_right}, lemmas.Cmp.{nat_list_eq_equiv}, lemmas.List.{length-map}}
use Rattle.std.proofs.{lemmas.Map.Keys.{IsDistinct-cons, IsDistinct-tail}, lemmas.Map.Made.{length-le_from_is_member}, lemmas.Slice.Eq.{bytes_eq-Decides}}
use Rattle.std.specs.{List.{AllByRecursion, IsDistinct, list_any}, Str.{bytes_eq}}
use Rattle.rio_num.proofs.Cases.{either}
use Rattle.rio_num.specs.Word.{is_among}
use Rattle.rio_format.specs.{declared.class.Base.{Base}, declared.class.ClassDef.{ClassDef}, declared.class.Member.{Member}, declared.kind.Kind.{Kind, TheVariants.{Inline}}}
use Rattle.rio_model.specs.Declaring.{IsWay, Reaches, any_inline, any_within, has_within, holds, is_inline, reaches}

-- ---- tests

-- ---- what a class has within

module _ (test : List ℕ → Bool) where
  base_some : (bs : List Base) → list_any (λ b. test b.name) bs ≡ true → (n : List ℕ) × (list_any (λ b. bytes_eq n b.name) bs ≡ true) × (test n ≡ true)
  base_some [] e = absurd cc
  base_some (b ∷ bs) e =
      either (test b.name) (list_any (λ b. test b.name) bs)
      (λ t. (b.name, or_left _ _ ((bytes_eq-Decides b.name b.name).1 refl), t))
      (λ t. let rest = base_some bs t in (rest.0, or_right (bytes_eq rest.0 b.name) _ rest.1, rest.2))
      e

  inline_some : (kind : Kind) → any_inline test kind ≡ true → (n : List ℕ) × (is_inline n kind ≡ true) × (test n ≡ true)
  inline_some (Inline class) e = (class, (bytes_eq-Decides class class).1 refl, e)
  inline_some other e = absurd cc

  member_some : (ms : List Member) → list_any (λ m. any_inline test m.kind) ms ≡ true → (n : List ℕ) × (list_any (λ m. is_inline n m.kind) ms ≡ true) × (test n ≡ true)
  member_some [] e = absurd cc
  member_some (m ∷ ms) e =
      either (any_inline test m.kind) (list_any (λ m. any_inline test m.kind) ms)
      (λ t. let own = inline_some m.kind t in (own.0, or_left _ _ own.1, own.2))
      (λ t. let rest = member_some ms t in (rest.0, or_right (is_inline rest.0 m.kind) _ rest.1, rest.2))
      e

  within_some : (c : ClassDef) → any_within test c ≡ true → (n : List ℕ) × (has_within c n ≡ true) × (test n ≡ true)
  within_some c e =
      either (list_any (λ b. test b.name) c.bases) (list_any (λ m. any_inline test m.kind) c.members)
      (λ t. let own = base_some c.bases t in (own.0, or_left _ _ own.1, own.2))
      (λ t. let own = member_some c.members t in (own.0, or_right (list_any (λ b. bytes_eq own.0 b.name) c.bases) _ own.1, own.2))
      e

  -- a class of the name has a name within that passes
  held_some : (cs : List ClassDef) (a : List ℕ) → list_any (λ c. bytes_eq c.name a && any_within test c) cs ≡ true → (n : List ℕ) × (holds cs a n ≡ true) × (test n ≡ true)
  held_some [] a e = absurd cc
  held_some (c ∷ cs) a e =
      either (bytes_eq c.name a && any_within test c) (list_any (λ c. bytes_eq c.name a && any_within test c) cs)
      (λ t.
      let parts = and_parts (bytes_eq c.name a) (any_within test c) t in
      let own = within_some c parts.1 in
      (own.0, or_left _ _ (and_from _ _ parts.0 own.1), own.2))
      (λ t. let rest = held_some cs a t in (rest.0, or_right (bytes_eq c.name a && has_within c rest.0) _ rest.1, rest.2))
      e

  -- and the other way round, of one name
  module _ (n : List ℕ) (passes : test n ≡ true) where
    for_same : (m : List ℕ) → bytes_eq n m ≡ true → test m ≡ true
    for_same m e = subst (λ (k : List ℕ). test k ≡ true) ((bytes_eq-Decides n m).0 e) passes

    some_base : (bs : List Base) → list_any (λ b. bytes_eq n b.name) bs ≡ true → list_any (λ b. test b.name) bs ≡ true
    some_base [] e = absurd cc
    some_base (b ∷ bs) e =
        either (bytes_eq n b.name) (list_any (λ b. bytes_eq n b.name) bs)
        (λ t. or_left _ _ (for_same b.name t))
        (λ t. or_right (test b.name) _ (some_base bs t))
        e

    some_inline : (kind : Kind) → is_inline n kind ≡ true → any_inline test kind ≡ true
    some_inline (Inline class) e = for_same class e
    some_inline other e = absurd cc

    some_member : (ms : List Member) → list_any (λ m. is_inline n m.kind) ms ≡ true → list_any (λ m. any_inline test m.kind) ms ≡ true
    some_member [] e = absurd cc
    some_member (m ∷ ms) e =
        either (is_inline n m.kind) (list_any (λ m. is_inline n m.kind) ms)
        (λ t. or_left _ _ (some_inline m.kind t))
        (λ t. or_right (any_inline test m.kind) _ (some_member ms t))
        e

    some_within : (c : ClassDef) → has_within c n ≡ true → any_within test c ≡ true
    some_within c e =
        either (list_any (λ b. bytes_eq n b.name) c.bases) (list_any (λ m. is_inline n m.kind) c.members)
        (λ t. or_left _ _ (some_base c.bases t))
        (λ t. or_right (list_any (λ b. test b.name) c.bases) _ (some_member c.members t))
        e

    some_held : (cs : List ClassDef) (a : List ℕ) → holds cs a n ≡ true → list_any (λ c. bytes_eq c.name a && any_within test c) cs ≡ true
    some_held [] a e = absurd cc
    some_held (c ∷ cs) a e =
        either (bytes_eq c.name a && has_within c n) (holds cs a n)
        (λ t. let parts = and_parts (bytes_eq c.name a) (has_within c n) t in or_left _ _ (and_from _ _ parts.0 (some_within c parts.1)))
        (λ t. or_right (bytes_eq c.name a && any_within test c) _ (some_held cs a t))
        e

-- ---- ways

names_of : List ClassDef → List (List ℕ)
names_of classes = map (λ c. c.name) classes

-- a name that holds one is that of a class
holder_is_named : (cs : List ClassDef) (a n : List ℕ) → holds cs a n ≡ true → is_among (names_of cs) a ≡ true
unfolding names_of
holder_is_named [] a n e = absurd cc
holder_is_named (c ∷ cs) a n e =
    either (bytes_eq c.name a && has_within c n) (holds cs a n)
    (λ t. let is = (bytes_eq-Decides c.name a).0 (and_parts (bytes_eq c.name a) (has_within c n) t).0 in or_left _ _ (subst (λ (m : List ℕ). bytes_eq a m ≡ true) (sym is) ((bytes_eq-Decides a a).1 refl)))
    (λ t. or_right (bytes_eq a c.name) _ (holder_is_named cs a n t))
    e

none_among : (names : List (List ℕ)) (a : List ℕ) → is_among names a ≡ false → AllByRecursion (λ n. bytes_eq a n ≡ false) names
none_among [] a e = tt
none_among (n ∷ ns) a e = ((or_parts (bytes_eq a n) (list_any (bytes_eq a) ns) e).0, none_among ns a ((or_parts (bytes_eq a n) (list_any (bytes_eq a) ns) e).1))

module _ (classes : List ClassDef) where
  found_way : (levels : ℕ) (a b : List ℕ) → reaches levels classes a b ≡ true → Reaches classes a b
  unfolding reaches
  found_way zero a b e = absurd cc
  found_way (suc levels) a b e =
      let next = held_some (λ n. bytes_eq b n || reaches levels classes n b) classes a e in
      either (bytes_eq b next.0) (reaches levels classes next.0 b)
      (λ t. ([], subst (λ (n : List ℕ). holds classes a n ≡ true) (sym ((bytes_eq-Decides b next.0).0 t)) next.1))
      (λ t. let way = found_way levels next.0 b t in (next.0 ∷ way.0, (next.1, way.1)))
      next.2

  way_is_found : (levels : ℕ) (a b : List ℕ) (between : List (List ℕ)) → length between < levels → IsWay classes a between b → reaches levels classes a b ≡ true
  unfolding reaches
  way_is_found zero a b between few way = absurd (omega arith)
  way_is_found (suc levels) a b [] few way =
      some_held (λ n. bytes_eq b n || reaches levels classes n b) b (or_left _ _ ((bytes_eq-Decides b b).1 refl)) classes a way
  way_is_found (suc levels) a b (n ∷ ns) few way =
      some_held (λ n. bytes_eq b n || reaches levels classes n b) n (or_right (bytes_eq b n) _ (way_is_found levels n b ns (omega arith) way.1)) classes a way.0

  -- a way from the name on which no name stands twice
  Straight : List ℕ → List ℕ → Type 0
  Straight a b = (between : List (List ℕ)) × IsWay classes a between b × IsDistinct bytes_eq (a ∷ between)

  -- the rest of a straight way, from a name on it
  rest_of : (a b n : List ℕ) (between : List (List ℕ)) → IsWay classes n between b → IsDistinct bytes_eq (n ∷ between) → is_among (n ∷ between) a ≡ true → Straight a b
  unfolding Straight
  rest_of a b n [] way distinct there =
      either (bytes_eq a n) false
      (λ t. subst (λ (m : List ℕ). Straight m b) (sym ((bytes_eq-Decides a n).0 t)) ([], way, distinct))
      (λ t. absurd cc)
      there
  rest_of a b n (m ∷ ms) way distinct there =
      either (bytes_eq a n) (is_among (m ∷ ms) a)
      (λ t. subst (λ (m : List ℕ). Straight m b) (sym ((bytes_eq-Decides a n).0 t)) (m ∷ ms, way, distinct))
      (λ t. rest_of a b m ms way.1 (IsDistinct-tail bytes_eq n (m ∷ ms) distinct) t)
      there

  one_distinct : (a : List ℕ) → IsDistinct bytes_eq (a ∷ [])
  unfolding IsDistinct
  one_distinct a = (tt, tt)

  straight : (a b : List ℕ) (between : List (List ℕ)) → IsWay classes a between b → Straight a b
  unfolding Straight
  straight a b [] way = ([], way, one_distinct a)
  straight a b (n ∷ ns) way = joined (straight n b ns way.1)
    where
      joined : Straight n b → Straight a b
      joined rest =
          elim (cases_Bool (is_among (n ∷ rest.0) a)) [
            | inl there ↦ rest_of a b n rest.0 rest.1 rest.2 there
            | inr new ↦ (n ∷ rest.0, (way.0, rest.1), IsDistinct-cons bytes_eq a (n ∷ rest.0) (none_among (n ∷ rest.0) a new) rest.2)
          ]

  -- all names that are left on a way are those of classes
  way_is_named : (a b : List ℕ) (between : List (List ℕ)) → IsWay classes a between b → (q : List ℕ) → is_among (a ∷ between) q ≡ true → is_among (names_of classes) q ≡ true
  way_is_named a b [] way q e =
      either (bytes_eq q a) false
      (λ t. subst (λ (m : List ℕ). is_among (names_of classes) m ≡ true) (sym ((bytes_eq-Decides q a).0 t)) (holder_is_named classes a b way))
      (λ t. absurd cc)
      e
  way_is_named a b (n ∷ ns) way q e =
      either (bytes_eq q a) (is_among (n ∷ ns) q)
      (λ t. subst (λ (m : List ℕ). is_among (names_of classes) m ≡ true) (sym ((bytes_eq-Decides q a).0 t)) (holder_is_named classes a n way.0))
      (λ t. way_is_named n b ns way.1 q t)
      e

  few_steps : (a b : List ℕ) (between : List (List ℕ)) → IsWay classes a between b → IsDistinct bytes_eq (a ∷ between) → length between < length classes
  unfolding names_of
  few_steps a b between way distinct =
      let named = way_is_named a b between way in
      let bound : length (a ∷ between) ≤ length (names_of classes) = length-le_from_is_member nat_list_eq_equiv (a ∷ between) (names_of classes) distinct named in
      let as_many : length (names_of classes) ≡ length classes = length-map classes (λ c. c.name) in
      omega (arith, bound, as_many)

  -- a name reaches another within as many steps as there are classes exactly where there is a way
  pub reaching_is_a_way : (levels : ℕ) (a b : List ℕ) → length classes ≤ levels → (reaches levels classes a b ≡ true → Reaches classes a b) × (Reaches classes a b → reaches levels classes a b ≡ true)
  unfolding Straight
  reaching_is_a_way levels a b enough = (
    found_way levels a b,
    λ way.
        let short = straight a b way.0 way.1 in
        let few = few_steps a b short.0 short.1 short.2 in
        way_is_found levels a b short.0 (omega (arith, few)) short.1,
  )

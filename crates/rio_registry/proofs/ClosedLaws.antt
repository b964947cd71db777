-- What classes hold is declared, so a name that isn't declared is held by a new class alone.
use Rattle.std.proofs.Common.{◌≡◌, ℕ, zero, suc, ◌+◌, List, [], ◌∷◌, ◌++◌, length, map, take, Bool, true, false, not, ◌||◌, ◌&&◌, Option, Some, None, if◌then◌else◌, ◌⊎◌, inl, inr, ⊎_elim, refl, sym, ap, subst, ◌∙◌, arith, length-append}
use Rattle.std.proofs.{lemmas.Bool.{and_parts, or_left, or_right}, lemmas.Cmp.{nat_list_eq_equiv}, lemmas.List.Folds.{list_any-append}}
use Rattle.std.proofs.lemmas.Slice.Eq.{bytes_eq-Decides}
use Rattle.std.specs.{Prelude.{is_some}, List.{list_all, list_any}, Option.{option_or}, Str.{bytes_eq}}
use Rattle.rio_num.proofs.Cases.{both_or_none, either}
use Rattle.rio_format.specs.{Classes.{find_in}, declared.class.Base.{Base}, declared.class.ClassDef.{ClassDef}, declared.class.Member.{Member}, declared.kind.Kind.{Kind, TheVariants.{Inline}}}
use Rattle.rio_model.specs.Declaring.{IsClosed, IsWay, Reaches, base_declared, declare_fault, declared, has_within, holds, holds_itself, is_built_in_base, is_declared, is_inline, is_known, knows_all, knows_base, knows_kind, limit_fault}
use Rattle.rio_model.specs.declared.declare.DeclareFault.{DeclareFault, TheVariants.{HoldsItself, NoSuchClass, SameVersion}}
use Rattle.rio_model.proofs.ReachLaws.{reaching_is_a_way}
use Rattle.rio_registry.specs.Fronts.{AreClosed}

-- ---- tests

-- ---- one class more

-- it may stand as a base, or it is declared
may_be_held : List ClassDef → List ℕ → Bool
may_be_held classes name = is_declared classes name || is_built_in_base name

module _ (cs : List ClassDef) (c : ClassDef) where
  base_known : (bs : List Base) (n : List ℕ) → list_all (knows_base cs c) bs ≡ true → list_any (λ b. bytes_eq n b.name) bs ≡ true → (is_known cs c n || is_built_in_base n) ≡ true
  base_known [] n known e = absurd cc
  base_known (b ∷ bs) n known e =
      let parts = and_parts (knows_base cs c b) (list_all (knows_base cs c) bs) known in
      either (bytes_eq n b.name) (list_any (λ b. bytes_eq n b.name) bs)
      (λ t. subst (λ (m : List ℕ). (is_known cs c m || is_built_in_base m) ≡ true) (sym ((bytes_eq-Decides n b.name).0 t)) parts.0)
      (λ t. base_known bs n parts.1 t)
      e

  kind_known : (kind : Kind) (n : List ℕ) → knows_kind cs c kind ≡ true → is_inline n kind ≡ true → is_known cs c n ≡ true
  kind_known (Inline class) n known e = subst (λ (m : List ℕ). is_known cs c m ≡ true) (sym ((bytes_eq-Decides n class).0 e)) known
  kind_known other n known e = absurd cc

  member_known : (ms : List Member) (n : List ℕ) → list_all (λ m. knows_kind cs c m.kind) ms ≡ true → list_any (λ m. is_inline n m.kind) ms ≡ true → is_known cs c n ≡ true
  member_known [] n known e = absurd cc
  member_known (m ∷ ms) n known e =
      let parts = and_parts (knows_kind cs c m.kind) (list_all (λ m. knows_kind cs c m.kind) ms) known in
      either (is_inline n m.kind) (list_any (λ m. is_inline n m.kind) ms)
      (λ t. kind_known m.kind n parts.0 t)
      (λ t. member_known ms n parts.1 t)
      e

  within_known : (n : List ℕ) → knows_all cs c ≡ true → has_within c n ≡ true → (is_known cs c n || is_built_in_base n) ≡ true
  within_known n known e =
      let parts = and_parts (list_all (knows_base cs c) c.bases) (list_all (λ m. knows_kind cs c m.kind) c.members) known in
      either (list_any (λ b. bytes_eq n b.name) c.bases) (list_any (λ m. is_inline n m.kind) c.members)
      (λ t. base_known c.bases n parts.0 t)
      (λ t. or_left _ _ (member_known c.members n parts.1 t))
      e

  bases_named : (bs : List Base) (n : List ℕ) → list_any (λ b. bytes_eq n b.name) (map (base_declared cs) bs) ≡ list_any (λ b. bytes_eq n b.name) bs
  bases_named [] n = refl
  bases_named (b ∷ bs) n = ap (λ (t : Bool). bytes_eq n b.name || t) (bases_named bs n)

  same_within : (n : List ℕ) → has_within (declared cs c) n ≡ has_within c n
  same_within n = ap (λ (t : Bool). t || list_any (λ m. is_inline n m.kind) c.members) (bases_named c.bases n)

  declared_more : (n : List ℕ) → is_declared (cs ++ declared cs c ∷ []) n ≡ (is_declared cs n || (bytes_eq c.name n || false))
  declared_more n = list_any-append (λ d. bytes_eq d.name n) cs (declared cs c ∷ [])

  still_held : (n : List ℕ) → may_be_held cs n ≡ true → may_be_held (cs ++ declared cs c ∷ []) n ≡ true
  unfolding may_be_held
  still_held n e =
      either (is_declared cs n) (is_built_in_base n)
      (λ t. or_left _ _ (declared_more n ∙ or_left _ _ t))
      (λ t. or_right (is_declared (cs ++ declared cs c ∷ []) n) _ t)
      e

  known_held : (n : List ℕ) → (is_known cs c n || is_built_in_base n) ≡ true → may_be_held (cs ++ declared cs c ∷ []) n ≡ true
  unfolding may_be_held
  known_held n e =
      either (is_known cs c n) (is_built_in_base n)
      (λ t. either (is_declared cs n) (bytes_eq c.name n)
      (λ h. or_left _ _ (declared_more n ∙ or_left _ _ h))
      (λ h. or_left _ _ (declared_more n ∙ or_right (is_declared cs n) _ (or_left _ _ h)))
      t)
      (λ t. or_right (is_declared (cs ++ declared cs c ∷ []) n) _ t)
      e

  closed_more : IsClosed cs → knows_all cs c ≡ true → IsClosed (cs ++ declared cs c ∷ [])
  unfolding may_be_held
  closed_more closed known = λ outer inner h.
      either (holds cs outer inner) ((bytes_eq c.name outer && has_within (declared cs c) inner) || false)
      (λ t. still_held inner (closed outer inner t))
      (λ t. either (bytes_eq c.name outer && has_within (declared cs c) inner) false
      (λ e. known_held inner (within_known inner known (sym (same_within inner) ∙ (and_parts (bytes_eq c.name outer) (has_within (declared cs c) inner) e).1)))
      (λ e. absurd cc)
      t)
      (sym (list_any-append (λ d. bytes_eq d.name outer && has_within d inner) cs (declared cs c ∷ [])) ∙ h)

-- ---- fronts

take_nil : (k : ℕ) → take {A = ClassDef} k [] ≡ []
take_nil zero = refl
take_nil (suc k) = refl

take_zero : (cs : List ClassDef) → take 0 cs ≡ []
take_zero [] = refl
take_zero (c ∷ cs) = refl

take_front : (cs : List ClassDef) (c : ClassDef) (k : ℕ) → (take k (cs ++ c ∷ []) ≡ take k cs) ⊎ (take k (cs ++ c ∷ []) ≡ cs ++ c ∷ [])
take_front [] c zero = inl refl
take_front [] c (suc k) = inr (ap (λ (xs : List ClassDef). c ∷ xs) (take_nil k))
take_front (d ∷ cs) c zero = inl refl
take_front (d ∷ cs) c (suc k) = ⊎_elim (λ e. inl (ap (λ (xs : List ClassDef). d ∷ xs) e)) (λ e. inr (ap (λ (xs : List ClassDef). d ∷ xs) e)) (take_front cs c k)

take_twice : (k n : ℕ) (cs : List ClassDef) → (j : ℕ) × (take k (take n cs) ≡ take j cs)
take_twice k n [] = (0, ap (take k) (take_nil n) ∙ take_nil k ∙ sym (take_nil 0))
take_twice zero n (c ∷ cs) = (0, take_zero (take n (c ∷ cs)) ∙ sym (take_zero (c ∷ cs)))
take_twice (suc k) zero (c ∷ cs) = (0, refl)
take_twice (suc k) (suc n) (c ∷ cs) = let rest = take_twice k n cs in (suc rest.0, ap (λ (xs : List ClassDef). c ∷ xs) rest.1)

whole : (cs : List ClassDef) → take (length cs) cs ≡ cs
whole [] = refl
whole (c ∷ cs) = ap (λ (xs : List ClassDef). c ∷ xs) (whole cs)

pub all_closed : (cs : List ClassDef) → AreClosed cs → IsClosed cs
all_closed cs closed = subst (λ (xs : List ClassDef). IsClosed xs) (whole cs) (closed (length cs))

pub none_closed : AreClosed []
none_closed = λ k. subst (λ (xs : List ClassDef). IsClosed xs) (sym (take_nil k)) (λ outer inner h. absurd cc)

pub closed_push : (cs : List ClassDef) (c : ClassDef) → AreClosed cs → knows_all cs c ≡ true → AreClosed (cs ++ declared cs c ∷ [])
closed_push cs c closed known = λ k.
    elim (take_front cs (declared cs c) k) [
      | inl e ↦ subst (λ (xs : List ClassDef). IsClosed xs) (sym e) (closed k)
      | inr e ↦ subst (λ (xs : List ClassDef). IsClosed xs) (sym e) (closed_more cs c (all_closed cs closed) known)
    ]

pub closed_front : (cs : List ClassDef) (n : ℕ) → AreClosed cs → AreClosed (take n cs)
closed_front cs n closed = λ k. let short = take_twice k n cs in subst (λ (xs : List ClassDef). IsClosed xs) (sym short.1) (closed short.0)

known_by : (b : Bool) (rest limit : Option DeclareFault) → option_or (if not b then Some NoSuchClass else rest) limit ≡ None → b ≡ true
known_by true rest limit e = refl
known_by false rest limit e = absurd cc

-- where a declaration has no fault, what the class names is known
pub no_fault_known : (cs : List ClassDef) (c : ClassDef) → declare_fault cs c ≡ None → knows_all cs c ≡ true
no_fault_known cs c e =
    known_by (knows_all cs c)
    (if is_some (find_in cs c.name c.version) then Some SameVersion else if holds_itself cs c then Some HoldsItself else None)
    (limit_fault cs) e

-- ---- a new name

module _ (cs : List ClassDef) (class : ClassDef) where
  last_step : (a b : List ℕ) (between : List (List ℕ)) → IsWay (cs ++ class ∷ []) a between b → (n : List ℕ) × (holds (cs ++ class ∷ []) n b ≡ true)
  last_step a b [] way = (a, way)
  last_step a b (n ∷ ns) way = last_step n b ns way.1

  own_holds : (b : List ℕ) → has_within class b ≡ true → holds (cs ++ class ∷ []) class.name b ≡ true
  own_holds b h =
      list_any-append (λ c. bytes_eq c.name class.name && has_within c b) cs (class ∷ [])
      ∙ or_right (holds cs class.name b) _ (or_left (bytes_eq class.name class.name && has_within class b) _ (rw (nat_list_eq_equiv.refl class.name, h) refl))

  pub tested : (b : Bool) → (b ≡ true → Reaches (cs ++ class ∷ []) class.name class.name) → (Reaches (cs ++ class ∷ []) class.name class.name → b ≡ true) → b ≡ holds_itself cs class
  tested b there back =
      let law = reaching_is_a_way (cs ++ class ∷ []) (length cs + 1) class.name class.name (omega (arith, length-append cs (class ∷ []))) in
      both_or_none b (holds_itself cs class) (λ e. law.1 (there e)) (λ e. back (law.0 e))

  -- a name that no declared class may hold is reached in one step or not at all
  pub new_name : IsClosed cs → (is_declared cs class.name || is_built_in_base class.name) ≡ false → has_within class class.name ≡ holds_itself cs class
  new_name closed apart =
      tested (has_within class class.name)
      (λ e. ([], own_holds class.name e))
      (λ way.
      let step = last_step class.name class.name way.0 way.1 in
      either (holds cs step.0 class.name) ((bytes_eq class.name step.0 && has_within class class.name) || false)
      (λ t. let clash : true ≡ false = sym (closed step.0 class.name t) ∙ apart in absurd (cc clash))
      (λ t. either (bytes_eq class.name step.0 && has_within class class.name) false
      (λ e. (and_parts (bytes_eq class.name step.0) (has_within class class.name) e).1)
      (λ e. absurd cc)
      t)
      (sym (list_any-append (λ c. bytes_eq c.name step.0 && has_within c class.name) cs (class ∷ [])) ∙ step.1))

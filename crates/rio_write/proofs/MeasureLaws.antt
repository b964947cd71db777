-- How long single things are that are written.
use Rattle.std.proofs.Common.{◌≡◌, ◌<◌, ◌≤◌, ◌^◌, ◌+◌, ◌-◌, ℕ, Bool, true, false, cond, ◌||◌, eqb, is_some, List, [], ◌∷◌, ◌++◌, length, min, nat_eq, Option, Some, None, refl, sym, ap, subst, ◌∙◌, arith}
use Rattle.std.proofs.{lemmas.Bool.{ne_eqb}, lemmas.List.{length-append}}
use Rattle.std.specs.{List.{find, list_any}, Str.{bytes_eq}}
use Rattle.byteorder.specs.Endian.{big_bytes}
use Rattle.indexmap.specs.IndexMap.{insert_entry}
use Rattle.rio_format.specs.{ReaderState.{WordsMet}, Writer.{class_by, class_bytes}, Written.{just, reference_bytes}}
use Rattle.rio_write.specs.Measuring.{AreBelow, FollowsWords, Grows, Measured, longer, too_long}

-- ---- places

pub below_more : (p q : ℕ) (es : List (ℕ × List ℕ)) → p ≤ q → AreBelow p es → AreBelow q es
below_more p q [] le h = tt
below_more p q (e ∷ es) le h = (omega (arith, le, h.0), below_more p q es le h.1)

pub below_push : (p q : ℕ) (name : List ℕ) (es : List (ℕ × List ℕ)) → p < q → AreBelow p es → AreBelow q (insert_entry nat_eq es p name)
below_push p q name [] lt h = (lt, tt)
below_push p q name (e ∷ es) lt h =
    let ne : eqb p e.0 ≡ false = ne_eqb _ _ (omega (arith, h.0)) in
    rw ne (omega (arith, lt, h.0), below_push p q name es lt h.1)

pub follows_on : (m : Measured) (p q : ℕ) (t : WordsMet) → p ≤ q → FollowsWords m p t → FollowsWords m q t
follows_on m p q t le f = record { names = f.names; below = below_more p q t.names le f.below; small = f.small }

-- ---- single things

module _ (bytes : List ℕ) (old : Measured) where
  grown : Grows (just bytes) old (longer (length bytes) old)
  unfolding Grows
  grown = λ p t f. (refl, record { names = f.names; below = below_more p (p + length bytes) t.names (omega arith) f.below; small = omega arith })

  pub just_grows : (new : Measured) → new ≡ longer (length bytes) old → Grows (just bytes) old new
  just_grows new e = subst (Grows (just bytes) old) (sym e) grown

-- a reference has four bytes, whatever it refers to
module _ (label : ℕ) (old : Measured) where
  referred : Grows (reference_bytes label) old (longer 4 old)
  unfolding Grows
  referred = λ p t f. (refl, record { names = f.names; below = below_more p (p + 4) t.names (omega arith) f.below; small = omega arith })

  pub back_grows : (new : Measured) → new ≡ longer 4 old → Grows (reference_bytes label) old new
  back_grows new e = subst (Grows (reference_bytes label) old) (sym e) referred

-- ---- class words

module _ (class : List ℕ) where
  or_true : (own : Bool) → true ≡ (own || true)
  or_true true = refl
  or_true false = refl

  last_named : {X : Type 0} (x : X) (own : Bool) → is_some (cond own (Some x) None) ≡ (own || false)
  last_named x true = refl
  last_named x false = refl

  -- one more name is that of its class, or of one before
  pub named_push : (p : ℕ) (other : List ℕ) (es : List (ℕ × List ℕ)) → AreBelow p es → is_some (find (λ e. bytes_eq e.1 other) (insert_entry nat_eq es p class)) ≡ (bytes_eq class other || is_some (find (λ e. bytes_eq e.1 other) es))
  named_push p other [] h = last_named (p, class) (bytes_eq class other)
  named_push p other (e ∷ es) h =
      let ne : eqb p e.0 ≡ false = ne_eqb _ _ (omega (arith, h.0)) in
      rw ne (by (bytes_eq e.1 other) (named_push p other es h.1))
    where
      by : (b : Bool) → is_some (find (λ e. bytes_eq e.1 other) (insert_entry nat_eq es p class)) ≡ (bytes_eq class other || is_some (find (λ e. bytes_eq e.1 other) es))
          → is_some (cond b (Some e) (find (λ e. bytes_eq e.1 other) (insert_entry nat_eq es p class))) ≡ (bytes_eq class other || is_some (cond b (Some e) (find (λ e. bytes_eq e.1 other) es)))
      by true ih = or_true (bytes_eq class other)
      by false ih = ih

  GrowsAt : Measured → Measured → ℕ → WordsMet → List ℕ × WordsMet → Type 0
  GrowsAt old new p t a = (new.total ≡ min (old.total + length a.0) too_long) × FollowsWords new (p + length a.0) a.1

  module _ (old : Measured) where
    known_at : (p : ℕ) (t : WordsMet) (o : Option (ℕ × List ℕ)) → true ≡ is_some o → FollowsWords old p t → GrowsAt old (longer 4 old) p t (class_by class o p t)
    unfolding GrowsAt
    known_at p t None e f = absurd cc
    known_at p t (Some x) e f = (refl, record { names = f.names; below = below_more p (p + 4) t.names (omega arith) f.below; small = omega arith })

    pub known_grows : (new : Measured) → list_any (bytes_eq class) old.names ≡ true → new ≡ longer 4 old → Grows (class_bytes class) old new
    unfolding Grows GrowsAt
    known_grows new known e = subst (Grows (class_bytes class) old) (sym e) (λ p t f. known_at p t (find (λ e. bytes_eq e.1 class) t.names) (sym known ∙ f.names class) f)

    module _ (new : Measured) (total : new.total ≡ min (old.total + (length class + 5)) too_long) (more : (other : List ℕ) → list_any (bytes_eq other) new.names ≡ (bytes_eq class other || list_any (bytes_eq other) old.names)) where
      new_at : (p : ℕ) (t : WordsMet) (o : Option (ℕ × List ℕ)) → false ≡ is_some o → FollowsWords old p t → GrowsAt old new p t (class_by class o p t)
      unfolding GrowsAt
      new_at p t None e f =
          let len = length-append class (0 ∷ []) in (
            omega (arith, total, len),
            record {
              names = λ other. more other ∙ ap (λ (b : Bool). bytes_eq class other || b) (f.names other) ∙ sym (named_push p other t.names f.below);
              below = below_push p (p + length (big_bytes 4 (2 ^ 32 - 1) ++ (class ++ 0 ∷ []))) class t.names (omega (arith, len)) f.below;
              small = omega (arith, total);
            },
          )
      new_at p t (Some x) e f = absurd cc

      pub new_grows : list_any (bytes_eq class) old.names ≡ false → Grows (class_bytes class) old new
      unfolding Grows GrowsAt
      new_grows unknown = λ p t f. new_at p t (find (λ e. bytes_eq e.1 class) t.names) (sym unknown ∙ f.names class) f

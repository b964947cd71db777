-- The lower of two refusals, and tests that look at two things.
use Rattle.std.proofs.Common.{◌≡◌, ◌∙◌, ℕ, ◌<◌, List, [], ◌∷◌, Bool, true, false, ◌||◌, leb, Option, Some, None, refl, sym, ap, subst, arith}
use Rattle.std.proofs.lemmas.Bool.{le-leb, leb-false, leb-true, lt-leb}
use Rattle.std.specs.{Option.{option_or}, Prelude.{if◌then◌else◌}}
use Rattle.rio_machine.specs.{RefusalText.{refusal_number}, declared.refusal.Refusal.{Refusal, TheVariants.{BadName, NameIsTree, NoSuchClass, DoesNotFit, CycleLimit, TooLarge, TooDeep, TooMany}}}
use Rattle.rio_step.specs.Refusing.{refused_if}
use Rattle.rio_judge.specs.Stops.{lower}
use Rattle.rio_judge.proofs.PutTests.{by_tests}

-- ---- the lower one

abbrev is_first : Refusal → Refusal → Bool
is_first x y = leb (refusal_number x) (refusal_number y)

picks_first : (x y : Refusal) → is_first x y ≡ true → lower (Some x) (Some y) ≡ Some x
picks_first x y e = ap (λ (b : Bool). let o : Option Refusal = if b then Some x else Some y in o) e

picks_second : (x y : Refusal) → is_first x y ≡ false → lower (Some x) (Some y) ≡ Some y
picks_second x y e = ap (λ (b : Bool). let o : Option Refusal = if b then Some x else Some y in o) e

pub lower_none : (x : Option Refusal) → lower x None ≡ x
lower_none None = refl
lower_none (Some x) = refl

-- none is lower than nothing
pub none_parts : (x y : Option Refusal) → lower x y ≡ None → (x ≡ None) × (y ≡ None)
none_parts None None e = (refl, refl)
none_parts None (Some y) e = absurd cc
none_parts (Some x) None e = absurd cc
none_parts (Some x) (Some y) e = absurd (by (is_first x y) e)
  where
    by : (b : Bool) → ◌≡◌ {A = Option Refusal} (if b then Some x else Some y) None → ⊥
    by true e = cc
    by false e = cc

pub lower_associates : (x y z : Option Refusal) → lower (lower x y) z ≡ lower x (lower y z)
lower_associates None y z = refl
lower_associates (Some x) None z = refl
lower_associates (Some x) (Some y) None = lower_none (lower (Some x) (Some y))
lower_associates (Some x) (Some y) (Some z) = by (is_first x y) (is_first y z) refl refl
  where
    by : (p q : Bool) → is_first x y ≡ p → is_first y z ≡ q → lower (lower (Some x) (Some y)) (Some z) ≡ lower (Some x) (lower (Some y) (Some z))
    by true true first second =
        let both : is_first x z ≡ true = le-leb _ _ (omega (arith, leb-true _ _ first, leb-true _ _ second)) in
        ap (λ (o : Option Refusal). lower o (Some z)) (picks_first x y first) ∙ picks_first x z both ∙ sym (picks_first x y first) ∙ ap (lower (Some x)) (sym (picks_first y z second))
    by true false first second = ap (λ (o : Option Refusal). lower o (Some z)) (picks_first x y first) ∙ ap (lower (Some x)) (sym (picks_second y z second))
    by false true first second =
        ap (λ (o : Option Refusal). lower o (Some z)) (picks_second x y first) ∙ picks_first y z second ∙ sym (picks_second x y first) ∙ ap (lower (Some x)) (sym (picks_first y z second))
    by false false first second =
        let both : is_first x z ≡ false = lt-leb _ _ (omega (arith, leb-false _ _ first, leb-false _ _ second)) in
        ap (λ (o : Option Refusal). lower o (Some z)) (picks_second x y first) ∙ picks_second y z second ∙ sym (picks_second x z both) ∙ ap (lower (Some x)) (sym (picks_second y z second))

-- ---- tests that look at two things

-- what is found of two things, and the refusal of both
record Test : Type 0 where
  one : Bool
  other : Bool
  refusal : Refusal

abbrev told : (Test → Bool) → List Test → Option Refusal
told pick [] = None
told pick (t ∷ ts) = option_or (refused_if (pick t) t.refusal) (told pick ts)

abbrev AreRising : ℕ → List Test → Type 0
AreRising n [] = Unit {0}
AreRising n (t ∷ ts) = (n < refusal_number t.refusal) × AreRising (refusal_number t.refusal) ts

above : (n : ℕ) (ts : List Test) (pick : Test → Bool) → AreRising n ts → (y : Refusal) → told pick ts ≡ Some y → n < refusal_number y
above n [] pick are y e = absurd cc
above n (t ∷ ts) pick are y e = by (pick t) (above (refusal_number t.refusal) ts pick are.1 y) e
  where
    by : (b : Bool) → (told pick ts ≡ Some y → refusal_number t.refusal < refusal_number y) → option_or (refused_if b t.refusal) (told pick ts) ≡ Some y → n < refusal_number y
    by true later e =
        let same : t.refusal ≡ y = cc in
        subst (λ (r : Refusal). n < refusal_number r) same are.0
    by false later e = omega (arith, are.0, later e)

first_kept : (r : Refusal) (o : Option Refusal) → ((y : Refusal) → o ≡ Some y → refusal_number r < refusal_number y) → lower (Some r) o ≡ Some r
first_kept r None later = refl
first_kept r (Some y) later = picks_first r y (le-leb _ _ (omega (arith, later y refl)))

second_kept : (r : Refusal) (o : Option Refusal) → ((y : Refusal) → o ≡ Some y → refusal_number r < refusal_number y) → lower o (Some r) ≡ Some r
second_kept r None later = refl
second_kept r (Some y) later = picks_second y r (lt-leb _ _ (later y refl))

both : (n : ℕ) (ts : List Test) → AreRising n ts → told (λ t. t.one || t.other) ts ≡ lower (told (λ t. t.one) ts) (told (λ t. t.other) ts)
both n [] are = refl
both n (t ∷ ts) are = by t.one t.other (both (refusal_number t.refusal) ts are.1)
  where
    by : (a b : Bool) → told (λ t. t.one || t.other) ts ≡ lower (told (λ t. t.one) ts) (told (λ t. t.other) ts)
        → option_or (refused_if (a || b) t.refusal) (told (λ t. t.one || t.other) ts)
        ≡ lower (option_or (refused_if a t.refusal) (told (λ t. t.one) ts)) (option_or (refused_if b t.refusal) (told (λ t. t.other) ts))
    by true true later = sym (picks_first t.refusal t.refusal (le-leb _ _ (omega arith)))
    by true false later = sym (first_kept t.refusal (told (λ t. t.other) ts) (above (refusal_number t.refusal) ts (λ t. t.other) are.1))
    by false true later = sym (second_kept t.refusal (told (λ t. t.one) ts) (above (refusal_number t.refusal) ts (λ t. t.one) are.1))
    by false false later = later

-- the tests of two objects are those of the one and of the other, of which the lower refuses
pub either_tests : (a b c d e f g h a' b' c' d' e' f' g' h' : Bool)
    → by_tests (a || a') (b || b') (c || c') (d || d') (e || e') (f || f') (g || g') (h || h') ≡ lower (by_tests a b c d e f g h) (by_tests a' b' c' d' e' f' g' h')
either_tests a b c d e f g h a' b' c' d' e' f' g' h' =
    both 0
    (record { one = a; other = a'; refusal = BadName }
    ∷ record { one = b; other = b'; refusal = NameIsTree }
    ∷ record { one = c; other = c'; refusal = NoSuchClass }
    ∷ record { one = d; other = d'; refusal = DoesNotFit }
    ∷ record { one = e; other = e'; refusal = CycleLimit }
    ∷ record { one = f; other = f'; refusal = TooLarge }
    ∷ record { one = g; other = g'; refusal = TooDeep }
    ∷ record { one = h; other = h'; refusal = TooMany }
    ∷ [])
    (omega arith, (omega arith, (omega arith, (omega arith, (omega arith, (omega arith, (omega arith, (omega arith, tt))))))))

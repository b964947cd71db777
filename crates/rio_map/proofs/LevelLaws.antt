-- Zero objects of at most so many levels.
use Rattle.std.proofs.Common.{◌≡◌, ◌<◌, ℕ, zero, suc, ◌-◌, ℤ, List, Option, Some, None, refl, ap, ◌∙◌, arith}
use Rattle.std.specs.Prelude.{option_and_then}
use Rattle.rio_format.specs.{declared.class.ClassDef.{ClassDef}, declared.value.Value.{Value}}
use Rattle.rio_model.specs.Mapping.{object_zero, zero_version, zero_within}

module _ (classes : List ClassDef) (class : List ℕ) where
  pub no_levels : (n : ℕ) → n ≡ 0 → zero_within n classes class ≡ None
  unfolding zero_within
  no_levels zero e = refl
  no_levels (suc k) e = absurd (omega (arith, e))

  abbrev at_version : ℕ → Option ℤ → Option Value
  at_version k o = option_and_then (object_zero classes class (zero_within k classes)) o

  pub more_levels : (n : ℕ) (version : ℤ) → 0 < n → zero_version classes class ≡ Some version → zero_within n classes class ≡ object_zero classes class (zero_within (n - 1) classes) version
  unfolding zero_within
  more_levels zero version h known = absurd (omega (arith, h))
  more_levels (suc k) version h known =
      let less : k ≡ suc k - 1 = omega arith in
      ap (λ (o : Option ℤ). at_version k o) known
      ∙ ap (λ (j : ℕ). object_zero classes class (zero_within j classes) version) less

  pub not_known : (n : ℕ) → zero_version classes class ≡ None → zero_within n classes class ≡ None
  unfolding zero_within
  not_known zero known = refl
  not_known (suc k) known = ap (λ (o : Option ℤ). at_version k o) known

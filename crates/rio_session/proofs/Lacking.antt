-- Where want of room is told, the costs pass what there is room for.
use Rattle.std.proofs.Common.{◌≡◌, inl, inr, ℕ, ◌+◌, ◌-◌, ◌^◌, ◌<◌, ◌≤◌, [], ◌∷◌, min, add-zero, ap, ◌∙◌, arith}
use Rattle.std.proofs.{lemmas.Bool.{cases_lt}, lemmas.List.Sums.{sum_by-cons}}
use Rattle.std.specs.List.{sum_by}
use Rattle.rio_state.specs.Closing.{end_limit}
use Rattle.rio_step.specs.Costs.{room_limit}

pub sum_two : (f : ℕ → ℕ) (a b : ℕ) → sum_by f (a ∷ b ∷ []) ≡ f a + f b
sum_two f a b = sum_by-cons f a (b ∷ []) ∙ ap (λ (n : ℕ). f a + n) (sum_by-cons f b [] ∙ add-zero (f b))

-- where what is held passes the limit, the costs pass what there is room for
pub lacking : (bound costs cost held : ℕ) → (costs < 2 ^ 64 - 1 → held ≤ bound + costs + 10000) → end_limit < held + cost + 100000 → room_limit < bound + min (costs + cost) (2 ^ 64 - 1)
lacking bound costs cost held was much = elim (cases_lt costs (2 ^ 64 - 1)) [ inl low ↦ omega (arith, was low, much, low) | inr high ↦ omega (arith, high) ]

-- A length that is told up to a limit, with the zero bytes behind it.
use Rattle.std.proofs.{Common.{◌≡◌, ℕ, ◌+◌, ◌<◌, ◌≤◌, min, true, false, inl, inr, ap, ◌∙◌, arith}, lemmas.Bool.{cases_lt, le-ltb, lt-ltb}}
use Rattle.rio_format.specs.WrittenBytes.{length_limit}
use Rattle.rio_machine.specs.Limits.{is_too_long, zeros_behind}
use Rattle.rio_write.specs.Measuring.{too_long}

-- n is the size up to the limit, and the zero bytes are those behind n
module _ (size head n zeros : ℕ) (capped : n ≡ min size too_long) (behind : zeros ≡ zeros_behind (head + n)) where
  pub too_long_told : length_limit < n + zeros → is_too_long (size + zeros_behind (head + size)) ≡ true
  too_long_told above =
      elim (cases_lt size too_long) [
        | inl lt ↦
            let same : n ≡ size = omega (arith, capped, lt) in
            let all : n + zeros ≡ size + zeros_behind (head + size) = behind_both same in
            lt-ltb _ _ (omega (arith, above, all))
        | inr le ↦ lt-ltb _ _ (omega (arith, le))
      ]
    where
      behind_both : n ≡ size → n + zeros ≡ size + zeros_behind (head + size)
      behind_both same = ap (λ z. n + z) behind ∙ ap (λ k. k + zeros_behind (head + k)) same

  pub whole_size : n + zeros ≤ length_limit → n ≡ size
  whole_size below = omega (arith, capped, below)

  pub short_told : n + zeros ≤ length_limit → is_too_long (size + zeros_behind (head + size)) ≡ false
  short_told below =
      let all : n + zeros ≡ size + zeros_behind (head + size) = ap (λ z. n + z) behind ∙ ap (λ k. k + zeros_behind (head + k)) (whole_size below) in
      le-ltb _ _ (omega (arith, below, all))

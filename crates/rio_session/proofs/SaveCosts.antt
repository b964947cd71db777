-- What a save may cost, as far as 64 bits hold it.
use Rattle.std.proofs.Common.{◌≡◌, ℕ, ◌+◌, ◌-◌, ◌*◌, ◌^◌, min, ap, ◌∙◌, arith}

held_sum : (n m a total : ℕ) → m ≡ min n (2 ^ 64 - 1) → total ≡ min (m + a) (2 ^ 64 - 1) → total ≡ min (a + n) (2 ^ 64 - 1)
held_sum n m a total m_is total_is = omega (arith, m_is, total_is)

pub held_cost : (branches header rows width bytes product total : ℕ) → width ≡ branches → bytes ≡ header → product ≡ min (20 * width * rows) (2 ^ 64 - 1) → total ≡ min (product + (240 + bytes)) (2 ^ 64 - 1)
    → total ≡ min (240 + header + 20 * branches * rows) (2 ^ 64 - 1)
held_cost branches header rows width bytes product total width_is bytes_is product_is total_is =
    held_sum (20 * branches * rows) product (240 + header) total (product_is ∙ ap (λ (n : ℕ). min (20 * n * rows) (2 ^ 64 - 1)) width_is) (total_is ∙ ap (λ (n : ℕ). min (product + (240 + n)) (2 ^ 64 - 1)) bytes_is)

-- Counts of items against the bytes that are left.
use Rattle.std.proofs.{Common.{◌≡◌, ℕ, ◌+◌, ◌*◌, ◌/◌, ◌<◌, ◌≤◌, Bool, true, false, ltb, refl, arith}, lemmas.Bool.{lt-ltb, le-ltb, ltb-true, ltb-false}}
use Rattle.std.proofs.Math.Nat.{div-lt_iff_lt-mul, le-div_iff_mul-le}

-- so many items don't fit into as many bytes
pub few_same : (n l w p : ℕ) → 0 < w → (ltb (p + l) (p + n * w)) ≡ ltb (l / w) n
few_same n l w p some = by (ltb (l / w) n) refl
  where
    by : (b : Bool) → ltb (l / w) n ≡ b → ltb (p + l) (p + n * w) ≡ b
    by true e =
        let few : l / w < n = ltb-true _ _ e in
        let less : l < n * w = (div-lt_iff_lt-mul some).0 few in
        lt-ltb _ _ (omega (arith, less))
    by false e =
        let enough : n ≤ l / w = ltb-false _ _ e in
        let more : n * w ≤ l = (le-div_iff_mul-le some).0 enough in
        le-ltb _ _ (omega (arith, more))

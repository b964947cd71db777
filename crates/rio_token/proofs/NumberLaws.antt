-- Numbers that are written digit after digit.
use Rattle.std.proofs.Common.{◌≡◌, ℕ, ◌+◌, ◌*◌, ◌<◌, List, [], ◌∷◌, drop, length, Option, Some, None, option_map, option_and_then, refl, arith, get_or}
use Rattle.std.proofs.{lemmas.Bool.Decides.{nat_tests}, lemmas.List.{drop_more}}
use Rattle.rio_token.specs.Words.{at_most, digit_in, number_after}

module _ (base most : ℕ) (pos : 0 < base) where
  too_great : (m : ℕ) → most < m → at_most most (Some m) ≡ None
  too_great m h = grind (arith, nat_tests)

  too_great_is : (m : ℕ) → at_most most (Some m) ≡ None → most < m
  too_great_is m h = grind (arith, nat_tests)

  grows : (m d : ℕ) → most < m → most < m * base + d
  grows m d h = grind arith

  stays_digit : (bs : List ℕ) → ((k : ℕ) → most < k → at_most most (number_after base k bs) ≡ None) → (m : ℕ) → most < m → (digit : Option ℕ) → at_most most (option_and_then (λ d. number_after base (m * base + d) bs) digit) ≡ None
  stays_digit bs ih m h None = refl
  stays_digit bs ih m h (Some d) = ih (m * base + d) (grows m d h)

  stays_above : (bs : List ℕ) (m : ℕ) → most < m → at_most most (number_after base m bs) ≡ None
  stays_above [] m h = too_great m h
  stays_above (b ∷ bs) m h = stays_digit bs (λ k q. stays_above bs k q) m h (digit_in base b)

  stops_digit : (bs : List ℕ) (n : ℕ) (digit : Option ℕ) → at_most most (option_map (λ d. n * base + d) digit) ≡ None → at_most most (option_and_then (λ d. number_after base (n * base + d) bs) digit) ≡ None
  stops_digit bs n None h = refl
  stops_digit bs n (Some d) h = stays_above bs (n * base + d) (too_great_is (n * base + d) h)

  -- a digit that makes the number too great, or is none
  pub stops_at : (n : ℕ) (digits : List ℕ) (i b : ℕ) → i < length digits → b ≡ get_or digits i 0 → at_most most (option_map (λ d. n * base + d) (digit_in base b)) ≡ None → at_most most (number_after base n (drop i digits)) ≡ None
  stops_at n digits i b lt e h =
      let split : drop i digits ≡ get_or digits i 0 ∷ drop (i + 1) digits = drop_more digits i 0 lt in
      rw (split, ← e) (stops_digit (drop (i + 1) digits) n (digit_in base b) h)

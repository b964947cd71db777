-- Lists over the numbers from one to another, built one number after the other.
use Rattle.std.proofs.Common.{◌≡◌, ◌<◌, ◌≤◌, ◌+◌, ◌-◌, ◌∷◌, ◌++◌, ◌∙◌, [], ℕ, zero, suc, List, map, refl, sym, ap, arith, append_assoc}
use Rattle.std.proofs.lemmas.List.{append-nil}
use Rattle.rio_gen.specs.Generated.{numbers_from}

pub no_numbers : (first : ℕ) → numbers_from first zero ≡ []
unfolding numbers_from
no_numbers first = refl

pub one_number : (first n : ℕ) → numbers_from first (suc n) ≡ first ∷ numbers_from (first + 1) n
unfolding numbers_from
one_number first n = refl

-- the first of the numbers that are left
pub first_left : (n i : ℕ) → i < n → numbers_from i (n - i) ≡ i ∷ numbers_from (i + 1) (n - (i + 1))
unfolding numbers_from
first_left n i more =
    let one : n - i ≡ suc (n - (i + 1)) = omega (arith, more) in
    rw one refl

pub none_left : (n i : ℕ) → n ≤ i → numbers_from i (n - i) ≡ []
unfolding numbers_from
none_left n i most =
    let none : n - i ≡ 0 = omega (arith, most) in
    rw none refl

module _ {A : Type 0} (f : ℕ → A) (n i : ℕ) (built whole : List A) (so_far : built ++ map f (numbers_from i (n - i)) ≡ whole) where
  pub one_built : i < n → (built ++ f i ∷ []) ++ map f (numbers_from (i + 1) (n - (i + 1))) ≡ whole
  one_built more =
      append_assoc built (f i ∷ []) (map f (numbers_from (i + 1) (n - (i + 1))))
      ∙ ap (λ (ks : List ℕ). built ++ map f ks) (sym (first_left n i more))
      ∙ so_far

  pub all_built : n ≤ i → built ≡ whole
  all_built most =
      sym (append-nil built)
      ∙ ap (λ (ks : List ℕ). built ++ map f ks) (sym (none_left n i most))
      ∙ so_far

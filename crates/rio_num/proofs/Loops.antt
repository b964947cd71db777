-- Reading the same thing so many times, as a loop does.
use Rattle.std.proofs.Common.{◌≡◌, ℕ, suc, ◌+◌, ◌-◌, ◌<◌, ◌≤◌, List, [], ◌∷◌, ◌++◌, Ok, Err, refl, sym, ap, ◌∙◌, append_assoc, arith}
use Rattle.std.proofs.lemmas.List.{append-nil}
use Rattle.rio_num.specs.{Reading.{◌>>=◌}, Layout.{Layout, each, times}, Meanings.{Reading, Standing, read}}

-- what was read before, and what is still read
abbrev pub with_front : {W F Y : Type 0} → List Y → Reading W F (List Y) → Reading W F (List Y)
with_front front given = given >>= λ x. Ok (front ++ x.0, x.1)

module _ {W F Y : Type 0} (l : Layout W F Y) (n i : ℕ) (front : List Y) (s : Standing W) (total : Reading W F (List Y)) where
  regroup : (y : Y) (given : Reading W F (List Y)) → with_front front (given >>= λ x. Ok (y ∷ x.0, x.1)) ≡ with_front (front ++ y ∷ []) given
  regroup y (Ok x) = ap (λ (ys : List Y). let r : Reading W F (List Y) = Ok (ys, x.1) in r) (sym (append_assoc front (y ∷ []) x.0))
  regroup y (Err e) = refl

  pub times_goes_on : (y : Y) (s1 : Standing W) → i < n → read l s ≡ Ok (y, s1) → with_front front (read (times (n - i) l) s) ≡ total → with_front (front ++ y ∷ []) (read (times (n - (i + 1)) l) s1) ≡ total
  unfolding each
  times_goes_on y s1 lt e so_far =
      let split : n - i ≡ suc (n - (i + 1)) = omega arith in
      let one : with_front front (read (times (n - i) l) s) ≡ with_front (front ++ y ∷ []) (read (times (n - (i + 1)) l) s1) = rw (split, e) (regroup y (read (times (n - (i + 1)) l) s1)) in
      sym one ∙ so_far

  pub times_fails : (d : F) → i < n → read l s ≡ Err d → with_front front (read (times (n - i) l) s) ≡ total → total ≡ Err d
  unfolding each
  times_fails d lt e so_far =
      let split : n - i ≡ suc (n - (i + 1)) = omega arith in
      let one : with_front front (read (times (n - i) l) s) ≡ Err d = rw (split, e) refl in
      sym so_far ∙ one

  pub times_done : n ≤ i → with_front front (read (times (n - i) l) s) ≡ total → total ≡ Ok (front, s)
  unfolding each
  times_done le so_far =
      let none : n - i ≡ 0 = omega arith in
      let one : with_front front (read (times (n - i) l) s) ≡ Ok (front, s) = rw none (ap (λ (ys : List Y). let r : Reading W F (List Y) = Ok (ys, s) in r) (append-nil front)) in
      sym so_far ∙ one

-- Items one behind the other, as a loop reads them: it goes on while one begins.
use Rattle.std.proofs.Common.{◌≡◌, ℕ, suc, ◌+◌, ◌-◌, ◌<◌, ◌≤◌, List, [], ◌∷◌, ◌++◌, Bool, true, false, Ok, Err, refl, sym, ◌∙◌, arith}
use Rattle.rio_num.specs.At.{At}
use Rattle.rio_token.specs.{declared.fault.TextFault.{TextFault}, Reading.{Read}}
use Rattle.rio_step.specs.TreeGrammar.{further_at}

module _ {A : Type 0} (begins : At → Bool) (item : List A → At → Read A) (n i : ℕ) (items : List A) (s : At) (total : Read (List A)) where
  pub further_is_cut : n ≤ i → further_at (n - i) begins item items s ≡ total → total ≡ Ok (items, s)
  unfolding further_at
  further_is_cut le so_far =
      let none : n - i ≡ 0 = omega arith in
      let one : further_at (n - i) begins item items s ≡ Ok (items, s) = rw none refl in
      sym so_far ∙ one

  module _ (lt : i < n) where
    one_more : n - i ≡ suc (n - (i + 1))
    one_more = omega arith

    pub further_stops : begins s ≡ false → further_at (n - i) begins item items s ≡ total → total ≡ Ok (items, s)
    unfolding further_at
    further_stops ends so_far =
        let one : further_at (n - i) begins item items s ≡ Ok (items, s) = rw (one_more, ends) refl in
        sym so_far ∙ one

    pub further_fails : (e : TextFault) → begins s ≡ true → item items s ≡ Err e → further_at (n - i) begins item items s ≡ total → total ≡ Err e
    unfolding further_at
    further_fails e goes next so_far =
        let one : further_at (n - i) begins item items s ≡ Err e = rw (one_more, goes, next) refl in
        sym so_far ∙ one

    pub further_goes_on : (x : A) (new : At) → begins s ≡ true → item items s ≡ Ok (x, new)
        → further_at (n - i) begins item items s ≡ total → further_at (n - (i + 1)) begins item (items ++ x ∷ []) new ≡ total
    unfolding further_at
    further_goes_on x new goes next so_far =
        let one : further_at (n - i) begins item items s ≡ further_at (n - (i + 1)) begins item (items ++ x ∷ []) new = rw (one_more, goes, next) refl in
        sym one ∙ so_far

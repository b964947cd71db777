-- Lists with commas between their items, as a loop reads them: it tries the closing mark, and else wants a comma and an item.
use Rattle.std.proofs.Common.{◌≡◌, ℕ, suc, ◌+◌, ◌-◌, ◌<◌, ◌≤◌, List, [], ◌∷◌, ◌++◌, Bool, true, false, if◌then◌else◌, Ok, Err, refl, sym, ◌∙◌, ap, arith}
use Rattle.rio_num.specs.At.{At}
use Rattle.rio_token.specs.{declared.fault.TextFault.{TextFault}, Tokens.{behind}, Reading.{Read, bad_at, marked, mark_at, more_at}}

module _ {A : Type 0} (close : ℕ) (item : List A → At → Read A) (n i : ℕ) (items : List A) (s : At) (total : Read (List A)) where
  pub more_is_cut : n ≤ i → more_at (n - i) close item items s ≡ total → total ≡ bad_at s
  unfolding more_at
  more_is_cut le so_far =
      let none : n - i ≡ 0 = omega arith in
      let one : more_at (n - i) close item items s ≡ bad_at s = rw none refl in
      sym so_far ∙ one

  module _ (closes : Bool) (s0 : At) (value : closes ≡ marked close s) (state : s0 ≡ (if closes then behind s else s)) where
    goes : closes ≡ false → marked close s ≡ false
    goes h = sym value ∙ h

    stays : closes ≡ false → s0 ≡ s
    stays h = rw h at state

    pub more_closes : i < n → closes ≡ true → more_at (n - i) close item items s ≡ total → total ≡ Ok (items, s0)
    unfolding more_at
    more_closes lt h so_far =
        let split : n - i ≡ suc (n - (i + 1)) = omega arith in
        let marks : marked close s ≡ true = sym value ∙ h in
        let passed : s0 ≡ behind s = rw h at state in
        let one : more_at (n - i) close item items s ≡ Ok (items, s0) = rw (split, marks, passed) refl in
        sym so_far ∙ one

    pub more_wants_comma : (e : TextFault) → i < n → closes ≡ false → mark_at 44 s0 ≡ Err e → more_at (n - i) close item items s ≡ total → total ≡ Err e
    unfolding more_at
    more_wants_comma e lt h comma so_far =
        let split : n - i ≡ suc (n - (i + 1)) = omega arith in
        let here : mark_at 44 s ≡ Err e = ap (mark_at 44) (sym (stays h)) ∙ comma in
        let one : more_at (n - i) close item items s ≡ Err e = rw (split, goes h, here) refl in
        sym so_far ∙ one

    module _ (s1 : At) (lt : i < n) (h : closes ≡ false) (comma : mark_at 44 s0 ≡ Ok (tt, s1)) where
      here : mark_at 44 s ≡ Ok (tt, s1)
      here = ap (mark_at 44) (sym (stays h)) ∙ comma

      pub more_wants_item : (e : TextFault) → item items s1 ≡ Err e → more_at (n - i) close item items s ≡ total → total ≡ Err e
      unfolding more_at
      more_wants_item e next so_far =
          let split : n - i ≡ suc (n - (i + 1)) = omega arith in
          let one : more_at (n - i) close item items s ≡ Err e = rw (split, goes h, here, next) refl in
          sym so_far ∙ one

      pub more_goes_on : (x : A) (s2 : At) → item items s1 ≡ Ok (x, s2) → more_at (n - i) close item items s ≡ total → more_at (n - (i + 1)) close item (items ++ x ∷ []) s2 ≡ total
      unfolding more_at
      more_goes_on x s2 next so_far =
          let split : n - i ≡ suc (n - (i + 1)) = omega arith in
          let one : more_at (n - i) close item items s ≡ more_at (n - (i + 1)) close item (items ++ x ∷ []) s2 = rw (split, goes h, here, next) refl in
          sym one ∙ so_far

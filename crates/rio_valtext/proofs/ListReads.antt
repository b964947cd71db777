-- The first item of a list, as it is read.
use Rattle.std.proofs.Common.{◌≡◌, ℕ, List, [], ◌∷◌, ◌++◌, length, Bool, false, if◌then◌else◌, Ok, Err, refl, sym, ap, ◌∙◌}
use Rattle.rio_num.specs.At.{At}
use Rattle.rio_token.specs.{declared.fault.TextFault.{TextFault}, Tokens.{behind}, Reading.{Read, list_at, marked, more_at, some_at}}

module _ {A : Type 0} (close : ℕ) (item : List A → At → Read A) (s s0 : At) (closes : Bool) (value : closes ≡ marked close s) (state : s0 ≡ (if closes then behind s else s)) (h : closes ≡ false) where
  goes : marked close s ≡ false
  goes = sym value ∙ h

  stays : s0 ≡ s
  stays = rw h at state

  pub list_goes_on : (x : A) (items : List A) (s1 : At) → item [] s0 ≡ Ok (x, s1) → items ≡ [] ++ x ∷ [] → more_at (length s1.rest) close item items s1 ≡ list_at close item s
  unfolding list_at some_at
  list_goes_on x items s1 first is =
      let here : item [] s ≡ Ok (x, s1) = ap (item []) (sym stays) ∙ first in
      let one : list_at close item s ≡ more_at (length s1.rest) close item (x ∷ []) s1 = rw (goes, here) refl in
      ap (λ (xs : List A). more_at (length s1.rest) close item xs s1) is ∙ sym one

  pub list_wants_item : (e : TextFault) → item [] s0 ≡ Err e → list_at close item s ≡ Err e
  unfolding list_at some_at
  list_wants_item e first =
      let here : item [] s ≡ Err e = ap (item []) (sym stays) ∙ first in
      rw (goes, here) refl

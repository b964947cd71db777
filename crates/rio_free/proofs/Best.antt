-- A gap that is chosen can be taken.
use Rattle.std.proofs.Common.{◌≡◌, inl, inr, ℕ, suc, ◌+◌, ◌<◌, Bool, true, false, cond, ltb, eqb, List, [], ◌∷◌, length, get_or, Option, Some, None, refl, subst, arith}
use Rattle.std.proofs.lemmas.Bool.{ltb-true, eqb-true}
use Rattle.std.specs.{List.{find}, Option.{option_or}}
use Rattle.rio_free.specs.{Gaps.{HasGapFor, best_gap}, declared.gap.Gap.{Gap}}

-- where a gap is among others
record IsAmong (g : Gap) (gaps : List Gap) : Type 0 where
  k : ℕ
  inside : k < length gaps
  is : get_or gaps k g ≡ g

found_gap : (p : Gap → Bool) (gaps : List Gap) (g : Gap) → find p gaps ≡ Some g → IsAmong g gaps × (p g ≡ true)
found_gap p [] g e = absurd cc
found_gap p (h ∷ gaps) g e = by (found_gap p gaps g) (p h) refl e
  where
    by : (find p gaps ≡ Some g → IsAmong g gaps × (p g ≡ true)) → (b : Bool) → p h ≡ b → cond b (Some h) (find p gaps) ≡ Some g → IsAmong g (h ∷ gaps) × (p g ≡ true)
    by more true is e = let same : h ≡ g = cc in (record { k = 0; inside = omega arith; is = same }, subst (λ (x : Gap). p x ≡ true) same is)
    by more false is e = let rest = more e in (record { k = suc rest.0.k; inside = omega (arith, rest.0.inside); is = rest.0.is }, rest.1)

pub best_is_gap : (n : ℕ) (gaps : List Gap) (g : Gap) → best_gap n gaps ≡ Some g → HasGapFor gaps g.place n
best_is_gap n gaps g e = by (find (λ h. eqb h.length n) gaps) refl e
  where
    longer : find (λ h. ltb (n + 3) h.length) gaps ≡ Some g → HasGapFor gaps g.place n
    longer e = let f = found_gap (λ h. ltb (n + 3) h.length) gaps g e in (f.0.k, g, f.0.inside, f.0.is, (refl, inr (ltb-true _ _ f.1)))

    by : (r : Option Gap) → find (λ h. eqb h.length n) gaps ≡ r → option_or r (find (λ h. ltb (n + 3) h.length) gaps) ≡ Some g → HasGapFor gaps g.place n
    by (Some h) is e = let f = found_gap (λ h. eqb h.length n) gaps h is in let same : h ≡ g = cc in subst (λ (x : Gap). HasGapFor gaps x.place n) same (f.0.k, h, f.0.inside, f.0.is, (refl, inl (eqb-true _ _ f.1)))
    by None is e = longer e

-- What holds of each item holds of one that is found.
use Rattle.std.proofs.{Common.{◌≡◌, Bool, true, false, cond, List, [], ◌∷◌, Some, All, subst}, lemmas.List.Elements.{All-head, All-tail}}
use Rattle.std.specs.List.{find}

module _ {X : Type 0} (P : X → Type 0) (test : X → Bool) where
  pub found_holds : (xs : List X) (x : X) → Some x ≡ find test xs → All P xs → P x
  found_holds [] x e all = absurd cc
  found_holds (y ∷ ys) x e all = by (test y) e (λ f. found_holds ys x f (All-tail P y ys all))
    where
      by : (b : Bool) → Some x ≡ cond b (Some y) (find test ys) → (Some x ≡ find test ys → P x) → P x
      by true f rest = let same : y ≡ x = cc in subst P same (All-head P y ys all)
      by false f rest = rest f

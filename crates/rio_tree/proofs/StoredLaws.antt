-- The baskets of a branch, one more.
use Rattle.std.proofs.Common.{◌≡◌, ℕ, suc, ◌+◌, ◌-◌, ◌<◌, List, [], ◌∷◌, ◌++◌, Option, Some, None, refl, sym, ap, ◌∙◌, append_assoc, arith}
use Rattle.std.specs.Option.{option_and_then, option_map}
use Rattle.rio_tree.specs.{declared.basket_at.BasketAt.{BasketAt}, BranchMembers.{BranchSaid}, Refusals.{basket_numbered, baskets_from}}

abbrev behind : List BasketAt → Option (List BasketAt) → Option (List BasketAt)
behind front o = option_map (λ more. front ++ more) o

abbrev headed : BasketAt → Option (List BasketAt) → Option (List BasketAt)
headed b o = option_map (λ more. b ∷ more) o

behind_headed : (front : List BasketAt) (b : BasketAt) (o : Option (List BasketAt)) → behind (front ++ b ∷ []) o ≡ behind front (headed b o)
behind_headed front b None = refl
behind_headed front b (Some more) = ap (λ (bs : List BasketAt). let o : Option (List BasketAt) = Some bs in o) (append_assoc front (b ∷ []) more)

pub one_basket_more : (said : BranchSaid) (k n : ℕ) (front : List BasketAt) (b : BasketAt) → k < n → Some b ≡ basket_numbered said k
    → behind (front ++ b ∷ []) (baskets_from said (k + 1) (n - (k + 1))) ≡ behind front (baskets_from said k (n - k))
one_basket_more said k n front b lt found =
    let rest = baskets_from said (k + 1) (n - (k + 1)) in
    let left : n - k ≡ suc (n - (k + 1)) = omega (arith, lt) in
    behind_headed front b rest
    ∙ ap (λ (o : Option BasketAt). behind front (option_and_then (λ x. headed x rest) o)) found
    ∙ ap (λ (j : ℕ). behind front (baskets_from said k j)) (sym left)

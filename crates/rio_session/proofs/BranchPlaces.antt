-- Where the baskets of a tree stand, branch by branch.
use Rattle.std.proofs.Common.{◌≡◌, ◌∙◌, ℕ, zero, suc, ◌+◌, ◌<◌, List, [], ◌∷◌, ◌++◌, length, map, take, slice_get, Option, Some, None, refl, ap, arith}
use Rattle.std.proofs.lemmas.{List.{append-nil, take_more, Concat.{flat_map-append}}, Option.{get_or_from_slice_get, same_Some, slice_get_within}}
use Rattle.std.specs.{List.{flat_map}, Option.{option_map}}
use Rattle.rio_tree.specs.declared.basket_at.BasketAt.{BasketAt}
use Rattle.rio_fill.specs.Fill.{BranchFill}

abbrev seeks_of : BranchFill → List ℕ
seeks_of b = map (λ at. at.seek) b.baskets

places_with : (bs : List BranchFill) (k : ℕ) (b : BranchFill) → slice_get bs k ≡ Some b → flat_map seeks_of (take (k + 1) bs) ≡ flat_map seeks_of (take k bs) ++ seeks_of b
places_with bs k b is =
    ap (flat_map seeks_of) (take_more bs k b (slice_get_within bs k b is) ∙ ap (λ (x : BranchFill). take k bs ++ x ∷ []) (get_or_from_slice_get bs k b b is))
    ∙ flat_map-append seeks_of (take k bs) (b ∷ [])
    ∙ ap (λ (ps : List ℕ). flat_map seeks_of (take k bs) ++ ps) (append-nil (seeks_of b))

-- with those of one branch more
pub places_more : (bs : List BranchFill) (k : ℕ) (ats : List BasketAt) → option_map (λ b. b.baskets) (slice_get bs k) ≡ Some ats
    → flat_map (λ b. map (λ at. at.seek) b.baskets) (take (k + 1) bs) ≡ flat_map (λ b. map (λ at. at.seek) b.baskets) (take k bs) ++ map (λ at. at.seek) ats
places_more bs k ats is = by (slice_get bs k) refl is
  where
    by : (o : Option BranchFill) → slice_get bs k ≡ o → option_map (λ (b : BranchFill). b.baskets) o ≡ Some ats → flat_map seeks_of (take (k + 1) bs) ≡ flat_map seeks_of (take k bs) ++ map (λ (at : BasketAt). at.seek) ats
    by None there e = absurd cc
    by (Some b) there e = places_with bs k b there ∙ ap (λ (l : List BasketAt). flat_map seeks_of (take k bs) ++ map (λ (at : BasketAt). at.seek) l) (same_Some b.baskets ats e)

-- each of the branches has some
pub branch_there : (bs : List BranchFill) (k : ℕ) → k < length bs → option_map (λ b. b.baskets) (slice_get bs k) ≡ None → ⊥
branch_there [] k within none = absurd (omega (arith, within))
branch_there (b ∷ bs) zero within none = absurd cc
branch_there (b ∷ bs) (suc k) within none = branch_there bs k (omega (arith, within)) none

use Rattle.std.proofs.Common.{◌≡◌, inl, ℕ, Option, List, [], ◌∷◌, Some, refl, ◌∙◌, ap, arith}
use Rattle.std.specs.List.{slice_get}
use Rattle.rio_host.specs.{Left.{three_written}, ReplayLaws.{left_now}}
use Rattle.rio_host.proofs.left.leaves_torn_writes.Goals as goal

pub returns-clause-outside : goal.returns-clause-outside
returns-clause-outside c bytes left =
    let flown = (left_now (record { first = 0 ∷ 0 ∷ 0 ∷ 0 ∷ []; calls = three_written }) (0 ∷ 5 ∷ bytes) [] left).0 in
    let kept : slice_get flown.0 1 ≡ Some 0 = flown.1.outside 1 0 (inl (omega arith)) refl in
    let other : ◌≡◌ {A = Option ℕ} (Some 5) (Some 0) = ap (λ (l : List ℕ). slice_get l 1) flown.2 ∙ kept in
    absurd (cc)

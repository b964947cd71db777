use Rattle.std.proofs.Common.{◌≡◌, ⊎_elim, ℕ, List, [], ◌∷◌, Some, refl, ◌∙◌, ap}
use Rattle.std.specs.List.{slice_get}
use Rattle.rio_host.specs.{Image.{Put}, Left.{word_written}, ReplayLaws.{left_now}}
use Rattle.rio_host.proofs.left.leaves_words_whole.Goals as goal

abbrev zeros : List ℕ
zeros = 0 ∷ 0 ∷ 0 ∷ 0 ∷ []

abbrev half : List ℕ
half = 1 ∷ 2 ∷ 0 ∷ 0 ∷ []

pub returns-clause-no_part : goal.returns-clause-no_part
returns-clause-no_part c left =
    let flown = (left_now (record { first = zeros; calls = word_written }) half [] left).0 in
    ⊎_elim
    (λ (none : flown.0 ≡ zeros). let first : Some 1 ≡ Some 0 = ap (λ (l : List ℕ). slice_get l 0) (flown.2 ∙ none) in absurd (cc))
    (λ (all : Put 0 (1 ∷ 2 ∷ 3 ∷ 4 ∷ []) zeros flown.0). let third : Some 0 ≡ Some 3 = ap (λ (l : List ℕ). slice_get l 2) flown.2 ∙ all.written 2 3 refl in absurd (cc))
    flown.1

-- The number of the last leaf of a name, one leaf on.
use Rattle.std.proofs.Common.{◌≡◌, ℕ, ℤ, ◌+◌, ◌<◌, List, [], ◌∷◌, length, drop, get_or, Option, refl, sym, ap, ◌∙◌}
use Rattle.rio_leaf.specs.declared.leaf.Leaf.{Leaf}
use Rattle.rio_format.specs.declared.value.Value.{Value}
use Rattle.rio_entry.specs.Leaves.{last_number}
use Rattle.rio_entry.proofs.LeafBytes.{drop_next}
use Rattle.rio_entry.specs.Lanes.{number_with}
use Rattle.rio_entry.proofs.Left.{left}

none_left : (name : List ℕ) (ls : List Leaf) (found : Option ℤ) → last_number name ls [] found ≡ found
none_left name [] found = refl
none_left name (l ∷ ls) found = refl

one_left : (name : List ℕ) (l : Leaf) (ls : List Leaf) (vs : List Value) (found : Option ℤ) → last_number name (l ∷ ls) vs found ≡ last_number name ls (drop 1 vs) (number_with name l vs found)
one_left name l ls [] found = sym (none_left name ls found)
one_left name l ls (v ∷ vs) found = refl

pub last_more : (name : List ℕ) (ls : List Leaf) (vs : List Value) (k : ℕ) (found : Option ℤ) (l : Leaf) → k < length ls → l ≡ get_or ls k l
    → last_number name (drop k ls) (drop k vs) found ≡ last_number name (drop (k + 1) ls) (drop (k + 1) vs) (number_with name l (drop k vs) found)
last_more name ls vs k found l lt is =
    ap (λ (ds : List Leaf). last_number name ds (drop k vs) found) (left ls k l lt is)
    ∙ one_left name l (drop (k + 1) ls) (drop k vs) found
    ∙ ap (λ (ws : List Value). last_number name (drop (k + 1) ls) ws (number_with name l (drop k vs) found)) (drop_next vs k)

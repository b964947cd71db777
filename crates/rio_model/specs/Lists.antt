-- Lists as they are printed.
use Rattle.std.specs.{Prelude.{ℕ, List, codes}, List.{join_by}}

-- the items' texts, with a comma and a space between each two
abbrev pub separated : {X : Type 0} → (X → List ℕ) → List X → List ℕ
separated text items = join_by text (codes ", ") items

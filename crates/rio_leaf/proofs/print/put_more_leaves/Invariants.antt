use Rattle.std.proofs.Common.{◌≡◌, ◌∷◌, ◌++◌, drop}
use Rattle.std.specs.List.{flat_map}
use Rattle.rio_leaf.specs.{Marks.{between_leaves}, Spelling.{text_of_leaf}}
use Rattle.rio_leaf.proofs.print.put_more_leaves.Given as goal

abbrev pub invariant-loop-leaf : goal.invariant-loop-leaf
invariant-loop-leaf l = l.into.bytes ++ flat_map (λ l. between_leaves ∷ text_of_leaf l) (drop l.leaf-index l.leaves) ≡ l.fn.into.bytes ++ flat_map (λ l. between_leaves ∷ text_of_leaf l) l.leaves

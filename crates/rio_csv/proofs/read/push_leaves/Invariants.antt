use Rattle.std.proofs.Common.{◌≡◌, ◌++◌, map, take}
use Rattle.rio_csv.proofs.read.push_leaves.Given as goal

abbrev pub invariant-loop-leaf : goal.invariant-loop-leaf
invariant-loop-leaf l = l.letters ≡ l.fn.letters ++ map (λ leaf. leaf.letter) (take l.leaf-index l.leaves)

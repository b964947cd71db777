use Rattle.std.proofs.Common.{◌≡◌, ◌++◌, drop}
use Rattle.rio_tree.specs.WrittenTree.{backs_from}
use Rattle.rio_tree.proofs.written.put_backs.Given as goal

abbrev pub invariant-loop-leaf : goal.invariant-loop-leaf
invariant-loop-leaf l = l.pointers ++ backs_from l.label (drop l._leaf-index l.leaves) ≡ l.fn.pointers ++ backs_from l.first l.leaves

use Rattle.std.proofs.Common.{◌≡◌, ◌++◌, drop}
use Rattle.rio_tree.specs.WrittenTree.{labels_behind, leaf_pointers}
use Rattle.rio_tree.proofs.written_leaf.leaf_pointers.Given as goal

abbrev pub invariant-loop-leaf : goal.invariant-loop-leaf
invariant-loop-leaf l = record {
  made : l.pointers ++ leaf_pointers l.known l.label (drop l.leaf-index l.leaves) ≡ leaf_pointers l.fn.known l.first l.leaves;
  known : labels_behind l.known l.label (drop l.leaf-index l.leaves) ≡ labels_behind l.fn.known l.first l.leaves;
}

use Rattle.std.proofs.Common.{◌≡◌, List, false, map, drop}
use Rattle.rio_num.specs.{At.{GoesOn}, Meanings.{read}}
use Rattle.rio_format.specs.{Bodies.{Counters}, declared.class.ClassDef.{ClassDef}, declared.value.Value.{Value}}
use Rattle.rio_leaf.specs.declared.branch.Shape.TheVariants.{Leaves}
use Rattle.rio_machine.specs.Rows.{leaf_column}
use Rattle.rio_read.specs.Passing.{pass_of}
use Rattle.rio_entry.specs.Leaves.{is_any_counted}
use Rattle.rio_machine.specs.Entries.{columns_values, entry_values}
use Rattle.rio_entry.proofs.check_leaves.pass_leaves.Given as goal

-- whatever the earlier leaves say
abbrev pub invariant-loop-leaf : goal.invariant-loop-leaf
invariant-loop-leaf l =
    ((classes : List ClassDef) (counts : List Value) → (own : Counters) × (read (pass_of (columns_values classes (map leaf_column (drop l.leaf-index l.leaves)) (drop l.leaf-index counts) own)) l.reader ≡ read (pass_of (entry_values classes (Leaves l.leaves) counts)) l.fn.reader))
    × (is_any_counted (drop l.leaf-index l.leaves) ≡ false)
    × GoesOn l.fn.reader.at l.reader.at

use Rattle.std.proofs.Common.{◌≡◌, List, [], length, map, drop, take}
use Rattle.rio_num.specs.{At.{GoesOn}, Meanings.{read}}
use Rattle.rio_leaf.specs.declared.branch.Shape.TheVariants.{Leaves}
use Rattle.rio_machine.specs.Rows.{leaf_column}
use Rattle.rio_read.specs.Lists.{with_front}
use Rattle.rio_format.specs.declared.class.ClassDef.{ClassDef}
use Rattle.rio_entry.specs.Leaves.{numbers_after, numbers_of_values}
use Rattle.rio_machine.specs.Entries.{columns_values, entry_values}
use Rattle.rio_entry.proofs.check_leaves.pass_counting.Given as goal

abbrev pub invariant-loop-k : goal.invariant-loop-k
invariant-loop-k l =
    ((classes : List ClassDef) → with_front l.kept (read (numbers_of_values (columns_values classes (map leaf_column (drop l.k l.leaves)) (drop l.k l.counts) (numbers_after (take l.k l.leaves) l.kept []))) l.reader) ≡ read (numbers_of_values (entry_values classes (Leaves l.leaves) l.counts)) l.fn.reader)
    × (length l.kept ≡ l.k)
    × GoesOn l.fn.reader.at l.reader.at

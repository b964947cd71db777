use Rattle.std.proofs.Common.{◌≡◌, ◌++◌}
use Rattle.rio_tree.proofs.leaves.numbers_of.Given as goal

abbrev pub invariant-loop-number : goal.invariant-loop-number
invariant-loop-number l = l.copies ++ l.number-iterator ≡ l.numbers.keys

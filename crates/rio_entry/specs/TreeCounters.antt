-- Which leaf counts which, of each branch of a tree.
use Rattle.std.specs.Prelude.{ℕ, List, Option, map}
use Rattle.rio_entry.specs.Counting.{counters_within}
use Rattle.rio_tree.specs.declared.head.Branch.{Branch}

abbrev pub tree_counters : List Branch → List (List (Option ℕ))
tree_counters branches = map (λ b. counters_within b.def.shape) branches

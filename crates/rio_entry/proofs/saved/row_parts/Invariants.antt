use Rattle.std.proofs.Common.{◌≡◌, ◌++◌, ℕ, List, drop, length, map}
use Rattle.std.specs.Option.{option_map}
use Rattle.rio_tree.specs.WrittenLaws.{stated_defs}
use Rattle.rio_entry.specs.{HeldLanes.{HoldEntry}, SavedRows.{filled_entry}}
use Rattle.rio_tree.specs.SavedEntries.{all_there}
use Rattle.rio_entry.proofs.saved.row_parts.Given as goal

abbrev pub invariant-loop-k : goal.invariant-loop-k
invariant-loop-k l = record {
  branches : map (λ part. part.branch.now) l.parts.items ++ stated_defs (drop l.k l.branches) ≡ stated_defs l.branches;
  entries : (file : List ℕ) → HoldEntry file l.entry (length l.branches) l.branches l.lanes
      → option_map (λ more. map (λ part. part.entry.now) l.parts.items ++ more) (all_there (map (λ b. filled_entry file b l.entry) (drop l.k l.branches)))
      ≡ all_there (map (λ b. filled_entry file b l.entry) l.branches);
}

use Rattle.std.proofs.Common.{◌≡◌, ◌++◌, drop, map}
use Rattle.rio_index.specs.Scan.{read_branches, read_entries}
use Rattle.rio_index.proofs.next.row_parts.Given as goal

abbrev pub invariant-loop-k : goal.invariant-loop-k
invariant-loop-k l =
    (map (λ p. p.branch.now) l.parts.items ++ read_branches (drop l.k l.branches) (drop l.k l.lanes) ≡ read_branches l.branches l.lanes)
    × (map (λ p. p.entry.now) l.parts.items ++ read_entries l.entry (drop l.k l.lanes) ≡ read_entries l.entry l.lanes)

use Rattle.std.proofs.Common.{◌≡◌, ◌+◌, drop, nat_le}
use Rattle.std.specs.List.{prefix_len}
use Rattle.rio_entry.proofs.index.begun.Given as goal

abbrev pub invariant-loop-k : goal.invariant-loop-k
invariant-loop-k l = l.k + prefix_len (λ at. nat_le at.first l.entry) (drop l.k l.baskets) ≡ prefix_len (λ at. nat_le at.first l.entry) l.baskets

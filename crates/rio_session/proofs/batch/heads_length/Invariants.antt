use Rattle.std.proofs.Common.{◌≡◌, ◌+◌, drop}
use Rattle.rio_dir.specs.Table.{heads_size}
use Rattle.rio_session.proofs.batch.heads_length.Given as goal

-- what is left is still to be added
abbrev pub invariant-loop-head : goal.invariant-loop-head
invariant-loop-head l = l.length + heads_size (drop l.head-index l.heads) ≡ heads_size l.heads

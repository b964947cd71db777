use Rattle.std.proofs.Common.{◌≡◌, ◌+◌, ◌++◌, drop}
use Rattle.std.specs.List.{flat_map}
use Rattle.rio_key.specs.Written.{written_key}
use Rattle.rio_dir.specs.Table.{heads_size}
use Rattle.rio_dir.proofs.write.put_heads.Given as goal

-- what is left is still to be put, and there is room for it
abbrev pub invariant-loop-head : goal.invariant-loop-head
invariant-loop-head l = record {
  written : l.into.bytes ++ flat_map written_key (drop l.head-index l.heads) ≡ l.fn.into.bytes ++ flat_map written_key l.heads;
  spare : l.into.spare + heads_size l.heads ≡ l.fn.into.spare + heads_size (drop l.head-index l.heads);
}

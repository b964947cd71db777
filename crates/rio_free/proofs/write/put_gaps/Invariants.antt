use Rattle.std.proofs.Common.{◌≡◌, ◌++◌, ◌-◌, ◌*◌, drop}
use Rattle.rio_free.specs.Record.{gaps_bytes}
use Rattle.rio_free.proofs.write.put_gaps.Given as goal

-- what is left is still to be put
abbrev pub invariant-loop-gap : goal.invariant-loop-gap
invariant-loop-gap l = record {
  written : l.into.bytes ++ gaps_bytes (drop l.gap-index l.gaps) ≡ l.fn.into.bytes ++ gaps_bytes l.gaps;
  spare : l.into.spare ≡ l.fn.into.spare - 10 * l.gap-index;
}

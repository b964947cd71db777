use Rattle.std.proofs.Common.{◌≡◌, drop}
use Rattle.std.specs.Option.{option_copied}
use Rattle.rio_recover.proofs.Keyed.{info_head_of, latest}
use Rattle.rio_recover.proofs.keys.info_head.Given as goal

abbrev pub invariant-loop-head : goal.invariant-loop-head
invariant-loop-head l = latest (option_copied l.info) (info_head_of (drop l.head-index l.heads)) ≡ info_head_of l.heads

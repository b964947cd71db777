use Rattle.std.proofs.Common.{◌≡◌, drop}
use Rattle.rio_state.specs.Reasons.{directory_reasons}
use Rattle.rio_recover.specs.Keys.{keyed_by}
use Rattle.rio_recover.proofs.keys.check_directory.Given as goal

abbrev pub invariant-loop-head : goal.invariant-loop-head
invariant-loop-head l = directory_reasons (keyed_by (drop l.head-index l.heads)) ≡ directory_reasons (keyed_by l.heads)

use Rattle.std.proofs.Common.{◌≡◌, drop}
use Rattle.rio_host.specs.Replay.{at_first, replay}
use Rattle.rio_host.proofs.disk.Disk.after.Given as goal

abbrev pub invariant-loop-call : goal.invariant-loop-call
invariant-loop-call l = replay l.disk (drop l.call-index l.calls) ≡ replay (at_first l.first) l.calls

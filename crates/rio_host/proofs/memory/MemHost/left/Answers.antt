use Rattle.std.proofs.Common.{ℕ, List, length, Result, Ok, Err}
use Rattle.std.specs.Prelude.{min, IfOk}
use Rattle.rio_num.specs.declared.no_memory.NoMemory.{NoMemory}
use Rattle.rio_host.specs.{declared.change.Left.{Left}, declared.change.Remains.{Remains}, Replay.{Memory, disk_after, LeftSince}, Stops.{IsLeft}}
use Rattle.rio_host.proofs.StopLaws.{left_allowed}
use Rattle.rio_host.proofs.memory.MemHost.left.Goals as goal

allowed : (m : Memory) (moment : ℕ) (remains : List Remains) (front : ℕ) (r : Result Left NoMemory)
    → IfOk r (λ left. IsLeft (disk_after moment m) remains front left.image.bytes left.said.bytes)
    → IfOk r (λ left. LeftSince m (min moment (length m.calls)) left.image.bytes left.said.bytes)
allowed m moment remains front (Ok left) is = left_allowed m moment remains front left.image.bytes left.said.bytes is
allowed m moment remains front (Err e) is = tt

pub returns-clause-allowed : goal.returns-clause-allowed
returns-clause-allowed c = allowed c.args.self.now.recording c.args.moment c.args.remains.now c.args.front c.left.result c.left.ensures

use Rattle.std.proofs.Common.{◌≡◌, drop}
use Rattle.rio_host.specs.Stops.{left_image}
use Rattle.rio_host.proofs.disk.Disk.left_image.Given as goal

abbrev pub invariant-loop-change : goal.invariant-loop-change
invariant-loop-change l = left_image l.file (drop l.change-index l.change-items) l.rest ≡ left_image l.fn.self.base l.fn.self.flight l.fn.remains

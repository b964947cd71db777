use Rattle.std.proofs.Common.{arith}
use Rattle.rio_format.proofs.DepthLaws.{depth_of-Object}
use Rattle.rio_format.proofs.value.+depth.Goals as goal

pub depth-returns-in-Object : goal.depth-returns-in-Object
depth-returns-in-Object t c = rw (c.in-Object.is, depth_of-Object, ← c.as_slice-in-Object.ensures) (omega arith)

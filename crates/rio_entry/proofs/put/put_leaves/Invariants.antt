use Rattle.std.proofs.Common.{drop}
use Rattle.rio_write.proofs.SinkLaws.{BytesLead}
use Rattle.rio_entry.specs.Leaves.{leaves_bytes}
use Rattle.rio_entry.proofs.put.put_leaves.Given as goal

abbrev pub invariant-loop-k : goal.invariant-loop-k
invariant-loop-k g l = BytesLead g.S.Sink.stands (leaves_bytes l.leaves l.row) (leaves_bytes (drop l.k l.leaves) (drop l.k l.row)) l.fn.sink l.sink

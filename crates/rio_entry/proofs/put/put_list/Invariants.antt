use Rattle.std.proofs.Common.{drop}
use Rattle.std.specs.List.{flat_map}
use Rattle.rio_write.proofs.SinkLaws.{BytesLead}
use Rattle.rio_entry.specs.Leaves.{single_bytes}
use Rattle.rio_entry.proofs.put.put_list.Given as goal

abbrev pub invariant-loop-value : goal.invariant-loop-value
invariant-loop-value g l =
    BytesLead g.S.Sink.stands (flat_map (single_bytes l.of) l.values) (flat_map (single_bytes l.of) (drop l.value-index l.values)) l.fn.sink l.sink

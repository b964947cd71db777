use Rattle.std.proofs.Common.{map, drop}
use Rattle.rio_format.specs.Written.{all, fields_bytes, writing_of}
use Rattle.rio_write.specs.{Sinks.{RoomFor}, Writing.{part_writing}}
use Rattle.rio_write.proofs.SinkLaws.{Leads}
use Rattle.rio_write.proofs.walk.+write.Given as goal

abbrev pub invariant-write_all-loop-item : goal.invariant-write_all-loop-item
invariant-write_all-loop-item g l =
    let rest = all l.slot (map (writing_of l.classes) (drop l.item-index l.items)) in
    Leads g.S.Sink.stands (all l.slot (map (writing_of l.classes) l.items)) rest (l.fn.sink, l.fn.names) (l.sink, l.names) × RoomFor g.S.Sink.stands g.S.Sink.bounded rest (l.sink, l.names)

abbrev pub invariant-write_fields-loop-k : goal.invariant-write_fields-loop-k
invariant-write_fields-loop-k g l =
    let rest = fields_bytes (drop l.k l.fields) (map (part_writing l.classes) (drop l.k l.parts)) in
    Leads g.S.Sink.stands (fields_bytes l.fields (map (part_writing l.classes) l.parts)) rest (l.fn.sink, l.fn.names) (l.sink, l.names) × RoomFor g.S.Sink.stands g.S.Sink.bounded rest (l.sink, l.names)

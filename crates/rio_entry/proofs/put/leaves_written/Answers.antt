use Rattle.std.proofs.Common.{[], ap, ◌∙◌}
use Rattle.rio_num.specs.Room.{room_of}
use Rattle.rio_format.specs.Written.{just}
use Rattle.rio_write.proofs.Taking.{whole_written}
use Rattle.rio_entry.specs.Leaves.{leaves_bytes}
use Rattle.rio_entry.proofs.put.leaves_written.Goals as goal

pub into_bytes-requires : goal.into_bytes-requires
into_bytes-requires c =
    (whole_written (just (leaves_bytes c.args.leaves.now c.args.row.now)) 0 c.new-writer.result c.put_leaves.new.sink [] [] c.new-writer.ensures (c.in_ok-put_leaves.ensures [])).1

pub returns : goal.returns
returns c =
    c.into_bytes.ensures ∙ ap room_of (whole_written (just (leaves_bytes c.args.leaves.now c.args.row.now)) 0 c.new-writer.result c.put_leaves.new.sink [] [] c.new-writer.ensures (c.in_ok-put_leaves.ensures [])).0

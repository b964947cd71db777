use Rattle.std.proofs.Common.{[], refl}
use Rattle.rio_format.specs.Written.{just}
use Rattle.rio_write.specs.Sinks.{Accepted}
use Rattle.rio_write.proofs.Counting.{whole_counted}
use Rattle.rio_entry.specs.Leaves.{leaves_bytes}
use Rattle.rio_entry.proofs.put.leaves_length.Goals as goal

pub put_leaves-requires-clause-short : goal.put_leaves-requires-clause-short
put_leaves-requires-clause-short c = λ never. absurd cc

pub returns : goal.returns
unfolding Accepted
returns c = whole_counted (just (leaves_bytes c.args.leaves.now c.args.row.now)) 0 [] [] c.put_leaves.new.sink.bytes refl (c.in_ok-put_leaves.ensures [])

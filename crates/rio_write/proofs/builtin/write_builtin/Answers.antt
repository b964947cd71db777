use Rattle.std.proofs.Common.{arith}
use Rattle.rio_write.proofs.Putting.{form_is_put, put_is_written}
use Rattle.rio_write.proofs.builtin.write_builtin.Goals as goal

pub write_object-requires : goal.write_object-requires
write_object-requires c = rw c.new.ensures (omega (arith, c.requires.size))

pub returns-clause-exact : goal.returns-clause-exact
returns-clause-exact c =
    form_is_put c.args.value.now c.new.result c.in_ok-bytes.bytes c.as_slice.result.now c.args.writer.now c.put_bytes.new.self c.put_bytes.result c.new.ensures c.in_ok-bytes.ensures.exact c.as_slice.ensures c.put_bytes.ensures

pub returns-clause-anywhere : goal.returns-clause-anywhere
returns-clause-anywhere c = λ classes.
    put_is_written c.args.value.now c.requires.value classes c.args.writer.now c.put_bytes.new.self c.put_bytes.result
    (form_is_put c.args.value.now c.new.result c.in_ok-bytes.bytes c.as_slice.result.now c.args.writer.now c.put_bytes.new.self c.put_bytes.result c.new.ensures c.in_ok-bytes.ensures.exact c.as_slice.ensures c.put_bytes.ensures)

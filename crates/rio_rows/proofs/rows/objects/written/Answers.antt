use Rattle.std.proofs.Common.{arith}
use Rattle.rio_rows.proofs.rows.objects.written.Goals as goal

pub write_object-requires : goal.write_object-requires
write_object-requires c = omega (arith, c.in_ok-length.ensures 34)

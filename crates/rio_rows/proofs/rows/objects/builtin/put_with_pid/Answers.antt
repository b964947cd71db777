use Rattle.std.proofs.Common.{inl, inr, refl, arith, lit<}
use Rattle.rio_rows.proofs.rows.objects.builtin.put_with_pid.Goals as goal

pub put_object-requires-clause-value : goal.put_object-requires-clause-value
put_object-requires-clause-value c = inr (inl (record { id = 5; bits = 16; pid = 7; id_fits = lit< tt; bits_fit = lit< tt; bit_4 = refl; pid_fits = lit< tt; value = c.in_ok-value.ensures }))

pub put_object-requires-clause-size : goal.put_object-requires-clause-size
put_object-requires-clause-size c = omega (arith, rw c.new-classes.ensures at (c.in_ok-length.ensures 0))

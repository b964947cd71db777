use Rattle.std.proofs.Common.{◌≡◌, length}
use Rattle.rio_dir.proofs.table.make_boxes.Given as goal

abbrev pub invariant-loop-done : goal.invariant-loop-done
invariant-loop-done l = length l.boxes.items ≡ l._done

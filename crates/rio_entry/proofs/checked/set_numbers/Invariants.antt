use Rattle.std.proofs.Common.{◌≡◌, drop}
use Rattle.rio_entry.specs.Checked.{with_numbers}
use Rattle.rio_entry.proofs.checked.set_numbers.Given as goal

abbrev pub invariant-loop-k : goal.invariant-loop-k
invariant-loop-k l = with_numbers l.made.items (drop l.k-index l.numbers) ≡ with_numbers l.fn.made.items l.numbers

use Rattle.std.proofs.Common.{◌≡◌, replicate}
use Rattle.rio_entry.specs.declared.checked.Made.TheVariants.{Nothing}
use Rattle.rio_entry.proofs.checked.nothing_made.Given as goal

abbrev pub invariant-loop-k : goal.invariant-loop-k
invariant-loop-k l = l.made.items ≡ replicate l._k Nothing

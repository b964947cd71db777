use Rattle.std.proofs.Common.{◌≡◌, map}
use Rattle.std.specs.List.{range_with_len}
use Rattle.rio_key.specs.BasketEntries.{laid_entry}
use Rattle.rio_key.proofs.basket_entries.read_basket.Given as goal

abbrev pub invariant-loop-k : goal.invariant-loop-k
invariant-loop-k l = l.entries ≡ map (laid_entry l.offsets l.layout l.bytes) (range_with_len 0 l.k)

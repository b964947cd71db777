use Rattle.std.proofs.Common.{◌≡◌, ◌-◌}
use Rattle.rio_key.specs.BasketEntries.{offset_before, offsets_from}
use Rattle.rio_key.proofs.basket_offsets.check_offsets.Given as goal

abbrev pub invariant-loop-k : goal.invariant-loop-k
invariant-loop-k l =
    (l.before ≡ offset_before l.layout l.bytes l.k)
    × (offsets_from l.layout l.bytes (l.layout.count - l.k) l.k ≡ offsets_from l.layout l.bytes l.layout.count 0)

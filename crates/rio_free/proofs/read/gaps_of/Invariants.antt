use Rattle.std.proofs.Common.{◌≡◌, ◌-◌, length, take}
use Rattle.rio_free.specs.EntryList.{gaps_of}
use Rattle.rio_free.proofs.read.gaps_of.Given as goal

abbrev pub invariant-loop-entry : goal.invariant-loop-entry
invariant-loop-entry l = l.list ≡ record { gaps = gaps_of (take l.entry-index l.entries); spare = length l.entries - l.entry-index }

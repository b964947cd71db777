use Rattle.std.proofs.Common.{◌≡◌, ◌++◌, [], drop}
use Rattle.rio_entry.specs.Counting.{LeadsTo, Places, counters_from}
use Rattle.rio_entry.proofs.counter.counters_of.Given as goal

abbrev pub invariant-loop-k : goal.invariant-loop-k
invariant-loop-k l =
    (before : Places) × LeadsTo l.places before × (l.counters.items ++ counters_from (drop l.k l.leaves) l.k before ≡ counters_from l.leaves 0 [])

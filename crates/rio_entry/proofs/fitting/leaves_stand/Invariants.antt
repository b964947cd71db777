use Rattle.std.proofs.Common.{List}
use Rattle.rio_format.specs.{Bodies.{Counters}, Counts.{SaysAsFirst}, declared.class.ClassDef.{ClassDef}}
use Rattle.rio_entry.proofs.FitsBehind.{LeavesLeft}
use Rattle.rio_entry.proofs.fitting.leaves_stand.Given as goal

abbrev pub invariant-loop-k : goal.invariant-loop-k
invariant-loop-k l =
    (classes : List ClassDef) (before : Counters) → SaysAsFirst l.fn.numbers before
    → (now : Counters) × SaysAsFirst l.numbers now × LeavesLeft classes l.leaves l.values before l.k now

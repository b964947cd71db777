use Rattle.std.proofs.Common.{drop}
use Rattle.rio_format.specs.{Bodies.{Counters}, Counts.{SaysAsFirst}}
use Rattle.rio_fill.specs.Fill.{defs_of}
use Rattle.rio_fill.proofs.Walked.{Walked}
use Rattle.rio_fill.proofs.prepared.prepare_row.Given as goal

abbrev pub invariant-loop-branch : goal.invariant-loop-branch
invariant-loop-branch l =
    (before : Counters) × SaysAsFirst l.numbers before × Walked l.classes (defs_of l.branches) l.row (defs_of (drop l.branch-index l.branches)) l.rest l.parts before

use Rattle.std.proofs.Common.{◌≡◌, drop}
use Rattle.rio_format.specs.{Bodies.{Counters}, Counts.{SaysAsFirst}}
use Rattle.rio_machine.specs.Rows.{columns_fit, columns_of, row_fits}
use Rattle.rio_tree.specs.WrittenLaws.{stated_defs}
use Rattle.rio_entry.proofs.fitting.row_fits.Given as goal

abbrev pub invariant-loop-branch : goal.invariant-loop-branch
invariant-loop-branch l =
    (now : Counters) × SaysAsFirst l.numbers now
    × (columns_fit l.classes (columns_of (stated_defs (drop l.branch-index l.branches))) l.rest now ≡ row_fits l.classes (stated_defs l.branches) l.row)

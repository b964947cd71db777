use Rattle.std.proofs.Common.{◌≡◌, ◌++◌, drop}
use Rattle.rio_csv.specs.Rows.{letters_of}
use Rattle.rio_csv.proofs.read.letters_of.Given as goal

abbrev pub invariant-loop-branch : goal.invariant-loop-branch
invariant-loop-branch l = l.letters ++ letters_of (drop l.branch-index l.branches) ≡ letters_of l.branches

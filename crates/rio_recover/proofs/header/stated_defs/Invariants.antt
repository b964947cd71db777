use Rattle.std.proofs.Common.{◌≡◌, take}
use Rattle.rio_tree.specs.WrittenLaws.{stated_defs}
use Rattle.rio_recover.proofs.header.stated_defs.Given as goal

abbrev pub invariant-loop-branch : goal.invariant-loop-branch
invariant-loop-branch l = l.defs ≡ stated_defs (take l.branch-index l.branches)

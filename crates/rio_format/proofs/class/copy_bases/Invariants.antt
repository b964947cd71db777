use Rattle.std.proofs.Common.{◌≡◌, take}
use Rattle.rio_format.proofs.class.copy_bases.Given as goal

abbrev pub invariant-loop-base : goal.invariant-loop-base
invariant-loop-base l = l.copies ≡ take l.base-index l.bases

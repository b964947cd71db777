use Rattle.std.proofs.Common.{◌≡◌, []}
use Rattle.rio_entry.specs.Leaves.{leaves_fit}
use Rattle.rio_entry.proofs.LeafBytes.{fits_from}
use Rattle.rio_entry.proofs.fit.leaves_fit.Given as goal

abbrev pub invariant-loop-k : goal.invariant-loop-k
invariant-loop-k l = fits_from l.leaves l.counts l.row l.k ≡ leaves_fit l.leaves l.counts l.row []

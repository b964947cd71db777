use Rattle.std.proofs.{Common.{sym}, lemmas.Int.{to_z-of_z}}
use Rattle.rio_format.specs.Visits.{base_of}
use Rattle.rio_format.proofs.BaseLaws.{pushed_visit}
use Rattle.rio_format.proofs.bases.push_base.Goals as goal

pub returns-clause-pushed : goal.returns-clause-pushed
returns-clause-pushed c =
    λ same.
    rw (c.in_ok-put.ensures)
    (simp (to_z-of_z, c.ranges.version) (pushed_visit c.args.target.now c.args.visits.now (base_of c.args.class.now c.args.version) (sym c.if-eq.ensures)))

use Rattle.rio_gen.proofs.NumberLaws.{all_built, one_built}
use Rattle.rio_gen.specs.Generated.{generated_branch, generated_branches}
use Rattle.rio_gen.proofs.script.generated_branches.Goals as goal

pub loop-number-preserved : goal.loop-number-preserved
loop-number-preserved c =
    rw (c.in_ok-push.ensures.ok, c.in_ok-generated_branch.ensures)
    (one_built generated_branch 20 c.loop-number.number c.loop-number.branches generated_branches c.loop-number.invariant c.loop-number-test.true)

pub returns : goal.returns
returns c = all_built generated_branch 20 c.loop-number.number c.loop-number.branches generated_branches c.loop-number.invariant c.loop-number-test.false

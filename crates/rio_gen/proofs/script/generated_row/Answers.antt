use Rattle.rio_gen.proofs.NumberLaws.{all_built, one_built}
use Rattle.rio_gen.specs.Generated.{generated_row, generated_value}
use Rattle.rio_gen.proofs.script.generated_row.Goals as goal

pub loop-number-preserved : goal.loop-number-preserved
loop-number-preserved c =
    rw (c.in_ok-push.ensures.ok, c.generated_value.ensures)
    (one_built (generated_value c.args.entry) 20 c.loop-number.number c.loop-number.row (generated_row c.args.entry) c.loop-number.invariant c.loop-number-test.true)

pub returns : goal.returns
returns c = all_built (generated_value c.args.entry) 20 c.loop-number.number c.loop-number.row (generated_row c.args.entry) c.loop-number.invariant c.loop-number-test.false

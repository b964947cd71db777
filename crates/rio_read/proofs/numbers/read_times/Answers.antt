use Rattle.std.proofs.{Common.{rules}, lemmas.Result.{err_from_is_err_and}}
use Rattle.rio_num.proofs.Loops.{times_goes_on, times_fails, times_done}
use Rattle.rio_format.specs.Objects.{number_value}
use Rattle.rio_read.proofs.numbers.read_times.Goals as goal

pub returns-in_err-read_number-clause-exact : goal.returns-in_err-read_number-clause-exact
returns-in_err-read_number-clause-exact c =
    let p = err_from_is_err_and c.from_residual-in_err-read_number.result c.from_residual-in_err-read_number.ensures.1 in
    rw (p.1, p.2) (λ ne. times_fails (number_value c.args.of) c.args.count c.loop-done._done c.loop-done.values c.loop-done.reader _ c.in_err-read_number.field-0.0 c.loop-done-test.true (c.in_err-read_number.ensures.exact ne) c.loop-done.invariant.0)

pub loop-done-preserved : goal.loop-done-preserved
loop-done-preserved c =
    (rw c.in_ok-push.ensures.ok (times_goes_on (number_value c.args.of) c.args.count c.loop-done._done c.loop-done.values c.loop-done.reader _ c.in_ok-read_number.field-0 c.read_number.new.reader c.loop-done-test.true c.in_ok-read_number.ensures.exact c.loop-done.invariant.0), search rules)

pub returns-clause-exact : goal.returns-clause-exact
returns-clause-exact c = times_done (number_value c.args.of) c.args.count c.loop-done._done c.loop-done.values c.loop-done.reader _ c.loop-done-test.false c.loop-done.invariant.0

use Rattle.std.proofs.lemmas.Result.{err_from_is_err_and}
use Rattle.rio_token.proofs.ListLaws.{more_closes, more_goes_on, more_is_cut, more_wants_comma, more_wants_item}
use Rattle.rio_step.specs.Script.{batch_put_at}
use Rattle.rio_cmd.proofs.batch.read_more_puts.Goals as goal

pub returns-then-take_mark : goal.returns-then-take_mark
returns-then-take_mark c =
    more_closes 125 (λ before. batch_put_at) c.left-done-end.result c.loop-done._done c.loop-done.puts c.loop-done.tokens _ c.take_mark.result c.take_mark.new.self c.take_mark.ensures.value c.take_mark.ensures.state c.loop-done-test.true c.if-take_mark.true c.loop-done.invariant

pub returns-in_err-expect_mark : goal.returns-in_err-expect_mark
returns-in_err-expect_mark c =
    let p = err_from_is_err_and c.from_residual.result c.from_residual.ensures.1 in
    rw (p.1, p.2) (λ ne. more_wants_comma 125 (λ before. batch_put_at) c.left-done-end.result c.loop-done._done c.loop-done.puts c.loop-done.tokens _ c.take_mark.result c.take_mark.new.self c.take_mark.ensures.value c.take_mark.ensures.state c.in_err-expect_mark.field-0.0 c.loop-done-test.true c.if-take_mark.false c.in_err-expect_mark.ensures.0 c.loop-done.invariant)

pub returns-in_err-next : goal.returns-in_err-next
returns-in_err-next c =
    let p = err_from_is_err_and c.from_residual-in_err-next.result c.from_residual-in_err-next.ensures.1 in
    rw (p.1, p.2) (λ ne. more_wants_item 125 (λ before. batch_put_at) c.left-done-end.result c.loop-done._done c.loop-done.puts c.loop-done.tokens _ c.take_mark.result c.take_mark.new.self c.take_mark.ensures.value c.take_mark.ensures.state c.expect_mark.new.self c.loop-done-test.true c.if-take_mark.false c.in_ok-expect_mark.ensures c.in_err-next.field-0.0 (c.in_err-next.ensures ne) c.loop-done.invariant)

pub loop-done-preserved : goal.loop-done-preserved
loop-done-preserved c =
    rw c.in_ok-push.ensures.ok (more_goes_on 125 (λ before. batch_put_at) c.left-done-end.result c.loop-done._done c.loop-done.puts c.loop-done.tokens _ c.take_mark.result c.take_mark.new.self c.take_mark.ensures.value c.take_mark.ensures.state c.expect_mark.new.self c.loop-done-test.true c.if-take_mark.false c.in_ok-expect_mark.ensures c.in_ok-next.next c.read_put_item.new.tokens c.in_ok-next.ensures c.loop-done.invariant)

pub returns : goal.returns
returns c =
    λ ne. rw c.bad.ensures (more_is_cut 125 (λ before. batch_put_at) c.left-done-end.result c.loop-done._done c.loop-done.puts c.loop-done.tokens _ c.loop-done-test.false c.loop-done.invariant)

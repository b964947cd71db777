use Rattle.std.proofs.lemmas.Result.{err_from_is_err_and}
use Rattle.rio_num.specs.Plain.{plain}
use Rattle.rio_key.specs.KeyList.{listed_key}
use Rattle.rio_num.proofs.Loops.{times_goes_on, times_fails, times_done}
use Rattle.rio_key.proofs.list.take_heads.Goals as goal

pub returns-in_err-head : goal.returns-in_err-head
returns-in_err-head c =
    let p = err_from_is_err_and c.from_residual.result c.from_residual.ensures.1 in
    rw (p.1, p.2) (λ ne. times_fails listed_key c.args.count c.heads.k c.heads.heads (plain c.heads.cursor) _ c.in_err-head.field-0.0 c.heads-test.true (c.in_err-head.ensures ne) c.heads.invariant)

pub heads-preserved : goal.heads-preserved
heads-preserved c = rw c.in_ok-push.ensures.ok (times_goes_on listed_key c.args.count c.heads.k c.heads.heads (plain c.heads.cursor) _ c.in_ok-head.head (plain c.take_head.new.cursor) c.heads-test.true c.in_ok-head.ensures c.heads.invariant)

pub returns : goal.returns
returns c = times_done listed_key c.args.count c.heads.k c.heads.heads (plain c.heads.cursor) _ c.heads-test.false c.heads.invariant

use Rattle.std.proofs.{Common.{◌≡◌, refl, length, arith}, lemmas.Result.{err_from_is_err_and}}
use Rattle.rio_close.proofs.{Answering.{header_tested}, Fronts.{head_fails, head_late, head_whole}}
use Rattle.rio_close.proofs.front.open_head.Goals as goal

pub returns-in_err-head-clause-exact : goal.returns-in_err-head-clause-exact
returns-in_err-head-clause-exact g c file told =
    let p = err_from_is_err_and c.from_residual-in_err-head.result c.from_residual-in_err-head.ensures.1 in
    rw (p.1, p.2) (head_fails file _ (c.in_ok-n.ensures.bytes file told) c.in_err-head.field-0.0 c.in_err-head.ensures.exact)

pub returns-then-file_length-head-clause-exact : goal.returns-then-file_length-head-clause-exact
returns-then-file_length-head-clause-exact g c file told =
    let all : c.args.file_length ≡ length file = c.requires file told in
    head_late file _ (c.in_ok-n.ensures.bytes file told) c.in_ok-head.head c.in_ok-head.ensures.exact (omega (arith, c.if-file_length-head.true))

pub returns-clause-exact : goal.returns-clause-exact
returns-clause-exact g c file told =
    let all : c.args.file_length ≡ length file = c.requires file told in
    head_whole file _ (c.in_ok-n.ensures.bytes file told) c.in_ok-head.head c.in_ok-head.ensures.exact (omega (arith, c.if-file_length-head.false))

pub returns-in_err-head-clause-cause : goal.returns-in_err-head-clause-cause
returns-in_err-head-clause-cause g c =
    let p = err_from_is_err_and c.from_residual-in_err-head.result c.from_residual-in_err-head.ensures.1 in
    rw (p.1, p.2) (header_tested c.in_err-head.field-0.0.kind c.in_err-head.ensures.kinds, c.in_ok-n.ensures.cause.counted refl)

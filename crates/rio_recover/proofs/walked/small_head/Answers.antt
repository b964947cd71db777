use Rattle.std.proofs.{Common.{◌≡◌, ◌∙◌, min, length, sym, arith}, lemmas.Result.{err_from_is_err_and}}
use Rattle.rio_recover.proofs.FirstRecords.{name_by_front}
use Rattle.rio_recover.proofs.Walking.{head_by_front, large_by_front, small_by_front}
use Rattle.rio_recover.proofs.walked.small_head.Goals as goal

pub returns-in_err-head-clause-told : goal.returns-in_err-head-clause-told
returns-in_err-head-clause-told g c file told =
    let p = err_from_is_err_and c.from_residual-in_err-head.result c.from_residual-in_err-head.ensures.1 in
    let all : c.in_ok-file_length.file_length ≡ length file = c.in_ok-file_length.ensures.length file told in
    let long : length c.in_ok-front.front.items ≡ min (length file) 100 = omega (arith, all, c.in_ok-front.ensures.count) in
    rw (p.1, p.2)
    (sym (head_by_front file c.in_ok-front.front.items c.deref.result.now long (c.in_ok-front.ensures.bytes file (c.length.ensures.holds ∙ told)) c.deref.ensures.value) ∙ sym c.in_err-head.ensures.exact)

pub returns-then-head-ge1000000-clause-told : goal.returns-then-head-ge1000000-clause-told
returns-then-head-ge1000000-clause-told g c file told =
    let all : c.in_ok-file_length.file_length ≡ length file = c.in_ok-file_length.ensures.length file told in
    let long : length c.in_ok-front.front.items ≡ min (length file) 100 = omega (arith, all, c.in_ok-front.ensures.count) in
    let same = head_by_front file c.in_ok-front.front.items c.deref.result.now long (c.in_ok-front.ensures.bytes file (c.length.ensures.holds ∙ told)) c.deref.ensures.value in
    large_by_front file c.deref.result.now c.in_ok-head.head same c.in_ok-head.ensures.exact c.if-head-ge1000000.true

pub returns-clause-told : goal.returns-clause-told
returns-clause-told g c file told =
    let all : c.in_ok-file_length.file_length ≡ length file = c.in_ok-file_length.ensures.length file told in
    let long : length c.in_ok-front.front.items ≡ min (length file) 100 = omega (arith, all, c.in_ok-front.ensures.count) in
    let same = head_by_front file c.in_ok-front.front.items c.deref.result.now long (c.in_ok-front.ensures.bytes file (c.length.ensures.holds ∙ told)) c.deref.ensures.value in
    small_by_front file c.deref.result.now c.in_ok-head.head same c.in_ok-head.ensures.exact c.if-head-ge1000000.false

pub returns-clause-name : goal.returns-clause-name
returns-clause-name g c file told =
    name_by_front file c.in_ok-front.front.items c.deref.result.now c.in_ok-head.head (c.in_ok-front.ensures.bytes file (c.length.ensures.holds ∙ told)) c.deref.ensures.value c.in_ok-head.ensures.found c.if-head-ge1000000.false

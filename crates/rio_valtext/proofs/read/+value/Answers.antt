use Rattle.std.proofs.lemmas.Result.{err_from_is_err_and}
use Rattle.rio_token.proofs.ListLaws.{more_closes, more_goes_on, more_is_cut, more_wants_comma, more_wants_item}
use Rattle.std.proofs.Common.{cond, []}
use Rattle.rio_format.specs.Bodies.{part}
use Rattle.rio_model.specs.ValueGrammar.{enclosed_at, part_at, value_in_text}
use Rattle.rio_valtext.proofs.PartReads.{part_read, put_read}
use Rattle.rio_valtext.proofs.read.+value.Goals as goal

pub read_more_items-returns-then-take_mark : goal.read_more_items-returns-then-take_mark
read_more_items-returns-then-take_mark t c =
    more_closes 93 (λ before. value_in_text (enclosed_at c.args.levels)) c.left-done-end.result c.loop-done._done c.loop-done.items c.loop-done.tokens _ c.take_mark.result c.take_mark.new.self c.take_mark.ensures.value c.take_mark.ensures.state c.loop-done-test.true c.if-take_mark.true c.loop-done.invariant

pub read_more_items-returns-in_err-expect_mark : goal.read_more_items-returns-in_err-expect_mark
read_more_items-returns-in_err-expect_mark t c =
    let p = err_from_is_err_and c.from_residual.result c.from_residual.ensures.1 in
    rw (p.1, p.2) (λ ne. more_wants_comma 93 (λ before. value_in_text (enclosed_at c.args.levels)) c.left-done-end.result c.loop-done._done c.loop-done.items c.loop-done.tokens _ c.take_mark.result c.take_mark.new.self c.take_mark.ensures.value c.take_mark.ensures.state c.in_err-expect_mark.field-0.0 c.loop-done-test.true c.if-take_mark.false c.in_err-expect_mark.ensures.0 c.loop-done.invariant)

pub read_more_items-returns-in_err-push_next : goal.read_more_items-returns-in_err-push_next
read_more_items-returns-in_err-push_next t c =
    let p = err_from_is_err_and c.from_residual-in_err-push_next.result c.from_residual-in_err-push_next.ensures.1 in
    rw (p.1, p.2) (λ ne. more_wants_item 93 (λ before. value_in_text (enclosed_at c.args.levels)) c.left-done-end.result c.loop-done._done c.loop-done.items c.loop-done.tokens _ c.take_mark.result c.take_mark.new.self c.take_mark.ensures.value c.take_mark.ensures.state c.expect_mark.new.self c.loop-done-test.true c.if-take_mark.false c.in_ok-expect_mark.ensures c.in_err-push_next.field-0.0 (c.in_err-push_next.ensures.err ne) c.loop-done.invariant)

pub read_more_items-loop-done-preserved : goal.read_more_items-loop-done-preserved
read_more_items-loop-done-preserved t c =
    let next = c.in_ok-push_next.ensures.ok in
    rw next.2 (more_goes_on 93 (λ before. value_in_text (enclosed_at c.args.levels)) c.left-done-end.result c.loop-done._done c.loop-done.items c.loop-done.tokens _ c.take_mark.result c.take_mark.new.self c.take_mark.ensures.value c.take_mark.ensures.state c.expect_mark.new.self c.loop-done-test.true c.if-take_mark.false c.in_ok-expect_mark.ensures next.0 c.push_next.new.tokens next.1 c.loop-done.invariant)

pub read_more_items-returns : goal.read_more_items-returns
read_more_items-returns t c =
    λ ne. rw c.bad.ensures (more_is_cut 93 (λ before. value_in_text (enclosed_at c.args.levels)) c.left-done-end.result c.loop-done._done c.loop-done.items c.loop-done.tokens _ c.loop-done-test.false c.loop-done.invariant)

pub read_more_parts-returns-then-take_mark : goal.read_more_parts-returns-then-take_mark
read_more_parts-returns-then-take_mark t c =
    more_closes 125 (λ before. part_at (enclosed_at c.args.levels)) c.left-done-end.result c.loop-done._done c.loop-done.parts c.loop-done.tokens _ c.take_mark.result c.take_mark.new.self c.take_mark.ensures.value c.take_mark.ensures.state c.loop-done-test.true c.if-take_mark.true c.loop-done.invariant

pub read_more_parts-returns-in_err-expect_mark : goal.read_more_parts-returns-in_err-expect_mark
read_more_parts-returns-in_err-expect_mark t c =
    let p = err_from_is_err_and c.from_residual.result c.from_residual.ensures.1 in
    rw (p.1, p.2) (λ ne. more_wants_comma 125 (λ before. part_at (enclosed_at c.args.levels)) c.left-done-end.result c.loop-done._done c.loop-done.parts c.loop-done.tokens _ c.take_mark.result c.take_mark.new.self c.take_mark.ensures.value c.take_mark.ensures.state c.in_err-expect_mark.field-0.0 c.loop-done-test.true c.if-take_mark.false c.in_err-expect_mark.ensures.0 c.loop-done.invariant)

pub read_more_parts-returns-in_err-push_part : goal.read_more_parts-returns-in_err-push_part
read_more_parts-returns-in_err-push_part t c =
    let p = err_from_is_err_and c.from_residual-in_err-push_part.result c.from_residual-in_err-push_part.ensures.1 in
    rw (p.1, p.2) (λ ne. more_wants_item 125 (λ before. part_at (enclosed_at c.args.levels)) c.left-done-end.result c.loop-done._done c.loop-done.parts c.loop-done.tokens _ c.take_mark.result c.take_mark.new.self c.take_mark.ensures.value c.take_mark.ensures.state c.expect_mark.new.self c.loop-done-test.true c.if-take_mark.false c.in_ok-expect_mark.ensures c.in_err-push_part.field-0.0 (c.in_err-push_part.ensures.err ne) c.loop-done.invariant)

pub read_more_parts-loop-done-preserved : goal.read_more_parts-loop-done-preserved
read_more_parts-loop-done-preserved t c =
    let next = c.in_ok-push_part.ensures.ok in
    rw next.2 (more_goes_on 125 (λ before. part_at (enclosed_at c.args.levels)) c.left-done-end.result c.loop-done._done c.loop-done.parts c.loop-done.tokens _ c.take_mark.result c.take_mark.new.self c.take_mark.ensures.value c.take_mark.ensures.state c.expect_mark.new.self c.loop-done-test.true c.if-take_mark.false c.in_ok-expect_mark.ensures next.0 c.push_part.new.tokens next.1 c.loop-done.invariant)

pub read_more_parts-returns : goal.read_more_parts-returns
read_more_parts-returns t c =
    λ ne. rw c.bad.ensures (more_is_cut 125 (λ before. part_at (enclosed_at c.args.levels)) c.left-done-end.result c.loop-done._done c.loop-done.parts c.loop-done.tokens _ c.loop-done-test.false c.loop-done.invariant)

pub push_part-returns-in-Ok-clause-ok : goal.push_part-returns-in-Ok-clause-ok
push_part-returns-in-Ok-clause-ok t c =
    let name = c.in_ok-name.name.now in
    let is_member = c.take_mark-is_member.result in
    let enclosed = enclosed_at c.args.levels in
    let read = part_read enclosed c.args.tokens.now name c.take_name.new.self c.take_mark-is_member.new.self c.in_ok-name.ensures c.in-Ok.value c.read_named.new.tokens is_member c.take_mark-is_member.ensures.value c.take_mark-is_member.ensures.state c.in-Ok.ensures in
    put_read c.put_part.result (part_at enclosed c.args.tokens.now) c.read_named.new.tokens c.args.parts.now c.put_part.new.parts (part (cond is_member name []) c.in-Ok.value) read c.put_part.ensures.ok

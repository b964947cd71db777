use Rattle.std.proofs.{Common.{rules}, lemmas.Result.{err_from_is_err_and}}
use Rattle.rio_num.proofs.Loops.{times_goes_on, times_fails, times_done}
use Rattle.rio_format.specs.Objects.{base_part, link, object_of, pointer}
use Rattle.rio_read.proofs.Each.{each_goes_on, each_fails, each_done, counter_member, members_go_on, members_fail, members_done}
use Rattle.rio_read.proofs.object.+object.Goals as goal

pub read_bases-returns-in_err-read_base_part-clause-exact : goal.read_bases-returns-in_err-read_base_part-clause-exact
read_bases-returns-in_err-read_base_part-clause-exact t c =
    let p = err_from_is_err_and c.from_residual.result c.from_residual.ensures.1 in
    rw (p.1, p.2) (λ ne. each_fails (base_part (object_of c.args.levels c.args.classes.now)) c.args.bases.now c.loop-base.base-index c.loop-base.parts c.loop-base.reader _ c.base-item.result c.in_err-read_base_part.field-0.0 c.loop-base-test.true c.base-item.is (c.in_err-read_base_part.ensures.exact ne) c.loop-base.invariant.0)

pub read_bases-loop-base-preserved : goal.read_bases-loop-base-preserved
read_bases-loop-base-preserved t c =
    (rw c.in_ok-push.ensures.ok (each_goes_on (base_part (object_of c.args.levels c.args.classes.now)) c.args.bases.now c.loop-base.base-index c.loop-base.parts c.loop-base.reader _ c.base-item.result c.in_ok-read_base_part.field-0 c.read_base_part.new.reader c.loop-base-test.true c.base-item.is c.in_ok-read_base_part.ensures.exact c.loop-base.invariant.0), search rules)

pub read_bases-returns-clause-exact : goal.read_bases-returns-clause-exact
read_bases-returns-clause-exact t c =
    each_done (base_part (object_of c.args.levels c.args.classes.now)) c.args.bases.now c.loop-base.base-index c.loop-base.parts c.loop-base.reader _ c.loop-base-test.false c.loop-base.invariant.0

pub read_links-returns-in_err-read_link-clause-exact : goal.read_links-returns-in_err-read_link-clause-exact
read_links-returns-in_err-read_link-clause-exact t c =
    let p = err_from_is_err_and c.from_residual.result c.from_residual.ensures.1 in
    rw (p.1, p.2) (λ ne. times_fails (link (object_of c.args.levels c.args.classes.now)) c.args.count c.loop-done._done c.loop-done.links c.loop-done.reader _ c.in_err-read_link.field-0.0 c.loop-done-test.true (c.in_err-read_link.ensures.exact ne) c.loop-done.invariant.0)

pub read_links-loop-done-preserved : goal.read_links-loop-done-preserved
read_links-loop-done-preserved t c =
    (rw c.in_ok-push.ensures.ok (times_goes_on (link (object_of c.args.levels c.args.classes.now)) c.args.count c.loop-done._done c.loop-done.links c.loop-done.reader _ c.in_ok-read_link.field-0 c.read_link.new.reader c.loop-done-test.true c.in_ok-read_link.ensures.exact c.loop-done.invariant.0), search rules)

pub read_links-returns-clause-exact : goal.read_links-returns-clause-exact
read_links-returns-clause-exact t c =
    times_done (link (object_of c.args.levels c.args.classes.now)) c.args.count c.loop-done._done c.loop-done.links c.loop-done.reader _ c.loop-done-test.false c.loop-done.invariant.0

pub read_pointers-returns-in_err-read_pointer-clause-exact : goal.read_pointers-returns-in_err-read_pointer-clause-exact
read_pointers-returns-in_err-read_pointer-clause-exact t c =
    let p = err_from_is_err_and c.from_residual.result c.from_residual.ensures.1 in
    rw (p.1, p.2) (λ ne. times_fails (pointer (object_of c.args.levels c.args.classes.now)) c.args.count c.loop-done._done c.loop-done.pointers c.loop-done.reader _ c.in_err-read_pointer.field-0.0 c.loop-done-test.true (c.in_err-read_pointer.ensures.exact ne) c.loop-done.invariant.0)

pub read_pointers-loop-done-preserved : goal.read_pointers-loop-done-preserved
read_pointers-loop-done-preserved t c =
    (rw c.in_ok-push.ensures.ok (times_goes_on (pointer (object_of c.args.levels c.args.classes.now)) c.args.count c.loop-done._done c.loop-done.pointers c.loop-done.reader _ c.in_ok-read_pointer.field-0 c.read_pointer.new.reader c.loop-done-test.true c.in_ok-read_pointer.ensures.exact c.loop-done.invariant.0), search rules)

pub read_pointers-returns-clause-exact : goal.read_pointers-returns-clause-exact
read_pointers-returns-clause-exact t c =
    times_done (pointer (object_of c.args.levels c.args.classes.now)) c.args.count c.loop-done._done c.loop-done.pointers c.loop-done.reader _ c.loop-done-test.false c.loop-done.invariant.0

pub read_member-returns-in-Counter-clause-exact : goal.read_member-returns-in-Counter-clause-exact
read_member-returns-in-Counter-clause-exact t c =
    rw (counter_member (object_of c.args.levels c.args.classes.now) c.args.counters.now c.args.member.now c.args.reader.now c.in-Counter.is) c.read_counter.ensures.exact

pub read_members-returns-in_err-read_member-clause-exact : goal.read_members-returns-in_err-read_member-clause-exact
read_members-returns-in_err-read_member-clause-exact t c =
    let p = err_from_is_err_and c.from_residual.result c.from_residual.ensures.1 in
    rw (p.1, p.2) (λ ne. members_fail (object_of c.args.levels c.args.classes.now) c.args.members.now c.loop-member.member-index c.loop-member.parts c.loop-member.reader c.loop-member.counters _ c.member-item.result c.in_err-read_member.field-0.0 c.loop-member-test.true c.member-item.is (c.in_err-read_member.ensures.exact ne) c.loop-member.invariant.0)

pub read_members-loop-member-preserved : goal.read_members-loop-member-preserved
read_members-loop-member-preserved t c =
    (rw c.in_ok-push.ensures.ok (members_go_on (object_of c.args.levels c.args.classes.now) c.args.members.now c.loop-member.member-index c.loop-member.parts c.loop-member.reader c.loop-member.counters _ c.member-item.result c.in_ok-read_member.field-0 c.read_member.new.reader c.read_member.new.counters c.loop-member-test.true c.member-item.is c.in_ok-read_member.ensures.exact c.in_ok-read_member.ensures.counters c.loop-member.invariant.0), search rules)

pub read_members-returns-clause-exact : goal.read_members-returns-clause-exact
read_members-returns-clause-exact t c =
    members_done (object_of c.args.levels c.args.classes.now) c.args.members.now c.loop-member.member-index c.loop-member.parts c.loop-member.reader c.loop-member.counters _ c.loop-member-test.false c.loop-member.invariant.0

use Rattle.std.proofs.{Common.{◌≡◌, rules}, lemmas.Result.{err_from_is_err_and}}
use Rattle.rio_format.specs.{Frames.{pointer_word}, declared.words.PointerWord.TheVariants.{New}, Bodies.{body_of, listed}, Objects.{base_part, body, link, object_of, pointer}}
use Rattle.rio_num.specs.Meanings.{read}
use Rattle.rio_read.proofs.PassedParts.{pointer_new, word_read, each_passed_on, each_passed_fails, each_passed_done, times_passed_on, times_passed_fails, times_passed_done, members_passed_on, members_passed_fail, members_passed_done}
use Rattle.rio_read.proofs.pass.object.+passing.Goals as goal

pub pass_bases-returns-in_err-pass_base_part-clause-exact : goal.pass_bases-returns-in_err-pass_base_part-clause-exact
pass_bases-returns-in_err-pass_base_part-clause-exact t c =
    let p = err_from_is_err_and c.from_residual.result c.from_residual.ensures.1 in
    rw (p.1, p.2) (λ ne. each_passed_fails (base_part (object_of c.args.levels c.args.classes.now)) c.args.bases.now c.loop-base.base-index c.loop-base.reader _ c.base-item.result c.in_err-pass_base_part.field-0.0 c.loop-base-test.true c.base-item.is (c.in_err-pass_base_part.ensures.exact ne) c.loop-base.invariant.0)

pub pass_bases-loop-base-preserved : goal.pass_bases-loop-base-preserved
pass_bases-loop-base-preserved t c =
    (each_passed_on (base_part (object_of c.args.levels c.args.classes.now)) c.args.bases.now c.loop-base.base-index c.loop-base.reader _ c.base-item.result c.pass_base_part.new.reader c.loop-base-test.true c.base-item.is c.in_ok-pass_base_part.ensures.exact c.loop-base.invariant.0, search rules)

pub pass_bases-returns-clause-exact : goal.pass_bases-returns-clause-exact
pass_bases-returns-clause-exact t c =
    each_passed_done (base_part (object_of c.args.levels c.args.classes.now)) c.args.bases.now c.loop-base.base-index c.loop-base.reader _ c.loop-base-test.false c.loop-base.invariant.0

pub pass_links-returns-in_err-pass_link-clause-exact : goal.pass_links-returns-in_err-pass_link-clause-exact
pass_links-returns-in_err-pass_link-clause-exact t c =
    let p = err_from_is_err_and c.from_residual.result c.from_residual.ensures.1 in
    rw (p.1, p.2) (λ ne. times_passed_fails (link (object_of c.args.levels c.args.classes.now)) c.args.count c.loop-done._done c.loop-done.reader _ c.in_err-pass_link.field-0.0 c.loop-done-test.true (c.in_err-pass_link.ensures.exact ne) c.loop-done.invariant.0)

pub pass_links-loop-done-preserved : goal.pass_links-loop-done-preserved
pass_links-loop-done-preserved t c =
    (times_passed_on (link (object_of c.args.levels c.args.classes.now)) c.args.count c.loop-done._done c.loop-done.reader _ c.pass_link.new.reader c.loop-done-test.true c.in_ok-pass_link.ensures.exact c.loop-done.invariant.0, search rules)

pub pass_links-returns-clause-exact : goal.pass_links-returns-clause-exact
pass_links-returns-clause-exact t c =
    times_passed_done (link (object_of c.args.levels c.args.classes.now)) c.args.count c.loop-done._done c.loop-done.reader _ c.loop-done-test.false c.loop-done.invariant.0

pub pass_pointers-returns-in_err-pass_pointer-clause-exact : goal.pass_pointers-returns-in_err-pass_pointer-clause-exact
pass_pointers-returns-in_err-pass_pointer-clause-exact t c =
    let p = err_from_is_err_and c.from_residual.result c.from_residual.ensures.1 in
    rw (p.1, p.2) (λ ne. times_passed_fails (pointer (object_of c.args.levels c.args.classes.now)) c.args.count c.loop-done._done c.loop-done.reader _ c.in_err-pass_pointer.field-0.0 c.loop-done-test.true (c.in_err-pass_pointer.ensures.exact ne) c.loop-done.invariant.0)

pub pass_pointers-loop-done-preserved : goal.pass_pointers-loop-done-preserved
pass_pointers-loop-done-preserved t c =
    (times_passed_on (pointer (object_of c.args.levels c.args.classes.now)) c.args.count c.loop-done._done c.loop-done.reader _ c.pass_pointer.new.reader c.loop-done-test.true c.in_ok-pass_pointer.ensures.exact c.loop-done.invariant.0, search rules)

pub pass_pointers-returns-clause-exact : goal.pass_pointers-returns-clause-exact
pass_pointers-returns-clause-exact t c =
    times_passed_done (pointer (object_of c.args.levels c.args.classes.now)) c.args.count c.loop-done._done c.loop-done.reader _ c.loop-done-test.false c.loop-done.invariant.0

pub pass_members-returns-in_err-pass_member-clause-exact : goal.pass_members-returns-in_err-pass_member-clause-exact
pass_members-returns-in_err-pass_member-clause-exact t c =
    let p = err_from_is_err_and c.from_residual.result c.from_residual.ensures.1 in
    rw (p.1, p.2) (λ ne. members_passed_fail (object_of c.args.levels c.args.classes.now) c.args.members.now c.loop-member.member-index c.loop-member.reader c.loop-member.counters _ c.member-item.result c.in_err-pass_member.field-0.0 c.loop-member-test.true c.member-item.is (c.in_err-pass_member.ensures.exact ne) c.loop-member.invariant.0)

pub pass_members-loop-member-preserved : goal.pass_members-loop-member-preserved
pass_members-loop-member-preserved t c =
    (members_passed_on (object_of c.args.levels c.args.classes.now) c.args.members.now c.loop-member.member-index c.loop-member.reader c.loop-member.counters _ c.member-item.result c.pass_member.new.reader c.pass_member.new.counters c.loop-member-test.true c.member-item.is c.in_ok-pass_member.ensures.exact c.loop-member.invariant.0, search rules)

pub pass_members-returns-clause-exact : goal.pass_members-returns-clause-exact
pass_members-returns-clause-exact t c =
    members_passed_done (object_of c.args.levels c.args.classes.now) c.args.members.now c.loop-member.member-index c.loop-member.reader c.loop-member.counters _ c.loop-member-test.false c.loop-member.invariant.0

pub pass_body-returns-in-Listed-clause-exact : goal.pass_body-returns-in-Listed-clause-exact
unfolding body
pass_body-returns-in-Listed-clause-exact t c =
    let is : body_of c.args.classes.now c.args.class.now c.args.header.version c.args.header.sum ≡ listed = search rules in
    rw is c.pass_listed.ensures.exact

pub pass_pointer-returns-in-New-clause-exact : goal.pass_pointer-returns-in-New-clause-exact
pass_pointer-returns-in-New-clause-exact t c =
    let is : read pointer_word c.args.reader.now ≡ word_read (New c.in-New.label c.in-New.place c.in-New.end c.as_slice.result.now) c.pointer.new.self = search rules in
    rw (pointer_new (object_of c.args.levels c.args.classes.now) c.in-New.label c.in-New.place c.in-New.end c.as_slice.result.now c.args.reader.now c.pointer.new.self is) c.pass_new.ensures.exact

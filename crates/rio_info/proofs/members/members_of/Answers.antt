use Rattle.std.proofs.Common.{sym, ◌∙◌}
use Rattle.rio_info.proofs.MemberLaws.{done, goes_on, passes}
use Rattle.rio_info.proofs.members.members_of.Goals.{then-not-is_base+in_ok-member_of+in_ok-push+in_ok-note_counter, else-not-is_base}
use Rattle.rio_info.proofs.members.members_of.Goals as goal

pub loop-item-preserved : goal.loop-item-preserved
loop-item-preserved c =
    let is = rw c.element_of-element.ensures at c.is_base.ensures in
    elim c.if-not-is_base.branch [
      | then-not-is_base+in_ok-member_of+in_ok-push+in_ok-note_counter w ↦
          rw (w.members-is, w.counters-is, w.in_ok-push.ensures.ok, w.in_ok-member_of.ensures, c.element_of-element.ensures)
          (goes_on c.args.items.now c.loop-item.item-index c.loop-item.members c.loop-item.counters _ c.loop-item.invariant c.item-item.result w.note_counter.new.counters c.loop-item-test.true c.item-item.is (sym is ∙ w.if-not-is_base.true) (rw c.element_of-element.ensures at w.in_ok-note_counter.ensures))
      | else-not-is_base w ↦
          rw (w.members-is, w.counters-is)
          (passes c.args.items.now c.loop-item.item-index c.loop-item.members c.loop-item.counters _ c.loop-item.invariant c.item-item.result c.loop-item-test.true c.item-item.is (sym is ∙ w.if-not-is_base.false))
    ]

pub returns : goal.returns
returns c = done c.args.items.now c.loop-item.item-index c.loop-item.members c.loop-item.counters _ c.loop-item.invariant c.loop-item-test.false

use Rattle.std.proofs.Common.{◌<◌, length, sym, ap, ◌∙◌, arith}
use Rattle.std.specs.Option.{option_copied}
use Rattle.rio_fill.specs.{Fill.{BranchFill}, Room.{branch_reserved, branches_reserved, without_room}}
use Rattle.rio_fill.proofs.Lists.{reserve_goes_on, room_stays}
use Rattle.rio_fill.proofs.filler.reserve_each.Goals as goal

pub returns-in_err-reserve-clause-err : goal.returns-in_err-reserve-clause-err
returns-in_err-reserve-clause-err c =
    let bs = c.loop-k.branches in
    let b = c.index-branches-k.result in
    let lt : c.loop-k.k < length bs = omega (arith, c.loop-k-test.true, c.loop-k.auto.branches) in
    room_stays bs c.loop-k.k b c.reserve.new.self lt c.index-branches-k.is (c.reserve.ensures.err ∙ ap without_room (sym c.index-branches-k.is)) ∙ c.loop-k.invariant.1

pub loop-k-preserved : goal.loop-k-preserved
loop-k-preserved c =
    let bs = c.loop-k.branches in
    let k = c.loop-k.k in
    let b = c.index-branches-k.result in
    let row = option_copied c.args.row in
    let lt : k < length bs = omega (arith, c.loop-k-test.true, c.loop-k.auto.branches) in
    let new =
    c.in_ok-reserve.ensures.ok
    ∙ ap (λ (x : BranchFill). branch_reserved x (option_copied c.entry_given.result)) (sym c.index-branches-k.is)
    ∙ ap (branch_reserved b) c.entry_given.ensures in (
      reserve_goes_on bs k b c.reserve.new.self lt c.index-branches-k.is row (branches_reserved c.args.branches.now row) new c.loop-k.invariant.0,
      room_stays bs k b c.reserve.new.self lt c.index-branches-k.is (c.reserve.ensures.err ∙ ap without_room (sym c.index-branches-k.is)) ∙ c.loop-k.invariant.1,
    )

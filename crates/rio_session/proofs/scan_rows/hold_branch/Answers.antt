use Rattle.std.proofs.Common.{arith}
use Rattle.rio_session.proofs.HeldLanes.{lane_held, lane_kept, none_held}
use Rattle.rio_session.proofs.scan_rows.hold_branch.Goals as goal

pub returns-then-entry-branch-clause-held : goal.returns-then-entry-branch-clause-held
returns-then-entry-branch-clause-held g c = λ file links told chain lane b is low. absurd (none_held c.args.tree.now.filler.now c.args.entry c.args.k c.branch_at-branch.result.first c.branch_at-branch.ensures.first (omega arith) b is low)

pub returns-clause-held : goal.returns-clause-held
returns-clause-held g c = λ file links told chain lane b is low.
    lane_held links c.args.tree.now.filler.now c.args.entry c.args.k c.branch_at-branch.result.def.now c.branch_at-branch.result.baskets.now c.has_offsets-offsets.result c.args.lane.now c.hold_basket.new.lane c.branch_at-branch.ensures.def c.branch_at-branch.ensures.baskets c.has_offsets-offsets.ensures
    c.in_ok-hold_basket.ensures.number (c.in_ok-hold_basket.ensures.held file links told chain) c.in_ok-hold_basket.ensures.some lane b is

pub returns-clause-kept : goal.returns-clause-kept
returns-clause-kept g c = λ file links told chain lane b is.
    lane_kept links c.args.entry b c.hold_basket.new.lane
    (lane_held links c.args.tree.now.filler.now c.args.entry c.args.k c.branch_at-branch.result.def.now c.branch_at-branch.result.baskets.now c.has_offsets-offsets.result c.args.lane.now c.hold_basket.new.lane c.branch_at-branch.ensures.def c.branch_at-branch.ensures.baskets c.has_offsets-offsets.ensures
    c.in_ok-hold_basket.ensures.number (c.in_ok-hold_basket.ensures.held file links told chain) c.in_ok-hold_basket.ensures.some lane b is)

use Rattle.std.proofs.Common.{List, subst, sym, arith}
use Rattle.rio_tree.specs.declared.head.Branch.{Branch}
use Rattle.rio_session.proofs.NewHeads.{Heading, heading_begins, heading_ends, heading_goes_on}
use Rattle.rio_session.proofs.new_head.new_head.Goals as goal

pub loop-k-init : goal.loop-k-init
loop-k-init c = subst (λ (made : List Branch). Heading c.args.classes.now c.args.branches.now 0 made) (sym c.new-made.ensures) (heading_begins c.args.classes.now c.args.branches.now)

pub loop-k-preserved : goal.loop-k-preserved
loop-k-preserved c =
    heading_goes_on c.args.classes.now c.args.branches.now c.loop-k.k c.loop-k.made c.push.new.self c.loop-k.invariant c.index-branches-k.result (omega arith) c.index-branches-k.is c.in_ok-branch.branch c.in_ok-branch.ensures c.in_ok-push.ensures.ok

pub returns : goal.returns
returns c =
    let all = heading_ends c.args.classes.now c.args.branches.now c.loop-k.k c.loop-k.made c.loop-k.invariant (omega arith) in
    λ i. record { entries = 0; branches = all i }

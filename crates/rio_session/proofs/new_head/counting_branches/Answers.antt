use Rattle.std.proofs.Common.{◌<◌, ◌∙◌, ℕ, List, length, subst, sym, arith}
use Rattle.rio_session.proofs.CountersFound.{Finding, finding_begins, finding_ends, found_none, found_one}
use Rattle.rio_session.proofs.new_head.counting_branches.Goals.{then-counts_one+in_ok-push, else-counts_one}
use Rattle.rio_session.proofs.new_head.counting_branches.Goals as goal

pub loop-k-init : goal.loop-k-init
loop-k-init c = subst (λ (numbers : List ℕ). Finding c.args.before.now c.args.leaves.now 0 numbers) (sym c.new-numbers.ensures) (finding_begins c.args.before.now c.args.leaves.now)

pub loop-k-preserved : goal.loop-k-preserved
loop-k-preserved c =
    let l = c.loop-k in
    let lt : l.k < length c.args.before.now = omega (arith, c.loop-k-test.true) in
    elim c.if-counts_one.branch [
      | then-counts_one+in_ok-push w ↦
          rw (w.numbers-is, w.in_ok-push.ensures.ok) (found_one c.args.before.now c.args.leaves.now l.k l.numbers l.invariant lt (sym c.counts_one.ensures ∙ w.if-counts_one.true))
      | else-counts_one w ↦ rw w.numbers-is (found_none c.args.before.now c.args.leaves.now l.k l.numbers l.invariant lt (sym c.counts_one.ensures ∙ w.if-counts_one.false))
    ]

pub returns : goal.returns
returns c = finding_ends c.args.before.now c.args.leaves.now c.loop-k.k c.loop-k.numbers c.loop-k.invariant (omega (arith, c.loop-k-test.false))

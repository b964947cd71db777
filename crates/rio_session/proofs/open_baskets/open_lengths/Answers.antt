use Rattle.std.proofs.Common.{◌<◌, ◌∙◌, ℕ, List, length, subst, sym, ap, arith}
use Rattle.rio_session.specs.{Fills.{FilledTree}, Measures.{flags_for}}
use Rattle.rio_session.proofs.PutOpen.{put_lengths}
use Rattle.rio_session.proofs.Planned.{Measuring, measured_other, measured_this, measuring_begins, measuring_ends}
use Rattle.rio_session.proofs.open_baskets.open_lengths.Goals.{then-is_flagged+in_ok-push, else-is_flagged}
use Rattle.rio_session.proofs.open_baskets.open_lengths.Goals as goal

pub loop-k-init : goal.loop-k-init
loop-k-init c =
    let t = c.args.tree.now in
    subst (λ (lengths : List ℕ). Measuring t.name t.fill.branches c.args.flags 0 lengths) (sym c.new-lengths.ensures) (measuring_begins t.name t.fill.branches c.args.flags)

pub loop-k-preserved : goal.loop-k-preserved
loop-k-preserved c =
    let l = c.loop-k in
    let t = c.args.tree.now in
    let lt : l.k < length t.fill.branches = omega (arith, c.loop-k-test.true, c.width-k-end.ensures, ap (λ (x : FilledTree). length x.fill.branches) c.tree.view_is) in
    elim c.if-is_flagged.branch [
      | then-is_flagged+in_ok-push w ↦
          rw w.lengths-is (measured_this t.name t.fill.branches c.args.flags l.k l.lengths l.invariant lt (sym c.is_flagged.ensures ∙ w.if-is_flagged.true) w.open_length.result w.open_length.ensures.exact w.open_length.ensures.low w.push.new.self w.in_ok-push.ensures.ok)
      | else-is_flagged w ↦ rw w.lengths-is (measured_other t.name t.fill.branches c.args.flags l.k l.lengths l.invariant lt (sym c.is_flagged.ensures ∙ w.if-is_flagged.false))
    ]

pub returns-clause-exact : goal.returns-clause-exact
returns-clause-exact c datime count segments =
    let l = c.loop-k in
    let t = c.args.tree.now in
    measuring_ends t.name t.fill.branches c.args.flags l.k l.lengths l.invariant (omega (arith, c.loop-k-test.false, c.width-k-end.ensures, ap (λ (x : FilledTree). length x.fill.branches) c.tree.view_is)) ∙ sym (put_lengths t.name datime count t.fill.branches (flags_for t.fill.branches c.args.flags) segments)

pub returns-clause-few : goal.returns-clause-few
returns-clause-few c = let i = c.loop-k.invariant in omega (arith, i.few, i.within, c.stays_bounded.ensures.few)

pub returns-clause-small : goal.returns-clause-small
returns-clause-small c = let i = c.loop-k.invariant in omega (arith, i.small, i.within, c.stays_bounded.ensures.few)

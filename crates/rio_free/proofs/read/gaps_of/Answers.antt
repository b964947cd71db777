use Rattle.std.proofs.Common.{◌≡◌, ◌+◌, ◌-◌, None, length, get_or, ap, arith, ◌∙◌}
use Rattle.rio_free.specs.{declared.entry.FreeEntry.{FreeEntry}, EntryList.{gap_of_entry}, Gaps.{FreeGaps, given}}
use Rattle.rio_free.proofs.EntryGaps.{in_order_at, next_apart, next_given}
use Rattle.rio_free.proofs.read.gaps_of.Goals as goal

pub overflow_sub-entry : goal.overflow_sub-entry
overflow_sub-entry c = in_order_at None c.args.entries.now c.requires.rise c.loop-entry.entry-index _ c.loop-entry-test.true

pub give-requires-clause-fits : goal.give-requires-clause-fits
give-requires-clause-fits c =
    omega (arith, in_order_at None c.args.entries.now c.requires.rise c.loop-entry.entry-index (record { first = 0; last = 0 }) c.loop-entry-test.true, c.requires.fit c.loop-entry.entry-index (record { first = 0; last = 0 }) c.loop-entry-test.true)

pub give-requires-clause-apart : goal.give-requires-clause-apart
give-requires-clause-apart c =
    rw (ap (λ (l : FreeGaps). l.gaps) c.loop-entry.invariant) (next_apart None c.args.entries.now c.requires.rise c.loop-entry.entry-index _ c.loop-entry-test.true)

pub loop-entry-preserved : goal.loop-entry-preserved
loop-entry-preserved c =
    let k = c.loop-entry.entry-index in
    let d : FreeEntry = record { first = 0; last = 0 } in
    let gaps = ap (given (gap_of_entry (get_or c.args.entries.now k d))) (ap (λ (l : FreeGaps). l.gaps) c.loop-entry.invariant) ∙ next_given None c.args.entries.now c.requires.rise k d c.loop-entry-test.true in
    let spare : c.loop-entry.list.spare - 1 ≡ length c.args.entries.now - (k + 1) = omega (arith, ap (λ (l : FreeGaps). l.spare) c.loop-entry.invariant) in
    c.give.ensures.exact ∙ (λ i. record { gaps = gaps i; spare = spare i })

use Rattle.std.proofs.Common.{ℤ, Option, drop, ◌+◌, sym, ap, ◌∙◌, arith}
use Rattle.rio_entry.specs.Leaves.{last_number}
use Rattle.rio_entry.proofs.LastNumbers.{last_more}
use Rattle.rio_entry.proofs.counts.last_number.Goals as goal

pub loop-k-preserved : goal.loop-k-preserved
loop-k-preserved c =
    let k = c.loop-k.k in
    let next = ap (λ (o : Option ℤ). last_number c.args.name.now (drop (k + 1) c.args.leaves.now) (drop (k + 1) c.args.values.now) o) c.number_with-last.ensures in
    next ∙ sym (last_more c.args.name.now c.args.leaves.now c.args.values.now k c.loop-k.last c.index-leaves-k.result (omega arith) c.index-leaves-k.is) ∙ c.loop-k.invariant

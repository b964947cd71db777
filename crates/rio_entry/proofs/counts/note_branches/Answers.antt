use Rattle.std.proofs.{Common.{get_or, subst}, lemmas.List.{drop_more}}
use Rattle.std.specs.Prelude.{slice_get}
use Rattle.rio_format.specs.{Bodies.{Counters}, Counts.{SaysAsFirst}}
use Rattle.rio_entry.specs.Counters.{values_or_none}
use Rattle.rio_entry.specs.Counted.{noted_branch}
use Rattle.rio_entry.proofs.CountedLaws.{noted_all, noted_next}
use Rattle.rio_entry.proofs.counts.note_branches.Goals as goal

pub loop-k-preserved : goal.loop-k-preserved
loop-k-preserved c = λ before says.
    let i = c.loop-k.invariant before says in
    let k = get_or c.args.counters.now c.loop-k.k-index 0 in
    let split = drop_more c.args.counters.now c.loop-k.k-index 0 c.loop-k-test.true in (
      noted_branch (slice_get c.args.branches.now k) (values_or_none (slice_get c.args.row.now k)) i.0,
      c.in_ok-note_branch.ensures i.0 i.1,
      noted_next c.args.branches.now c.args.row.now c.args.counters.now c.loop-k.k-index i.0 _ k split i.2,
    )

pub returns : goal.returns
returns c = λ before says.
    let i = c.loop-k.invariant before says in
    let all = noted_all c.args.branches.now c.args.row.now c.args.counters.now c.loop-k.k-index i.0 _ c.loop-k-test.false i.2 in
    subst (λ (now : Counters). SaysAsFirst c.loop-k.numbers now) all i.1

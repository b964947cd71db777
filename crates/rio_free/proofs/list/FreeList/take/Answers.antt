use Rattle.std.proofs.Common.{◌∙◌, List, ap, sym, subst, arith}
use Rattle.rio_free.specs.{Gaps.{AreGaps, FreeGaps, is_free}, declared.gap.Gap.{Gap}}
use Rattle.rio_free.proofs.Taken.{taking}
use Rattle.rio_free.proofs.list.FreeList.take.Goals as goal

pub index-requires : goal.index-requires
index-requires c =
    let t = taking c.args.place c.args.n c.args.self.now.gaps c.self.inside.gaps.items c.count_before-at.result (ap (λ (l : FreeGaps). l.gaps) c.self.view_is) c.self.invariant.sorted c.requires c.count_before-at.ensures in
    omega (arith, t.inside)

pub remove-requires : goal.remove-requires
remove-requires c =
    let t = taking c.args.place c.args.n c.args.self.now.gaps c.self.inside.gaps.items c.count_before-at.result (ap (λ (l : FreeGaps). l.gaps) c.self.view_is) c.self.invariant.sorted c.requires c.count_before-at.ensures in
    omega (arith, t.inside)

pub index_mut-requires : goal.index_mut-requires
index_mut-requires c =
    let t = taking c.args.place c.args.n c.args.self.now.gaps c.self.inside.gaps.items c.count_before-at.result (ap (λ (l : FreeGaps). l.gaps) c.self.view_is) c.self.invariant.sorted c.requires c.count_before-at.ensures in
    omega (arith, t.inside)

pub overflow_add-place : goal.overflow_add-place
overflow_add-place c =
    let t = taking c.args.place c.args.n c.args.self.now.gaps c.self.inside.gaps.items c.count_before-at.result (ap (λ (l : FreeGaps). l.gaps) c.self.view_is) c.self.invariant.sorted c.requires c.count_before-at.ensures in
    omega (arith, t.fits c.index.result.now c.index.ensures)

pub overflow_sub-length : goal.overflow_sub-length
overflow_sub-length c =
    let t = taking c.args.place c.args.n c.args.self.now.gaps c.self.inside.gaps.items c.count_before-at.result (ap (λ (l : FreeGaps). l.gaps) c.self.view_is) c.self.invariant.sorted c.requires c.count_before-at.ensures in
    omega (arith, t.short c.index.result.now c.index.ensures)

pub invariant_of-self : goal.invariant_of-self
invariant_of-self c =
    let t = taking c.args.place c.args.n c.args.self.now.gaps c.self.inside.gaps.items c.count_before-at.result (ap (λ (l : FreeGaps). l.gaps) c.self.view_is) c.self.invariant.sorted c.requires c.count_before-at.ensures in
    record { sorted = subst AreGaps (sym (c.remove.ensures.items ∙ t.removed c.index.result.now c.index.ensures c.if-length-n.true)) t.are; room = omega (arith, c.remove.ensures.len, c.remove.ensures.capacity, c.self.invariant.room) }

pub invariant_of-self-else-length-n : goal.invariant_of-self-else-length-n
invariant_of-self-else-length-n c =
    let t = taking c.args.place c.args.n c.args.self.now.gaps c.self.inside.gaps.items c.count_before-at.result (ap (λ (l : FreeGaps). l.gaps) c.self.view_is) c.self.invariant.sorted c.requires c.count_before-at.ensures in
    record { sorted = subst AreGaps (sym (t.set c.index.result.now c.index.ensures c.if-length-n.false)) t.are; room = c.self.invariant.room }

pub returns-then-length-n-clause-exact : goal.returns-then-length-n-clause-exact
returns-then-length-n-clause-exact c =
    let t = taking c.args.place c.args.n c.args.self.now.gaps c.self.inside.gaps.items c.count_before-at.result (ap (λ (l : FreeGaps). l.gaps) c.self.view_is) c.self.invariant.sorted c.requires c.count_before-at.ensures in
    λ i. record { gaps = (c.remove.ensures.items ∙ t.removed c.index.result.now c.index.ensures c.if-length-n.true) i; spare = (ap (λ (l : FreeGaps). l.spare) c.self.view_is) i }

pub returns-else-length-n-clause-exact : goal.returns-else-length-n-clause-exact
returns-else-length-n-clause-exact c =
    let t = taking c.args.place c.args.n c.args.self.now.gaps c.self.inside.gaps.items c.count_before-at.result (ap (λ (l : FreeGaps). l.gaps) c.self.view_is) c.self.invariant.sorted c.requires c.count_before-at.ensures in
    λ i. record { gaps = (t.set c.index.result.now c.index.ensures c.if-length-n.false) i; spare = (ap (λ (l : FreeGaps). l.spare) c.self.view_is) i }

pub returns-then-length-n-clause-free : goal.returns-then-length-n-clause-free
returns-then-length-n-clause-free c =
    let t = taking c.args.place c.args.n c.args.self.now.gaps c.self.inside.gaps.items c.count_before-at.result (ap (λ (l : FreeGaps). l.gaps) c.self.view_is) c.self.invariant.sorted c.requires c.count_before-at.ensures in
    λ byte. ap (λ (l : List Gap). is_free l byte) (c.remove.ensures.items ∙ t.removed c.index.result.now c.index.ensures c.if-length-n.true) ∙ t.free byte

pub returns-else-length-n-clause-free : goal.returns-else-length-n-clause-free
returns-else-length-n-clause-free c =
    let t = taking c.args.place c.args.n c.args.self.now.gaps c.self.inside.gaps.items c.count_before-at.result (ap (λ (l : FreeGaps). l.gaps) c.self.view_is) c.self.invariant.sorted c.requires c.count_before-at.ensures in
    λ byte. ap (λ (l : List Gap). is_free l byte) (t.set c.index.result.now c.index.ensures c.if-length-n.false) ∙ t.free byte

use Rattle.std.proofs.Common.{◌≡◌, ◌∙◌, ◌-◌, ◌+◌, ◌<◌, ◌≤◌, List, ltb, length, vec_len, vec_capacity, ap, sym, subst, arith}
use Rattle.std.proofs.lemmas.List.Sums.{prefix_len-le-length}
use Rattle.rio_num.proofs.Cases.{one_more}
use Rattle.rio_free.specs.{Gaps.{AreGaps, FreeGaps, gap_of, is_free}, declared.gap.Gap.{Gap}}
use Rattle.rio_free.proofs.{Order.{ends_fit}, Given.{gives, inserted}}
use Rattle.rio_free.proofs.list.FreeList.give.Goals as goal

pub ends_before-touches-requires : goal.ends_before-touches-requires
ends_before-touches-requires c = omega (arith, c.count_before-at.ensures, prefix_len-le-length (λ (g : Gap). ltb g.place c.args.place) c.args.self.now.gaps)

pub join_next-gap-requires-clause-within : goal.join_next-gap-requires-clause-within
join_next-gap-requires-clause-within c =
    omega (arith, c.count_before-at.ensures, prefix_len-le-length (λ (g : Gap). ltb g.place c.args.place) c.args.self.now.gaps, ap length (ap (λ (l : FreeGaps). l.gaps) c.self.view_is))

pub join_next-gap-requires-clause-others_fit : goal.join_next-gap-requires-clause-others_fit
join_next-gap-requires-clause-others_fit c k d lt = ends_fit 0 c.self.inside.gaps.items c.self.invariant.sorted k d lt

pub overflow_add-index_mut : goal.overflow_add-index_mut
overflow_add-index_mut c =
    let t = gives (gap_of c.args.place c.args.n) c.args.self.now.gaps c.self.inside.gaps.items c.count_before-at.result c.join_next-gap.new.gaps.items c.join_next-gap.result (ap (λ (l : FreeGaps). l.gaps) c.self.view_is) c.self.invariant.sorted c.count_before-at.ensures c.join_next-gap.ensures.front c.join_next-gap.ensures.joins (record { behind = omega arith; some = c.requires.some; fits = c.requires.fits }) c.requires.apart in
    omega (arith, t.fits (sym c.if-touches.ensures) c.index_mut.result.now c.index_mut.ensures.value)

pub invariant_of-self : goal.invariant_of-self
invariant_of-self c =
    let t = gives (gap_of c.args.place c.args.n) c.args.self.now.gaps c.self.inside.gaps.items c.count_before-at.result c.join_next-gap.new.gaps.items c.join_next-gap.result (ap (λ (l : FreeGaps). l.gaps) c.self.view_is) c.self.invariant.sorted c.count_before-at.ensures c.join_next-gap.ensures.front c.join_next-gap.ensures.joins (record { behind = omega arith; some = c.requires.some; fits = c.requires.fits }) c.requires.apart in
    let is = t.touched (sym c.if-touches.ensures) c.index_mut.result.now c.index_mut.ensures.value in
    record { sorted = subst AreGaps (sym is) t.are; room = omega (arith, c.join_next-gap.ensures.len, c.join_next-gap.ensures.room, c.self.invariant.room) }

pub invariant_of-self-else-touches : goal.invariant_of-self-else-touches
invariant_of-self-else-touches c =
    let t = gives (gap_of c.args.place c.args.n) c.args.self.now.gaps c.self.inside.gaps.items c.count_before-at.result c.join_next-gap.new.gaps.items c.join_next-gap.result (ap (λ (l : FreeGaps). l.gaps) c.self.view_is) c.self.invariant.sorted c.count_before-at.ensures c.join_next-gap.ensures.front c.join_next-gap.ensures.joins (record { behind = omega arith; some = c.requires.some; fits = c.requires.fits }) c.requires.apart in
    let spare : c.self.inside.spare ≡ c.args.self.now.spare = ap (λ (l : FreeGaps). l.spare) c.self.view_is in
    let room : vec_len c.join_next-gap.new.gaps < vec_capacity c.join_next-gap.new.gaps = omega (arith, c.join_next-gap.ensures.len, c.join_next-gap.ensures.room, c.self.invariant.room, c.requires.room, spare) in
    let is = inserted c.insert.result _ _ _ (c.insert.ensures.succeeds room) c.insert.ensures.items ∙ t.missed (sym c.if-touches.ensures) in
    let long : vec_len c.insert.new.self ≤ vec_len c.join_next-gap.new.gaps + 1 = one_more _ _ _ c.insert.ensures.len in
    record { sorted = subst AreGaps (sym is) t.are; room = omega (arith, long, c.insert.ensures.capacity, c.join_next-gap.ensures.len, c.join_next-gap.ensures.room, c.self.invariant.room, c.requires.room, spare) }

pub returns-then-touches-clause-exact : goal.returns-then-touches-clause-exact
returns-then-touches-clause-exact c =
    let t = gives (gap_of c.args.place c.args.n) c.args.self.now.gaps c.self.inside.gaps.items c.count_before-at.result c.join_next-gap.new.gaps.items c.join_next-gap.result (ap (λ (l : FreeGaps). l.gaps) c.self.view_is) c.self.invariant.sorted c.count_before-at.ensures c.join_next-gap.ensures.front c.join_next-gap.ensures.joins (record { behind = omega arith; some = c.requires.some; fits = c.requires.fits }) c.requires.apart in
    let is = t.touched (sym c.if-touches.ensures) c.index_mut.result.now c.index_mut.ensures.value in
    let spare : c.self.inside.spare ≡ c.args.self.now.spare = ap (λ (l : FreeGaps). l.spare) c.self.view_is in
    λ i. record { gaps = is i; spare = spare i - 1 }

pub returns-then-touches-clause-free : goal.returns-then-touches-clause-free
returns-then-touches-clause-free c =
    let t = gives (gap_of c.args.place c.args.n) c.args.self.now.gaps c.self.inside.gaps.items c.count_before-at.result c.join_next-gap.new.gaps.items c.join_next-gap.result (ap (λ (l : FreeGaps). l.gaps) c.self.view_is) c.self.invariant.sorted c.count_before-at.ensures c.join_next-gap.ensures.front c.join_next-gap.ensures.joins (record { behind = omega arith; some = c.requires.some; fits = c.requires.fits }) c.requires.apart in
    let is = t.touched (sym c.if-touches.ensures) c.index_mut.result.now c.index_mut.ensures.value in
    λ byte. ap (λ (l : List Gap). is_free l byte) is ∙ t.free byte

pub returns-else-touches-clause-exact : goal.returns-else-touches-clause-exact
returns-else-touches-clause-exact c =
    let t = gives (gap_of c.args.place c.args.n) c.args.self.now.gaps c.self.inside.gaps.items c.count_before-at.result c.join_next-gap.new.gaps.items c.join_next-gap.result (ap (λ (l : FreeGaps). l.gaps) c.self.view_is) c.self.invariant.sorted c.count_before-at.ensures c.join_next-gap.ensures.front c.join_next-gap.ensures.joins (record { behind = omega arith; some = c.requires.some; fits = c.requires.fits }) c.requires.apart in
    let spare : c.self.inside.spare ≡ c.args.self.now.spare = ap (λ (l : FreeGaps). l.spare) c.self.view_is in
    let room : vec_len c.join_next-gap.new.gaps < vec_capacity c.join_next-gap.new.gaps = omega (arith, c.join_next-gap.ensures.len, c.join_next-gap.ensures.room, c.self.invariant.room, c.requires.room, spare) in
    let is = inserted c.insert.result _ _ _ (c.insert.ensures.succeeds room) c.insert.ensures.items ∙ t.missed (sym c.if-touches.ensures) in
    λ i. record { gaps = is i; spare = spare i - 1 }

pub returns-else-touches-clause-free : goal.returns-else-touches-clause-free
returns-else-touches-clause-free c =
    let t = gives (gap_of c.args.place c.args.n) c.args.self.now.gaps c.self.inside.gaps.items c.count_before-at.result c.join_next-gap.new.gaps.items c.join_next-gap.result (ap (λ (l : FreeGaps). l.gaps) c.self.view_is) c.self.invariant.sorted c.count_before-at.ensures c.join_next-gap.ensures.front c.join_next-gap.ensures.joins (record { behind = omega arith; some = c.requires.some; fits = c.requires.fits }) c.requires.apart in
    let spare : c.self.inside.spare ≡ c.args.self.now.spare = ap (λ (l : FreeGaps). l.spare) c.self.view_is in
    let room : vec_len c.join_next-gap.new.gaps < vec_capacity c.join_next-gap.new.gaps = omega (arith, c.join_next-gap.ensures.len, c.join_next-gap.ensures.room, c.self.invariant.room, c.requires.room, spare) in
    let is = inserted c.insert.result _ _ _ (c.insert.ensures.succeeds room) c.insert.ensures.items ∙ t.missed (sym c.if-touches.ensures) in
    λ byte. ap (λ (l : List Gap). is_free l byte) is ∙ t.free byte

use Rattle.std.proofs.Common.{◌≡◌, ◌∙◌, ◌-◌, ◌+◌, ◌<◌, ◌≤◌, length, ap, sym, subst, arith}
use Rattle.std.specs.Vec.{vec_len, vec_capacity}
use Rattle.rio_num.proofs.Cases.{one_more}
use Rattle.rio_free.specs.Gaps.{FreeGaps, HasGapFor}
use Rattle.rio_chain.specs.{Chains.{ChainState}, Placing.{gaps_in}}
use Rattle.rio_chain.proofs.{Indices.{kept_if_ok}, Merged.{kept, keeps_gap, spans_with}}
use Rattle.rio_chain.proofs.kept.Chain.note_gap.Goals as goal

pub insert-requires : goal.insert-requires
insert-requires c =
    let i = c.self.invariant in
    let now = c.args.self.now in
    let was = kept now.segments c.self.inside.records.items c.self.inside.gaps.gaps c.self.inside.end (ap (λ (s : ChainState). s.segments) c.self.view_is) i.shape i.records_are i.gaps_are i.end_is in
    let at = (spans_with now.segments c.args.place c.args.n c.count_before-at.result was.shape c.requires.fit c.count_before-at.ensures).1 in
    omega (arith, at, ap length was.records_are)

pub take-requires : goal.take-requires
take-requires c =
    let i = c.self.invariant in
    let gaps = i.gaps_are ∙ ap (λ (s : ChainState). gaps_in s.segments) c.self.view_is in
    subst (λ l. HasGapFor l c.args.place c.args.n) (sym gaps) c.requires.fit

pub invariant_of-self : goal.invariant_of-self
invariant_of-self c =
    let i = c.self.invariant in
    let now = c.args.self.now in
    let spare : c.self.inside.spare ≡ now.spare = ap (λ (s : ChainState). s.spare) c.self.view_is in
    let room : vec_len c.self.inside.records < vec_capacity c.self.inside.records = omega (arith, i.room, c.requires.room, spare) in
    let is = kept_if_ok c.insert.result _ _ _ (c.insert.ensures.succeeds room) c.insert.ensures.items in
    let was = kept now.segments c.self.inside.records.items c.self.inside.gaps.gaps c.self.inside.end (ap (λ (s : ChainState). s.segments) c.self.view_is) i.shape i.records_are i.gaps_are i.end_is in
    let k = keeps_gap now.segments c.self.inside.records.items c.insert.new.self.items c.self.inside.gaps.gaps c.take.new.self.gaps c.self.inside.end c.args.place c.args.n c.count_before-at.result
    was c.requires.some c.requires.aligned c.requires.fit c.count_before-at.ensures is (ap (λ (g : FreeGaps). g.gaps) c.take.ensures.exact) in
    let long : vec_len c.insert.new.self ≤ vec_len c.self.inside.records + 1 = one_more _ _ _ c.insert.ensures.len in
    record {
      shape = k.shape;
      records_are = k.records_are;
      gaps_are = k.gaps_are;
      end_is = k.end_is;
      low = i.low;
      room = omega (arith, long, c.insert.ensures.capacity, i.room, c.requires.room, spare);
      gap_room = omega (arith, i.gap_room, ap (λ (g : FreeGaps). g.spare) c.take.ensures.exact);
    }

pub returns : goal.returns
returns c =
    let i = c.self.invariant in
    let now = c.args.self.now in
    let spare : c.self.inside.spare ≡ now.spare = ap (λ (s : ChainState). s.spare) c.self.view_is in
    let room : vec_len c.self.inside.records < vec_capacity c.self.inside.records = omega (arith, i.room, c.requires.room, spare) in
    let is = kept_if_ok c.insert.result _ _ _ (c.insert.ensures.succeeds room) c.insert.ensures.items in
    let was = kept now.segments c.self.inside.records.items c.self.inside.gaps.gaps c.self.inside.end (ap (λ (s : ChainState). s.segments) c.self.view_is) i.shape i.records_are i.gaps_are i.end_is in
    let k = keeps_gap now.segments c.self.inside.records.items c.insert.new.self.items c.self.inside.gaps.gaps c.take.new.self.gaps c.self.inside.end c.args.place c.args.n c.count_before-at.result
    was c.requires.some c.requires.aligned c.requires.fit c.count_before-at.ensures is (ap (λ (g : FreeGaps). g.gaps) c.take.ensures.exact) in
    λ j. record { segments = k.is j; spare = spare j - 1; spent = ap (λ (s : ChainState). s.spent) c.self.view_is j }

use Rattle.std.proofs.Common.{◌≡◌, ◌∙◌, ◌-◌, ◌<◌, ◌≤◌, map, ap, sym, subst, arith}
use Rattle.rio_free.specs.Gaps.{FreeGaps, IsApart, gap_end, gap_of}
use Rattle.rio_chain.specs.{Chains.{ChainState}, Placing.{file_end}}
use Rattle.rio_chain.proofs.{Freeing.{given_gaps, keeps_released, link_for, links_for, outcome, over_some, releasing}, Merged.{kept}}
use Rattle.rio_chain.proofs.kept.Chain.free.Goals as goal

pub remove-record-requires : goal.remove-record-requires
remove-record-requires c =
    let i = c.self.invariant in
    let now = c.args.self.now in
    let was = kept now.segments c.self.inside.records.items c.self.inside.gaps.gaps c.self.inside.end (ap (λ (s : ChainState). s.segments) c.self.view_is) i.shape i.records_are i.gaps_are i.end_is in
    let r = releasing now.segments c.self.inside.records.items c.self.inside.gaps.gaps c.self.inside.end c.args.place c.count_before-at.result was c.requires.record c.count_before-at.ensures in
    omega (arith, r.inside)

pub give-requires-clause-some : goal.give-requires-clause-some
give-requires-clause-some c =
    let i = c.self.invariant in
    let now = c.args.self.now in
    let was = kept now.segments c.self.inside.records.items c.self.inside.gaps.gaps c.self.inside.end (ap (λ (s : ChainState). s.segments) c.self.view_is) i.shape i.records_are i.gaps_are i.end_is in
    let r = releasing now.segments c.self.inside.records.items c.self.inside.gaps.gaps c.self.inside.end c.args.place c.count_before-at.result was c.requires.record c.count_before-at.ensures in
    omega (arith, r.some, r.reads c.remove-record.result c.remove-record.ensures.value)

pub give-requires-clause-fits : goal.give-requires-clause-fits
give-requires-clause-fits c =
    let i = c.self.invariant in
    let now = c.args.self.now in
    let was = kept now.segments c.self.inside.records.items c.self.inside.gaps.gaps c.self.inside.end (ap (λ (s : ChainState). s.segments) c.self.view_is) i.shape i.records_are i.gaps_are i.end_is in
    let r = releasing now.segments c.self.inside.records.items c.self.inside.gaps.gaps c.self.inside.end c.args.place c.count_before-at.result was c.requires.record c.count_before-at.ensures in
    omega (arith, r.within, was.end_is, i.low, r.reads c.remove-record.result c.remove-record.ensures.value)

pub give-requires-clause-apart : goal.give-requires-clause-apart
give-requires-clause-apart c =
    let i = c.self.invariant in
    let now = c.args.self.now in
    let was = kept now.segments c.self.inside.records.items c.self.inside.gaps.gaps c.self.inside.end (ap (λ (s : ChainState). s.segments) c.self.view_is) i.shape i.records_are i.gaps_are i.end_is in
    let r = releasing now.segments c.self.inside.records.items c.self.inside.gaps.gaps c.self.inside.end c.args.place c.count_before-at.result was c.requires.record c.count_before-at.ensures in
    subst (λ n. IsApart (gap_of c.args.place n) c.self.inside.gaps.gaps) (sym (r.reads c.remove-record.result c.remove-record.ensures.value)) r.apart

pub unreachable-requires : goal.unreachable-requires
unreachable-requires c =
    let i = c.self.invariant in
    let now = c.args.self.now in
    let was = kept now.segments c.self.inside.records.items c.self.inside.gaps.gaps c.self.inside.end (ap (λ (s : ChainState). s.segments) c.self.view_is) i.shape i.records_are i.gaps_are i.end_is in
    let after = given_gaps now.segments c.self.inside.records.items c.self.inside.gaps.gaps c.give.new.self.gaps c.self.inside.end c.args.place c.count_before-at.result c.remove-record.result was c.requires.record c.count_before-at.ensures c.remove-record.ensures.value (ap (λ (g : FreeGaps). g.gaps) c.give.ensures.exact) in
    let low : file_end now.segments ≤ 1999999996 = omega (arith, was.end_is, i.low) in
    over_some (map link_for now.segments) now.segments c.args.place c.give.new.self.gaps (links_for now.segments) was.shape c.requires.record after (sym c.gap_over.ensures ∙ c.in-None.is)

pub end-requires : goal.end-requires
end-requires c =
    let i = c.self.invariant in
    let now = c.args.self.now in
    let was = kept now.segments c.self.inside.records.items c.self.inside.gaps.gaps c.self.inside.end (ap (λ (s : ChainState). s.segments) c.self.view_is) i.shape i.records_are i.gaps_are i.end_is in
    let after = given_gaps now.segments c.self.inside.records.items c.self.inside.gaps.gaps c.give.new.self.gaps c.self.inside.end c.args.place c.count_before-at.result c.remove-record.result was c.requires.record c.count_before-at.ensures c.remove-record.ensures.value (ap (λ (g : FreeGaps). g.gaps) c.give.ensures.exact) in
    let low : file_end now.segments ≤ 1999999996 = omega (arith, was.end_is, i.low) in
    let o = outcome (map link_for now.segments) now.segments c.args.place c.give.new.self.gaps c.in-Some.gap (links_for now.segments) was.shape c.requires.record c.requires.later low after (sym c.in-Some.is ∙ c.gap_over.ensures) in
    omega (arith, o.within, low)

pub overflow_cast-result : goal.overflow_cast-result
overflow_cast-result c =
    let i = c.self.invariant in
    let now = c.args.self.now in
    let was = kept now.segments c.self.inside.records.items c.self.inside.gaps.gaps c.self.inside.end (ap (λ (s : ChainState). s.segments) c.self.view_is) i.shape i.records_are i.gaps_are i.end_is in
    let after = given_gaps now.segments c.self.inside.records.items c.self.inside.gaps.gaps c.give.new.self.gaps c.self.inside.end c.args.place c.count_before-at.result c.remove-record.result was c.requires.record c.count_before-at.ensures c.remove-record.ensures.value (ap (λ (g : FreeGaps). g.gaps) c.give.ensures.exact) in
    let low : file_end now.segments ≤ 1999999996 = omega (arith, was.end_is, i.low) in
    let o = outcome (map link_for now.segments) now.segments c.args.place c.give.new.self.gaps c.in-Some.gap (links_for now.segments) was.shape c.requires.record c.requires.later low after (sym c.in-Some.is ∙ c.gap_over.ensures) in
    omega (arith, o.some)

pub invariant_of-self : goal.invariant_of-self
invariant_of-self c =
    let i = c.self.invariant in
    let now = c.args.self.now in
    let was = kept now.segments c.self.inside.records.items c.self.inside.gaps.gaps c.self.inside.end (ap (λ (s : ChainState). s.segments) c.self.view_is) i.shape i.records_are i.gaps_are i.end_is in
    let after = given_gaps now.segments c.self.inside.records.items c.self.inside.gaps.gaps c.give.new.self.gaps c.self.inside.end c.args.place c.count_before-at.result c.remove-record.result was c.requires.record c.count_before-at.ensures c.remove-record.ensures.value (ap (λ (g : FreeGaps). g.gaps) c.give.ensures.exact) in
    let low : file_end now.segments ≤ 1999999996 = omega (arith, was.end_is, i.low) in
    let o = outcome (map link_for now.segments) now.segments c.args.place c.give.new.self.gaps c.in-Some.gap (links_for now.segments) was.shape c.requires.record c.requires.later low after (sym c.in-Some.is ∙ c.gap_over.ensures) in
    let before : gap_end c.in-Some.gap < file_end now.segments = omega (arith, c.if-end-self.true, c.end.ensures, was.end_is) in
    let s = o.stays before in
    let k = keeps_released now.segments c.self.inside.records.items c.remove-record.new.self.items c.self.inside.gaps.gaps c.give.new.self.gaps c.self.inside.end c.self.inside.end c.args.place c.count_before-at.result was c.requires.record c.requires.later c.count_before-at.ensures c.remove-record.ensures.items s.0 (was.end_is ∙ s.1) in
    let spare : c.self.inside.spare ≡ now.spare = ap (λ (s : ChainState). s.spare) c.self.view_is in
    record {
      shape = k.shape;
      records_are = k.records_are;
      gaps_are = k.gaps_are;
      end_is = k.end_is;
      low = i.low;
      room = omega (arith, c.remove-record.ensures.len, c.remove-record.ensures.capacity, i.room, c.requires.room, spare);
      gap_room = omega (arith, i.gap_room, c.requires.room, spare, ap (λ (g : FreeGaps). g.spare) c.give.ensures.exact);
    }

pub take-requires : goal.take-requires
take-requires c =
    let i = c.self.invariant in
    let now = c.args.self.now in
    let was = kept now.segments c.self.inside.records.items c.self.inside.gaps.gaps c.self.inside.end (ap (λ (s : ChainState). s.segments) c.self.view_is) i.shape i.records_are i.gaps_are i.end_is in
    let after = given_gaps now.segments c.self.inside.records.items c.self.inside.gaps.gaps c.give.new.self.gaps c.self.inside.end c.args.place c.count_before-at.result c.remove-record.result was c.requires.record c.count_before-at.ensures c.remove-record.ensures.value (ap (λ (g : FreeGaps). g.gaps) c.give.ensures.exact) in
    let low : file_end now.segments ≤ 1999999996 = omega (arith, was.end_is, i.low) in
    let o = outcome (map link_for now.segments) now.segments c.args.place c.give.new.self.gaps c.in-Some.gap (links_for now.segments) was.shape c.requires.record c.requires.later low after (sym c.in-Some.is ∙ c.gap_over.ensures) in
    o.fit

pub invariant_of-self-in-Some-2 : goal.invariant_of-self-in-Some-2
invariant_of-self-in-Some-2 c =
    let i = c.self.invariant in
    let now = c.args.self.now in
    let was = kept now.segments c.self.inside.records.items c.self.inside.gaps.gaps c.self.inside.end (ap (λ (s : ChainState). s.segments) c.self.view_is) i.shape i.records_are i.gaps_are i.end_is in
    let after = given_gaps now.segments c.self.inside.records.items c.self.inside.gaps.gaps c.give.new.self.gaps c.self.inside.end c.args.place c.count_before-at.result c.remove-record.result was c.requires.record c.count_before-at.ensures c.remove-record.ensures.value (ap (λ (g : FreeGaps). g.gaps) c.give.ensures.exact) in
    let low : file_end now.segments ≤ 1999999996 = omega (arith, was.end_is, i.low) in
    let o = outcome (map link_for now.segments) now.segments c.args.place c.give.new.self.gaps c.in-Some.gap (links_for now.segments) was.shape c.requires.record c.requires.later low after (sym c.in-Some.is ∙ c.gap_over.ensures) in
    let reached : file_end now.segments ≤ gap_end c.in-Some.gap = omega (arith, c.if-end-self.false, c.end.ensures, was.end_is) in
    let l = o.lowered reached in
    let k = keeps_released now.segments c.self.inside.records.items c.remove-record.new.self.items c.self.inside.gaps.gaps c.take.new.self.gaps c.self.inside.end c.in-Some.gap.place c.args.place c.count_before-at.result was c.requires.record c.requires.later c.count_before-at.ensures c.remove-record.ensures.items (ap (λ (g : FreeGaps). g.gaps) c.take.ensures.exact ∙ l.0) l.1 in
    let spare : c.self.inside.spare ≡ now.spare = ap (λ (s : ChainState). s.spare) c.self.view_is in
    record {
      shape = k.shape;
      records_are = k.records_are;
      gaps_are = k.gaps_are;
      end_is = k.end_is;
      low = omega (arith, o.within, low);
      room = omega (arith, c.remove-record.ensures.len, c.remove-record.ensures.capacity, i.room, c.requires.room, spare);
      gap_room = omega (arith, i.gap_room, c.requires.room, spare, ap (λ (g : FreeGaps). g.spare) c.give.ensures.exact, ap (λ (g : FreeGaps). g.spare) c.take.ensures.exact);
    }

pub returns-in-Some-clause-chain : goal.returns-in-Some-clause-chain
returns-in-Some-clause-chain c =
    let i = c.self.invariant in
    let now = c.args.self.now in
    let was = kept now.segments c.self.inside.records.items c.self.inside.gaps.gaps c.self.inside.end (ap (λ (s : ChainState). s.segments) c.self.view_is) i.shape i.records_are i.gaps_are i.end_is in
    let after = given_gaps now.segments c.self.inside.records.items c.self.inside.gaps.gaps c.give.new.self.gaps c.self.inside.end c.args.place c.count_before-at.result c.remove-record.result was c.requires.record c.count_before-at.ensures c.remove-record.ensures.value (ap (λ (g : FreeGaps). g.gaps) c.give.ensures.exact) in
    let low : file_end now.segments ≤ 1999999996 = omega (arith, was.end_is, i.low) in
    let o = outcome (map link_for now.segments) now.segments c.args.place c.give.new.self.gaps c.in-Some.gap (links_for now.segments) was.shape c.requires.record c.requires.later low after (sym c.in-Some.is ∙ c.gap_over.ensures) in
    let before : gap_end c.in-Some.gap < file_end now.segments = omega (arith, c.if-end-self.true, c.end.ensures, was.end_is) in
    let s = o.stays before in
    let k = keeps_released now.segments c.self.inside.records.items c.remove-record.new.self.items c.self.inside.gaps.gaps c.give.new.self.gaps c.self.inside.end c.self.inside.end c.args.place c.count_before-at.result was c.requires.record c.requires.later c.count_before-at.ensures c.remove-record.ensures.items s.0 (was.end_is ∙ s.1) in
    let spare : c.self.inside.spare ≡ now.spare = ap (λ (s : ChainState). s.spare) c.self.view_is in
    λ j. record { segments = k.is j; spare = spare j - 1; spent = ap (λ (s : ChainState). s.spent) c.self.view_is j }

pub returns-in-Some-clause-word : goal.returns-in-Some-clause-word
returns-in-Some-clause-word c links same =
    let i = c.self.invariant in
    let now = c.args.self.now in
    let was = kept now.segments c.self.inside.records.items c.self.inside.gaps.gaps c.self.inside.end (ap (λ (s : ChainState). s.segments) c.self.view_is) i.shape i.records_are i.gaps_are i.end_is in
    let after = given_gaps now.segments c.self.inside.records.items c.self.inside.gaps.gaps c.give.new.self.gaps c.self.inside.end c.args.place c.count_before-at.result c.remove-record.result was c.requires.record c.count_before-at.ensures c.remove-record.ensures.value (ap (λ (g : FreeGaps). g.gaps) c.give.ensures.exact) in
    let low : file_end now.segments ≤ 1999999996 = omega (arith, was.end_is, i.low) in
    let o = outcome links now.segments c.args.place c.give.new.self.gaps c.in-Some.gap same was.shape c.requires.record c.requires.later low after (sym c.in-Some.is ∙ c.gap_over.ensures) in
    let before : gap_end c.in-Some.gap < file_end now.segments = omega (arith, c.if-end-self.true, c.end.ensures, was.end_is) in
    (o.stays before).2

pub returns-in-Some-clause-aligned : goal.returns-in-Some-clause-aligned
returns-in-Some-clause-aligned c =
    let i = c.self.invariant in
    let now = c.args.self.now in
    let was = kept now.segments c.self.inside.records.items c.self.inside.gaps.gaps c.self.inside.end (ap (λ (s : ChainState). s.segments) c.self.view_is) i.shape i.records_are i.gaps_are i.end_is in
    let after = given_gaps now.segments c.self.inside.records.items c.self.inside.gaps.gaps c.give.new.self.gaps c.self.inside.end c.args.place c.count_before-at.result c.remove-record.result was c.requires.record c.count_before-at.ensures c.remove-record.ensures.value (ap (λ (g : FreeGaps). g.gaps) c.give.ensures.exact) in
    let low : file_end now.segments ≤ 1999999996 = omega (arith, was.end_is, i.low) in
    let o = outcome (map link_for now.segments) now.segments c.args.place c.give.new.self.gaps c.in-Some.gap (links_for now.segments) was.shape c.requires.record c.requires.later low after (sym c.in-Some.is ∙ c.gap_over.ensures) in
    o.aligned

pub returns-in-Some-2-clause-chain : goal.returns-in-Some-2-clause-chain
returns-in-Some-2-clause-chain c =
    let i = c.self.invariant in
    let now = c.args.self.now in
    let was = kept now.segments c.self.inside.records.items c.self.inside.gaps.gaps c.self.inside.end (ap (λ (s : ChainState). s.segments) c.self.view_is) i.shape i.records_are i.gaps_are i.end_is in
    let after = given_gaps now.segments c.self.inside.records.items c.self.inside.gaps.gaps c.give.new.self.gaps c.self.inside.end c.args.place c.count_before-at.result c.remove-record.result was c.requires.record c.count_before-at.ensures c.remove-record.ensures.value (ap (λ (g : FreeGaps). g.gaps) c.give.ensures.exact) in
    let low : file_end now.segments ≤ 1999999996 = omega (arith, was.end_is, i.low) in
    let o = outcome (map link_for now.segments) now.segments c.args.place c.give.new.self.gaps c.in-Some.gap (links_for now.segments) was.shape c.requires.record c.requires.later low after (sym c.in-Some.is ∙ c.gap_over.ensures) in
    let reached : file_end now.segments ≤ gap_end c.in-Some.gap = omega (arith, c.if-end-self.false, c.end.ensures, was.end_is) in
    let l = o.lowered reached in
    let k = keeps_released now.segments c.self.inside.records.items c.remove-record.new.self.items c.self.inside.gaps.gaps c.take.new.self.gaps c.self.inside.end c.in-Some.gap.place c.args.place c.count_before-at.result was c.requires.record c.requires.later c.count_before-at.ensures c.remove-record.ensures.items (ap (λ (g : FreeGaps). g.gaps) c.take.ensures.exact ∙ l.0) l.1 in
    let spare : c.self.inside.spare ≡ now.spare = ap (λ (s : ChainState). s.spare) c.self.view_is in
    λ j. record { segments = k.is j; spare = spare j - 1; spent = ap (λ (s : ChainState). s.spent) c.self.view_is j }

pub returns-in-Some-2-clause-word : goal.returns-in-Some-2-clause-word
returns-in-Some-2-clause-word c links same =
    let i = c.self.invariant in
    let now = c.args.self.now in
    let was = kept now.segments c.self.inside.records.items c.self.inside.gaps.gaps c.self.inside.end (ap (λ (s : ChainState). s.segments) c.self.view_is) i.shape i.records_are i.gaps_are i.end_is in
    let after = given_gaps now.segments c.self.inside.records.items c.self.inside.gaps.gaps c.give.new.self.gaps c.self.inside.end c.args.place c.count_before-at.result c.remove-record.result was c.requires.record c.count_before-at.ensures c.remove-record.ensures.value (ap (λ (g : FreeGaps). g.gaps) c.give.ensures.exact) in
    let low : file_end now.segments ≤ 1999999996 = omega (arith, was.end_is, i.low) in
    let o = outcome links now.segments c.args.place c.give.new.self.gaps c.in-Some.gap same was.shape c.requires.record c.requires.later low after (sym c.in-Some.is ∙ c.gap_over.ensures) in
    let reached : file_end now.segments ≤ gap_end c.in-Some.gap = omega (arith, c.if-end-self.false, c.end.ensures, was.end_is) in
    (o.lowered reached).2

pub returns-in-Some-2-clause-aligned : goal.returns-in-Some-2-clause-aligned
returns-in-Some-2-clause-aligned c =
    let i = c.self.invariant in
    let now = c.args.self.now in
    let was = kept now.segments c.self.inside.records.items c.self.inside.gaps.gaps c.self.inside.end (ap (λ (s : ChainState). s.segments) c.self.view_is) i.shape i.records_are i.gaps_are i.end_is in
    let after = given_gaps now.segments c.self.inside.records.items c.self.inside.gaps.gaps c.give.new.self.gaps c.self.inside.end c.args.place c.count_before-at.result c.remove-record.result was c.requires.record c.count_before-at.ensures c.remove-record.ensures.value (ap (λ (g : FreeGaps). g.gaps) c.give.ensures.exact) in
    let low : file_end now.segments ≤ 1999999996 = omega (arith, was.end_is, i.low) in
    let o = outcome (map link_for now.segments) now.segments c.args.place c.give.new.self.gaps c.in-Some.gap (links_for now.segments) was.shape c.requires.record c.requires.later low after (sym c.in-Some.is ∙ c.gap_over.ensures) in
    o.aligned

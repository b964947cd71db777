use Rattle.std.proofs.Common.{◌≡◌, ◌∙◌, ◌-◌, ◌+◌, ◌<◌, ◌≤◌, ap, arith}
use Rattle.std.specs.Vec.{vec_len, vec_capacity}
use Rattle.rio_num.proofs.Cases.{one_more}
use Rattle.rio_chain.specs.{Chains.{ChainState}, Placing.{file_end}}
use Rattle.rio_chain.proofs.{Indices.{kept_if_ok}, Merged.{kept, keeps_end}}
use Rattle.rio_chain.proofs.kept.Chain.note_end.Goals as goal

pub invariant_of-self : goal.invariant_of-self
invariant_of-self c =
    let i = c.self.invariant in
    let now = c.args.self.now in
    let spare : c.self.inside.spare ≡ now.spare = ap (λ (s : ChainState). s.spare) c.self.view_is in
    let end : c.self.inside.end ≡ file_end now.segments = i.end_is ∙ ap (λ (s : ChainState). file_end s.segments) c.self.view_is in
    let room : vec_len c.self.inside.records < vec_capacity c.self.inside.records = omega (arith, i.room, c.requires.room, spare) in
    let is = kept_if_ok c.push.result _ _ _ (c.push.ensures.succeeds room) c.push.ensures.items in
    let was = kept now.segments c.self.inside.records.items c.self.inside.gaps.gaps c.self.inside.end (ap (λ (s : ChainState). s.segments) c.self.view_is) i.shape i.records_are i.gaps_are i.end_is in
    let k = keeps_end now.segments c.self.inside.records.items c.push.new.self.items c.self.inside.gaps.gaps c.self.inside.end c.args.n was c.requires.some c.requires.aligned is in
    let long : vec_len c.push.new.self ≤ vec_len c.self.inside.records + 1 = one_more _ _ _ c.push.ensures.len in
    record {
      shape = k.shape;
      records_are = k.records_are;
      gaps_are = k.gaps_are;
      end_is = k.end_is;
      low = omega (arith, end, c.requires.low);
      room = omega (arith, long, c.push.ensures.capacity, i.room, c.requires.room, spare);
      gap_room = omega (arith, i.gap_room);
    }

pub returns : goal.returns
returns c =
    let i = c.self.invariant in
    let now = c.args.self.now in
    let spare : c.self.inside.spare ≡ now.spare = ap (λ (s : ChainState). s.spare) c.self.view_is in
    let room : vec_len c.self.inside.records < vec_capacity c.self.inside.records = omega (arith, i.room, c.requires.room, spare) in
    let is = kept_if_ok c.push.result _ _ _ (c.push.ensures.succeeds room) c.push.ensures.items in
    let was = kept now.segments c.self.inside.records.items c.self.inside.gaps.gaps c.self.inside.end (ap (λ (s : ChainState). s.segments) c.self.view_is) i.shape i.records_are i.gaps_are i.end_is in
    let k = keeps_end now.segments c.self.inside.records.items c.push.new.self.items c.self.inside.gaps.gaps c.self.inside.end c.args.n was c.requires.some c.requires.aligned is in
    λ j. record { segments = k.is j; spare = spare j - 1; spent = ap (λ (s : ChainState). s.spent) c.self.view_is j }

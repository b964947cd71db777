use Rattle.std.proofs.Common.{◌∙◌, false, ap, arith, rules}
use Rattle.rio_chain.specs.{Merging.{spans_in}, Placing.{file_end, gaps_in}}
use Rattle.rio_chain.proofs.Merged.{keeps}
use Rattle.rio_chain.proofs.kept.Chain.from_segments.Goals as goal

pub invariant_of-result : goal.invariant_of-result
invariant_of-result c =
    let k = keeps c.args.segments c.in_ok-spans_of.field-0.items c.in_ok-gaps_of.field-0.gaps c.end_of.result (record {
      shape = c.requires.shape;
      records_are = c.in_ok-spans_of.ensures ∙ ap spans_in c.as_slice.ensures;
      gaps_are = c.in_ok-gaps_of.ensures ∙ ap gaps_in c.as_slice-2.ensures;
      end_is = c.end_of.ensures ∙ ap file_end c.as_slice-3.ensures;
    }) in
    record {
      shape = k.shape;
      records_are = k.records_are;
      gaps_are = k.gaps_are;
      end_is = k.end_is;
      low = omega (arith, c.end_of.ensures, ap file_end c.as_slice-3.ensures, c.requires.low);
      room = search rules;
      gap_room = omega arith;
    }

pub returns : goal.returns
returns c =
    let k = keeps c.args.segments c.in_ok-spans_of.field-0.items c.in_ok-gaps_of.field-0.gaps c.end_of.result (record {
      shape = c.requires.shape;
      records_are = c.in_ok-spans_of.ensures ∙ ap spans_in c.as_slice.ensures;
      gaps_are = c.in_ok-gaps_of.ensures ∙ ap gaps_in c.as_slice-2.ensures;
      end_is = c.end_of.ensures ∙ ap file_end c.as_slice-3.ensures;
    }) in
    λ j. record { segments = k.is j; spare = 0; spent = false }

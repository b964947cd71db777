use Rattle.std.proofs.Common.{◌∙◌, List, map, subst, sym, ap}
use Rattle.rio_tree.specs.declared.head.Branch.{Branch}
use Rattle.rio_entry.specs.TreeCounters.{tree_counters}
use Rattle.rio_index.specs.{Scan.{CanGoOn, empty_lane}, declared.lane.Lane.{Lane}}
use Rattle.rio_index.proofs.ScanLaws.{starts}
use Rattle.rio_index.proofs.scanner.Scanner.new.Goals as goal

pub invariant_of-result : goal.invariant_of-result
invariant_of-result c =
    let lanes = c.in_ok-lanes.ensures ∙ ap (λ (bs : List Branch). map empty_lane bs) c.as_slice-2.ensures in
    record {
      going = subst (λ (lanes : List Lane). CanGoOn c.args.head.entries c.args.head.branches lanes) (sym lanes) (starts c.args.head.entries c.args.head.branches c.requires);
      counted = c.in_ok-counters.ensures ∙ ap tree_counters c.as_slice.ensures;
    }

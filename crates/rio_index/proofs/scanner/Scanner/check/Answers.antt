use Rattle.std.proofs.Common.{◌∙◌, List, length, ap, sym, arith}
use Rattle.rio_tree.specs.declared.head.Branch.{Branch}
use Rattle.rio_entry.specs.TreeCounters.{tree_counters}
use Rattle.rio_index.specs.declared.lane.Lane.{Lane}
use Rattle.rio_index.proofs.ScanLaws.{same_length}
use Rattle.rio_index.proofs.scanner.Scanner.check.Goals as goal

pub check_next-requires-clause-lanes : goal.check_next-requires-clause-lanes
check_next-requires-clause-lanes c =
    let inside = c.self.inside in
    let same = same_length inside.head.entries inside.head.branches inside.lanes.items c.self.invariant.going in
    let branches = ap (λ (bs : List Branch). length bs) c.as_slice.ensures in
    let lanes = ap (λ (ls : List Lane). length ls) c.as_slice-2.ensures.value in
    omega (arith, same, branches, lanes)

pub check_next-requires-clause-counted : goal.check_next-requires-clause-counted
check_next-requires-clause-counted c = c.self.invariant.counted ∙ ap tree_counters (sym c.as_slice.ensures)

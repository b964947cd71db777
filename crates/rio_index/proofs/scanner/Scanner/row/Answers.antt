use Rattle.std.proofs.Common.{◌∙◌, List, length, ap, sym, arith}
use Rattle.rio_tree.specs.declared.head.Branch.{Branch}
use Rattle.rio_entry.specs.TreeCounters.{tree_counters}
use Rattle.rio_index.specs.declared.lane.Lane.{Lane}
use Rattle.rio_index.proofs.ScanLaws.{same_length}
use Rattle.rio_index.proofs.scanner.Scanner.row.Goals as goal

pub read_next-row-requires-clause-lanes : goal.read_next-row-requires-clause-lanes
read_next-row-requires-clause-lanes c =
    let inside = c.self.inside in
    let same = same_length inside.head.entries inside.head.branches inside.lanes.items c.self.invariant.going in
    let branches = ap (λ (bs : List Branch). length bs) c.as_slice.ensures in
    let lanes = ap (λ (ls : List Lane). length ls) c.as_slice-2.ensures.value in
    omega (arith, same, branches, lanes)

pub read_next-row-requires-clause-counted : goal.read_next-row-requires-clause-counted
read_next-row-requires-clause-counted c = c.self.invariant.counted ∙ ap tree_counters (sym c.as_slice.ensures)

use Rattle.std.proofs.Common.{◌≡◌, ◌++◌, drop, map}
use Rattle.rio_fill.specs.Fill.{defs_of, entry_count}
use Rattle.rio_session.specs.Scans.{entries_of_row}
use Rattle.rio_session.proofs.ScanParts.{behind_entries}
use Rattle.rio_session.proofs.scan_rows.row_parts.Given as goal

abbrev pub invariant-loop-k : goal.invariant-loop-k
invariant-loop-k l = record {
  branches : map (λ part. part.branch.now) l.parts.items ++ defs_of (drop l.k l.tree.filler.now.branches) ≡ defs_of l.tree.filler.now.branches;
  entries : behind_entries (map (λ part. part.entry.now) l.parts.items) (entries_of_row (entry_count l.tree.filler.now) (drop l.k l.tree.filler.now.branches) (drop l.k l.lanes) l.entry)
      ≡ entries_of_row (entry_count l.tree.filler.now) l.tree.filler.now.branches l.lanes l.entry;
}

use Rattle.std.proofs.Common.{List, Option, Some, ap, sym, ◌∙◌}
use Rattle.std.specs.Option.{option_map}
use Rattle.rio_entry.specs.Counting.{counters_within}
use Rattle.rio_fill.specs.Fill.{BranchFill}
use Rattle.rio_leaf.specs.declared.branch.BranchDef.{BranchDef}
use Rattle.rio_session.proofs.ScanParts.{counters_more}
use Rattle.rio_session.proofs.scan_rows.counters_of.Goals as goal

pub loop-k-preserved : goal.loop-k-preserved
loop-k-preserved c =
    counters_more c.args.filler.now.branches c.loop-k.k c.loop-k.counters.items c.push.new.self.items c.branch_at-branch.result.def.now _ c.branch_at-branch.ensures.def c.in_ok-new.ensures c.in_ok-push.ensures.items c.loop-k.invariant

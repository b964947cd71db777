use Rattle.std.proofs.Common.{take}
use Rattle.rio_judge.proofs.Finding.{CountsPuts, IsFoundTo}
use Rattle.rio_judge.proofs.batch.find_all.Given as goal

abbrev pub invariant-loop-put : goal.invariant-loop-put
invariant-loop-put l = record {
  found : IsFoundTo l.classes l.table.heads l.trees.trees l.puts l.put-index l.found;
  counted : CountsPuts l.counts (take l.put-index l.puts);
}

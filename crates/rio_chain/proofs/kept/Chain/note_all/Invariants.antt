use Rattle.std.proofs.Common.{◌≡◌, ◌+◌, drop}
use Rattle.rio_chain.specs.Placing.{with_segments}
use Rattle.rio_chain.proofs.PutsNoted.{NotingAt}
use Rattle.rio_chain.proofs.kept.Chain.note_all.Given as goal

abbrev pub invariant-loop-n : goal.invariant-loop-n
invariant-loop-n l = record {
  segments : with_segments l.at (drop l.n-index l.lengths) l.self.segments ≡ with_segments l.fn.place l.lengths l.fn.self.segments;
  spare : l.self.spare + l.n-index ≡ l.fn.self.spare;
  spent : l.self.spent ≡ l.fn.self.spent;
  noting : NotingAt l.self.segments l.at (drop l.n-index l.lengths);
}

use Rattle.std.proofs.Common.{sym, arith}
use Rattle.rio_key.proofs.OpenLaws.{first_start, later_start}
use Rattle.rio_key.proofs.basket.start_of.Goals as goal

pub returns-then-k-eq0 : goal.returns-then-k-eq0
returns-then-k-eq0 c = sym (first_start c.args.ends.now c.args.k c.if-k-eq0.true)

pub returns-else-k-eq0 : goal.returns-else-k-eq0
returns-else-k-eq0 c = sym (later_start c.args.ends.now c.args.k (omega arith))

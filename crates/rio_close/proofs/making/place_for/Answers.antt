use Rattle.std.proofs.Common.{rules}
use Rattle.rio_close.proofs.Fitting.{place_low}
use Rattle.rio_close.proofs.making.place_for.Goals as goal

pub returns-in-Some-clause-low : goal.returns-in-Some-clause-low
returns-in-Some-clause-low c = place_low c.args.chain.now.segments c.in-Some.place c.args.n c.end-end.ensures.shape (search rules)

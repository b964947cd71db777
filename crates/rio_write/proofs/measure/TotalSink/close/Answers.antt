use Rattle.rio_write.specs.Sinks.{Closes}
use Rattle.rio_write.proofs.Counting.{ended_counted, measured}
use Rattle.rio_write.proofs.measure.TotalSink.close.Goals as goal

pub returns : goal.returns
unfolding Closes
returns c = λ names. ended_counted (measured names c.args.self.now.bytes)

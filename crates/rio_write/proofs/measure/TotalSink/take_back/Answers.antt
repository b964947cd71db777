use Rattle.rio_write.specs.Sinks.{Accepted}
use Rattle.rio_write.proofs.Counting.{back_counted}
use Rattle.rio_write.proofs.measure.TotalSink.take_back.Goals as goal

pub returns : goal.returns
unfolding Accepted
returns c = λ names. back_counted names c.args.self.now.bytes c.add.new.self.bytes c.args._label c.add.ensures

use Rattle.rio_write.specs.Sinks.{Opened}
use Rattle.rio_write.proofs.Counting.{header_counted}
use Rattle.rio_write.proofs.measure.TotalSink.take_header.Goals as goal

pub returns : goal.returns
unfolding Opened
returns c = λ names. header_counted names c.args.self.now.bytes c.add.new.self.bytes c.args._version c.add.ensures

use Rattle.rio_write.specs.Sinks.{CanClose}
use Rattle.rio_write.proofs.Taking.{ended_closes, held}
use Rattle.rio_write.proofs.sink.ObjWriterSink.close.Goals as goal

pub end-requires-clause-innermost : goal.end-requires-clause-innermost
end-requires-clause-innermost c = (held (CanClose c.args.begun) c.args.self.now c.requires.0 c.requires.1).0

pub end-requires-clause-size : goal.end-requires-clause-size
end-requires-clause-size c = (held (CanClose c.args.begun) c.args.self.now c.requires.0 c.requires.1).1

pub returns : goal.returns
returns c = λ names. ended_closes c.args.self.now c.end.new.self names names c.args.begun (held (CanClose c.args.begun) c.args.self.now c.requires.0 c.requires.1).0 c.end.ensures

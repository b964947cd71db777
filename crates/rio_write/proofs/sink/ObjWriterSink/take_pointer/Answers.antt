use Rattle.rio_format.specs.Writer.{begun_pointer}
use Rattle.rio_write.specs.Sinks.{CanPoint}
use Rattle.rio_write.proofs.Taking.{begun_opens, held}
use Rattle.rio_write.proofs.sink.ObjWriterSink.take_pointer.Goals as goal

pub begin_pointer-requires : goal.begin_pointer-requires
begin_pointer-requires c = held CanPoint c.args.self.now c.args._names.now c.requires

pub returns : goal.returns
returns c = begun_opens c.args.self.now c.begin_pointer.new.self c.args._names.now c.args._names.now (begun_pointer c.args.class.now) c.begin_pointer.result c.begin_pointer.ensures

use Rattle.byteorder.specs.Endian.{big_bytes}
use Rattle.rio_format.specs.Writer.{begun}
use Rattle.rio_write.proofs.Taking.{begun_opens}
use Rattle.rio_write.proofs.sink.ObjWriterSink.take_header.Goals as goal

pub returns : goal.returns
returns c = λ names. begun_opens c.args.self.now c.begin.new.self names names (begun (big_bytes 2 c.args.version)) c.begin.result c.begin.ensures

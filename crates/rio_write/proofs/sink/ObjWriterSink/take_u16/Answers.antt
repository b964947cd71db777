use Rattle.byteorder.specs.Endian.{big_bytes}
use Rattle.rio_write.proofs.Taking.{put_accepted}
use Rattle.rio_write.proofs.sink.ObjWriterSink.take_u16.Goals as goal

pub returns : goal.returns
returns c = λ names. put_accepted c.args.self.now c.put_u16.new.self names names (big_bytes 2 c.args.n) c.put_u16.result c.put_u16.ensures

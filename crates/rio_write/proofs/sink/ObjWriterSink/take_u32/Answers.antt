use Rattle.byteorder.specs.Endian.{big_bytes}
use Rattle.rio_write.proofs.Taking.{put_accepted}
use Rattle.rio_write.proofs.sink.ObjWriterSink.take_u32.Goals as goal

pub returns : goal.returns
returns c = λ names. put_accepted c.args.self.now c.put_u32.new.self names names (big_bytes 4 c.args.n) c.put_u32.result c.put_u32.ensures

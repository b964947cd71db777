use Rattle.byteorder.specs.Endian.{big_bytes}
use Rattle.rio_write.proofs.Taking.{put_accepted}
use Rattle.rio_write.proofs.sink.ObjWriterSink.take_u8.Goals as goal

pub returns : goal.returns
returns c = λ names. put_accepted c.args.self.now c.put_u8.new.self names names (big_bytes 1 c.args.n) c.put_u8.result c.put_u8.ensures

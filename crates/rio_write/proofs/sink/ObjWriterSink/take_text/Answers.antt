use Rattle.std.proofs.Common.{refl}
use Rattle.rio_num.specs.Text.{text_bytes}
use Rattle.rio_write.proofs.Taking.{put_accepted}
use Rattle.rio_write.proofs.sink.ObjWriterSink.take_text.Goals as goal

pub put_text-requires : goal.put_text-requires
put_text-requires c = c.requires refl

pub returns : goal.returns
returns c = λ names. put_accepted c.args.self.now c.put_text.new.self names names (text_bytes c.args.text.now) c.put_text.result c.put_text.ensures

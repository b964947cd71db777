use Rattle.std.proofs.Common.{rules, ◌≡◌, slice_index}
use Rattle.rio_write.proofs.Taking.{back_accepted, no_label}
use Rattle.rio_write.proofs.sink.ObjWriterSink.take_back.Goals as goal

pub returns-then-has_label : goal.returns-then-has_label
returns-then-has_label c = λ names. back_accepted c.args.self.now c.back.new.self names names c.args.label c.back.result c.back.ensures

pub returns-else-has_label : goal.returns-else-has_label
returns-else-has_label c = λ names.
    let none : slice_index c.args.self.now.words.labels c.args.label ≡ 0 = no_label c.has_label.result c.args.self.now.words.labels c.args.label (search rules) c.has_label.ensures in
    back_accepted c.args.self.now c.put_u32.new.self names names c.args.label c.put_u32.result (rw none c.put_u32.ensures)

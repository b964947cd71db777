use Rattle.std.proofs.Common.{ℕ, List, ap}
use Rattle.rio_write.specs.declared.measure.Total.{Total}
use Rattle.rio_write.proofs.Counting.{measured, pointer_measured}
use Rattle.rio_write.proofs.measure.TotalSink.take_pointer.Goals as goal

pub returns : goal.returns
returns c = pointer_measured (λ (x : Total × List (List ℕ)). measured x.1 x.0.bytes) c.args.class.now (c.args.self.now, c.args.names.now) (c.add_class.new.self, c.add_class.new.names) (measured c.args.names.now c.add.new.self.bytes) c.add_class.result (ap (measured c.args.names.now) c.add.ensures) c.add_class.ensures

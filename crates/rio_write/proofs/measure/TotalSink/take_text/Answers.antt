use Rattle.std.proofs.Common.{ℕ, ◌+◌, min, ap, ◌∙◌}
use Rattle.rio_num.specs.Text.{text_bytes}
use Rattle.rio_write.specs.{Measuring.{too_long}, Sinks.{Accepted}}
use Rattle.rio_write.proofs.Counting.{bytes_counted}
use Rattle.rio_write.proofs.measure.TotalSink.take_text.Goals as goal

pub returns : goal.returns
unfolding Accepted
returns c = λ names. bytes_counted names c.args.self.now.bytes c.add.new.self.bytes (text_bytes c.args.text.now) (c.add.ensures ∙ ap (λ (n : ℕ). min (c.args.self.now.bytes + n) too_long) c.text_length.ensures)

use Rattle.std.proofs.Common.{◌∙◌, ℕ, List, ap, sym, subst}
use Rattle.rio_format.specs.Written.{just}
use Rattle.rio_write.specs.Sinks.{Accepted}
use Rattle.rio_write.proofs.SinkLaws.{nothing_accepted}
use Rattle.rio_entry.specs.Leaves.{value_bytes}
use Rattle.rio_entry.proofs.PutValues.{no_text}
use Rattle.rio_entry.proofs.put.put_value.Goals as goal

pub returns-in_default-value : goal.returns-in_default-value
returns-in_default-value g c = λ names.
    let none = ap (λ of. value_bytes of c.args.value.now) c.in-None.is ∙ no_text c.args.value.now c.in_default-value.not-Text in
    subst (λ (bytes : List ℕ). Accepted g.S.Sink.stands (just bytes) (c.args.sink.now, names) (c.args.sink.now, names)) (sym none)
    (nothing_accepted g.S.Sink.stands (c.args.sink.now, names))

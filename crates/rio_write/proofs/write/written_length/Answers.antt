use Rattle.std.proofs.Common.{ℕ, List, length, ap, ◌∙◌}
use Rattle.std.specs.Prelude.{min}
use Rattle.rio_format.specs.{declared.kind.Kind.TheVariants.{Inline}, ReaderState.{no_words}, Slots.{kinded}, Written.{writing_of}}
use Rattle.rio_write.specs.{Measuring.{too_long}, Sinks.{Accepted, StandsWithin}}
use Rattle.rio_write.proofs.Counting.{whole_counted}
use Rattle.rio_write.proofs.write.written_length.Goals as goal

pub write_value-requires : goal.write_value-requires
unfolding StandsWithin
write_value-requires c = λ never. absurd cc

pub returns : goal.returns
unfolding Accepted
returns c = λ start.
    let known = writing_of c.args.classes.now c.args.value.now in
    let counted = whole_counted (known.bytes (kinded (Inline c.class_of-class.result.now))) start c.new-names.result c.write_value.new.names c.write_value.new.sink.bytes c.new-names.ensures c.in_ok-write_value.ensures in
    counted ∙ ap (λ (k : List ℕ). min (length (known.bytes (kinded (Inline k)) start no_words).0) too_long) (c.class_of-class.ensures c.args.classes.now)

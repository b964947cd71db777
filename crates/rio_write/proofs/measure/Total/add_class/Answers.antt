use Rattle.std.proofs.Common.{rules, ◌≡◌, ◌+◌, ℕ, List, ◌||◌, length, min, ap}
use Rattle.std.specs.{List.{list_any}, Str.{bytes_eq}}
use Rattle.rio_write.specs.Measuring.{too_long}
use Rattle.rio_write.proofs.{Counting.{measured}, MeasureLaws.{known_grows, new_grows}}
use Rattle.rio_write.proofs.measure.Total.add_class.Goals as goal

pub returns-then-has : goal.returns-then-has
returns-then-has c = known_grows c.args.class.now (measured c.args.names.now c.args.self.now.bytes) (measured c.args.names.now c.add.new.self.bytes) (search rules) (ap (measured c.args.names.now) c.add.ensures)

pub returns : goal.returns
returns c =
    let before = measured c.args.names.now c.args.self.now.bytes in
    let after = measured c.note.new.self c.add-2.new.self.bytes in
    let total : after.total ≡ min (before.total + (length c.args.class.now + 5)) too_long = search rules in
    let more : (other : List ℕ) → list_any (bytes_eq other) after.names ≡ (bytes_eq c.args.class.now other || list_any (bytes_eq other) before.names) = λ other. search rules in
    new_grows c.args.class.now before after total more (search rules)

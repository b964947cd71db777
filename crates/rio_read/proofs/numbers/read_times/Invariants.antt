use Rattle.std.proofs.Common.{◌≡◌, ◌-◌}
use Rattle.rio_num.specs.{At.{GoesOn}, Layout.{times}, Meanings.{read}}
use Rattle.rio_format.specs.Objects.{number_value}
use Rattle.rio_read.specs.Lists.{with_front}
use Rattle.rio_read.proofs.numbers.read_times.Given as goal

abbrev pub invariant-loop-done : goal.invariant-loop-done
invariant-loop-done l =
    (with_front l.values (read (times (l.count - l._done) (number_value l.of)) l.reader) ≡ read (times l.count (number_value l.of)) l.fn.reader)
    × GoesOn l.fn.reader.at l.reader.at

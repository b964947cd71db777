use Rattle.std.proofs.Common.{◌≡◌, ◌-◌, length}
use Rattle.rio_token.specs.Reading.{more_at}
use Rattle.rio_step.specs.Script.{batch_put_at}
use Rattle.rio_cmd.proofs.batch.read_more_puts.Given as goal

abbrev pub invariant-loop-done : goal.invariant-loop-done
invariant-loop-done l =
    more_at (l._done-end - l._done) 125 (λ before. batch_put_at) l.puts l.tokens ≡ more_at (length l.fn.tokens.rest) 125 (λ before. batch_put_at) l.fn.puts l.fn.tokens

use Rattle.std.proofs.Common.{◌≡◌, ◌-◌, length}
use Rattle.rio_token.specs.Reading.{more_at}
use Rattle.rio_model.specs.ClassGrammar.{base_at}
use Rattle.rio_decl.proofs.read.read_more_bases.Given as goal

abbrev pub invariant-loop-done : goal.invariant-loop-done
invariant-loop-done l = more_at (l._done-end - l._done) 123 base_at l.bases l.tokens ≡ more_at (length l.fn.tokens.rest) 123 base_at l.fn.bases l.fn.tokens

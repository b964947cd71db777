use Rattle.std.proofs.Common.{◌≡◌, ◌-◌, length}
use Rattle.rio_token.specs.Reading.{more_at}
use Rattle.rio_model.specs.ClassGrammar.{member_at}
use Rattle.rio_decl.proofs.read.read_more_members.Given as goal

abbrev pub invariant-loop-done : goal.invariant-loop-done
invariant-loop-done l = more_at (l._done-end - l._done) 125 member_at l.members l.tokens ≡ more_at (length l.fn.tokens.rest) 125 member_at l.fn.members l.fn.tokens

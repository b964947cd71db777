use Rattle.std.proofs.Common.{◌≡◌, ◌≤◌, drop}
use Rattle.rio_token.specs.Words.{number_after}
use Rattle.rio_token.proofs.words.number_in.Given as goal

abbrev pub invariant-loop-byte : goal.invariant-loop-byte
invariant-loop-byte l = (number_after l.base l.n (drop l.byte-index l.digits) ≡ number_after l.base 0 l.digits) × (l.n ≤ l.most)

use Rattle.std.proofs.Common.{◌≡◌, ◌==◌, length}
use Rattle.std.specs.List.{list_all}
use Rattle.rio_recover.proofs.object.is_padding.Given as goal

abbrev pub invariant-loop-reader : goal.invariant-loop-reader
invariant-loop-reader l = list_all (λ b. b == 0) l.reader.at.rest ≡ list_all (λ b. b == 0) l.fn.reader.at.rest

abbrev pub decreases-loop-reader : goal.decreases-loop-reader
decreases-loop-reader l = length l.reader.at.rest

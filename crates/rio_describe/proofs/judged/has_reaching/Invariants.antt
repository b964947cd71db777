use Rattle.std.proofs.Common.{◌≡◌, drop}
use Rattle.rio_describe.specs.Heirs.{has_reaching}
use Rattle.rio_describe.proofs.judged.has_reaching.Given as goal

abbrev pub invariant-loop-base : goal.invariant-loop-base
invariant-loop-base l = has_reaching l.heirs (drop l.base-index l.bases) ≡ has_reaching l.heirs l.bases

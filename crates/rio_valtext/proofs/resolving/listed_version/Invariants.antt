use Rattle.std.proofs.Common.{◌≡◌, drop}
use Rattle.rio_model.specs.Resolving.{base_version}
use Rattle.rio_valtext.proofs.resolving.listed_version.Given as goal

abbrev pub invariant-loop-base : goal.invariant-loop-base
invariant-loop-base l = base_version (drop l.base-index l.bases) l.class ≡ base_version l.bases l.class

use Rattle.std.proofs.Common.{◌≡◌, drop}
use Rattle.rio_map.specs.Versions.{has_base}
use Rattle.rio_map.proofs.version.has_base.Given as goal

abbrev pub invariant-loop-base : goal.invariant-loop-base
invariant-loop-base l = has_base (drop l.base-index l.bases) l.class ≡ has_base l.bases l.class

use Rattle.std.proofs.Common.{◌≡◌, map, take}
use Rattle.rio_model.specs.Declaring.{base_declared}
use Rattle.rio_registry.proofs.newest.newest_bases.Given as goal

abbrev pub invariant-loop-base : goal.invariant-loop-base
invariant-loop-base l = l.newest ≡ map (base_declared l.classes) (take l.base-index l.bases)

use Rattle.std.proofs.Common.{◌≡◌, drop}
use Rattle.std.specs.List.{list_all}
use Rattle.rio_model.specs.Declaring.{knows_base}
use Rattle.rio_registry.proofs.names.knows_bases.Given as goal

abbrev pub invariant-loop-base : goal.invariant-loop-base
invariant-loop-base l = list_all (knows_base l.classes l.class) (drop l.base-index l.bases) ≡ list_all (knows_base l.classes l.class) l.bases

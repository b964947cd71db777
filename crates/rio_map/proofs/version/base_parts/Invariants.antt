use Rattle.std.proofs.Common.{◌≡◌, drop}
use Rattle.rio_model.specs.Mapping.{after_bases}
use Rattle.rio_map.proofs.version.base_parts.Given as goal

abbrev pub invariant-loop-k : goal.invariant-loop-k
invariant-loop-k l = after_bases (λ p. p.name) (drop l.k l.bases) (drop l.k l.parts) ≡ after_bases (λ p. p.name) l.bases l.parts

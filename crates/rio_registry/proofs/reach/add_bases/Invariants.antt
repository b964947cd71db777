use Rattle.std.proofs.Common.{take}
use Rattle.std.specs.{List.{list_any}, Str.{bytes_eq}}
use Rattle.rio_registry.specs.Reaching.{IsGrown}
use Rattle.rio_registry.proofs.reach.add_bases.Given as goal

abbrev pub invariant-loop-base : goal.invariant-loop-base
invariant-loop-base l = IsGrown l.fn.names l.names (λ n. list_any (λ b. bytes_eq n b.name) (take l.base-index l.bases))

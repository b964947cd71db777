use Rattle.rio_registry.proofs.ClosedLaws.{all_closed}
use Rattle.rio_registry.proofs.registry.Registry.judge.Goals as goal

pub rule_fault-requires : goal.rule_fault-requires
rule_fault-requires c = all_closed c.self.inside.classes c.self.invariant

use Rattle.std.proofs.Common.{◌-◌}
use Rattle.rio_chain.proofs.{SoFar.{Going}, WalkedKeys.{KeysSoFar}}
use Rattle.rio_chain.proofs.walking.walk_with_keys.Given as goal

abbrev pub invariant-links : goal.invariant-links
invariant-links g l = Going (g.H.Host.view l.fn.host) (g.H.Host.view l.host) l.file_length l.place l.word l.segments × KeysSoFar (g.H.Host.view l.fn.host) l.segments l.heads

abbrev pub decreases-links : goal.decreases-links
decreases-links g l = l.file_length - l.place

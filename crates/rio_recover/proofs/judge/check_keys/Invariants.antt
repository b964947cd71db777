use Rattle.rio_recover.proofs.Checking.{KeysSoFar}
use Rattle.rio_recover.proofs.judge.check_keys.Given as goal

abbrev pub invariant-loop-head : goal.invariant-loop-head
invariant-loop-head g l = KeysSoFar (g.H.Host.view l.fn.host) (g.H.Host.view l.host) l.keys.classes.now l.keys.heads.now l.head-index l.check

use Rattle.std.proofs.Common.{ℕ, List, Option, Some, ap, rules}
use Rattle.rio_host.proofs.Calls.{sync_still, sync_holds, sync_disk, sync_quiet}
use Rattle.rio_host.proofs.memory.MemHostHost.sync.Goals as goal

abbrev some : List ℕ → Option (List ℕ)
some l = Some l

pub invariant_of-self-in-Ok : goal.invariant_of-self-in-Ok
invariant_of-self-in-Ok c = record { still = sync_still c.args.self.now.recording c.sync.new.self c.in-Ok.ensures.ok c.args.self.now.still }

pub returns-in-Ok-clause-quiet : goal.returns-in-Ok-clause-quiet
returns-in-Ok-clause-quiet c = sync_quiet c.args.self.now.recording c.sync.new.self c.in-Ok.ensures.ok c.args.self.now.disk_faults c.args.self.now.say_faults c.args.self.now.reads

pub returns-in-Ok-clause-disk : goal.returns-in-Ok-clause-disk
returns-in-Ok-clause-disk c = sync_disk c.args.self.now.recording c.sync.new.self c.in-Ok.ensures.ok c.args.self.now.disk_faults c.args.self.now.say_faults c.args.self.now.reads _ (search rules)

pub returns-in-Ok-clause-holds : goal.returns-in-Ok-clause-holds
returns-in-Ok-clause-holds c = ap (λ (l : List ℕ). some l) (sync_holds c.args.self.now.recording c.sync.new.self c.in-Ok.ensures.ok)

use Rattle.std.proofs.Common.{refl, rules}
use Rattle.rio_host.proofs.Calls.{change_none}
use Rattle.rio_host.proofs.memory.MemHost.run_short.Goals as goal

pub returns-clause-disk : goal.returns-clause-disk
returns-clause-disk c change =
    change_none change c.args.self.now.recording c.args.self.now.recording c.args.self.now.disk_faults c.args.self.now.say_faults c.args.self.now.reads _ _ refl (search rules)

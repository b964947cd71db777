use Rattle.rio_host.specs.declared.change.Change.TheVariants.{Range}
use Rattle.rio_host.proofs.memory.MemHostHost.write.Goals as goal

pub returns-in-Err-clause-disk : goal.returns-in-Err-clause-disk
returns-in-Err-clause-disk c = c.run_short.ensures.disk (Range c.args.place c.args.bytes.now)

use Rattle.rio_entry.proofs.Left.{if_ok_more}
use Rattle.rootio.proofs.Generating.{taken_first}
use Rattle.rootio.proofs.generate.GeneratedScriptCommandSource.next_command.Goals as goal

pub returns : goal.returns
returns c = if_ok_more c.next_command.result c.next_command.ensures.command (λ command took. taken_first c.args.self.now c.next_command.new.self command took)

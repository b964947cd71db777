use Rattle.rio_step.proofs.CommandAgain.{spelled_commands_are_read}
use Rattle.rio_step.proofs.command_laws.spelled_commands_are_read.Goals as goal

pub returns : goal.returns
returns c = spelled_commands_are_read

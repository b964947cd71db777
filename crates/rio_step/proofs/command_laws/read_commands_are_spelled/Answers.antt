use Rattle.rio_step.proofs.CommandTells.{read_commands_are_spelled}
use Rattle.rio_step.proofs.command_laws.read_commands_are_spelled.Goals as goal

pub returns : goal.returns
returns c = read_commands_are_spelled

use Rattle.rio_step.proofs.CommandTells.{command_places_are_told}
use Rattle.rio_step.proofs.command_laws.first_bad_command_tokens_are_told.Goals as goal

pub returns : goal.returns
returns c = command_places_are_told

use Rattle.rio_step.proofs.SpelledLines.{lines_are_spelled}
use Rattle.rio_step.proofs.command_laws.lines_are_spelled.Goals as goal

pub returns : goal.returns
returns c = lines_are_spelled

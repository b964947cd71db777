use Rattle.rio_step.proofs.ScriptLaws.{lines_give_commands, scripts_are_statable}
use Rattle.rio_step.proofs.laws.scripts_are_statable.Goals as goal

pub returns-clause-lines : goal.returns-clause-lines
returns-clause-lines c = lines_give_commands

pub returns-clause-statable : goal.returns-clause-statable
returns-clause-statable c = scripts_are_statable

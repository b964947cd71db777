use Rattle.rio_step.proofs.ClassTells.{declaration_places_are_told}
use Rattle.rio_step.proofs.command_laws.first_bad_class_tokens_are_told.Goals as goal

pub returns : goal.returns
returns c = declaration_places_are_told

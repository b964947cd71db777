use Rattle.rio_effect.proofs.{FileChanges.{segments_follow}, FileRunLaws.{runs_have_parts}}
use Rattle.rio_effect.proofs.laws.runs_are_told.Goals as goal

pub returns-clause-parts : goal.returns-clause-parts
returns-clause-parts c = runs_have_parts

pub returns-clause-segments : goal.returns-clause-segments
returns-clause-segments c = segments_follow

use Rattle.rio_format.proofs.GrowthLaws.{fitting_read_stays, fitting_spelled_stays}
use Rattle.rio_format.proofs.laws.fitting_values_stay_read.Goals as goal

pub returns-clause-read : goal.returns-clause-read
returns-clause-read c = fitting_read_stays

pub returns-clause-spelled : goal.returns-clause-spelled
returns-clause-spelled c = fitting_spelled_stays

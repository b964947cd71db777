use Rattle.rio_step.proofs.{FitStays.{fits_stay}, WritingLaws.{written_stays}}
use Rattle.rio_step.proofs.laws.values_stay.Goals as goal

pub returns-clause-fits : goal.returns-clause-fits
returns-clause-fits c = fits_stay

pub returns-clause-written : goal.returns-clause-written
returns-clause-written c = written_stays

use Rattle.rio_model.proofs.{ListDepth.{written_list_has_versions, written_list_is_shallow}, ListFits.{written_list_fits}}
use Rattle.rio_model.proofs.list_laws.written_list_fits.Goals as goal

pub returns-clause-fits : goal.returns-clause-fits
returns-clause-fits c = written_list_fits

pub returns-clause-shallow : goal.returns-clause-shallow
returns-clause-shallow c = written_list_is_shallow

pub returns-clause-versions : goal.returns-clause-versions
returns-clause-versions c = written_list_has_versions

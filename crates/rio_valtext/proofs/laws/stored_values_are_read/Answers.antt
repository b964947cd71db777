use Rattle.rio_valtext.proofs.StoredLaws.{stated_has_names, stored_is_read, stored_is_readable}
use Rattle.rio_valtext.proofs.laws.stored_values_are_read.Goals as goal

pub returns-clause-readable : goal.returns-clause-readable
returns-clause-readable c = stored_is_readable

pub returns-clause-read : goal.returns-clause-read
returns-clause-read c = stored_is_read

pub returns-clause-stated : goal.returns-clause-stated
returns-clause-stated c = stated_has_names

use Rattle.rio_entry.proofs.{EntriesStay.{entry_stays, spelled_entry_stays}, FittingRows.{fitting_row_stays}}
use Rattle.rio_entry.proofs.laws.rows_stay_read.Goals as goal

pub returns-clause-entry : goal.returns-clause-entry
returns-clause-entry c = entry_stays

pub returns-clause-spelled : goal.returns-clause-spelled
returns-clause-spelled c = spelled_entry_stays

pub returns-clause-row : goal.returns-clause-row
returns-clause-row c = fitting_row_stays

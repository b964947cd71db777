use Rattle.rio_entry.proofs.RowLaws.{entry_is_part_of_row}
use Rattle.rio_entry.proofs.laws.entry_is_part_of_row.Goals as goal

pub returns : goal.returns
returns c = entry_is_part_of_row

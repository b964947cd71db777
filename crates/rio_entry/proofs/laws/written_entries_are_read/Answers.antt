use Rattle.rio_entry.proofs.EntryLaws.{written_are_read}
use Rattle.rio_entry.proofs.laws.written_entries_are_read.Goals as goal

pub returns : goal.returns
returns c = written_are_read

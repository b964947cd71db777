use Rattle.rio_free.proofs.EntryWritten.{written_is_entries, written_is_gaps}
use Rattle.rio_free.proofs.laws.written_free_record_is_read.Goals as goal

pub returns-clause-entries : goal.returns-clause-entries
returns-clause-entries c = written_is_entries

pub returns-clause-gaps : goal.returns-clause-gaps
returns-clause-gaps c = written_is_gaps

use Rattle.rio_model.proofs.ListSpelled.{written_bytes_are_read, written_classes_are_read}
use Rattle.rio_model.proofs.list_laws.written_bytes_are_read.Goals as goal

pub returns-clause-list : goal.returns-clause-list
returns-clause-list c = written_bytes_are_read

pub returns-clause-classes : goal.returns-clause-classes
returns-clause-classes c = written_classes_are_read

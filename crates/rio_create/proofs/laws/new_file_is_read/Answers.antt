use Rattle.rio_create.proofs.Read.{new_files}
use Rattle.rio_create.proofs.laws.new_file_is_read.Goals as goal

pub returns : goal.returns
returns c = new_files

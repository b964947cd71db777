use Rattle.rio_effect.proofs.HeaderWritten.{headers_have_records}
use Rattle.rio_effect.proofs.laws.headers_have_records.Goals as goal

pub returns : goal.returns
returns c = headers_have_records c.written_tree_fits.ensures c.written_tree_is_read.ensures

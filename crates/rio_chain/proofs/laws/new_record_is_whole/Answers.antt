use Rattle.rio_chain.proofs.Records.{are_new_records}
use Rattle.rio_chain.proofs.laws.new_record_is_whole.Goals as goal

pub returns : goal.returns
returns c = are_new_records

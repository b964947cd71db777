use Rattle.rio_free.proofs.EntryLaws.{entries_agree}
use Rattle.rio_free.proofs.laws.free_record_agrees.Goals as goal

pub returns : goal.returns
returns c = entries_agree

use Rattle.rio_entry.proofs.EntryLaws.{one_answer}
use Rattle.rio_entry.proofs.laws.entries_have_one_answer.Goals as goal

pub returns : goal.returns
returns c = one_answer

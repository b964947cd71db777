use Rattle.rootio.proofs.CallRows.{calls_lead}
use Rattle.rootio.proofs.laws.calls_in_a_row.Goals as goal

pub returns : goal.returns
returns c = calls_lead

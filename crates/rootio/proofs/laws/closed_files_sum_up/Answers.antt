use Rattle.rootio.proofs.ClosedSummaries.{closed_files_sum_up}
use Rattle.rootio.proofs.laws.closed_files_sum_up.Goals as goal

pub returns : goal.returns
returns c = closed_files_sum_up

use Rattle.rootio.proofs.GeneratedRuns.{generated_files_are_whole}
use Rattle.rootio.proofs.laws.generated_files_are_whole.Goals as goal

pub returns : goal.returns
returns c = generated_files_are_whole

use Rattle.rootio.proofs.Generating.{generated_statable}
use Rattle.rootio.proofs.generate.generated_is_statable.Goals as goal

pub returns : goal.returns
returns c = generated_statable

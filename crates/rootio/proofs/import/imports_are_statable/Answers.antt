use Rattle.rootio.proofs.Imported.{imports_are_statable}
use Rattle.rootio.proofs.import.imports_are_statable.Goals as goal

pub returns : goal.returns
returns c = imports_are_statable

use Rattle.rio_cmd.proofs.ImportWordLaws.{imports_are_stated}
use Rattle.rio_cmd.proofs.import_words.imports_are_stated.Goals as goal

pub returns : goal.returns
returns c = imports_are_stated

use Rattle.rio_info.proofs.ListGrowth.{lengths_are_one, written_lists_grow}
use Rattle.rio_info.proofs.laws.written_lists_grow.Goals as goal

pub returns-clause-grow : goal.returns-clause-grow
returns-clause-grow c = written_lists_grow

pub returns-clause-anywhere : goal.returns-clause-anywhere
returns-clause-anywhere c = lengths_are_one

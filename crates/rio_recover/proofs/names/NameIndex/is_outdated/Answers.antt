use Rattle.rio_recover.proofs.NameTables.{outdated_by}
use Rattle.rio_recover.proofs.names.NameIndex.is_outdated.Goals as goal

pub returns : goal.returns
returns c tops is =
    outdated_by tops c.args.self.now c.args.head.now c.as_slice.result.now c.from.result c.next_cycle.result is c.as_slice.ensures c.from.ensures c.next_cycle.ensures

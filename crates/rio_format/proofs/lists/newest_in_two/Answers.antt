use Rattle.rio_format.proofs.ListLaws.{newest_in-append}
use Rattle.rio_format.proofs.lists.newest_in_two.Goals as goal

pub returns : goal.returns
returns c = rw (newest_in-append c.args.first.now c.args.second.now c.args.name.now, ← c.newest.ensures, ← c.newest-2.ensures) c.newer.ensures

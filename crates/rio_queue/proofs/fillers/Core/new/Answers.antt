use Rattle.std.proofs.Common.{refl}
use Rattle.rio_queue.proofs.HistoryLaws.{starts}
use Rattle.rio_queue.proofs.fillers.Core.new.Goals as goal

pub returns-clause-after : goal.returns-clause-after
returns-clause-after c = starts c.args.cap c.args.fillers _ refl c.new.ensures.items c.in_ok-open_units.ensures

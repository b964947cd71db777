use Rattle.std.proofs.Common.{take}
use Rattle.rio_state.specs.KeyedRecords.{top_keys}
use Rattle.rio_recover.specs.{Keys.{keyed_by}, Names.{IndexesNames}}
use Rattle.rio_recover.proofs.names.NameIndex.of.Given as goal

abbrev pub invariant-loop-head : goal.invariant-loop-head
invariant-loop-head l = IndexesNames (top_keys (keyed_by (take l.head-index l.heads))) l.names

use Rattle.std.proofs.Common.{◌≡◌, ◌≤◌, length}
use Rattle.std.specs.Vec.Iter.{into_iter_items, into_iter_len}
use Rattle.rio_dir.specs.Table.{with_heads}
use Rattle.rio_session.specs.Puts.{AreNewKeys}
use Rattle.rio_session.proofs.batch.insert_all.Given as goal

-- what is left is still to be put
abbrev pub invariant-loop-head : goal.invariant-loop-head
invariant-loop-head l = record {
  put : with_heads (into_iter_items l.head-iterator) l.table.heads ≡ with_heads l.fn.heads.items l.fn.table.heads;
  new : AreNewKeys l.table.heads (into_iter_items l.head-iterator);
  room : length (into_iter_items l.head-iterator) ≤ l.table.spare;
  count : into_iter_len l.head-iterator ≡ length (into_iter_items l.head-iterator);
}

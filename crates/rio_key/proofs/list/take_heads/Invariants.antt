use Rattle.std.proofs.Common.{◌≡◌, ◌-◌}
use Rattle.rio_num.specs.{Layout.{times}, Meanings.{read}, Plain.{plain}}
use Rattle.rio_key.specs.KeyList.{listed_key}
use Rattle.rio_num.proofs.Loops.{with_front}
use Rattle.rio_key.proofs.list.take_heads.Given as goal

abbrev pub invariant-heads : goal.invariant-heads
invariant-heads l = with_front l.heads (read (times (l.count - l.k) listed_key) (plain l.cursor)) ≡ read (times l.count listed_key) (plain l.fn.cursor)

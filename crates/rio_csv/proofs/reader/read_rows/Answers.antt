use Rattle.std.proofs.Common.{Some, None}
use Rattle.rio_csv.proofs.TakingLaws.{all_taken, fewer_left, one_taken}
use Rattle.rio_csv.specs.{Rows.{rows_in}, Unread.{TakesFirst}}
use Rattle.rio_csv.proofs.reader.read_rows.Goals as goal

pub loop-rows-preserved : goal.loop-rows-preserved
loop-rows-preserved c =
    let took : TakesFirst c.loop-rows.reader (Some c.in-Some.row) c.next_row.new.self = rw c.in-Some.is at c.in_ok-row.ensures.row in
    rw c.in_ok-push.ensures.ok
    (one_taken c.loop-rows.reader c.next_row.new.self c.loop-rows.rows c.in-Some.row (rows_in c.args.branches.now c.args.bytes.now) took c.loop-rows.invariant)

pub loop-rows-smaller : goal.loop-rows-smaller
loop-rows-smaller c =
    let took : TakesFirst c.loop-rows.reader (Some c.in-Some.row) c.next_row.new.self = rw c.in-Some.is at c.in_ok-row.ensures.row in
    fewer_left c.loop-rows.reader c.next_row.new.self c.in-Some.row took

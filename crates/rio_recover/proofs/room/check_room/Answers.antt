use Rattle.std.proofs.Common.{◌≡◌, ◌+◌, length, arith}
use Rattle.rio_state.specs.Closing.{close_need}
use Rattle.rio_recover.proofs.RoomReasons.{count_known, kept_for, need_by, room_full, room_full_as, room_left, room_left_as, sizes_short, too_many_records}
use Rattle.rio_recover.proofs.room.check_room.Goals as goal

pub heads_length-requires : goal.heads_length-requires
heads_length-requires c = omega (arith, sizes_short c.args.table.now.heads c.requires.short)

pub close_length-need-requires-clause-heads : goal.close_length-need-requires-clause-heads
close_length-need-requires-clause-heads c = omega (arith, sizes_short c.args.table.now.heads c.requires.short)

pub returns-then-others-ge-RECORD_LIMIT-clause-told : goal.returns-then-others-ge-RECORD_LIMIT-clause-told
returns-then-others-ge-RECORD_LIMIT-clause-told c count is =
    too_many_records (length c.args.table.now.heads) c.args.end c.args.others count c.args.name.now c.args.table.now.heads (omega arith) (omega arith) is

pub returns-then-saturating_add-gt-END_LIMIT-clause-told : goal.returns-then-saturating_add-gt-END_LIMIT-clause-told
returns-then-saturating_add-gt-END_LIMIT-clause-told c count is =
    let heads = c.args.table.now.heads in
    let kept = kept_for c.args.name.now heads c.args.others in
    let need : c.close_length-need.result ≡ close_need kept =
    need_by c.args.name.now heads c.args.others c.heads_length.result (c.args.others + c.count-2.result) c.close_length-need.result c.heads_length.ensures (omega arith) c.close_length-need.ensures in
    room_full_as (length heads) c.args.end c.args.others count c.args.name.now heads (count_known c.args.others count (omega arith) is) (room_full (length heads) c.args.end kept (omega arith) (omega (arith, need)))

pub returns-clause-told : goal.returns-clause-told
returns-clause-told c count is =
    let heads = c.args.table.now.heads in
    let kept = kept_for c.args.name.now heads c.args.others in
    let need : c.close_length-need.result ≡ close_need kept =
    need_by c.args.name.now heads c.args.others c.heads_length.result (c.args.others + c.count-2.result) c.close_length-need.result c.heads_length.ensures (omega arith) c.close_length-need.ensures in
    (room_left_as (length heads) c.args.end c.args.others count c.args.name.now heads (count_known c.args.others count (omega arith) is) (room_left (length heads) c.args.end kept (omega arith) (omega (arith, need))), tt)

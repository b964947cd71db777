use Rattle.std.proofs.Common.{◌+◌, ◌*◌, ◌<◌, length, ap, arith}
use Rattle.rio_num.specs.Room.{Room}
use Rattle.rio_free.specs.Record.{end_entry, entry_bytes, free_bytes, gaps_bytes}
use Rattle.rio_free.proofs.{Order.{all_some}, Puts.{refuses}, Written.{length-free, length-gaps}}
use Rattle.rio_num.proofs.Puts.{puts_then, puts_reserved}
use Rattle.rio_free.proofs.write.write_free.Goals as goal

pub put_gaps-requires-clause-some : goal.put_gaps-requires-clause-some
put_gaps-requires-clause-some c k d lt = all_some 0 c.as_slice-gaps.result.now (rw c.as_slice-gaps.ensures.all c.as_slice-gaps.ensures.sorted) k d lt

pub returns-in_err-reserve : goal.returns-in_err-reserve
returns-in_err-reserve c =
    let long = length-free c.args.list.now.gaps c.args.end in
    let few : c.args.into.now.spare < length (free_bytes c.args.list.now.gaps c.args.end) = omega (arith, c.in_err-reserve.ensures.err.1, long, ap length c.as_slice-gaps.ensures.all) in
    refuses c.args.into.now c.reserve.new.self (free_bytes c.args.list.now.gaps c.args.end) c.from_residual.result c.from_residual.ensures.0 (c.in_err-reserve.ensures.err.0, few)

pub returns-in_err-put_gaps : goal.returns-in_err-put_gaps
returns-in_err-put_gaps c = absurd (omega (arith, c.in_err-put_gaps.ensures.1, ap (λ (r : Room). r.spare) c.in_ok-reserve.ensures.ok, length-gaps c.as_slice-gaps.result.now))

pub put_entry-requires-clause-room : goal.put_entry-requires-clause-room
put_entry-requires-clause-room c =
    omega (arith, ap (λ (r : Room). r.spare) c.in_ok-put_gaps.ensures, ap (λ (r : Room). r.spare) c.in_ok-reserve.ensures.ok, length-gaps c.as_slice-gaps.result.now)

pub returns : goal.returns
returns c =
    let gaps = c.as_slice-gaps.result.now in
    rw (← c.as_slice-gaps.ensures.all) (puts_reserved c.args.into.now c.reserve.new.self c.put_entry.new.into (10 * (length gaps + 1)) (free_bytes gaps c.args.end) c.put_entry.result c.in_ok-reserve.ensures.ok (omega (arith, length-free gaps c.args.end))
    (puts_then c.reserve.new.self c.put_gaps.new.into c.put_entry.new.into (gaps_bytes gaps) (entry_bytes 1 (end_entry c.args.end)) c.put_entry.result c.in_ok-put_gaps.ensures (λ room. c.put_entry.ensures)))

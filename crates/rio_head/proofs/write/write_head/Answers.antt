use Rattle.std.proofs.Common.{◌≡◌, ◌++◌, length, replicate, if◌then◌else◌, rules}
use Rattle.rio_head.specs.{Form.{is_large_head}, Written.{front_bytes, back_bytes}}
use Rattle.rio_num.proofs.Puts.{puts_then, puts_reserved}
use Rattle.rio_head.proofs.Lengths.{length-head, head_parts}
use Rattle.rio_head.proofs.write.write_head.Goals as goal

pub returns : goal.returns
returns c =
    let long : length c.args.head.now.uuid ≡ 18 = search rules in
    rw head_parts (puts_reserved c.args.into.now c.reserve.new.self c.put_zeros.new.into 100 (front_bytes c.args.head.now ++ (back_bytes c.args.head.now ++ replicate (if is_large_head c.args.head.now.version then 25 else 37) 0)) c.put_zeros.result c.in_ok-reserve.ensures.ok (length-head c.args.head.now long)
    (puts_then c.reserve.new.self c.put_front.new.into c.put_zeros.new.into (front_bytes c.args.head.now) ((back_bytes c.args.head.now) ++ (replicate (if is_large_head c.args.head.now.version then 25 else 37) 0)) c.put_zeros.result c.in_ok-put_front.ensures
    (puts_then c.put_front.new.into c.put_back.new.into c.put_zeros.new.into (back_bytes c.args.head.now) (replicate (if is_large_head c.args.head.now.version then 25 else 37) 0) c.put_zeros.result c.in_ok-put_back.ensures (λ room. c.put_zeros.ensures))))

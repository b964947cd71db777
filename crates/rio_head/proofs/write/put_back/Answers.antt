use Rattle.std.proofs.Common.{◌≡◌, ◌++◌, length, rules, arith}
use Rattle.byteorder.specs.Endian.{big_bytes}
use Rattle.rio_head.specs.Form.{place_len, is_large_head}
use Rattle.rio_num.proofs.Puts.{puts_then}
use Rattle.rio_head.proofs.Lengths.{length-back}
use Rattle.rio_head.proofs.write.put_back.Goals as goal

pub returns : goal.returns
returns c =
    let long : length c.args.head.now.uuid ≡ 18 = search rules in
    (puts_then c.args.into.now c.put_u8.new.self c.put.new.self (big_bytes 1 c.args.head.now.units) ((big_bytes 4 c.args.head.now.compress) ++ ((big_bytes (place_len (is_large_head c.args.head.now.version)) c.args.head.now.seek_info) ++ ((big_bytes 4 c.args.head.now.nbytes_info) ++ (c.args.head.now.uuid)))) c.put.result c.in_ok-put_u8.ensures
    (puts_then c.put_u8.new.self c.put_u32.new.self c.put.new.self (big_bytes 4 c.args.head.now.compress) ((big_bytes (place_len (is_large_head c.args.head.now.version)) c.args.head.now.seek_info) ++ ((big_bytes 4 c.args.head.now.nbytes_info) ++ (c.args.head.now.uuid))) c.put.result c.in_ok-put_u32.ensures
    (puts_then c.put_u32.new.self c.put_place.new.into c.put.new.self (big_bytes (place_len (is_large_head c.args.head.now.version)) c.args.head.now.seek_info) ((big_bytes 4 c.args.head.now.nbytes_info) ++ (c.args.head.now.uuid)) c.put.result c.in_ok-put_place.ensures
    (puts_then c.put_place.new.into c.put_u32-2.new.self c.put.new.self (big_bytes 4 c.args.head.now.nbytes_info) (c.args.head.now.uuid) c.put.result c.in_ok-put_u32-2.ensures (λ room. c.put.ensures)))))
    (omega (arith, c.requires.room, length-back c.args.head.now long))

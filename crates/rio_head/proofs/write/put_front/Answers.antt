use Rattle.std.proofs.Common.{◌++◌, codes, arith}
use Rattle.byteorder.specs.Endian.{big_bytes}
use Rattle.rio_head.specs.Form.{place_len, is_large_head}
use Rattle.rio_num.proofs.Puts.{puts_then}
use Rattle.rio_head.proofs.Lengths.{length-front}
use Rattle.rio_head.proofs.write.put_front.Goals as goal

pub returns : goal.returns
returns c =
    (puts_then c.args.into.now c.put.new.self c.put_u32-5.new.self (codes "root") ((big_bytes 4 c.args.head.now.version) ++ ((big_bytes 4 c.args.head.now.begin) ++ ((big_bytes (place_len (is_large_head c.args.head.now.version)) c.args.head.now.end) ++ ((big_bytes (place_len (is_large_head c.args.head.now.version)) c.args.head.now.seek_free) ++ ((big_bytes 4 c.args.head.now.nbytes_free) ++ ((big_bytes 4 c.args.head.now.nfree) ++ (big_bytes 4 c.args.head.now.nbytes_name))))))) c.put_u32-5.result c.in_ok-put.ensures
    (puts_then c.put.new.self c.put_u32.new.self c.put_u32-5.new.self (big_bytes 4 c.args.head.now.version) ((big_bytes 4 c.args.head.now.begin) ++ ((big_bytes (place_len (is_large_head c.args.head.now.version)) c.args.head.now.end) ++ ((big_bytes (place_len (is_large_head c.args.head.now.version)) c.args.head.now.seek_free) ++ ((big_bytes 4 c.args.head.now.nbytes_free) ++ ((big_bytes 4 c.args.head.now.nfree) ++ (big_bytes 4 c.args.head.now.nbytes_name)))))) c.put_u32-5.result c.in_ok-put_u32.ensures
    (puts_then c.put_u32.new.self c.put_u32-2.new.self c.put_u32-5.new.self (big_bytes 4 c.args.head.now.begin) ((big_bytes (place_len (is_large_head c.args.head.now.version)) c.args.head.now.end) ++ ((big_bytes (place_len (is_large_head c.args.head.now.version)) c.args.head.now.seek_free) ++ ((big_bytes 4 c.args.head.now.nbytes_free) ++ ((big_bytes 4 c.args.head.now.nfree) ++ (big_bytes 4 c.args.head.now.nbytes_name))))) c.put_u32-5.result c.in_ok-put_u32-2.ensures
    (puts_then c.put_u32-2.new.self c.put_place.new.into c.put_u32-5.new.self (big_bytes (place_len (is_large_head c.args.head.now.version)) c.args.head.now.end) ((big_bytes (place_len (is_large_head c.args.head.now.version)) c.args.head.now.seek_free) ++ ((big_bytes 4 c.args.head.now.nbytes_free) ++ ((big_bytes 4 c.args.head.now.nfree) ++ (big_bytes 4 c.args.head.now.nbytes_name)))) c.put_u32-5.result c.in_ok-put_place.ensures
    (puts_then c.put_place.new.into c.put_place-2.new.into c.put_u32-5.new.self (big_bytes (place_len (is_large_head c.args.head.now.version)) c.args.head.now.seek_free) ((big_bytes 4 c.args.head.now.nbytes_free) ++ ((big_bytes 4 c.args.head.now.nfree) ++ (big_bytes 4 c.args.head.now.nbytes_name))) c.put_u32-5.result c.in_ok-put_place-2.ensures
    (puts_then c.put_place-2.new.into c.put_u32-3.new.self c.put_u32-5.new.self (big_bytes 4 c.args.head.now.nbytes_free) ((big_bytes 4 c.args.head.now.nfree) ++ (big_bytes 4 c.args.head.now.nbytes_name)) c.put_u32-5.result c.in_ok-put_u32-3.ensures
    (puts_then c.put_u32-3.new.self c.put_u32-4.new.self c.put_u32-5.new.self (big_bytes 4 c.args.head.now.nfree) (big_bytes 4 c.args.head.now.nbytes_name) c.put_u32-5.result c.in_ok-put_u32-4.ensures (λ room. c.put_u32-5.ensures))))))))
    (omega (arith, c.requires.room, length-front c.args.head.now))

use Rattle.std.proofs.Common.{◌≡◌, ◌++◌, length, replicate, if◌then◌else◌, rules}
use Rattle.byteorder.specs.Endian.{big_bytes}
use Rattle.rio_head.specs.Form.{place_len, is_large_dir}
use Rattle.rio_num.proofs.Puts.{puts_then, puts_reserved}
use Rattle.rio_head.proofs.Lengths.{length-dir, dir_parts, dir_bytes_all}
use Rattle.rio_head.proofs.write.write_dir.Goals as goal

pub returns : goal.returns
returns c =
    let long : length c.args.dir.now.uuid ≡ 18 = search rules in
    rw dir_parts (puts_reserved c.args.into.now c.reserve.new.self c.put_reserved.new.into 60 (dir_bytes_all c.args.dir.now) c.put_reserved.result c.in_ok-reserve.ensures.ok (length-dir c.args.dir.now long)
    (puts_then c.reserve.new.self c.put_u16.new.self c.put_reserved.new.into (big_bytes 2 c.args.dir.now.version) ((big_bytes 4 c.args.dir.now.created) ++ ((big_bytes 4 c.args.dir.now.changed) ++ ((big_bytes 4 c.args.dir.now.nbytes_keys) ++ ((big_bytes 4 c.args.dir.now.nbytes_name) ++ ((big_bytes (place_len (is_large_dir c.args.dir.now.version)) c.args.dir.now.seek_dir) ++ ((big_bytes (place_len (is_large_dir c.args.dir.now.version)) c.args.dir.now.seek_parent) ++ ((big_bytes (place_len (is_large_dir c.args.dir.now.version)) c.args.dir.now.seek_keys) ++ ((c.args.dir.now.uuid) ++ (replicate (if is_large_dir c.args.dir.now.version then 0 else 12) 0))))))))) c.put_reserved.result c.in_ok-put_u16.ensures
    (puts_then c.put_u16.new.self c.put_u32.new.self c.put_reserved.new.into (big_bytes 4 c.args.dir.now.created) ((big_bytes 4 c.args.dir.now.changed) ++ ((big_bytes 4 c.args.dir.now.nbytes_keys) ++ ((big_bytes 4 c.args.dir.now.nbytes_name) ++ ((big_bytes (place_len (is_large_dir c.args.dir.now.version)) c.args.dir.now.seek_dir) ++ ((big_bytes (place_len (is_large_dir c.args.dir.now.version)) c.args.dir.now.seek_parent) ++ ((big_bytes (place_len (is_large_dir c.args.dir.now.version)) c.args.dir.now.seek_keys) ++ ((c.args.dir.now.uuid) ++ (replicate (if is_large_dir c.args.dir.now.version then 0 else 12) 0)))))))) c.put_reserved.result c.in_ok-put_u32.ensures
    (puts_then c.put_u32.new.self c.put_u32-2.new.self c.put_reserved.new.into (big_bytes 4 c.args.dir.now.changed) ((big_bytes 4 c.args.dir.now.nbytes_keys) ++ ((big_bytes 4 c.args.dir.now.nbytes_name) ++ ((big_bytes (place_len (is_large_dir c.args.dir.now.version)) c.args.dir.now.seek_dir) ++ ((big_bytes (place_len (is_large_dir c.args.dir.now.version)) c.args.dir.now.seek_parent) ++ ((big_bytes (place_len (is_large_dir c.args.dir.now.version)) c.args.dir.now.seek_keys) ++ ((c.args.dir.now.uuid) ++ (replicate (if is_large_dir c.args.dir.now.version then 0 else 12) 0))))))) c.put_reserved.result c.in_ok-put_u32-2.ensures
    (puts_then c.put_u32-2.new.self c.put_u32-3.new.self c.put_reserved.new.into (big_bytes 4 c.args.dir.now.nbytes_keys) ((big_bytes 4 c.args.dir.now.nbytes_name) ++ ((big_bytes (place_len (is_large_dir c.args.dir.now.version)) c.args.dir.now.seek_dir) ++ ((big_bytes (place_len (is_large_dir c.args.dir.now.version)) c.args.dir.now.seek_parent) ++ ((big_bytes (place_len (is_large_dir c.args.dir.now.version)) c.args.dir.now.seek_keys) ++ ((c.args.dir.now.uuid) ++ (replicate (if is_large_dir c.args.dir.now.version then 0 else 12) 0)))))) c.put_reserved.result c.in_ok-put_u32-3.ensures
    (puts_then c.put_u32-3.new.self c.put_u32-4.new.self c.put_reserved.new.into (big_bytes 4 c.args.dir.now.nbytes_name) ((big_bytes (place_len (is_large_dir c.args.dir.now.version)) c.args.dir.now.seek_dir) ++ ((big_bytes (place_len (is_large_dir c.args.dir.now.version)) c.args.dir.now.seek_parent) ++ ((big_bytes (place_len (is_large_dir c.args.dir.now.version)) c.args.dir.now.seek_keys) ++ ((c.args.dir.now.uuid) ++ (replicate (if is_large_dir c.args.dir.now.version then 0 else 12) 0))))) c.put_reserved.result c.in_ok-put_u32-4.ensures
    (puts_then c.put_u32-4.new.self c.put_place.new.into c.put_reserved.new.into (big_bytes (place_len (is_large_dir c.args.dir.now.version)) c.args.dir.now.seek_dir) ((big_bytes (place_len (is_large_dir c.args.dir.now.version)) c.args.dir.now.seek_parent) ++ ((big_bytes (place_len (is_large_dir c.args.dir.now.version)) c.args.dir.now.seek_keys) ++ ((c.args.dir.now.uuid) ++ (replicate (if is_large_dir c.args.dir.now.version then 0 else 12) 0)))) c.put_reserved.result c.in_ok-put_place.ensures
    (puts_then c.put_place.new.into c.put_place-2.new.into c.put_reserved.new.into (big_bytes (place_len (is_large_dir c.args.dir.now.version)) c.args.dir.now.seek_parent) ((big_bytes (place_len (is_large_dir c.args.dir.now.version)) c.args.dir.now.seek_keys) ++ ((c.args.dir.now.uuid) ++ (replicate (if is_large_dir c.args.dir.now.version then 0 else 12) 0))) c.put_reserved.result c.in_ok-put_place-2.ensures
    (puts_then c.put_place-2.new.into c.put_place-3.new.into c.put_reserved.new.into (big_bytes (place_len (is_large_dir c.args.dir.now.version)) c.args.dir.now.seek_keys) ((c.args.dir.now.uuid) ++ (replicate (if is_large_dir c.args.dir.now.version then 0 else 12) 0)) c.put_reserved.result c.in_ok-put_place-3.ensures
    (puts_then c.put_place-3.new.into c.put.new.self c.put_reserved.new.into (c.args.dir.now.uuid) (replicate (if is_large_dir c.args.dir.now.version then 0 else 12) 0) c.put_reserved.result c.in_ok-put.ensures (λ room. c.put_reserved.ensures)))))))))))

use Rattle.std.proofs.Common.{◌≡◌, length, arith}
use Rattle.std.specs.List.{flat_map}
use Rattle.byteorder.specs.Endian.{big_bytes}
use Rattle.rio_num.specs.Room.{Appends}
use Rattle.rio_key.specs.Written.{written_key}
use Rattle.rio_dir.specs.Table.{key_list_bytes}
use Rattle.rio_num.proofs.Puts.{puts_then, puts_reserved}
use Rattle.rio_dir.proofs.TableWritten.{appends_err, appends_ok, length-flat}
use Rattle.rio_dir.proofs.write.write_key_list.Goals as goal

pub returns-clause-ok : goal.returns-clause-ok
returns-clause-ok c =
    let heads = c.as_slice-heads.result.now in
    let long : c.in-Some-checked_add.whole ≡ length (key_list_bytes heads) = omega (arith, c.in-Some.ensures, c.in-Some-checked_add.ensures, length-flat written_key heads) in
    let all : Appends c.args.into.now c.put_heads.new.into (key_list_bytes heads) c.put_heads.result = puts_reserved c.args.into.now c.reserve.new.self c.put_heads.new.into c.in-Some-checked_add.whole (key_list_bytes heads) c.put_heads.result c.in_ok-reserve.ensures.ok long
    (puts_then c.reserve.new.self c.put_u32.new.self c.put_heads.new.into (big_bytes 4 (length heads)) (flat_map written_key heads) c.put_heads.result c.in_ok-put_u32.ensures (λ room. c.put_heads.ensures)) in
    rw (← c.as_slice-heads.ensures.all) (appends_ok c.args.into.now c.put_heads.new.into (key_list_bytes heads) c.put_heads.result all)

pub returns-clause-err : goal.returns-clause-err
returns-clause-err c =
    let heads = c.as_slice-heads.result.now in
    let long : c.in-Some-checked_add.whole ≡ length (key_list_bytes heads) = omega (arith, c.in-Some.ensures, c.in-Some-checked_add.ensures, length-flat written_key heads) in
    let all : Appends c.args.into.now c.put_heads.new.into (key_list_bytes heads) c.put_heads.result = puts_reserved c.args.into.now c.reserve.new.self c.put_heads.new.into c.in-Some-checked_add.whole (key_list_bytes heads) c.put_heads.result c.in_ok-reserve.ensures.ok long
    (puts_then c.reserve.new.self c.put_u32.new.self c.put_heads.new.into (big_bytes 4 (length heads)) (flat_map written_key heads) c.put_heads.result c.in_ok-put_u32.ensures (λ room. c.put_heads.ensures)) in
    appends_err c.args.into.now c.put_heads.new.into (key_list_bytes heads) c.put_heads.result all

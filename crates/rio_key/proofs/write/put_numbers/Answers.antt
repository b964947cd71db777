use Rattle.std.proofs.Common.{◌≡◌, ◌∙◌, ℕ, ◌++◌, ◌≤◌, length, length-append, rules, ap, arith}
use Rattle.std.specs.Int.{w32, cast_unsigned}
use Rattle.byteorder.specs.Endian.{big_bytes}
use Rattle.rio_num.specs.{Room.{with_more}, Text.{text_bytes}, At.{place_len_of}}
use Rattle.rio_key.specs.Written.{number_bytes}
use Rattle.rio_num.proofs.Puts.{puts_then}
use Rattle.rio_key.proofs.write.put_numbers.Goals as goal

pub returns : goal.returns
returns c =
    let h = c.args.head.now in
    let number : c.cast_unsigned.result ≡ cast_unsigned w32 c.args.head.now.nbytes = search rules in
    let length_put : c.put_u32.new.self ≡ with_more c.args.into.now (big_bytes 4 (cast_unsigned w32 c.args.head.now.nbytes)) = c.in_ok-put_u32.ensures ∙ ap (λ (k : ℕ). with_more c.args.into.now (big_bytes 4 k)) number in
    let room : length (number_bytes h (cast_unsigned w32 h.nbytes)) ≤ c.args.into.now.spare = omega (arith, c.requires.room, length-append (number_bytes h (cast_unsigned w32 h.nbytes)) (text_bytes h.class ++ (text_bytes h.name ++ text_bytes h.title))) in
    (puts_then c.args.into.now c.put_u32.new.self c.put_place-2.new.into (big_bytes 4 (cast_unsigned w32 c.args.head.now.nbytes)) ((big_bytes 2 c.args.head.now.version) ++ ((big_bytes 4 c.args.head.now.objlen) ++ ((big_bytes 4 c.args.head.now.datime) ++ ((big_bytes 2 c.args.head.now.keylen) ++ ((big_bytes 2 c.args.head.now.cycle) ++ ((big_bytes (place_len_of c.args.head.now.version) c.args.head.now.seek) ++ (big_bytes (place_len_of c.args.head.now.version) c.args.head.now.pdir))))))) c.put_place-2.result length_put
    (puts_then c.put_u32.new.self c.put_u16.new.self c.put_place-2.new.into (big_bytes 2 c.args.head.now.version) ((big_bytes 4 c.args.head.now.objlen) ++ ((big_bytes 4 c.args.head.now.datime) ++ ((big_bytes 2 c.args.head.now.keylen) ++ ((big_bytes 2 c.args.head.now.cycle) ++ ((big_bytes (place_len_of c.args.head.now.version) c.args.head.now.seek) ++ (big_bytes (place_len_of c.args.head.now.version) c.args.head.now.pdir)))))) c.put_place-2.result c.in_ok-put_u16.ensures
    (puts_then c.put_u16.new.self c.put_u32-2.new.self c.put_place-2.new.into (big_bytes 4 c.args.head.now.objlen) ((big_bytes 4 c.args.head.now.datime) ++ ((big_bytes 2 c.args.head.now.keylen) ++ ((big_bytes 2 c.args.head.now.cycle) ++ ((big_bytes (place_len_of c.args.head.now.version) c.args.head.now.seek) ++ (big_bytes (place_len_of c.args.head.now.version) c.args.head.now.pdir))))) c.put_place-2.result c.in_ok-put_u32-2.ensures
    (puts_then c.put_u32-2.new.self c.put_u32-3.new.self c.put_place-2.new.into (big_bytes 4 c.args.head.now.datime) ((big_bytes 2 c.args.head.now.keylen) ++ ((big_bytes 2 c.args.head.now.cycle) ++ ((big_bytes (place_len_of c.args.head.now.version) c.args.head.now.seek) ++ (big_bytes (place_len_of c.args.head.now.version) c.args.head.now.pdir)))) c.put_place-2.result c.in_ok-put_u32-3.ensures
    (puts_then c.put_u32-3.new.self c.put_u16-2.new.self c.put_place-2.new.into (big_bytes 2 c.args.head.now.keylen) ((big_bytes 2 c.args.head.now.cycle) ++ ((big_bytes (place_len_of c.args.head.now.version) c.args.head.now.seek) ++ (big_bytes (place_len_of c.args.head.now.version) c.args.head.now.pdir))) c.put_place-2.result c.in_ok-put_u16-2.ensures
    (puts_then c.put_u16-2.new.self c.put_u16-3.new.self c.put_place-2.new.into (big_bytes 2 c.args.head.now.cycle) ((big_bytes (place_len_of c.args.head.now.version) c.args.head.now.seek) ++ (big_bytes (place_len_of c.args.head.now.version) c.args.head.now.pdir)) c.put_place-2.result c.in_ok-put_u16-3.ensures
    (puts_then c.put_u16-3.new.self c.put_place.new.into c.put_place-2.new.into (big_bytes (place_len_of c.args.head.now.version) c.args.head.now.seek) (big_bytes (place_len_of c.args.head.now.version) c.args.head.now.pdir) c.put_place-2.result c.in_ok-put_place.ensures (λ room. c.put_place-2.ensures))))))))
    room

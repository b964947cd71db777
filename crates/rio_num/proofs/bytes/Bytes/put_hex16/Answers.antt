use Rattle.std.proofs.Common.{◌≡◌, ◌++◌, ℕ, List, subst, rules}
use Rattle.byteorder.specs.Endian.{big_bytes}
use Rattle.rio_num.specs.{Room.{Appends}, Printed.{hex_text}}
use Rattle.rio_num.proofs.bytes.Bytes.put_hex16.Goals as goal

pub returns : goal.returns
unfolding hex_text
returns c =
    let digits : c.hex_of.result ++ c.hex_of-2.result ≡ hex_text (big_bytes 8 c.args.v) = rw (c.hex_of.ensures, c.hex_of-2.ensures) search rules in
    subst (λ (digits : List ℕ). Appends c.args.self.now c.put_both.new.self digits c.put_both.result) digits c.put_both.ensures

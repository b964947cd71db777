use Rattle.std.proofs.Common.{◌≡◌, ◌+◌, drop}
use Rattle.std.specs.List.{flat_map}
use Rattle.byteorder.specs.Endian.{big_bytes}
use Rattle.rio_num.specs.Room.{with_more}
use Rattle.rio_key.proofs.basket_record.put_ends.Given as goal

abbrev pub invariant-loop-end : goal.invariant-loop-end
invariant-loop-end l =
    with_more l.into (flat_map (λ end. big_bytes 4 (l.keylen + end)) (drop l.end-index l.ends))
    ≡ with_more l.fn.into (flat_map (λ end. big_bytes 4 (l.keylen + end)) l.ends)

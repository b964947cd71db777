use Rattle.std.proofs.{Common.{◌≡◌, ℕ, ◌+◌, ◌<◌, List, ◌++◌, length, get_or, append_assoc, sym, ap, ◌∙◌, arith}, lemmas.Result.{on_ok_weaker}}
use Rattle.std.specs.List.{flat_map}
use Rattle.byteorder.specs.Endian.{big_bytes}
use Rattle.rio_num.specs.Room.{Room, with_more}
use Rattle.rio_key.specs.{OpenBasket.{OpenBasket, entries_length}, BasketRecord.{offset_table}}
use Rattle.rio_key.proofs.{HeldLaws.{held_length, held_table}, OpenLaws.{cut_bounds, length-cut}, PutLaws.{with_more-with_more}}
use Rattle.rio_key.proofs.basket.Basket.put_table.Goals as goal

pub put_ends-requires : goal.put_ends-requires
put_ends-requires c k lt =
    let b = c.self.inside in
    let ends = b.ends.items in
    let same : c.as_slice.result.now ≡ ends = c.as_slice.ensures.value in
    let below : k < length ends = omega (arith, lt, ap length same) in
    let bound = (cut_bounds 0 ends (length b.bytes.bytes) k c.self.invariant.0 below).1 in
    let held : entries_length c.args.self.now.entries ≡ length b.bytes.bytes = sym (ap (λ (o : OpenBasket). entries_length o.entries) c.self.view_is) ∙ held_length ends b.bytes.bytes c.self.invariant.0 in
    let there : get_or c.as_slice.result.now k 0 ≡ get_or ends k 0 = ap (λ (l : List ℕ). get_or l k 0) same in
    omega (arith, bound, held, there, c.from-2.ensures, c.requires.last)

pub returns : goal.returns
returns c =
    let b = c.self.inside in
    let old = c.args.into.now in
    let k = c.args.keylen in
    let ends = b.ends.items in
    let n = length ends in
    let more = flat_map (λ end. big_bytes 4 (k + end)) ends in
    let count : c.count.result ≡ n = c.count.ensures ∙ sym (ap (λ (o : OpenBasket). length o.entries) c.self.view_is) ∙ length-cut 0 ends b.bytes.bytes in
    let one : c.put_u32.new.self ≡ with_more old (big_bytes 4 (n + 1)) = c.in_ok-put_u32.ensures ∙ ap (λ (m : ℕ). with_more old (big_bytes 4 (m + 1))) count in
    let two : c.put_u32-2.new.self ≡ with_more c.put_u32.new.self (big_bytes 4 k) = c.in_ok-put_u32-2.ensures ∙ ap (λ (m : ℕ). with_more c.put_u32.new.self (big_bytes 4 m)) c.from.ensures in
    let table : offset_table k c.args.self.now.entries ≡ big_bytes 4 (n + 1) ++ (big_bytes 4 k ++ more) = ap (λ (o : OpenBasket). offset_table k o.entries) (sym c.self.view_is) ∙ held_table ends b.bytes.bytes c.self.invariant.0 k in
    let last : with_more c.put_u32-2.new.self (flat_map (λ end. big_bytes 4 (c.from-2.result + end)) c.as_slice.result.now) ≡ with_more c.put_u32-2.new.self more =
    ap (λ (m : ℕ). with_more c.put_u32-2.new.self (flat_map (λ end. big_bytes 4 (m + end)) c.as_slice.result.now)) c.from-2.ensures
    ∙ ap (λ (l : List ℕ). with_more c.put_u32-2.new.self (flat_map (λ end. big_bytes 4 (k + end)) l)) c.as_slice.ensures.value in
    let put : with_more c.put_u32-2.new.self more ≡ with_more old (offset_table k c.args.self.now.entries) =
    ap (λ (r : Room). with_more r more) (two ∙ ap (λ (r : Room). with_more r (big_bytes 4 k)) one)
    ∙ ap (λ (r : Room). with_more r more) (with_more-with_more old (big_bytes 4 (n + 1)) (big_bytes 4 k))
    ∙ with_more-with_more old (big_bytes 4 (n + 1) ++ big_bytes 4 k) more
    ∙ ap (with_more old) (append_assoc (big_bytes 4 (n + 1)) (big_bytes 4 k) more ∙ sym table) in
    on_ok_weaker c.put_ends.result (λ e. e ∙ last ∙ put) c.put_ends.ensures

use Rattle.std.proofs.{Common.{◌≡◌, ℕ, ◌+◌, ◌<◌, ◌^◌, length, ℤ, pos, ◌+ℤ◌, sym, ap, ◌∙◌, arith}, lemmas.Int.{ints, to_z-of_z}}
use Rattle.std.specs.Int.{w32, cast_signed, cast_unsigned}
use Rattle.rio_key.proofs.{Signed.{signed_is}, HeldLaws.{held_length, size_small, size_with, size_without}, basket.Basket.head.Goals.{then-self, else-self}}
use Rattle.rio_key.specs.{OpenBasket.{OpenBasket, entries_length}, BasketRecord.{entry_size}}
use Rattle.rio_key.proofs.basket.Basket.head.Goals as goal

sum_signed : (k d : ℕ) (z : ℤ) → z ≡ pos k → k + d < 2 ^ 31 → cast_signed w32 (cast_unsigned w32 (cast_signed w32 (cast_unsigned w32 z) +ℤ cast_signed w32 d)) ≡ pos (k + d)
sum_signed k d z e small =
    let one : cast_signed w32 (cast_unsigned w32 z) ≡ pos k = ap (λ (y : ℤ). cast_signed w32 (cast_unsigned w32 y)) e ∙ to_z-of_z w32 (pos k) (omega (arith, ints)) in
    let other : cast_signed w32 d ≡ pos d = signed_is d (omega arith) in
    ap (λ (y : ℤ). cast_signed w32 (cast_unsigned w32 (y +ℤ cast_signed w32 d))) one
    ∙ ap (λ (y : ℤ). cast_signed w32 (cast_unsigned w32 (pos k +ℤ y))) other
    ∙ to_z-of_z w32 (pos (k + d)) (omega (arith, ints))

pub overflow_cast-result-3 : goal.overflow_cast-result-3
overflow_cast-result-3 c =
    let b = c.self.inside in
    let held : c.len.result ≡ entries_length c.args.self.now.entries = c.len.ensures ∙ sym (held_length b.ends.items b.bytes.bytes c.self.invariant.0) ∙ ap (λ (o : OpenBasket). entries_length o.entries) c.self.view_is in
    grind (arith, ints)

pub overflow_add-result : goal.overflow_add-result
overflow_add-result c =
    let b = c.self.inside in
    let held : c.len.result ≡ entries_length c.args.self.now.entries = c.len.ensures ∙ sym (held_length b.ends.items b.bytes.bytes c.self.invariant.0) ∙ ap (λ (o : OpenBasket). entries_length o.entries) c.self.view_is in
    omega (arith, ints)

pub returns : goal.returns
returns c =
    let b = c.self.inside in
    let now = c.args.self.now in
    let k = c.args.keylen in
    let same : b.offsets ≡ now.offsets = ap (λ (o : OpenBasket). o.offsets) c.self.view_is in
    let held : c.len.result ≡ entries_length now.entries = c.len.ensures ∙ sym (held_length b.ends.items b.bytes.bytes c.self.invariant.0) ∙ ap (λ (o : OpenBasket). entries_length o.entries) c.self.view_is in
    let size : c.if-self.size ≡ entry_size now = elim c.if-self.branch [
      | then-self w ↦ size_with now c.if-self.size (sym same ∙ w.if-self.true) (w.size-is ∙ c.count-count.ensures)
      | else-self w ↦ size_without now c.if-self.size (sym same ∙ w.if-self.false) (w.size-is ∙ w.first_length-size.ensures)
    ] in
    let small : entry_size now < 2 ^ 31 = size_small now c.requires.count (omega (arith, c.requires.last)) in
    let nev_size : cast_signed w32 c.if-self.size ≡ pos (entry_size now) = signed_is c.if-self.size (omega (arith, size, small)) ∙ ap pos size in
    let nev : cast_signed w32 c.count-count.result ≡ pos (length now.entries) = signed_is c.count-count.result (omega (arith, c.count-count.ensures, c.requires.count)) ∙ ap pos c.count-count.ensures in
    let last : cast_signed w32 (cast_unsigned w32 (cast_signed w32 (cast_unsigned w32 c.from.result) +ℤ cast_signed w32 c.len.result)) ≡ pos (k + entries_length now.entries) =
    sum_signed k c.len.result c.from.result c.from.ensures (omega (arith, held, c.requires.last)) ∙ ap (λ (n : ℕ). pos (k + n)) held in
    λ i. record { version = 3; buffer_size = pos 32000; nev_size = nev_size i; nev = nev i; last = last i; flag = 0 }

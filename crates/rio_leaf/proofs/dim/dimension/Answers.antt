use Rattle.std.proofs.Common.{rules, sym, ap, Bool, arith}
use Rattle.std.specs.Str.Parse.{digits_value}
use Rattle.rio_num.specs.Reading.{some_if}
use Rattle.rio_leaf.proofs.DigitLaws.{no_digit, too_great}
use Rattle.rio_leaf.proofs.dim.dimension.Goals.{then-not-is_ascii_digit-via-then-not-is_ascii_digit, then-not-is_ascii_digit-via-else-not-is_ascii_digit+then-n-gt100000}
use Rattle.rio_leaf.proofs.dim.dimension.Goals as goal

pub returns-then-not-is_ascii_digit : goal.returns-then-not-is_ascii_digit
returns-then-not-is_ascii_digit c =
    let word = c.args.word.now in
    let i = c.loop-byte.byte-index in
    let inv = c.loop-byte.invariant in
    elim c.then-not-is_ascii_digit.branch [
      | then-not-is_ascii_digit-via-then-not-is_ascii_digit w ↦
          ap (λ (b : Bool). some_if b (digits_value 10 word)) (sym (no_digit word i (omega arith) inv.0 (search rules)))
      | then-not-is_ascii_digit-via-else-not-is_ascii_digit+then-n-gt100000 w ↦
          ap (λ (b : Bool). some_if b (digits_value 10 word)) (sym (too_great word i c.loop-byte.n inv.1 (search rules)))
    ]

use Rattle.std.proofs.Common.{◌∙◌, ℕ, List, ◌++◌, ap, subst}
use Rattle.std.specs.Int.{w32, cast_unsigned}
use Rattle.rio_num.specs.{Room.{Appends, with_more}, Text.{text_bytes}}
use Rattle.rio_key.specs.Written.{number_bytes, written_key}
use Rattle.rio_num.proofs.Puts.{puts_then, puts_reserved}
use Rattle.rio_key.proofs.write.write_key.Goals as goal

pub returns : goal.returns
returns c = puts_reserved c.args.into.now c.reserve.new.self c.put_text-3.new.self c.key_length.result (written_key c.args.head.now) c.put_text-3.result c.in_ok-reserve.ensures.ok c.key_length.ensures
    (puts_then c.reserve.new.self c.put_numbers.new.into c.put_text-3.new.self (number_bytes c.args.head.now (cast_unsigned w32 c.args.head.now.nbytes)) ((text_bytes c.args.head.now.class) ++ ((text_bytes c.args.head.now.name) ++ (text_bytes c.args.head.now.title))) c.put_text-3.result c.in_ok-put_numbers.ensures
    (puts_then c.put_numbers.new.into c.put_text.new.self c.put_text-3.new.self (text_bytes c.args.head.now.class) ((text_bytes c.args.head.now.name) ++ (text_bytes c.args.head.now.title)) c.put_text-3.result (c.in_ok-put_text.ensures ∙ ap (λ (t : List ℕ). with_more c.put_numbers.new.into (text_bytes t)) c.as_slice.ensures)
    (puts_then c.put_text.new.self c.put_text-2.new.self c.put_text-3.new.self (text_bytes c.args.head.now.name) (text_bytes c.args.head.now.title) c.put_text-3.result (c.in_ok-put_text-2.ensures ∙ ap (λ (t : List ℕ). with_more c.put_text.new.self (text_bytes t)) c.as_slice-2.ensures) (λ room. subst (λ (t : List ℕ). Appends c.put_text-2.new.self c.put_text-3.new.self (text_bytes t) c.put_text-3.result) c.as_slice-3.ensures c.put_text-3.ensures))))

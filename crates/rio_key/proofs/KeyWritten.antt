-- A key that is written is spelled by what was written.
use Rattle.std.proofs.{Common.{◌≡◌, pos, refl, ap, sym, ◌∙◌, arith}, lemmas.Int.{of_z-to_z}}
use Rattle.std.specs.Int.{w32, cast_signed, cast_unsigned}
use Rattle.rio_key.proofs.{Signed.{signed_is}, KeyParts.{HasKey, key_of_parts}}
use Rattle.rio_num.specs.Text.{text_bytes}
use Rattle.rio_num.proofs.ReadLaws.{text_written}
use Rattle.rio_key.specs.{Key.{SpellsKey}, Written.{FitsKey, HoldsItself, written_key}, declared.head.KeyHead.{KeyHead}}

pub key_spelled : (h : KeyHead) → FitsKey h → HoldsItself h → SpellsKey h (written_key h)
key_spelled h fits holds =
    let signed : cast_signed w32 holds.nbytes ≡ pos holds.nbytes = signed_is holds.nbytes holds.length_fits in
    let same : cast_unsigned w32 h.nbytes ≡ holds.nbytes = ap (cast_unsigned w32) (holds.length_is ∙ sym signed) ∙ of_z-to_z w32 holds.nbytes (omega (arith, holds.length_fits)) in
    let parts : HasKey h (written_key h) = record {
      fields = record {
        nbytes = cast_unsigned w32 h.nbytes;
        class_bytes = text_bytes h.class;
        name_bytes = text_bytes h.name;
        title_bytes = text_bytes h.title;
        number_is = holds.length_is ∙ sym signed ∙ ap (cast_signed w32) (sym same);
        number_fits = omega (arith, same, holds.length_fits);
        numbers = holds.numbers;
        class_spelled = text_written h.class fits.class;
        name_spelled = text_written h.name fits.name;
        title_spelled = text_written h.title fits.title;
        parts = refl;
      };
      length_is = holds.length_is ∙ ap pos (sym same);
      length_fits = omega (arith, same, holds.length_fits);
      key_held = omega (arith, same, holds.key_held);
      title_held = holds.title_held;
    } in
    key_of_parts h (written_key h) parts

-- What is written for a value, by its layer.
use Rattle.std.proofs.Common.{◌≡◌, ℕ, ℤ, Bool, List, [], ◌∷◌, map, ap, ◌∙◌}
use Rattle.byteorder.specs.Endian.{big_bytes}
use Rattle.rio_num.specs.Text.{text_bytes}
use Rattle.rio_format.specs.{declared.class.ClassDef.{ClassDef}, declared.value.Value.{Int, Bits32, Bits64, Bool as Truth, Text, Object, Null, Back, Opaque, TheFolds.{fold-Part, fold_out-Part}}, declared.value.Part.{Part}}
use Rattle.rio_format.specs.{Bodies.{form_of}, Slots.{Slot}, Written.{Writing, form_bytes, int_bytes, just, reference_bytes, truth_byte, writing_of, writing_step}}
use Rattle.rio_format.proofs.ValueCases.{fold_Int, fold_Bits32, fold_Bits64, fold_Bool, fold_Text, fold_Null, fold_Back, fold_Object, fold_Opaque}
use Rattle.rio_write.specs.Writing.{part_writing}

module _ (classes : List ClassDef) (slot : Slot) where
  pub int_is : (n : ℤ) → (writing_of classes (Int n)).bytes slot ≡ just (int_bytes n slot)
  int_is n = ap (λ (w : Writing). w.bytes slot) (fold_Int (writing_step classes) (λ p. p.value) n)

  pub bits32_is : (n : ℕ) → (writing_of classes (Bits32 n)).bytes slot ≡ just (big_bytes 4 n)
  bits32_is n = ap (λ (w : Writing). w.bytes slot) (fold_Bits32 (writing_step classes) (λ p. p.value) n)

  pub bits64_is : (n : ℕ) → (writing_of classes (Bits64 n)).bytes slot ≡ just (big_bytes 8 n)
  bits64_is n = ap (λ (w : Writing). w.bytes slot) (fold_Bits64 (writing_step classes) (λ p. p.value) n)

  pub bool_is : (b : Bool) → (writing_of classes (Truth b)).bytes slot ≡ just (truth_byte b ∷ [])
  bool_is b = ap (λ (w : Writing). w.bytes slot) (fold_Bool (writing_step classes) (λ p. p.value) b)

  pub text_is : (text : List ℕ) → (writing_of classes (Text text)).bytes slot ≡ just (text_bytes text)
  text_is text = ap (λ (w : Writing). w.bytes slot) (fold_Text (writing_step classes) (λ p. p.value) text)

  pub null_is : (writing_of classes Null).bytes slot ≡ just (big_bytes 4 0)
  null_is = ap (λ (w : Writing). w.bytes slot) (fold_Null (writing_step classes) (λ p. p.value))

  pub back_is : (label : ℕ) → (writing_of classes (Back label)).bytes slot ≡ reference_bytes label
  back_is label = ap (λ (w : Writing). w.bytes slot) (fold_Back (writing_step classes) (λ p. p.value) label)

  pub opaque_is : (class : List ℕ) (len : ℕ) → (writing_of classes (Opaque class len)).bytes slot ≡ just []
  opaque_is class len = ap (λ (w : Writing). w.bytes slot) (fold_Opaque (writing_step classes) (λ p. p.value) class len)

  part_is : (p : Part) → fold-Part Writing Writing (writing_step classes) (λ p. p.value) p ≡ part_writing classes p
  part_is p = fold_out-Part Writing Writing (writing_step classes) (λ p. p.value) p

  pub object_is : (class : List ℕ) (version : ℤ) (parts : List Part) → (writing_of classes (Object class version parts)).bytes slot ≡ form_bytes classes class version (form_of class) (map (part_writing classes) parts)
  object_is class version parts =
      ap (λ (w : Writing). w.bytes slot) (fold_Object (writing_step classes) (λ p. p.value) class version parts)
      ∙ ap (λ (g : Part → Writing). form_bytes classes class version (form_of class) (map g parts)) (λ i p. part_is p i)

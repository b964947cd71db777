-- What is written for a value of a leaf, by cases on the value.
use Rattle.std.proofs.Common.{◌≡◌, ℕ, ℤ, Bool, List, [], None, refl, sym, ap, ◌∙◌}
use Rattle.rio_format.specs.{declared.kind.Primitive.{Primitive}, declared.value.Part.{Part}}
use Rattle.rio_format.specs.declared.value.Value.{Value, Int, Bits32, Bits64, Bool as Truth, Text, out-Value, out-roll-Value, roll-Value, roll-out-Value, TheOpen.{Value-F}, TheVariants.{rolls-Int, rolls-Bits32, rolls-Bits64, rolls-Bool, rolls-Text}}
use Rattle.rio_format.specs.declared.value.Value.TheOpen as layer
use Rattle.rio_entry.specs.Leaves.{layer_bytes, layer_value_bytes, single_bytes, value_bytes}

pub out_bits32 : (n : ℕ) → out-Value (Bits32 n) ≡ layer.Bits32 n
out_bits32 n = ap out-Value (sym (rolls-Bits32 n)) ∙ out-roll-Value (layer.Bits32 n)

pub out_bits64 : (n : ℕ) → out-Value (Bits64 n) ≡ layer.Bits64 n
out_bits64 n = ap out-Value (sym (rolls-Bits64 n)) ∙ out-roll-Value (layer.Bits64 n)

pub out_truth : (b : Bool) → out-Value (Truth b) ≡ layer.Bool b
out_truth b = ap out-Value (sym (rolls-Bool b)) ∙ out-roll-Value (layer.Bool b)

-- ---- values of other kinds

abbrev pub NoInt : Value → Type 0
NoInt v = (n : ℤ) → v ≡ Int n → ⊥

abbrev pub NoBits32 : Value → Type 0
NoBits32 v = (n : ℕ) → v ≡ Bits32 n → ⊥

abbrev pub NoBits64 : Value → Type 0
NoBits64 v = (n : ℕ) → v ≡ Bits64 n → ⊥

abbrev pub NoTruth : Value → Type 0
NoTruth v = (b : Bool) → v ≡ Truth b → ⊥

abbrev pub NoText : Value → Type 0
NoText v = (t : List ℕ) → v ≡ Text t → ⊥

module _ (of : Primitive) (v : Value) where
  nothing_in : (x : Value-F Value Part) → v ≡ roll-Value x → NoInt v → NoBits32 v → NoBits64 v → NoTruth v → layer_bytes of x ≡ []
  nothing_in (layer.Int n) e a b c d = absurd (a n (e ∙ rolls-Int n))
  nothing_in (layer.Bits32 n) e a b c d = absurd (b n (e ∙ rolls-Bits32 n))
  nothing_in (layer.Bits64 n) e a b c d = absurd (c n (e ∙ rolls-Bits64 n))
  nothing_in (layer.Bool t) e a b c d = absurd (d t (e ∙ rolls-Bool t))
  nothing_in other e a b c d = refl

  -- no single value
  pub nothing_single : NoInt v → NoBits32 v → NoBits64 v → NoTruth v → single_bytes of v ≡ []
  nothing_single a b c d = nothing_in (out-Value v) (sym (roll-out-Value v)) a b c d

module _ (v : Value) where
  no_text_in : (x : Value-F Value Part) → v ≡ roll-Value x → NoText v → layer_value_bytes None x ≡ []
  no_text_in (layer.Text t) e none = absurd (none t (e ∙ rolls-Text t))
  no_text_in other e none = refl

  pub no_text : NoText v → value_bytes None v ≡ []
  no_text none = no_text_in (out-Value v) (sym (roll-out-Value v)) none

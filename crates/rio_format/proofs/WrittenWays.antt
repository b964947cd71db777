-- Where a value is written, and what is then spelled.
use Rattle.std.proofs.Common.{◌≡◌, ◌==◌, ◌&&◌, inl, inr, ℕ, ◌+◌, ◌-◌, ◌^◌, ◌<◌, ◌≤◌, ℤ, pos, Bool, true, false, ltb, leb, List, [], length, slice_get, slice_index, Option, Some, None, refl, ap, subst, arith}
use Rattle.std.proofs.{lemmas.Bool.{and_parts, ltb-true, lt-leb}, lemmas.Option.{slice_get_within}}
use Rattle.std.specs.Prelude.{bit_and, not}
use Rattle.byteorder.specs.Endian.{big_bytes}
use Rattle.rio_num.specs.Text.{SpellsText, text_bytes}
use Rattle.rio_num.proofs.{ReadLaws.{text_written as spelled_text}, TextLengths.{text_within}}
use Rattle.rio_format.specs.{declared.class.ClassDef.{ClassDef}, declared.kind.Kind.TheVariants.{Plain, Counter, Fixed, Counted, Text as Texted, Pointer, Other}}
use Rattle.rio_format.specs.{declared.kind.Primitive.{Primitive, TheVariants.{Bool as Boolean, F32, F64}}, declared.value.Value.{Value, Int, Bits32, Bits64, Bool as Truth, Text, List as Items, Null, Back}}
use Rattle.rio_format.specs.declared.value.Value.TheOpen as layer
use Rattle.rio_format.specs.{Fits.{Labels, Fitting, pass, fitting_step, back_fits}, Objects.{has_pid}, Slots.{Slot, kinded, based, flags, any_pointer, link, many}, Written.{Writing, writing_step}, ReaderState.{WordsMet}}
use Rattle.rio_format.proofs.{Composed.{Spelling, Spellings, SpellsKind, SpellsCounted, SpellsTimes, SpellsPointer, IsLink, IsBack}, WrittenPlaces.{Stands, stands_more, below_at, position_of}}
use Rattle.rio_format.proofs.WrittenNumbers.{int_number, counter_number, flags_bytes, bits32_number, bits64_number, truth_number}

-- A list behind a counter fits as a list of so many values. Without a counter nothing fits.
pub data Way : Type 0 where
  in_slot : Slot → Way
  in_counted : Primitive → List ℕ → ℕ → Way
  in_none : Slot → Way

abbrev pub fit_slot : Way → Slot
fit_slot (in_slot slot) = slot
fit_slot (in_counted of counter count) = kinded (Fixed of count)
fit_slot (in_none slot) = kinded (Other (pos 0))

abbrev pub write_slot : Way → Slot
write_slot (in_slot slot) = slot
write_slot (in_counted of counter count) = kinded (Counted of counter)
write_slot (in_none slot) = slot

-- ---- what is spelled

pub record IsFlags (t : WordsMet) (v : Value) (bytes : List ℕ) (t' : WordsMet) : Type 0 where
  pub n : ℕ
  pub value : v ≡ Int (pos n)
  pub low : n < 2 ^ 32
  pub plain : has_pid n ≡ false
  pub spelled : bytes ≡ big_bytes 4 n
  pub words : t' ≡ t

pub record IsMany (one : Spelling Value) (p : ℕ) (t : WordsMet) (v : Value) (bytes : List ℕ) (t' : WordsMet) : Type 0 where
  pub items : List Value
  pub value : v ≡ Items items
  pub each : SpellsTimes (length items) one p t items bytes t'

abbrev pub SpellsSlot : Spellings → Slot → Spelling Value
SpellsSlot object (kinded kind) p t v bytes t' = SpellsKind object [] kind p t v bytes t'
SpellsSlot object (based class version) p t v bytes t' = object class p t v bytes t'
SpellsSlot object flags p t v bytes t' = IsFlags t v bytes t'
SpellsSlot object any_pointer p t v bytes t' = SpellsPointer object p t v bytes t'
SpellsSlot object link p t v bytes t' = IsLink object p t v bytes t'
SpellsSlot object (many slot) p t v bytes t' = IsMany (SpellsSlot object slot) p t v bytes t'

abbrev pub SpellsWay : Spellings → Way → Spelling Value
SpellsWay object (in_slot slot) p t v bytes t' = SpellsSlot object slot p t v bytes t'
SpellsWay object (in_counted of counter count) p t v bytes t' = SpellsCounted of (pos count) p t v bytes t'
SpellsWay object (in_none slot) p t v bytes t' = ⊥

-- where all places can be referred to
abbrev pub last_place : ℕ
last_place = 2 ^ 30 - 2

-- what is written spells the value, and these labels belong to the words behind it
abbrev pub IsWrittenAt : Spellings → Way → Value → Labels → ℕ → WordsMet → List ℕ × WordsMet → Type 0
IsWrittenAt object way v after p t b = SpellsWay object way p t v b.0 b.1 × Stands after (p + length b.0) b.1

abbrev pub IsWritten : Spellings → Way → Value → Fitting → Writing → Type 0
IsWritten object way v f w = (before after : Labels) (p : ℕ) (t : WordsMet) → f.fits (fit_slot way) before ≡ Some after → Stands before p t → p + length (w.bytes (write_slot way) p t).0 ≤ last_place → IsWrittenAt object way v after p t (w.bytes (write_slot way) p t)

-- ---- values without others in them

pub passed : (b : Bool) (before after : Labels) → pass b before ≡ Some after → (b ≡ true) × (before ≡ after)
passed true before after e = (refl, cc)
passed false before after e = absurd cc

pub leaf_stands : (before after : Labels) (p n : ℕ) (t : WordsMet) → before ≡ after → Stands before p t → Stands after (p + n) t
leaf_stands before after p n t same s = subst (λ (l : Labels). Stands l (p + n) t) same (stands_more before p (p + n) t (omega arith) s)

not_true : (b : Bool) → b ≡ true → not b ≡ false
not_true b e = ap not e

text_spelled : (text : List ℕ) → length (text_bytes text) ≤ last_place → SpellsText text (text_bytes text)
text_spelled text le = spelled_text text (omega (arith, le, text_within text))

-- a reference to an object with a label
back_found : (labels : Labels) (label p : ℕ) (t : WordsMet) → label < length labels → Stands labels p t → p ≤ last_place → IsBack t (Back label) (big_bytes 4 (slice_index t.labels label + 2)) t
back_found labels label p t lt s le =
    let within : label < length t.labels = omega (arith, lt, s.count) in
    let low : slice_index t.labels label < p = below_at p t.labels label within s.below in
    let small : leb (2 ^ 30) (slice_index t.labels label + 2) ≡ false = lt-leb _ _ (omega (arith, low, le)) in
    record {
      label = label;
      place = slice_index t.labels label;
      value = refl;
      known = position_of t.labels label within s.rising;
      low = omega (arith, low, le);
      reference = ap (λ (b : Bool). b && ltb (slice_index t.labels label + 2) (2 ^ 31)) small;
      spelled = refl;
      words = refl;
    }

module _ (object : Spellings) (classes : List ClassDef) where
  pub int_written : (z : ℤ) (way : Way) → IsWritten object way (Int z) (fitting_step classes (layer.Int z)) (writing_step classes (layer.Int z))
  int_written z (in_slot (kinded (Plain of))) before after p t e s room = let f = passed _ before after e in (int_number of z t f.0, leaf_stands before after p _ t f.1 s)
  int_written z (in_slot (kinded Counter)) before after p t e s room = let f = passed _ before after e in (counter_number z t f.0, leaf_stands before after p _ t f.1 s)
  int_written (pos n) (in_slot flags) before after p t e s room =
      let f = passed _ before after e in
      let b = and_parts (ltb n (2 ^ 32)) (bit_and n 16 == 0) f.0 in
      let lt : n < 2 ^ 32 = ltb-true _ _ b.0 in
      (record { n = n; value = refl; low = lt; plain = not_true _ b.1; spelled = ap (big_bytes 4) (flags_bytes n lt); words = refl }, leaf_stands before after p _ t f.1 s)
  int_written z other before after p t e s room = absurd cc

  pub bits32_written : (n : ℕ) (way : Way) → IsWritten object way (Bits32 n) (fitting_step classes (layer.Bits32 n)) (writing_step classes (layer.Bits32 n))
  bits32_written n (in_slot (kinded (Plain F32))) before after p t e s room = let f = passed _ before after e in (bits32_number n t f.0, leaf_stands before after p _ t f.1 s)
  bits32_written n other before after p t e s room = absurd cc

  pub bits64_written : (n : ℕ) (way : Way) → IsWritten object way (Bits64 n) (fitting_step classes (layer.Bits64 n)) (writing_step classes (layer.Bits64 n))
  bits64_written n (in_slot (kinded (Plain F64))) before after p t e s room = let f = passed _ before after e in (bits64_number n t f.0, leaf_stands before after p _ t f.1 s)
  bits64_written n other before after p t e s room = absurd cc

  pub truth_written : (b : Bool) (way : Way) → IsWritten object way (Truth b) (fitting_step classes (layer.Bool b)) (writing_step classes (layer.Bool b))
  truth_written b (in_slot (kinded (Plain Boolean))) before after p t e s room = let f = passed true before after e in (truth_number b t, leaf_stands before after p _ t f.1 s)
  truth_written b other before after p t e s room = absurd cc

  pub text_written : (text : List ℕ) (way : Way) → IsWritten object way (Text text) (fitting_step classes (layer.Text text)) (writing_step classes (layer.Text text))
  text_written text (in_slot (kinded Texted)) before after p t e s room =
      let f = passed true before after e in
      (record { text = text; value = refl; spelled = text_spelled text (omega (arith, room)); words = refl }, leaf_stands before after p _ t f.1 s)
  text_written text other before after p t e s room = absurd cc

  pub null_written : (way : Way) → IsWritten object way Null (fitting_step classes layer.Null) (writing_step classes layer.Null)
  null_written (in_slot (kinded (Pointer class))) before after p t e s room = let f = passed true before after e in (inl (record { value = refl; spelled = refl; words = refl }), leaf_stands before after p _ t f.1 s)
  null_written (in_slot any_pointer) before after p t e s room = let f = passed true before after e in (inl (record { value = refl; spelled = refl; words = refl }), leaf_stands before after p _ t f.1 s)
  null_written other before after p t e s room = absurd cc

  back_by : (label : ℕ) (o : Option (List ℕ × ℤ)) (way : Way) (before after : Labels) (p : ℕ) (t : WordsMet) → slice_get before label ≡ o → pass (back_fits classes o (fit_slot way)) before ≡ Some after → Stands before p t → p ≤ last_place
      → IsWrittenAt object way (Back label) after p t (big_bytes 4 (slice_index t.labels label + 2), t)
  back_by label None way before after p t look e s le = absurd cc
  back_by label (Some own) (in_slot (kinded (Pointer class))) before after p t look e s le =
      (inr (inl (back_found before label p t (slice_get_within before label own look) s le)), leaf_stands before after p _ t (passed _ before after e).1 s)
  back_by label (Some own) (in_slot any_pointer) before after p t look e s le = (inr (inl (back_found before label p t (slice_get_within before label own look) s le)), leaf_stands before after p _ t (passed _ before after e).1 s)
  back_by label (Some own) other before after p t look e s le = absurd cc

  pub back_written : (label : ℕ) (way : Way) → IsWritten object way (Back label) (fitting_step classes (layer.Back label)) (writing_step classes (layer.Back label))
  back_written label way before after p t e s room = back_by label (slice_get before label) way before after p t refl e s (omega (arith, room))

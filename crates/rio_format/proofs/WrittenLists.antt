-- What is written for a list that fits spells it.
use Rattle.std.proofs.Common.{◌≡◌, ◌==◌, inl, inr, ℕ, ◌+◌, ◌≤◌, Bool, true, false, cond, List, [], ◌∷◌, ◌++◌, length, map, Some, None, refl, sym, ap, subst, ◌∙◌, arith}
use Rattle.std.proofs.{lemmas.Bool.{eqb-true}, lemmas.List.{length-append, length-map}, lemmas.Option.{option_and_then_some}}
use Rattle.rio_format.specs.{declared.class.ClassDef.{ClassDef}, declared.kind.Kind.TheVariants.{Plain, Fixed, Text as Texted}, declared.kind.Primitive.{Primitive}}
use Rattle.rio_format.specs.{declared.value.Value.{Value, List as Items}, declared.value.Part.{Part}, Fits.{Labels, Fitting, all_fit, fitting_step, fitting_of, part_fitting}, Slots.{Slot, kinded, any_pointer, link, many}}
use Rattle.rio_format.specs.declared.value.Value.TheOpen as layer
use Rattle.rio_format.specs.{Written.{Writing, all, writing_step, writing_of}, ReaderState.{WordsMet}}
use Rattle.rio_format.proofs.{Composed.{Spellings, SpellsTimes, SpellsNumber, SpellsNumbers, IsLink}, ValueCases.{Each}, WrittenPlaces.{Stands, stands_more}}
use Rattle.rio_format.proofs.WrittenWays.{Way, in_slot, in_counted, SpellsSlot, last_place, IsWritten}

-- wherever it may stand
abbrev pub IsWrittenAnywhere : Spellings → List ClassDef → Value → Type 0
IsWrittenAnywhere object classes v = (way : Way) → IsWritten object way v (fitting_of classes v) (writing_of classes v)

abbrev pub AreKnown : Spellings → List ClassDef → List Part → Type 0
AreKnown object classes parts = Each (λ y. IsWrittenAnywhere object classes y.value) parts

abbrev pub fittings : List ClassDef → List Part → List (List ℕ × Fitting)
fittings classes parts = map (part_fitting classes) parts

abbrev pub writings : List ClassDef → List Part → List Writing
writings classes parts = map (λ y. writing_of classes y.value) parts

pub stands_at : (labels : Labels) (p q : ℕ) (t : WordsMet) → p ≡ q → Stands labels p t → Stands labels q t
stands_at labels p q t same s = subst (λ (r : ℕ). Stands labels r t) same s

pub some_is : (a b : Labels) → Some a ≡ Some b → a ≡ b
some_is a b e = cc

module _ (object : Spellings) (classes : List ClassDef) where
  -- items, one behind the other
  pub record AreWritten (slot : Slot) (vs : List Value) (after : Labels) (p : ℕ) (t : WordsMet) (b : List ℕ × WordsMet) : Type 0 where
    pub each : SpellsTimes (length vs) (SpellsSlot object slot) p t vs b.0 b.1
    pub stands : Stands after (p + length b.0) b.1

  all_written : (slot : Slot) (vs : List Value) → Each (IsWrittenAnywhere object classes) vs → (before after : Labels) (p : ℕ) (t : WordsMet) → all_fit slot (map (fitting_of classes) vs) before ≡ Some after → Stands before p t
      → p + length (all slot (map (writing_of classes) vs) p t).0 ≤ last_place → AreWritten slot vs after p t (all slot (map (writing_of classes) vs) p t)
  all_written slot [] ih before after p t e s room = record {
    each = (refl, refl, refl);
    stands = subst (λ (l : Labels). Stands l (p + 0) t) (some_is before after e) (stands_at before p (p + 0) t (omega arith) s);
  }
  all_written slot (v ∷ vs) ih before after p t e s room =
      let w = writing_of classes v in
      let a = w.bytes slot p t in
      let r = all slot (map (writing_of classes) vs) (p + length a.0) a.1 in
      let len = length-append a.0 r.0 in
      option_and_then_some (all_fit slot (map (fitting_of classes) vs)) ((fitting_of classes v).fits slot before) after e (λ mid first rest.
      let one = ih.0 (in_slot slot) before mid p t first s (omega (arith, room, len)) in
      let others = all_written slot vs ih.1 mid after (p + length a.0) a.1 rest one.1 (omega (arith, room, len)) in
      record {
        each = record { y = v; more = vs; front = a.0; back = r.0; s1 = a.1; values = refl; first = one.0; others = others.each; spelled = refl };
        stands = stands_at after (p + length a.0 + length r.0) (p + length (a.0 ++ r.0)) r.1 (omega (arith, len)) others.stands;
      })

  -- as many values as are wanted
  fixed_fit : (of : Primitive) (vs : List Value) (count : ℕ) (b : Bool) (before after : Labels) → (length (map (fitting_of classes) vs) == count) ≡ b → cond b (all_fit (kinded (Plain of)) (map (fitting_of classes) vs) before) None ≡ Some after
      → (length vs ≡ count) × (all_fit (kinded (Plain of)) (map (fitting_of classes) vs) before ≡ Some after)
  fixed_fit of vs count true before after t e = (sym (length-map vs (fitting_of classes)) ∙ eqb-true _ _ t, e)
  fixed_fit of vs count false before after t e = absurd cc

  numbers_are : (of : Primitive) (vs : List Value) (count p : ℕ) (t : WordsMet) (bytes : List ℕ) (t' : WordsMet) → length vs ≡ count → SpellsTimes (length vs) (SpellsSlot object (kinded (Plain of))) p t vs bytes t' → SpellsNumbers of count p t (Items vs) bytes t'
  numbers_are of vs count p t bytes t' same each = record { items = vs; value = refl; each = subst (λ (n : ℕ). SpellsTimes n (SpellsNumber of) p t vs bytes t') same each }

  abbrev list_fitting : List Value → Fitting
  list_fitting vs = fitting_step classes (layer.List (map (fitting_of classes) vs))

  abbrev list_writing : List Value → Writing
  list_writing vs = writing_step classes (layer.List (map (writing_of classes) vs))

  link_written : (vs : List Value) → Each (IsWrittenAnywhere object classes) vs → IsWritten object (in_slot link) (Items vs) (list_fitting vs) (list_writing vs)
  link_written [] ih before after p t e s room = absurd cc
  link_written (v ∷ []) ih before after p t e s room = absurd cc
  link_written (v ∷ w ∷ x ∷ vs) ih before after p t e s room = absurd cc
  link_written (v ∷ w ∷ []) ih before after p t e s room =
      let a = (writing_of classes v).bytes any_pointer p t in
      let r = (writing_of classes w).bytes (kinded Texted) (p + length a.0) a.1 in
      let len = length-append a.0 r.0 in
      option_and_then_some ((fitting_of classes w).fits (kinded Texted)) ((fitting_of classes v).fits any_pointer before) after e (λ mid first rest.
      let pointer = ih.0 (in_slot any_pointer) before mid p t first s (omega (arith, room, len)) in
      let text = ih.1.0 (in_slot (kinded Texted)) mid after (p + length a.0) a.1 rest pointer.1 (omega (arith, room, len)) in
      let own : IsLink object p t (Items (v ∷ w ∷ [])) (a.0 ++ r.0) r.1 = record {
        pointer = v;
        option = text.0.text;
        pointer_bytes = a.0;
        option_bytes = r.0;
        value = ap (λ (x : Value). Items (v ∷ x ∷ [])) text.0.value;
        first = subst (λ (u : WordsMet). SpellsSlot object any_pointer p t v a.0 u) (sym text.0.words) pointer.0;
        second = text.0.spelled;
        spelled = refl;
      } in
      (own, stands_at after (p + length a.0 + length r.0) (p + length (a.0 ++ r.0)) r.1 (omega (arith, len)) text.1))

  counted_written : (of : Primitive) (counter : List ℕ) (count : ℕ) (vs : List Value) → Each (IsWrittenAnywhere object classes) vs → IsWritten object (in_counted of counter count) (Items vs) (list_fitting vs) (list_writing vs)
  counted_written of counter count [] ih before after p t e s room =
      let f = fixed_fit of [] count _ before after refl e in
      (inl (record { value = refl; spelled = refl; words = refl }), subst (λ (l : Labels). Stands l (p + 1) t) (some_is before after f.1) (stands_more before p (p + 1) t (omega arith) s))
  counted_written of counter count (v ∷ vs) ih before after p t e s room =
      let f = fixed_fit of (v ∷ vs) count _ before after refl e in
      let r = all (kinded (Plain of)) (map (writing_of classes) (v ∷ vs)) (p + 1) t in
      let g = all_written (kinded (Plain of)) (v ∷ vs) ih before after (p + 1) t f.1 (stands_more before p (p + 1) t (omega arith) s) (omega (arith, room)) in
      let values = numbers_are of (v ∷ vs) count (p + 1) t r.0 r.1 f.0 g.each in
      (inr (record { count = count; inner = r.0; counted = refl; values = values; spelled = refl }), stands_at after (p + 1 + length r.0) (p + length (1 ∷ r.0)) r.1 (omega arith) g.stands)

  pub list_written : (vs : List Value) → Each (IsWrittenAnywhere object classes) vs → (way : Way) → IsWritten object way (Items vs) (list_fitting vs) (list_writing vs)
  list_written vs ih (in_slot (kinded (Fixed of count))) before after p t e s room =
      let f = fixed_fit of vs count _ before after refl e in
      let g = all_written (kinded (Plain of)) vs ih before after p t f.1 s room in
      let b = all (kinded (Plain of)) (map (writing_of classes) vs) p t in
      (numbers_are of vs count p t b.0 b.1 f.0 g.each, g.stands)
  list_written vs ih (in_slot link) before after p t e s room = link_written vs ih before after p t e s room
  list_written vs ih (in_slot (many slot)) before after p t e s room =
      let g = all_written slot vs ih before after p t e s room in
      (record { items = vs; value = refl; each = g.each }, g.stands)
  list_written vs ih (in_counted of counter count) before after p t e s room = counted_written of counter count vs ih before after p t e s room
  list_written vs ih other before after p t e s room = absurd cc

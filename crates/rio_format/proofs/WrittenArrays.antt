-- What is written for a TList or a TObjArray that fits spells its parts.
use Rattle.std.proofs.Common.{◌≡◌, ℕ, suc, ◌+◌, ◌^◌, ◌<◌, ◌≤◌, pos, Bool, true, false, cond, List, [], ◌∷◌, ◌++◌, length, codes, Some, None, refl, sym, ap, subst, ◌∙◌, arith}
use Rattle.std.proofs.{lemmas.List.{length-append}, lemmas.Option.{option_and_then_some}}
use Rattle.std.specs.Option.{option_and_then}
use Rattle.byteorder.specs.Endian.{big_bytes}
use Rattle.rio_format.specs.{declared.class.ClassDef.{ClassDef}, declared.kind.Kind.TheVariants.{Plain, Text as Texted}, declared.kind.Primitive.TheVariants.{I32}, declared.value.Part.{Part}}
use Rattle.rio_format.specs.{Bodies.{part, Counters}, Fits.{Labels, Fitting, fields_fit, counted_slot, counted_so_far}}
use Rattle.rio_format.specs.{Slots.{Slot, kinded, based, any_pointer, link, many, Field, field}, Written.{listed_bytes, arrayed_bytes, writing_of}, ReaderState.{WordsMet}}
use Rattle.rio_format.proofs.{Composed.{Spellings, SpellsTimes, SpellsPointer, IsListParts, IsArrayParts, IsLink}, ComposedLengths.{pointer_long, link_long}}
use Rattle.rio_format.proofs.{WrittenPlaces.{Stands, stands_more}, WrittenWays.{in_slot, SpellsSlot, last_place}}
use Rattle.rio_format.proofs.{WrittenLists.{AreKnown, fittings, writings, stands_at, some_is}, WrittenBodies.{first_fits, times_low, count_of_list}}

-- there are as many parts as slots
same_length : (fs : List Field) (ys : List (List ℕ × Fitting)) (counters : Counters) (before after : Labels) → fields_fit fs ys counters before ≡ Some after → length ys ≡ length fs
same_length [] [] counters before after e = refl
same_length [] (y ∷ ys) counters before after e = absurd cc
same_length (f ∷ fs) [] counters before after e = absurd cc
same_length (f ∷ fs) (y ∷ ys) counters before after e = by _ e (λ mid. same_length fs ys (counted_so_far f y.1.number counters) mid after)
  where
    by : (b : Bool) → cond b (option_and_then (fields_fit fs ys (counted_so_far f y.1.number counters)) (y.1.fits (counted_slot counters f.slot) before)) None ≡ Some after
        → ((mid : Labels) → fields_fit fs ys (counted_so_far f y.1.number counters) mid ≡ Some after → length ys ≡ length fs) → length (y ∷ ys) ≡ length (f ∷ fs)
    by true e more = option_and_then_some (fields_fit fs ys (counted_so_far f y.1.number counters)) (y.1.fits (counted_slot counters f.slot) before) after e (λ mid first rest. ap suc (more mid rest))
    by false e more = absurd cc

module _ (object : Spellings) (classes : List ClassDef) where
  abbrev base_slot_is : Slot
  base_slot_is = based (codes "TObject") (pos 1)

  -- ---- lists

  abbrev item_fields : List Field
  item_fields = field (codes "items") (many link) ∷ []

  abbrev name_fields : List Field
  name_fields = field (codes "fName") (kinded Texted) ∷ item_fields

  abbrev list_fields : List Field
  list_fields = field [] base_slot_is ∷ name_fields

  list_made : (y z x : Part) (a b c : List ℕ × WordsMet) (p : ℕ) (t : WordsMet) → y ≡ part [] y.value → z ≡ part (codes "fName") z.value → x ≡ part (codes "items") x.value
      → SpellsSlot object base_slot_is p t y.value a.0 a.1 → SpellsSlot object (kinded Texted) (p + length a.0) a.1 z.value b.0 b.1 → SpellsSlot object (many link) (p + length a.0 + length b.0 + 4) b.1 x.value c.0 c.1 → length c.0 < 2 ^ 31
      → IsListParts object p t (y ∷ z ∷ x ∷ []) (a.0 ++ (b.0 ++ (big_bytes 4 (writing_of classes x.value).count ++ c.0))) c.1
  list_made y z x a b c p t y-is z-is x-is base name items short =
      let count : (writing_of classes x.value).count ≡ length items.items = count_of_list classes x.value items.items items.value in
      let low : length items.items ≤ length c.0 = times_low (length items.items) 4 (λ p t v bytes t'. IsLink object p t v bytes t') (omega arith) (link_long object) (p + length a.0 + length b.0 + 4) b.1 items.items c.0 c.1 items.each in
      record {
        base = y.value;
        name = name.text;
        count = length items.items;
        items = items.items;
        base_bytes = a.0;
        name_bytes = b.0;
        item_bytes = c.0;
        t1 = b.1;
        value = λ i. y-is i ∷ (z-is ∙ ap (part (codes "fName")) name.value) i ∷ (x-is ∙ ap (part (codes "items")) items.value) i ∷ [];
        based = subst (λ (u : WordsMet). object (codes "TObject") p t y.value a.0 u) (sym name.words) base;
        named = name.spelled;
        low = omega (arith, low, short);
        each = items.each;
        spelled = ap (λ (n : ℕ). a.0 ++ (b.0 ++ (big_bytes 4 n ++ c.0))) count;
      }

  pub listed_written : (parts : List Part) → AreKnown object classes parts → (before after : Labels) (p : ℕ) (t : WordsMet) → fields_fit list_fields (fittings classes parts) [] before ≡ Some after → Stands before p t → p + length (listed_bytes (writings classes parts) p t).0 ≤ last_place
      → IsListParts object p t parts (listed_bytes (writings classes parts) p t).0 (listed_bytes (writings classes parts) p t).1 × Stands after (p + length (listed_bytes (writings classes parts) p t).0) (listed_bytes (writings classes parts) p t).1
  listed_written [] ih before after p t e s room = absurd cc
  listed_written (y ∷ []) ih before after p t e s room = absurd (omega (arith, same_length list_fields (fittings classes (y ∷ [])) [] before after e))
  listed_written (y ∷ z ∷ []) ih before after p t e s room = absurd (omega (arith, same_length list_fields (fittings classes (y ∷ z ∷ [])) [] before after e))
  listed_written (y ∷ z ∷ x ∷ u ∷ us) ih before after p t e s room = absurd (omega (arith, same_length list_fields (fittings classes (y ∷ z ∷ x ∷ u ∷ us)) [] before after e))
  listed_written (y ∷ z ∷ x ∷ []) ih before after p t e s room =
      let f = first_fits classes [] base_slot_is name_fields y (z ∷ x ∷ []) before after e in
      let g = first_fits classes (codes "fName") (kinded Texted) item_fields z (x ∷ []) f.mid after f.rest in
      let h = first_fits classes (codes "items") (many link) [] x [] g.mid after g.rest in
      let a = (writing_of classes y.value).bytes base_slot_is p t in
      let b = (writing_of classes z.value).bytes (kinded Texted) (p + length a.0) a.1 in
      let w = writing_of classes x.value in
      let q = p + length a.0 + length b.0 in
      let c = w.bytes (many link) (q + 4) b.1 in
      let bytes = a.0 ++ (b.0 ++ (big_bytes 4 w.count ++ c.0)) in
      let len : length bytes ≡ length a.0 + length b.0 + 4 + length c.0 = omega (arith, length-append a.0 (b.0 ++ (big_bytes 4 w.count ++ c.0)), length-append b.0 (big_bytes 4 w.count ++ c.0)) in
      let base = ih.0 (in_slot base_slot_is) before f.mid p t f.first s (omega (arith, room, len)) in
      let name = ih.1.0 (in_slot (kinded Texted)) f.mid g.mid (p + length a.0) a.1 g.first base.1 (omega (arith, room, len)) in
      let items = ih.1.1.0 (in_slot (many link)) g.mid h.mid (q + 4) b.1 h.first (stands_more g.mid q (q + 4) b.1 (omega arith) name.1) (omega (arith, room, len)) in
      let own = list_made y z x a b c p t f.part_is g.part_is h.part_is base.0 name.0 items.0 (omega (arith, room, len)) in
      (own, subst (λ (l : Labels). Stands l (p + length bytes) c.1) (some_is h.mid after h.rest) (stands_at h.mid (q + 4 + length c.0) (p + length bytes) c.1 (omega (arith, len)) items.1))

  -- ---- arrays

  abbrev pointer_fields : List Field
  pointer_fields = field (codes "items") (many any_pointer) ∷ []

  abbrev lower_fields : List Field
  lower_fields = field (codes "fLowerBound") (kinded (Plain I32)) ∷ pointer_fields

  abbrev array_name_fields : List Field
  array_name_fields = field (codes "fName") (kinded Texted) ∷ lower_fields

  abbrev array_fields : List Field
  array_fields = field [] base_slot_is ∷ array_name_fields

  array_made : (y z k x : Part) (a b d c : List ℕ × WordsMet) (p : ℕ) (t : WordsMet) → y ≡ part [] y.value → z ≡ part (codes "fName") z.value → k ≡ part (codes "fLowerBound") k.value → x ≡ part (codes "items") x.value
      → SpellsSlot object base_slot_is p t y.value a.0 a.1 → SpellsSlot object (kinded Texted) (p + length a.0) a.1 z.value b.0 b.1 → SpellsSlot object (kinded (Plain I32)) (p + length a.0 + length b.0 + 4) b.1 k.value d.0 d.1
      → SpellsSlot object (many any_pointer) (p + length a.0 + length b.0 + 4 + length d.0) d.1 x.value c.0 c.1 → length c.0 < 2 ^ 31
      → IsArrayParts object p t (y ∷ z ∷ k ∷ x ∷ []) (a.0 ++ (b.0 ++ (big_bytes 4 (writing_of classes x.value).count ++ (d.0 ++ c.0)))) c.1
  array_made y z k x a b d c p t y-is z-is k-is x-is base name lower items short =
      let q = p + length a.0 + length b.0 in
      let four : length d.0 ≡ 4 = ap length lower.spelled in
      let count : (writing_of classes x.value).count ≡ length items.items = count_of_list classes x.value items.items items.value in
      let low : length items.items ≤ length c.0 = times_low (length items.items) 4 (SpellsPointer object) (omega arith) (pointer_long object) (q + 4 + length d.0) d.1 items.items c.0 c.1 items.each in
      record {
        base = y.value;
        name = name.text;
        count = length items.items;
        lower = k.value;
        items = items.items;
        base_bytes = a.0;
        name_bytes = b.0;
        lower_bytes = d.0;
        item_bytes = c.0;
        t1 = d.1;
        value = λ i. y-is i ∷ (z-is ∙ ap (part (codes "fName")) name.value) i ∷ k-is i ∷ (x-is ∙ ap (part (codes "items")) items.value) i ∷ [];
        based = subst (λ (u : WordsMet). object (codes "TObject") p t y.value a.0 u) (sym (lower.words ∙ name.words)) base;
        named = name.spelled;
        low = omega (arith, low, short);
        bound = record { n = lower.n; fits = lower.fits; value = lower.value; spelled = lower.spelled; words = refl };
        each = subst (λ (r : ℕ). SpellsTimes (length items.items) (SpellsPointer object) r d.1 items.items c.0 c.1) (omega (arith, four)) items.each;
        spelled = ap (λ (n : ℕ). a.0 ++ (b.0 ++ (big_bytes 4 n ++ (d.0 ++ c.0)))) count;
      }

  pub arrayed_written : (parts : List Part) → AreKnown object classes parts → (before after : Labels) (p : ℕ) (t : WordsMet) → fields_fit array_fields (fittings classes parts) [] before ≡ Some after → Stands before p t → p + length (arrayed_bytes (writings classes parts) p t).0 ≤ last_place
      → IsArrayParts object p t parts (arrayed_bytes (writings classes parts) p t).0 (arrayed_bytes (writings classes parts) p t).1 × Stands after (p + length (arrayed_bytes (writings classes parts) p t).0) (arrayed_bytes (writings classes parts) p t).1
  arrayed_written [] ih before after p t e s room = absurd cc
  arrayed_written (y ∷ []) ih before after p t e s room = absurd (omega (arith, same_length array_fields (fittings classes (y ∷ [])) [] before after e))
  arrayed_written (y ∷ z ∷ []) ih before after p t e s room = absurd (omega (arith, same_length array_fields (fittings classes (y ∷ z ∷ [])) [] before after e))
  arrayed_written (y ∷ z ∷ k ∷ []) ih before after p t e s room = absurd (omega (arith, same_length array_fields (fittings classes (y ∷ z ∷ k ∷ [])) [] before after e))
  arrayed_written (y ∷ z ∷ k ∷ x ∷ u ∷ us) ih before after p t e s room = absurd (omega (arith, same_length array_fields (fittings classes (y ∷ z ∷ k ∷ x ∷ u ∷ us)) [] before after e))
  arrayed_written (y ∷ z ∷ k ∷ x ∷ []) ih before after p t e s room =
      let f = first_fits classes [] base_slot_is array_name_fields y (z ∷ k ∷ x ∷ []) before after e in
      let g = first_fits classes (codes "fName") (kinded Texted) lower_fields z (k ∷ x ∷ []) f.mid after f.rest in
      let l = first_fits classes (codes "fLowerBound") (kinded (Plain I32)) pointer_fields k (x ∷ []) g.mid after g.rest in
      let h = first_fits classes (codes "items") (many any_pointer) [] x [] l.mid after l.rest in
      let a = (writing_of classes y.value).bytes base_slot_is p t in
      let b = (writing_of classes z.value).bytes (kinded Texted) (p + length a.0) a.1 in
      let w = writing_of classes x.value in
      let q = p + length a.0 + length b.0 in
      let d = (writing_of classes k.value).bytes (kinded (Plain I32)) (q + 4) b.1 in
      let c = w.bytes (many any_pointer) (q + 4 + length d.0) d.1 in
      let bytes = a.0 ++ (b.0 ++ (big_bytes 4 w.count ++ (d.0 ++ c.0))) in
      let len : length bytes ≡ length a.0 + length b.0 + 4 + length d.0 + length c.0 =
      omega (arith, length-append a.0 (b.0 ++ (big_bytes 4 w.count ++ (d.0 ++ c.0))), length-append b.0 (big_bytes 4 w.count ++ (d.0 ++ c.0)), length-append d.0 c.0) in
      let base = ih.0 (in_slot base_slot_is) before f.mid p t f.first s (omega (arith, room, len)) in
      let name = ih.1.0 (in_slot (kinded Texted)) f.mid g.mid (p + length a.0) a.1 g.first base.1 (omega (arith, room, len)) in
      let lower = ih.1.1.0 (in_slot (kinded (Plain I32))) g.mid l.mid (q + 4) b.1 l.first (stands_more g.mid q (q + 4) b.1 (omega arith) name.1) (omega (arith, room, len)) in
      let items = ih.1.1.1.0 (in_slot (many any_pointer)) l.mid h.mid (q + 4 + length d.0) d.1 h.first lower.1 (omega (arith, room, len)) in
      let own = array_made y z k x a b d c p t f.part_is g.part_is l.part_is h.part_is base.0 name.0 lower.0 items.0 (omega (arith, room, len)) in
      (own, subst (λ (l : Labels). Stands l (p + length bytes) c.1) (some_is h.mid after h.rest) (stands_at h.mid (q + 4 + length d.0 + length c.0) (p + length bytes) c.1 (omega (arith, len)) items.1))

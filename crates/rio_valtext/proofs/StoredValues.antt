-- A value that fits is readable, within as many brackets as its slot and its depth ask for.
use Rattle.std.proofs.Common.{◌≡◌, ◌&&◌, ◌==◌, ℕ, zero, suc, ◌+◌, ◌-◌, ◌*◌, ◌^◌, ◌≤◌, ℤ, Bool, true, false, cond, List, [], ◌∷◌, ◌++◌, length, map, nat_lt, Option, Some, None, refl, sym, ap, subst, ◌∙◌, arith}
use Rattle.std.proofs.{lemmas.Option.{option_and_then_some}, lemmas.Bool.{and_from, and_parts, Decides.{nat_tests}}}
use Rattle.std.specs.{Prelude.{slice_get}, List.{list_all}, Str.{bytes_eq}}
use Rattle.rio_num.specs.Word.{is_name_text}
use Rattle.rio_format.specs.{declared.class.ClassDef.{ClassDef}, declared.kind.Kind.TheVariants.{Plain, Fixed, Text as Texted, Inline, Pointer}, Depth.{greatest, depth_step, depth_of}}
use Rattle.rio_format.specs.{declared.value.Value.{Value, Int, Bits32, Bits64, Bool as Truth, Text, List as Items, Object, Pointed, Null, Back, Opaque, TheFolds.{fold-Part, fold_out-Part}}, declared.value.Part.{Part}}
use Rattle.rio_format.specs.declared.value.Value.TheOpen as layer
use Rattle.rio_format.proofs.{DepthLaws.{part_depth}, Tests.{named_as}}
use Rattle.rio_format.specs.Bodies.{Counters}
use Rattle.rio_format.specs.Fits.{Labels, Fitting, int_fits, bits32_fits, bits64_fits, truth_fits, text_fits, is_pointer, all_fit, link_fits, fields_fit, parts_fit, counted_slot, counted_so_far, object_may_stand, may_point, pointed_fits, back_fits, fitting_step, fitting_of}
use Rattle.rio_format.specs.Slots.{Slot, kinded, based, any_pointer, link, many, Field, fields_of}
use Rattle.rio_format.proofs.ValueCases.{Each, by_cases, fold_Int, fold_Bits32, fold_Bits64, fold_Bool, fold_Text, fold_List, fold_Object, fold_Pointed, fold_Null, fold_Back, fold_Opaque}
use Rattle.rio_format.proofs.{WrittenLists.{fittings}, WrittenValues.{object_fitting, fit_object}}
use Rattle.rio_model.specs.Readable.{PartReadability, Readability, are_bases_first, are_parts_within, is_number, part_readable, readability_of, readable_step, single}
use Rattle.rio_model.specs.Stated.{is_class_version}
use Rattle.rio_valtext.specs.Stored.{has_names, held_step, is_held}
use Rattle.rio_valtext.proofs.StoredClasses.{object_formed}
use Rattle.rio_valtext.proofs.StoredNumbers.{passed, int_readable, bits32_readable, bits64_readable, truth_readable, text_readable, null_readable}
use Rattle.rio_valtext.proofs.StoredSlots.{is_object_slot, levels_of, counted_low, counted_object, IsPlaced}

-- ---- what is shown

-- readable within so many brackets, and an object where only objects stand
pub record IsReadableIn (slot : Slot) (r : Readability) (levels : ℕ) : Type 0 where
  pub within : r.within levels ≡ true
  pub object : is_object_slot slot ≡ true → r.object ≡ true

single_in : (b : Bool) (slot : Slot) (levels : ℕ) → b ≡ true → is_object_slot slot ≡ false → IsReadableIn slot (single b) levels
single_in b slot levels e none = record { within = e; object = λ o. absurd cc }

some_level : (levels : ℕ) → 1 ≤ levels → nat_lt 0 levels ≡ true
some_level levels some = grind (arith, nat_tests)

-- ---- slots of pointers and of objects

record IsPointerSlot (slot : Slot) : Type 0 where
  none : is_object_slot slot ≡ false
  levels : (d : ℕ) → levels_of slot d ≡ 3 * d

pointer_slot : (classes : List ClassDef) (own : List ℕ × ℤ) (slot : Slot) → may_point classes own slot ≡ true → IsPointerSlot slot
pointer_slot classes own (kinded (Pointer c)) e = record { none = refl; levels = λ d. refl }
pointer_slot classes own any_pointer e = record { none = refl; levels = λ d. refl }
pointer_slot classes own other e = absurd cc

back_slot : (classes : List ClassDef) (own : Option (List ℕ × ℤ)) (slot : Slot) → back_fits classes own slot ≡ true → is_object_slot slot ≡ false
back_slot classes None slot e = absurd cc
back_slot classes (Some own) slot e = (pointer_slot classes own slot e).none

object_levels : (class : List ℕ) (version : ℤ) (slot : Slot) (d : ℕ) → object_may_stand class version slot ≡ true → levels_of slot d ≡ 3 * d
object_levels class version (kinded (Inline c)) d e = refl
object_levels class version (based c v) d e = refl
object_levels class version other d e = absurd cc

-- a test that passed, and what is behind it
tested : (b : Bool) (o : Option Labels) (after : Labels) → cond b o None ≡ Some after → (b ≡ true) × (o ≡ Some after)
tested true o after e = (refl, e)
tested false o after e = absurd cc

-- a base is an object, or else the name is a name
named_part : (base is_object object is_name : Bool) → cond base is_object is_name ≡ true → (is_object ≡ true → object ≡ true) → cond base object is_name ≡ true
named_part true is_object object is_name e o = o e
named_part false is_object object is_name e o = e

-- ---- folds

abbrev part_reading : Part → PartReadability
part_reading p = part_readable p.name (readability_of p.value)

part_reads : (p : Part) → fold-Part Readability PartReadability readable_step (λ p. part_readable p.name p.value) p ≡ part_reading p
unfolding readability_of
part_reads p = fold_out-Part Readability PartReadability readable_step (λ p. part_readable p.name p.value) p

read_Int : (z : ℤ) → readability_of (Int z) ≡ single (is_number z)
unfolding readability_of
read_Int z = fold_Int readable_step (λ p. part_readable p.name p.value) z

read_Bits32 : (n : ℕ) → readability_of (Bits32 n) ≡ single (nat_lt n (2 ^ 32))
unfolding readability_of
read_Bits32 n = fold_Bits32 readable_step (λ p. part_readable p.name p.value) n

read_Bits64 : (n : ℕ) → readability_of (Bits64 n) ≡ single (nat_lt n (2 ^ 64))
unfolding readability_of
read_Bits64 n = fold_Bits64 readable_step (λ p. part_readable p.name p.value) n

read_Bool : (b : Bool) → readability_of (Truth b) ≡ single true
unfolding readability_of
read_Bool b = fold_Bool readable_step (λ p. part_readable p.name p.value) b

read_Text : (text : List ℕ) → readability_of (Text text) ≡ single (list_all (λ b. nat_lt b 256) text)
unfolding readability_of
read_Text text = fold_Text readable_step (λ p. part_readable p.name p.value) text

read_List : (vs : List Value) → readability_of (Items vs) ≡ readable_step (layer.List (map readability_of vs))
unfolding readability_of
read_List vs = fold_List readable_step (λ p. part_readable p.name p.value) vs

read_Object : (class : List ℕ) (version : ℤ) (parts : List Part) → readability_of (Object class version parts) ≡ readable_step (layer.Object class version (map part_reading parts))
unfolding readability_of
read_Object class version parts =
    fold_Object readable_step (λ p. part_readable p.name p.value) class version parts ∙ ap (λ (g : Part → PartReadability). readable_step (layer.Object class version (map g parts))) (λ i p. part_reads p i)

read_Pointed : (label : ℕ) (object : Value) → readability_of (Pointed label object) ≡ readable_step (layer.Pointed label (readability_of object))
unfolding readability_of
read_Pointed label object = fold_Pointed readable_step (λ p. part_readable p.name p.value) label object

read_Null : readability_of Null ≡ single true
unfolding readability_of
read_Null = fold_Null readable_step (λ p. part_readable p.name p.value)

read_Back : (label : ℕ) → readability_of (Back label) ≡ single (nat_lt label (2 ^ 32))
unfolding readability_of
read_Back label = fold_Back readable_step (λ p. part_readable p.name p.value) label

depth_Object : (class : List ℕ) (version : ℤ) (parts : List Part) → depth_of (Object class version parts) ≡ greatest (map (λ p. depth_of p.value) parts) + 1
depth_Object class version parts = fold_Object depth_step (λ p. p.value) class version parts ∙ ap (λ (g : Part → ℕ). greatest (map g parts) + 1) (λ i p. part_depth p i)

part_held : (p : Part) → fold-Part Bool Bool held_step (λ p. p.value) p ≡ is_held p.value
part_held p = fold_out-Part Bool Bool held_step (λ p. p.value) p

held_Object : (class : List ℕ) (version : ℤ) (parts : List Part) → is_held (Object class version parts) ≡ list_all (λ b. b) (map (λ p. is_held p.value) parts)
held_Object class version parts = fold_Object held_step (λ p. p.value) class version parts ∙ ap (λ (g : Part → Bool). list_all (λ b. b) (map g parts)) (λ i p. part_held p i)

module _ (classes : List ClassDef) (named : list_all has_names classes ≡ true) where
  -- what fits in a slot is readable within the levels of the slot
  abbrev Reads : Fitting → Readability → ℕ → Bool → Type 0
  Reads f r depth held = (slot : Slot) (before after : Labels) (d levels : ℕ) → f.fits slot before ≡ Some after → depth ≤ d → held ≡ true → levels_of slot d ≤ levels → IsReadableIn slot r levels

  abbrev IsRead : Value → Type 0
  IsRead v = Reads (fitting_of classes v) (readability_of v) (depth_of v) (is_held v)

  by_layer : (v : Value) (f : Fitting) (r : Readability) (depth : ℕ) (held : Bool) → fitting_of classes v ≡ f → readability_of v ≡ r → depth_of v ≡ depth → is_held v ≡ held → Reads f r depth held → IsRead v
  by_layer v f r depth held fs rs ds hs h =
      subst (λ (g : Fitting). Reads g (readability_of v) (depth_of v) (is_held v)) (sym fs)
      (subst (λ (q : Readability). Reads f q (depth_of v) (is_held v)) (sym rs)
      (subst (λ (n : ℕ). Reads f r n (is_held v)) (sym ds)
      (subst (λ (b : Bool). Reads f r depth b) (sym hs) h)))

  -- ---- lists

  all_read : (slot : Slot) (vs : List Value) → Each IsRead vs → (before after : Labels) (d levels : ℕ) → all_fit slot (map (fitting_of classes) vs) before ≡ Some after → greatest (map depth_of vs) ≤ d → list_all (λ b. b) (map is_held vs) ≡ true
      → levels_of slot d ≤ levels → list_all (λ r. r.within levels) (map readability_of vs) ≡ true
  all_read slot [] known before after d levels e deep held low = refl
  all_read slot (v ∷ vs) known before after d levels e deep held low =
      let h = and_parts (is_held v) (list_all (λ b. b) (map is_held vs)) held in
      option_and_then_some (all_fit slot (map (fitting_of classes) vs)) ((fitting_of classes v).fits slot before) after e (λ mid first rest.
      and_from ((readability_of v).within levels) (list_all (λ r. r.within levels) (map readability_of vs))
      (known.0 slot before mid d levels first (omega (arith, deep)) h.0 low).within
      (all_read slot vs known.1 mid after d levels rest (omega (arith, deep)) h.1 low))

  abbrev list_reading : List Value → Readability
  list_reading vs = readable_step (layer.List (map readability_of vs))

  -- one level above its items
  items_in : (slot own : Slot) (vs : List Value) → Each IsRead vs → (before after : Labels) (d levels : ℕ) → all_fit slot (map (fitting_of classes) vs) before ≡ Some after → greatest (map depth_of vs) ≤ d → list_all (λ b. b) (map is_held vs) ≡ true
      → levels_of slot d + 1 ≤ levels → is_object_slot own ≡ false → IsReadableIn own (list_reading vs) levels
  items_in slot own vs known before after d levels e deep held low none = record {
    within = and_from (nat_lt 0 levels) (list_all (λ r. r.within (levels - 1)) (map readability_of vs)) (some_level levels (omega (arith, low))) (all_read slot vs known before after d (levels - 1) e deep held (omega (arith, low)));
    object = λ o. absurd cc;
  }

  link_read : (vs : List Value) → Each IsRead vs → (before after : Labels) (d levels : ℕ) → link_fits (map (fitting_of classes) vs) before ≡ Some after → greatest (map depth_of vs) ≤ d → list_all (λ b. b) (map is_held vs) ≡ true
      → 3 * d ≤ levels → list_all (λ r. r.within levels) (map readability_of vs) ≡ true
  link_read [] known before after d levels e deep held low = absurd cc
  link_read (v ∷ []) known before after d levels e deep held low = absurd cc
  link_read (v ∷ w ∷ x ∷ vs) known before after d levels e deep held low = absurd cc
  link_read (v ∷ w ∷ []) known before after d levels e deep held low =
      let h = and_parts (is_held v) (is_held w && true) held in
      let k = and_parts (is_held w) true h.1 in
      option_and_then_some ((fitting_of classes w).fits (kinded Texted)) ((fitting_of classes v).fits any_pointer before) after e (λ mid first rest.
      and_from ((readability_of v).within levels) ((readability_of w).within levels && true)
      (known.0 any_pointer before mid d levels first (omega (arith, deep)) h.0 low).within
      (and_from ((readability_of w).within levels) true (known.1.0 (kinded Texted) mid after d levels rest (omega (arith, deep)) k.0 (omega arith)).within refl))

  list_reads : (vs : List Value) → Each IsRead vs → Reads (fitting_step classes (layer.List (map (fitting_of classes) vs))) (list_reading vs) (greatest (map depth_of vs)) (list_all (λ b. b) (map is_held vs))
  list_reads vs known (kinded (Fixed of count)) before after d levels e deep held low =
      let t = tested (length (map (fitting_of classes) vs) == count) (all_fit (kinded (Plain of)) (map (fitting_of classes) vs) before) after e in
      items_in (kinded (Plain of)) (kinded (Fixed of count)) vs known before after d levels t.1 deep held (omega (arith, low)) refl
  list_reads vs known link before after d levels e deep held low = record {
    within = and_from (nat_lt 0 levels) (list_all (λ r. r.within (levels - 1)) (map readability_of vs)) (some_level levels (omega (arith, low))) (link_read vs known before after d (levels - 1) e deep held (omega (arith, low)));
    object = λ o. absurd cc;
  }
  list_reads vs known (many slot) before after d levels e deep held low = items_in slot (many slot) vs known before after d levels e deep held low refl
  list_reads vs known other before after d levels e deep held low = absurd cc

  -- ---- objects

  part_read : (f : Field) (y : Part) (counters : Counters) (levels : ℕ) → y.name ≡ f.name → IsPlaced f → IsReadableIn (counted_slot counters f.slot) (readability_of y.value) levels → (part_reading y).within levels ≡ true
  part_read f y counters levels same placed one =
      and_from ((readability_of y.value).within levels) (cond (length y.name == 0) (readability_of y.value).object (is_name_text y.name)) one.within
      (subst (λ (n : List ℕ). cond (length n == 0) (readability_of y.value).object (is_name_text n) ≡ true) (sym same)
      (named_part (length f.name == 0) (is_object_slot f.slot) (readability_of y.value).object (is_name_text f.name) placed.named (λ o. one.object (counted_object counters f.slot o))))

  parts_read : (fs : List Field) (ys : List Part) → Each (λ y. IsRead y.value) ys → Each IsPlaced fs → (counters : Counters) (before after : Labels) (d levels : ℕ) → fields_fit fs (fittings classes ys) counters before ≡ Some after
      → greatest (map (λ y. depth_of y.value) ys) ≤ d → list_all (λ b. b) (map (λ y. is_held y.value) ys) ≡ true → 3 * d + 2 ≤ levels → list_all (λ p. p.within levels) (map part_reading ys) ≡ true
  parts_read [] [] known placed counters before after d levels e deep held low = refl
  parts_read [] (y ∷ ys) known placed counters before after d levels e deep held low = absurd cc
  parts_read (f ∷ fs) [] known placed counters before after d levels e deep held low = absurd cc
  parts_read (f ∷ fs) (y ∷ ys) known placed counters before after d levels e deep held low =
      let n = named_as f.name y.name after (bytes_eq y.name f.name) _ refl e in
      let h = and_parts (is_held y.value) (list_all (λ b. b) (map (λ y. is_held y.value) ys)) held in
      let behind = counted_so_far f (fitting_of classes y.value).number counters in
      let slot = counted_slot counters f.slot in
      let slot_low = counted_low counters f.slot d in
      let field_low = placed.0.low d in
      option_and_then_some (fields_fit fs (fittings classes ys) behind) ((fitting_of classes y.value).fits slot before) after n.1 (λ mid first rest.
      and_from ((part_reading y).within levels) (list_all (λ p. p.within levels) (map part_reading ys))
      (part_read f y counters levels n.0 placed.0 (known.0 slot before mid d levels first (omega (arith, deep)) h.0 (omega (arith, slot_low, field_low, low))))
      (parts_read fs ys known.1 placed.1 behind mid after d levels rest (omega (arith, deep)) h.1 low))

  -- the parts have the names of the fields
  names_fit : (fs : List Field) (ys : List Part) (counters : Counters) (before after : Labels) → fields_fit fs (fittings classes ys) counters before ≡ Some after → map (λ p. p.name) (map part_reading ys) ≡ map (λ f. f.name) fs
  names_fit [] [] counters before after e = refl
  names_fit [] (y ∷ ys) counters before after e = absurd cc
  names_fit (f ∷ fs) [] counters before after e = absurd cc
  names_fit (f ∷ fs) (y ∷ ys) counters before after e =
      let n = named_as f.name y.name after (bytes_eq y.name f.name) _ refl e in
      let behind = counted_so_far f (fitting_of classes y.value).number counters in
      option_and_then_some (fields_fit fs (fittings classes ys) behind) ((fitting_of classes y.value).fits (counted_slot counters f.slot) before) after n.1 (λ mid first rest.
      rw (n.0, names_fit fs ys behind mid after rest) refl)

  abbrev object_reading : List ℕ → ℤ → List Part → Readability
  object_reading class version parts = readable_step (layer.Object class version (map part_reading parts))

  object_reads : (class : List ℕ) (version : ℤ) (parts : List Part) → Each (λ y. IsRead y.value) parts
      → Reads (object_fitting classes class version parts) (object_reading class version parts) (greatest (map (λ y. depth_of y.value) parts) + 1) (list_all (λ b. b) (map (λ y. is_held y.value) parts))
  object_reads class version parts known slot before after zero levels e deep held low = absurd (omega (arith, deep))
  object_reads class version parts known slot before after (suc d) levels e deep held low =
      let t = tested (object_may_stand class version slot) (parts_fit (fields_of classes class version) (fittings classes parts) before) after e in
      let f = object_formed classes named class version (fittings classes parts) before after t.1 in
      let wide = object_levels class version slot (suc d) t.0 in
      let enough : 3 * d + 3 ≤ levels = omega (arith, wide, low) in
      let head = nat_lt 0 levels && is_name_text class in
      let readings = map part_reading parts in
      let names = names_fit f.fields parts [] before after f.fit in
      record {
        within =
            and_from (head && is_class_version version) (are_parts_within readings (levels - 1))
            (and_from head (is_class_version version) (and_from (nat_lt 0 levels) (is_name_text class) (some_level levels (omega (arith, enough))) f.class_named) f.version_stated)
            (and_from (list_all (λ p. p.within (levels - 1)) readings) (are_bases_first true (map (λ p. p.name) readings))
            (parts_read f.fields parts known f.all_placed [] before after d (levels - 1) f.fit (omega (arith, deep)) held (omega (arith, enough)))
            (rw names f.first));
        object = λ o. refl;
      }

  -- ---- pointers

  pointed_by : (label : ℕ) (object : Value) (own : Option (List ℕ × ℤ)) → IsRead object → Reads (record { class = None; number = (fitting_of classes object).number; fits = λ slot labels. pointed_fits classes label (fitting_of classes object) own slot labels }) (readable_step (layer.Pointed label (readability_of object))) (depth_of object) (nat_lt label (2 ^ 32) && is_held object)
  pointed_by label object None known slot before after d levels e deep held low = absurd cc
  pointed_by label object (Some own) known slot before after d levels e deep held low =
      let t = tested (label == length before && may_point classes own slot) ((fitting_of classes object).fits (kinded (Inline own.0)) (before ++ own ∷ [])) after e in
      let s = pointer_slot classes own slot (and_parts (label == length before) (may_point classes own slot) t.0).1 in
      let h = and_parts (nat_lt label (2 ^ 32)) (is_held object) held in
      let wide = s.levels d in
      let none = s.none in
      let one = known (kinded (Inline own.0)) (before ++ own ∷ []) after d levels t.1 deep h.1 (omega (arith, wide, low)) in
      record {
        within = and_from (nat_lt label (2 ^ 32) && (readability_of object).object) ((readability_of object).within levels) (and_from (nat_lt label (2 ^ 32)) (readability_of object).object h.0 (one.object refl)) one.within;
        object = λ o. absurd cc;
      }

  -- ---- induction

  pub each_read : (v : Value) → IsRead v
  each_read = by_cases IsRead (record {
    int = λ z. by_layer (Int z) _ _ _ _ (fold_Int (fitting_step classes) (λ p. (p.name, p.value)) z) (read_Int z) (fold_Int depth_step (λ p. p.value) z) (fold_Int held_step (λ p. p.value) z)
        (λ slot before after d levels e deep held low. let r = int_readable z slot (passed (int_fits z slot) before after e) in single_in (is_number z) slot levels r.0 r.1);
    bits32 = λ n. by_layer (Bits32 n) _ _ _ _ (fold_Bits32 (fitting_step classes) (λ p. (p.name, p.value)) n) (read_Bits32 n) (fold_Bits32 depth_step (λ p. p.value) n) (fold_Bits32 held_step (λ p. p.value) n)
        (λ slot before after d levels e deep held low. let r = bits32_readable n slot (passed (bits32_fits n slot) before after e) in single_in (nat_lt n (2 ^ 32)) slot levels r.0 r.1);
    bits64 = λ n. by_layer (Bits64 n) _ _ _ _ (fold_Bits64 (fitting_step classes) (λ p. (p.name, p.value)) n) (read_Bits64 n) (fold_Bits64 depth_step (λ p. p.value) n) (fold_Bits64 held_step (λ p. p.value) n)
        (λ slot before after d levels e deep held low. let r = bits64_readable n slot (passed (bits64_fits n slot) before after e) in single_in (nat_lt n (2 ^ 64)) slot levels r.0 r.1);
    truth = λ b. by_layer (Truth b) _ _ _ _ (fold_Bool (fitting_step classes) (λ p. (p.name, p.value)) b) (read_Bool b) (fold_Bool depth_step (λ p. p.value) b) (fold_Bool held_step (λ p. p.value) b)
        (λ slot before after d levels e deep held low. single_in true slot levels refl (truth_readable slot (passed (truth_fits slot) before after e)));
    text = λ t. by_layer (Text t) _ _ _ _ (fold_Text (fitting_step classes) (λ p. (p.name, p.value)) t) (read_Text t) (fold_Text depth_step (λ p. p.value) t) (fold_Text held_step (λ p. p.value) t)
        (λ slot before after d levels e deep held low. single_in (list_all (λ b. nat_lt b 256) t) slot levels held (text_readable slot (passed (text_fits slot) before after e)));
    list = λ vs known. by_layer (Items vs) _ _ _ _ (fold_List (fitting_step classes) (λ p. (p.name, p.value)) vs) (read_List vs) (fold_List depth_step (λ p. p.value) vs) (fold_List held_step (λ p. p.value) vs) (list_reads vs known);
    object = λ class version parts known. by_layer (Object class version parts) _ _ _ _ (fit_object classes class version parts) (read_Object class version parts) (depth_Object class version parts) (held_Object class version parts) (object_reads class version parts known);
    pointed = λ label object known. by_layer (Pointed label object) _ _ _ _ (fold_Pointed (fitting_step classes) (λ p. (p.name, p.value)) label object) (read_Pointed label object) (fold_Pointed depth_step (λ p. p.value) label object) (fold_Pointed held_step (λ p. p.value) label object)
        (pointed_by label object (fitting_of classes object).class known);
    null = by_layer Null _ _ _ _ (fold_Null (fitting_step classes) (λ p. (p.name, p.value))) read_Null (fold_Null depth_step (λ p. p.value)) (fold_Null held_step (λ p. p.value))
        (λ slot before after d levels e deep held low. single_in true slot levels refl (null_readable slot (passed (is_pointer slot) before after e)));
    back = λ label. by_layer (Back label) _ _ _ _ (fold_Back (fitting_step classes) (λ p. (p.name, p.value)) label) (read_Back label) (fold_Back depth_step (λ p. p.value) label) (fold_Back held_step (λ p. p.value) label)
        (λ slot before after d levels e deep held low. single_in (nat_lt label (2 ^ 32)) slot levels held (back_slot classes (slice_get before label) slot (passed (back_fits classes (slice_get before label) slot) before after e)));
    opaque = λ class len slot before after d levels e deep held low. absurd (none_fits class len slot before after e);
  })
    where
      none_fits : (class : List ℕ) (len : ℕ) (slot : Slot) (before after : Labels) → (fitting_of classes (Opaque class len)).fits slot before ≡ Some after → ⊥
      none_fits class len slot before after e = let none : None ≡ Some after = sym (ap (λ (f : Fitting). f.fits slot before) (fold_Opaque (fitting_step classes) (λ p. (p.name, p.value)) class len)) ∙ e in cc

-- What is written for a value that fits spells it.
use Rattle.std.proofs.{Common.{◌≡◌, ◌&&◌, ℕ, zero, suc, ◌+◌, ◌^◌, ◌<◌, ◌≤◌, ℤ, pos, Bool, true, false, cond, int_le, List, [], ◌∷◌, length, map, Option, Some, None, refl, sym, ap, subst, ◌∙◌, arith}, lemmas.Bool.{and_parts}}
use Rattle.std.proofs.lemmas.Slice.Eq.{bytes_eq-Decides}
use Rattle.std.specs.{Prelude.{IsTrue}, Int.{w16, cast_unsigned}, List.{list_all}, Ordering.{int_eq}, Str.{bytes_eq}}
use Rattle.rio_num.proofs.Cases.{some_of}
use Rattle.rio_format.specs.{declared.class.ClassDef.{ClassDef}, declared.kind.Kind.TheVariants.{Inline}, Depth.{greatest, depth_step, depth_of}}
use Rattle.rio_format.specs.{declared.value.Value.{Value, Int, Bits32, Bits64, Bool as Truth, Text, List as Items, Object, Pointed, Null, Back, Opaque, TheFolds.{fold-Part, fold_out-Part}}, declared.value.Part.{Part}}
use Rattle.rio_format.specs.declared.value.Value.TheOpen as layer
use Rattle.rio_format.proofs.{DepthLaws.{part_depth}, Composed.{Spellings, Composes}, ComposedSpells.{object_in}, Tests.{named_as}}
use Rattle.rio_format.specs.{Bodies.{form_of}, Fits.{Labels, Fitting, part_fitting, parts_fit, fitting_step, fitting_of}}
use Rattle.rio_format.specs.{Laws.{versions_step, has_versions, WrittenIsSpelled}, Objects.{depth_limit, SpellsObject}, Slots.{kinded, based, fields_of}, Written.{Writing, form_bytes, writing_step, writing_of}}
use Rattle.rio_format.proofs.ValueCases.{Each, Steps, by_cases, fold_Int, fold_Bits32, fold_Bits64, fold_Bool, fold_Text, fold_List, fold_Object, fold_Pointed, fold_Null, fold_Back, fold_Opaque}
use Rattle.rio_format.proofs.{WrittenNumbers.{version_bytes}, WrittenPlaces.{Stands, stands_none}}
use Rattle.rio_format.proofs.WrittenWays.{Way, in_slot, last_place, IsWrittenAt, IsWritten, int_written, bits32_written, bits64_written, truth_written, text_written, null_written, back_written}
use Rattle.rio_format.proofs.{WrittenLists.{AreKnown, fittings, writings, IsWrittenAnywhere, list_written}, WrittenObjects.{formed_written}, WrittenPointers.{pointed_written, inline_class}}
use Rattle.rio_format.specs.ReaderState.{WordsMet, no_words}

-- ---- objects

based_as : (own class : List ℕ) (same : Bool) (o : Option Labels) (after : Labels) (b : Bool) → bytes_eq own class ≡ b → cond (b && same) o None ≡ Some after → (own ≡ class) × (o ≡ Some after)
based_as own class true o after true t e = ((bytes_eq-Decides own class).0 t, e)
based_as own class false o after true t e = absurd cc
based_as own class same o after false t e = absurd cc

pub part_versions : (p : Part) → fold-Part Bool Bool versions_step (λ p. p.value) p ≡ has_versions p.value
part_versions p = fold_out-Part Bool Bool versions_step (λ p. p.value) p

module _ (classes : List ClassDef) where
  abbrev pub object_fitting : List ℕ → ℤ → List Part → Fitting
  object_fitting class version parts = fitting_step classes (layer.Object class version (fittings classes parts))

  abbrev pub object_writing : List ℕ → ℤ → List Part → Writing
  object_writing class version parts = writing_step classes (layer.Object class version (writings classes parts))

  -- one level above its parts
  module _ (levels : ℕ) (class : List ℕ) (n : ℕ) (parts : List Part) (ih : AreKnown (Composes levels classes) classes parts) (some : 0 < n) (low : n < 2 ^ 16) (same : cast_unsigned w16 (pos n) ≡ n) where
    own_written : (c : List ℕ) (before after : Labels) (p : ℕ) (t : WordsMet) → class ≡ c → parts_fit (fields_of classes class (pos n)) (fittings classes parts) before ≡ Some after → Stands before p t → p + length (form_bytes classes class (pos n) (form_of class) (writings classes parts) p t).0 ≤ last_place
        → IsWrittenAt (Composes (suc levels) classes) (in_slot (kinded (Inline c))) (Object class (pos n) parts) after p t (form_bytes classes class (pos n) (form_of class) (writings classes parts) p t)
    unfolding Composes
    own_written c before after p t is e s room =
        let b = form_bytes classes class (pos n) (form_of class) (writings classes parts) p t in
        let r = formed_written (Composes levels classes) classes class n parts ih some low same (form_of class) refl before after p t e s room in
        (subst (λ (k : List ℕ). Composes (suc levels) classes k p t (Object class (pos n) parts) b.0 b.1) is r.0, r.1)

    object_written : (way : Way) → IsWritten (Composes (suc levels) classes) way (Object class (pos n) parts) (object_fitting class (pos n) parts) (object_writing class (pos n) parts)
    object_written (in_slot (kinded (Inline c))) before after p t e s room =
        let f = named_as c class after (bytes_eq class c) (parts_fit (fields_of classes class (pos n)) (fittings classes parts) before) refl e in
        own_written c before after p t f.0 f.1 s room
    object_written (in_slot (based c version)) before after p t e s room =
        let f = based_as class c (int_eq (pos n) version) (parts_fit (fields_of classes class (pos n)) (fittings classes parts) before) after (bytes_eq class c) refl e in
        own_written c before after p t f.0 f.1 s room
    object_written other before after p t e s room = absurd cc

  -- ---- induction

  -- it is written at any levels that it has
  abbrev IsWrittenDeep : Value → Type 0
  IsWrittenDeep v = (levels : ℕ) → depth_of v ≤ levels → IsTrue (has_versions v) → IsWrittenAnywhere (Composes levels classes) classes v

  -- what is known of one layer is known of the value
  by_layer : (object : Spellings) (v : Value) (f : Fitting) (w : Writing) (way : Way) → fitting_of classes v ≡ f → writing_of classes v ≡ w → IsWritten object way v f w → IsWritten object way v (fitting_of classes v) (writing_of classes v)
  by_layer object v f w way is was h = subst (λ (g : Fitting). IsWritten object way v g (writing_of classes v)) (sym is) (subst (λ (u : Writing). IsWritten object way v f u) (sym was) h)

  abbrev pair_of : Part → List ℕ × Fitting
  pair_of p = fold-Part Fitting (List ℕ × Fitting) (fitting_step classes) (λ p. (p.name, p.value)) p

  part_fits : (p : Part) → pair_of p ≡ part_fitting classes p
  part_fits p = fold_out-Part Fitting (List ℕ × Fitting) (fitting_step classes) (λ p. (p.name, p.value)) p

  part_writes : (p : Part) → fold-Part Writing Writing (writing_step classes) (λ p. p.value) p ≡ writing_of classes p.value
  part_writes p = fold_out-Part Writing Writing (writing_step classes) (λ p. p.value) p

  pub fit_object : (class : List ℕ) (version : ℤ) (parts : List Part) → fitting_of classes (Object class version parts) ≡ object_fitting class version parts
  fit_object class version parts = fold_Object (fitting_step classes) (λ p. (p.name, p.value)) class version parts ∙ ap (λ (g : Part → List ℕ × Fitting). fitting_step classes (layer.Object class version (map g parts))) (λ i p. part_fits p i)

  pub write_object : (class : List ℕ) (version : ℤ) (parts : List Part) → writing_of classes (Object class version parts) ≡ object_writing class version parts
  write_object class version parts = fold_Object (writing_step classes) (λ p. p.value) class version parts ∙ ap (λ (g : Part → Writing). writing_step classes (layer.Object class version (map g parts))) (λ i p. part_writes p i)

  each_deep : (vs : List Value) (levels : ℕ) → Each IsWrittenDeep vs → greatest (map depth_of vs) ≤ levels → list_all (λ b. b) (map has_versions vs) ≡ true → Each (IsWrittenAnywhere (Composes levels classes) classes) vs
  each_deep [] levels known le versions = tt
  each_deep (v ∷ vs) levels known le versions =
      let e = and_parts (has_versions v) (list_all (λ b. b) (map has_versions vs)) versions in
      (known.0 levels (omega (arith, le)) e.0, each_deep vs levels known.1 (omega (arith, le)) e.1)

  each_part_deep : (ps : List Part) (levels : ℕ) → Each (λ y. IsWrittenDeep y.value) ps → greatest (map (λ y. depth_of y.value) ps) ≤ levels → list_all (λ b. b) (map (λ y. has_versions y.value) ps) ≡ true → Each (λ y. IsWrittenAnywhere (Composes levels classes) classes y.value) ps
  each_part_deep [] levels known le versions = tt
  each_part_deep (y ∷ ys) levels known le versions =
      let e = and_parts (has_versions y.value) (list_all (λ b. b) (map (λ y. has_versions y.value) ys)) versions in
      (known.0 levels (omega (arith, le)) e.0, each_part_deep ys levels known.1 (omega (arith, le)) e.1)

  opaque_written : (object : Spellings) (class : List ℕ) (len : ℕ) (way : Way) → IsWritten object way (Opaque class len) (fitting_step classes (layer.Opaque class len)) (writing_step classes (layer.Opaque class len))
  opaque_written object class len way before after p t e s room = absurd cc

  list_deep : (vs : List Value) → Each IsWrittenDeep vs → IsWrittenDeep (Items vs)
  list_deep vs known levels le versions way =
      let depth : depth_of (Items vs) ≡ greatest (map depth_of vs) = fold_List depth_step (λ p. p.value) vs in
      let all : list_all (λ b. b) (map has_versions vs) ≡ true = sym (fold_List versions_step (λ p. p.value) vs) ∙ versions in
      let items = each_deep vs levels known (omega (arith, le, depth)) all in
      by_layer (Composes levels classes) (Items vs) _ _ way (fold_List (fitting_step classes) (λ p. (p.name, p.value)) vs) (fold_List (writing_step classes) (λ p. p.value) vs) (list_written (Composes levels classes) classes vs items way)

  object_deep : (class : List ℕ) (version : ℤ) (parts : List Part) (levels : ℕ) → Each (λ y. IsWrittenDeep y.value) parts → greatest (map (λ y. depth_of y.value) parts) + 1 ≤ levels
      → (int_le (pos 1) version && int_le version (pos 65535)) ≡ true → list_all (λ b. b) (map (λ y. has_versions y.value) parts) ≡ true → (way : Way) → IsWritten (Composes levels classes) way (Object class version parts) (object_fitting class version parts) (object_writing class version parts)
  object_deep class version parts zero known le range all way = absurd (omega arith)
  object_deep class version parts (suc levels) known le range all way =
      let n = version_bytes version range in
      let items = each_part_deep parts levels known (omega (arith, le)) all in
      subst (λ (z : ℤ). IsWritten (Composes (suc levels) classes) way (Object class z parts) (object_fitting class z parts) (object_writing class z parts)) (sym n.1) (object_written levels class n.0 parts items n.2 n.3 n.4 way)

  object_of : (class : List ℕ) (version : ℤ) (parts : List Part) → Each (λ y. IsWrittenDeep y.value) parts → IsWrittenDeep (Object class version parts)
  object_of class version parts known levels le versions way =
      let depth : depth_of (Object class version parts) ≡ greatest (map (λ y. depth_of y.value) parts) + 1 =
      fold_Object depth_step (λ p. p.value) class version parts ∙ ap (λ (g : Part → ℕ). greatest (map g parts) + 1) (λ i p. part_depth p i) in
      let whole : (int_le (pos 1) version && int_le version (pos 65535) && list_all (λ b. b) (map (λ y. has_versions y.value) parts)) ≡ true =
      sym (fold_Object versions_step (λ p. p.value) class version parts ∙ ap (λ (g : Part → Bool). int_le (pos 1) version && int_le version (pos 65535) && list_all (λ b. b) (map g parts)) (λ i p. part_versions p i)) ∙ versions in
      let v = and_parts (int_le (pos 1) version && int_le version (pos 65535)) (list_all (λ b. b) (map (λ y. has_versions y.value) parts)) whole in
      by_layer (Composes levels classes) (Object class version parts) (object_fitting class version parts) (object_writing class version parts) way (fit_object class version parts) (write_object class version parts) (object_deep class version parts levels known (omega (arith, le, depth)) v.0 v.1 way)

  pointed_deep : (label : ℕ) (object : Value) → IsWrittenDeep object → IsWrittenDeep (Pointed label object)
  pointed_deep label object known levels le versions way =
      let depth : depth_of (Pointed label object) ≡ depth_of object = fold_Pointed depth_step (λ p. p.value) label object in
      let own : has_versions object ≡ true = sym (fold_Pointed versions_step (λ p. p.value) label object) ∙ versions in
      let inner = known levels (omega (arith, le, depth)) own in
      by_layer (Composes levels classes) (Pointed label object) _ _ way (fold_Pointed (fitting_step classes) (λ p. (p.name, p.value)) label object) (fold_Pointed (writing_step classes) (λ p. p.value) label object)
      (pointed_written (Composes levels classes) classes label object inner way)

  deep : Steps IsWrittenDeep
  deep = record {
    int = λ z levels le versions way. by_layer (Composes levels classes) (Int z) _ _ way (fold_Int (fitting_step classes) (λ p. (p.name, p.value)) z) (fold_Int (writing_step classes) (λ p. p.value) z) (int_written (Composes levels classes) classes z way);
    bits32 = λ n levels le versions way. by_layer (Composes levels classes) (Bits32 n) _ _ way (fold_Bits32 (fitting_step classes) (λ p. (p.name, p.value)) n) (fold_Bits32 (writing_step classes) (λ p. p.value) n) (bits32_written (Composes levels classes) classes n way);
    bits64 = λ n levels le versions way. by_layer (Composes levels classes) (Bits64 n) _ _ way (fold_Bits64 (fitting_step classes) (λ p. (p.name, p.value)) n) (fold_Bits64 (writing_step classes) (λ p. p.value) n) (bits64_written (Composes levels classes) classes n way);
    truth = λ b levels le versions way. by_layer (Composes levels classes) (Truth b) _ _ way (fold_Bool (fitting_step classes) (λ p. (p.name, p.value)) b) (fold_Bool (writing_step classes) (λ p. p.value) b) (truth_written (Composes levels classes) classes b way);
    text = λ t levels le versions way. by_layer (Composes levels classes) (Text t) _ _ way (fold_Text (fitting_step classes) (λ p. (p.name, p.value)) t) (fold_Text (writing_step classes) (λ p. p.value) t) (text_written (Composes levels classes) classes t way);
    list = list_deep;
    object = object_of;
    pointed = pointed_deep;
    null = λ levels le versions way. by_layer (Composes levels classes) Null _ _ way (fold_Null (fitting_step classes) (λ p. (p.name, p.value))) (fold_Null (writing_step classes) (λ p. p.value)) (null_written (Composes levels classes) classes way);
    back = λ l levels le versions way. by_layer (Composes levels classes) (Back l) _ _ way (fold_Back (fitting_step classes) (λ p. (p.name, p.value)) l) (fold_Back (writing_step classes) (λ p. p.value) l) (back_written (Composes levels classes) classes l way);
    opaque = λ class len levels le versions way. by_layer (Composes levels classes) (Opaque class len) _ _ way (fold_Opaque (fitting_step classes) (λ p. (p.name, p.value)) class len) (fold_Opaque (writing_step classes) (λ p. p.value) class len) (opaque_written (Composes levels classes) class len way);
  }

-- ---- the whole

pub written_is_spelled : WrittenIsSpelled
unfolding SpellsObject
written_is_spelled classes class start v fit le versions room =
    let w = writing_of classes v in
    let h = some_of ((fitting_of classes v).fits (kinded (Inline class)) []) fit in
    let same = inline_class classes v class [] h.0 h.1 in
    let room1 = subst (λ (c : List ℕ). start + length (w.bytes (kinded (Inline c)) start no_words).0 ≤ last_place) same room in
    let r = by_cases (IsWrittenDeep classes) (deep classes) v depth_limit le versions (in_slot (kinded (Inline class))) [] h.0 start no_words h.1 (stands_none start) room1 in
    let b = w.bytes (kinded (Inline class)) start no_words in
    let own : SpellsObject classes start class v b.0 = (b.1, ((object_in depth_limit classes class).into (start + length b.0) start no_words v b.0 b.1 (omega arith) r.0).so) in
    subst (λ (c : List ℕ). SpellsObject classes start class v (w.bytes (kinded (Inline c)) start no_words).0) (sym same) own

-- What is written for a pointer to an object that begins there spells it.
use Rattle.std.proofs.Common.{◌≡◌, ◌&&◌, ◌||◌, ◌==◌, inl, inr, ℕ, ◌+◌, ◌-◌, ◌^◌, ◌≤◌, ℤ, Bool, true, false, cond, eqb, List, [], ◌∷◌, ◌++◌, length, Option, Some, None, refl, sym, ap, subst, ◌∙◌, arith}
use Rattle.std.proofs.{lemmas.Bool.{and_parts, eqb-true, not-true}, lemmas.List.{length-append}}
use Rattle.std.specs.{Prelude.{slice_get}, List.{find, list_any}, Str.{bytes_eq}}
use Rattle.byteorder.specs.Endian.{big_bytes}
use Rattle.rio_format.specs.{declared.class.ClassDef.{ClassDef}, declared.kind.Kind.TheVariants.{Inline, Pointer}}
use Rattle.rio_format.specs.{declared.value.Value.{Value, Pointed, out-Value, map-Value, TheOpen.{Value-F}, TheFolds.{fold_out-Value, fold-Part}}, declared.value.Part.{Part}}
use Rattle.rio_format.specs.declared.value.Value.TheOpen as layer
use Rattle.rio_format.specs.Fits.{Labels, Fitting, pass, may_point, back_fits, pointed_fits, fitting_step, fitting_of}
use Rattle.rio_format.specs.{Slots.{kinded, any_pointer, can_be_word}, Written.{Writing, labelled, counted, both, writing_step, writing_of}, ReaderState.{WordsMet, with_label}, Writer.{class_by, class_bytes}}
use Rattle.rio_num.specs.Meanings.{HasNoZero}
use Rattle.rio_format.proofs.{Composed.{Spellings, SpellsClass, SpellsPointer, IsNew}, Tests.{named_as}, WrittenPlaces.{Stands, stands_more, stands_name, stands_label, named_before}}
use Rattle.rio_format.proofs.{WrittenWays.{Way, in_slot, fit_slot, SpellsWay, last_place, IsWrittenAt, IsWritten}, WrittenLists.{IsWrittenAnywhere, stands_at}}

-- ---- the class of an object

abbrev pub fit_layer : List ClassDef → Value-F Value Part → Fitting
fit_layer classes x = fitting_step classes (map-Value Value Part Fitting (List ℕ × Fitting) (fitting_of classes) (fold-Part Fitting (List ℕ × Fitting) (fitting_step classes) (λ p. (p.name, p.value))) x)

abbrev pub write_layer : List ClassDef → Value-F Value Part → Writing
write_layer classes x = writing_step classes (map-Value Value Part Writing Writing (writing_of classes) (fold-Part Writing Writing (writing_step classes) (λ p. p.value)) x)

-- only an object stands where its class is named
pub no_pointer : (classes : List ClassDef) (label : ℕ) (object : Fitting) (own : Option (List ℕ × ℤ)) (class : List ℕ) (before after : Labels) → pointed_fits classes label object own (kinded (Inline class)) before ≡ Some after → ⊥
no_pointer classes label object None class before after e = cc
no_pointer classes label object (Some own) class before after e = by (label == length before) e
  where
    by : (b : Bool) → cond (b && false) (object.fits (kinded (Inline own.0)) (before ++ own ∷ [])) None ≡ Some after → ⊥
    by true e = cc
    by false e = cc

pub no_reference : (classes : List ClassDef) (own : Option (List ℕ × ℤ)) (class : List ℕ) (before after : Labels) → pass (back_fits classes own (kinded (Inline class))) before ≡ Some after → ⊥
no_reference classes None class before after e = cc
no_reference classes (Some own) class before after e = cc

layer_class : (classes : List ClassDef) (x : Value-F Value Part) (class : List ℕ) (before after : Labels) → (fit_layer classes x).fits (kinded (Inline class)) before ≡ Some after → (write_layer classes x).class ≡ class
layer_class classes (layer.Int z) class before after e = absurd cc
layer_class classes (layer.Bits32 n) class before after e = absurd cc
layer_class classes (layer.Bits64 n) class before after e = absurd cc
layer_class classes (layer.Bool b) class before after e = absurd cc
layer_class classes (layer.Text t) class before after e = absurd cc
layer_class classes (layer.List vs) class before after e = absurd cc
layer_class classes (layer.Object own version parts) class before after e = (named_as class own after (bytes_eq own class) _ refl e).0
layer_class classes (layer.Pointed label object) class before after e = absurd (no_pointer classes label (fitting_of classes object) (fitting_of classes object).class class before after e)
layer_class classes layer.Null class before after e = absurd cc
layer_class classes (layer.Back label) class before after e = absurd (no_reference classes (slice_get before label) class before after e)
layer_class classes (layer.Opaque own len) class before after e = absurd cc

pub inline_class : (classes : List ClassDef) (v : Value) (class : List ℕ) (before after : Labels) → (fitting_of classes v).fits (kinded (Inline class)) before ≡ Some after → (writing_of classes v).class ≡ class
inline_class classes v class before after e =
    let fit = fold_out-Value Fitting (List ℕ × Fitting) (fitting_step classes) (λ p. (p.name, p.value)) v in
    let write = fold_out-Value Writing Writing (writing_step classes) (λ p. p.value) v in
    ap (λ (w : Writing). w.class) write ∙ layer_class classes (out-Value v) class before after (subst (λ (f : Fitting). f.fits (kinded (Inline class)) before ≡ Some after) fit e)

-- ---- class words

plain_by : (class : List ℕ) → list_any (λ b. b == 0) class ≡ false → HasNoZero class
plain_by [] e = tt
plain_by (b ∷ bs) e = by (b == 0) refl e (plain_by bs)
  where
    by : (c : Bool) → (b == 0) ≡ c → (c || list_any (λ b. b == 0) bs) ≡ false → (list_any (λ b. b == 0) bs ≡ false → HasNoZero bs) → ((b == 0) ≡ false) × HasNoZero bs
    by true t e rest = absurd cc
    by false t e rest = (t, rest e)

record IsClassWritten (labels : Labels) (class : List ℕ) (p : ℕ) (t : WordsMet) (b : List ℕ × WordsMet) : Type 0 where
  spelled : SpellsClass p t class b.0 b.1
  stands : Stands labels (p + length b.0) b.1
  same : b.1.labels ≡ t.labels

class_written_by : (labels : Labels) (class : List ℕ) (p : ℕ) (t : WordsMet) (o : Option (ℕ × List ℕ)) → find (λ e. bytes_eq e.1 class) t.names ≡ o → can_be_word class ≡ true → Stands labels p t → p + length (class_by class o p t).0 ≤ last_place → IsClassWritten labels class p t (class_by class o p t)
class_written_by labels class p t None look word s room = record {
  spelled = inl (record { plain = plain_by class (not-true _ word); spelled = refl; words = refl });
  stands = stands_name labels p (p + length (big_bytes 4 (2 ^ 32 - 1) ++ (class ++ 0 ∷ []))) class t (omega arith) s;
  same = refl;
}
class_written_by labels class p t (Some e) look word s room =
    let k = named_before p class t.names e s.names_below s.names_rising look in
    record { spelled = inr (record { place = e.0; known = k.known; low = omega (arith, k.low, room); spelled = refl; words = refl }); stands = stands_more labels p (p + 4) t (omega arith) s; same = refl }

-- ---- pointers

-- a slot for a pointer to an object of a class that a class word can spell
record IsPointerWay (object : Spellings) (own : List ℕ × ℤ) (way : Way) : Type 0 where
  word : can_be_word own.0 ≡ true
  gives : (p : ℕ) (t : WordsMet) (v : Value) (bytes : List ℕ) (t' : WordsMet) → SpellsPointer object p t v bytes t' → SpellsWay object way p t v bytes t'

pointer_way : (object : Spellings) (classes : List ClassDef) (own : List ℕ × ℤ) (way : Way) → may_point classes own (fit_slot way) ≡ true → IsPointerWay object own way
pointer_way object classes own (in_slot (kinded (Pointer c))) e = record { word = (and_parts _ _ e).0; gives = λ p t v bytes t' c. c }
pointer_way object classes own (in_slot any_pointer) e = record { word = (and_parts _ _ e).0; gives = λ p t v bytes t' c. c }
pointer_way object classes own other e = absurd cc

record PointsTo (label : ℕ) (before : Labels) (m : Bool) (o : Option Labels) (after : Labels) : Type 0 where
  label_is : label ≡ length before
  may : m ≡ true
  fits : o ≡ Some after

points_to : (label : ℕ) (before : Labels) (m : Bool) (o : Option Labels) (after : Labels) (b : Bool) → eqb label (length before) ≡ b → cond (b && m) o None ≡ Some after → PointsTo label before m o after
points_to label before true o after true t e = record { label_is = eqb-true _ _ t; may = refl; fits = e }
points_to label before false o after true t e = absurd cc
points_to label before m o after false t e = absurd cc

-- what is written for a pointer to an object of a class
abbrev pointed_of : List ℕ → Writing → ℕ → WordsMet → List ℕ × WordsMet
pointed_of class w p t = counted (both (class_bytes class) (labelled p (w.bytes (kinded (Inline class)))) (p + 4) t)

module _ (object : Spellings) (classes : List ClassDef) (label : ℕ) (v : Value) (ih : IsWrittenAnywhere object classes v) where
  new_written : (own : List ℕ × ℤ) (way : Way) (before after : Labels) (p : ℕ) (t : WordsMet) → PointsTo label before (may_point classes own (fit_slot way)) ((fitting_of classes v).fits (kinded (Inline own.0)) (before ++ own ∷ [])) after → Stands before p t
      → p + length (pointed_of own.0 (writing_of classes v) p t).0 ≤ last_place → IsWrittenAt object way (Pointed label v) after p t (pointed_of own.0 (writing_of classes v) p t)
  new_written own way before after p t f s room =
      let w = pointer_way object classes own way f.may in
      let a = class_bytes own.0 (p + 4) t in
      let q = p + 4 + length a.0 in
      let b = (writing_of classes v).bytes (kinded (Inline own.0)) q (with_label a.1 p) in
      let inner : List ℕ = a.0 ++ b.0 in
      let len = length-append a.0 b.0 in
      let k = class_written_by before own.0 (p + 4) t (find (λ e. bytes_eq e.1 own.0) t.names) refl w.word (stands_more before p (p + 4) t (omega arith) s) (omega (arith, room, len)) in
      let stands = stands_label before own p q t a.1 (omega arith) s k.same k.stands in
      let o = ih (in_slot (kinded (Inline own.0))) (before ++ own ∷ []) after q (with_label a.1 p) f.fits stands (omega (arith, room, len)) in
      let bytes = big_bytes 4 (length inner + 2 ^ 30) ++ inner in
      let made : IsNew object p t (Pointed label v) bytes b.1 = record {
        inner = v;
        name = own.0;
        class_bytes = a.0;
        object_bytes = b.0;
        t1 = a.1;
        value = ap (λ (l : ℕ). Pointed l v) (f.label_is ∙ sym s.count ∙ ap length (sym k.same));
        class = k.spelled;
        inside = o.0;
        count = omega (arith, room);
        spelled = refl;
      } in
      (w.gives p t (Pointed label v) bytes b.1 (inr (inr made)), stands_at after (q + length b.0) (p + length bytes) b.1 (omega (arith, len)) o.1)

  abbrev pointed_fitting : Fitting
  pointed_fitting = fitting_step classes (layer.Pointed label (fitting_of classes v))

  abbrev pointed_writing : Writing
  pointed_writing = writing_step classes (layer.Pointed label (writing_of classes v))

  pointed_by : (o : Option (List ℕ × ℤ)) (way : Way) (before after : Labels) (p : ℕ) (t : WordsMet) → pointed_fits classes label (fitting_of classes v) o (fit_slot way) before ≡ Some after → Stands before p t
      → p + length (pointed_of (writing_of classes v).class (writing_of classes v) p t).0 ≤ last_place → IsWrittenAt object way (Pointed label v) after p t (pointed_of (writing_of classes v).class (writing_of classes v) p t)
  pointed_by None way before after p t e s room = absurd cc
  pointed_by (Some own) way before after p t e s room =
      let f = points_to label before (may_point classes own (fit_slot way)) ((fitting_of classes v).fits (kinded (Inline own.0)) (before ++ own ∷ [])) after (label == length before) refl e in
      let class = inline_class classes v own.0 (before ++ own ∷ []) after f.fits in
      let w = writing_of classes v in
      let room1 = subst (λ (c : List ℕ). p + length (pointed_of c w p t).0 ≤ last_place) class room in
      subst (λ (c : List ℕ). IsWrittenAt object way (Pointed label v) after p t (pointed_of c w p t)) (sym class) (new_written own way before after p t f s room1)

  pub pointed_written : (way : Way) → IsWritten object way (Pointed label v) pointed_fitting pointed_writing
  pointed_written way before after p t e s room = pointed_by (fitting_of classes v).class way before after p t e s room

-- What is written for a value that fits is the same with one class more.
use Rattle.std.proofs.Common.{◌≡◌, ℕ, suc, ◌+◌, ℤ, pos, negsuc, List, [], ◌∷◌, ◌++◌, length, map, Bool, true, false, cond, ◌&&◌, ◌==◌, Option, Some, None, refl, sym, ap, subst, ◌∙◌}
use Rattle.std.specs.{Prelude.{slice_get, if◌then◌else◌, codes}, Map.{lookup}, Str.{bytes_eq}, Ordering.{int_eq}}
use Rattle.rio_format.specs.{declared.class.ClassDef.{ClassDef}, declared.kind.Kind.TheVariants.{Plain, Counter, Fixed, Counted, Text as Texted, Inline, Pointer, Other}}
use Rattle.rio_format.specs.{declared.kind.Primitive.{Primitive, TheVariants.{U32, I32}}, declared.value.Part.{Part}}
use Rattle.byteorder.specs.Endian.{big_bytes}
use Rattle.rio_num.proofs.Cases.{if_some, some_of}
use Rattle.rio_format.specs.{declared.value.Value.{Value, Int, Bits32, Bits64, Bool as Truth, Text, List as Items, Object, Pointed, Null, Back, Opaque}, ReaderState.{no_words}, Writer.{class_bytes}}
use Rattle.rio_format.proofs.ValueCases.{Each, by_cases, fold_Int, fold_Bits32, fold_Bits64, fold_Bool, fold_Text, fold_List, fold_Pointed, fold_Null, fold_Back, fold_Opaque}
use Rattle.rio_format.proofs.{WrittenValues.{fit_object, write_object}, WrittenPointers.{inline_class}}
use Rattle.rio_format.specs.{declared.form.Form.{Form, TheVariants.{Bare as bare, Numbers as numbers, Headed as headed}}, Bodies.{Body, Counters, described, listed, arrayed, opaque, form_of, t_object_base}}
use Rattle.rio_format.specs.Fits.{Fitting, Labels, all_fit, back_fits, fits, may_point, pointed_fits, counted_slot, counted_so_far, fields_fit, fitting_of, fitting_step, fixed_by, int_fits, link_fits, list_fits, object_may_stand, parts_fit, pass}
use Rattle.rio_format.specs.Slots.{Field, base_field, body_fields, declared_body, field, form_fields, member_field, Slot, kinded, based, flags, any_pointer, link, many}
use Rattle.rio_format.specs.Written.{Writing, all, number_array_bytes, arrayed_bytes, bare_bytes, body_bytes, both, form_bytes, headed_bytes, listed_bytes, counted_bytes, fields_bytes, just, link_bytes, list_bytes, counted, labelled, pointed_bytes, written_form, writing_of, writing_step}
use Rattle.rio_step.proofs.{FitLaws.{body_more}, GrowthLaws.{then_some}}
use Rattle.rio_step.specs.Laws.{WrittenStays}

-- wherever a value fits, two writings of it are the same
pub record Writes (f : Fitting) (w u : Writing) : Type 0 where
  pub class : w.class ≡ u.class
  pub count : w.count ≡ u.count
  pub bytes : (slot : Slot) (labels after : Labels) → f.fits slot labels ≡ Some after → w.bytes slot ≡ u.bytes slot
  pub counted : (of : Primitive) (counter : List ℕ) (n : ℕ) (labels after : Labels) → f.fits (kinded (Fixed of n)) labels ≡ Some after → w.bytes (kinded (Counted of counter)) ≡ u.bytes (kinded (Counted of counter))
  pub nothing : (code : ℤ) (labels after : Labels) → f.fits (kinded (Other code)) labels ≡ Some after → ⊥

-- ---- lists

pub AllWrite : List Fitting → List Writing → List Writing → Type 0
AllWrite [] [] [] = Unit {0}
AllWrite (f ∷ fs) (w ∷ ws) (u ∷ us) = Writes f w u × AllWrite fs ws us
AllWrite fs ws us = ⊥

all_write : (slot : Slot) (fs : List Fitting) (ws us : List Writing) → AllWrite fs ws us → (labels after : Labels) → all_fit slot fs labels ≡ Some after → all slot ws ≡ all slot us
unfolding AllWrite
all_write slot [] [] [] known labels after e = refl
all_write slot (f ∷ fs) (w ∷ ws) (u ∷ us) known labels after e =
    let first = then_some (all_fit slot fs) (f.fits slot labels) after e in
    let own = known.0.bytes slot labels first.0 first.1 in
    let later = all_write slot fs ws us known.1 first.0 after first.2 in
    λ i. both (own i) (later i)
all_write slot [] [] (u ∷ us) known labels after e = absurd known
all_write slot [] (w ∷ ws) us known labels after e = absurd known
all_write slot (f ∷ fs) [] us known labels after e = absurd known
all_write slot (f ∷ fs) (w ∷ ws) [] known labels after e = absurd known

counted_write : (of : Primitive) (fs : List Fitting) (ws us : List Writing) → AllWrite fs ws us → (labels after : Labels) → all_fit (kinded (Plain of)) fs labels ≡ Some after → counted_bytes of ws ≡ counted_bytes of us
unfolding AllWrite
counted_write of [] [] [] known labels after e = refl
counted_write of (f ∷ fs) (w ∷ ws) (u ∷ us) known labels after e =
    let all_same = all_write (kinded (Plain of)) (f ∷ fs) (w ∷ ws) (u ∷ us) known labels after e in
    λ i. both (just (1 ∷ [])) (all_same i)
counted_write of [] [] (u ∷ us) known labels after e = absurd known
counted_write of [] (w ∷ ws) us known labels after e = absurd known
counted_write of (f ∷ fs) [] us known labels after e = absurd known
counted_write of (f ∷ fs) (w ∷ ws) [] known labels after e = absurd known

link_write : (fs : List Fitting) (ws us : List Writing) → AllWrite fs ws us → (labels after : Labels) → link_fits fs labels ≡ Some after → link_bytes ws ≡ link_bytes us
unfolding AllWrite
link_write (a ∷ b ∷ []) (w ∷ x ∷ []) (u ∷ v ∷ []) known labels after e =
    let first = then_some (b.fits (kinded Texted)) (a.fits any_pointer labels) after e in
    let pointer = known.0.bytes any_pointer labels first.0 first.1 in
    let text = known.1.0.bytes (kinded Texted) first.0 after first.2 in
    λ i. both (pointer i) (text i)
link_write [] ws us known labels after e = absurd cc
link_write (a ∷ []) ws us known labels after e = absurd cc
link_write (a ∷ b ∷ c ∷ fs) ws us known labels after e = absurd cc
link_write (a ∷ b ∷ []) [] us known labels after e = absurd known
link_write (a ∷ b ∷ []) (w ∷ ws) [] known labels after e = absurd known
link_write (a ∷ b ∷ []) (w ∷ []) (u ∷ us) known labels after e = absurd known.1
link_write (a ∷ b ∷ []) (w ∷ x ∷ ws) (u ∷ []) known labels after e = absurd known.1
link_write (a ∷ b ∷ []) (w ∷ x ∷ y ∷ ws) (u ∷ v ∷ us) known labels after e = absurd known.1.1
link_write (a ∷ b ∷ []) (w ∷ x ∷ []) (u ∷ v ∷ z ∷ us) known labels after e = absurd known.1.1

list_write : (fs : List Fitting) (ws us : List Writing) → AllWrite fs ws us → (slot : Slot) (labels after : Labels) → list_fits fs slot labels ≡ Some after → list_bytes ws slot ≡ list_bytes us slot
list_write fs ws us known (kinded (Fixed of count)) labels after e = all_write (kinded (Plain of)) fs ws us known labels after (if_some (length fs == count) _ after e)
list_write fs ws us known link labels after e = link_write fs ws us known labels after e
list_write fs ws us known (many slot) labels after e = all_write slot fs ws us known labels after e
list_write fs ws us known (kinded (Plain of)) labels after e = absurd cc
list_write fs ws us known (kinded Counter) labels after e = absurd cc
list_write fs ws us known (kinded (Counted of counter)) labels after e = absurd cc
list_write fs ws us known (kinded Texted) labels after e = absurd cc
list_write fs ws us known (kinded (Inline class)) labels after e = absurd cc
list_write fs ws us known (kinded (Pointer class)) labels after e = absurd cc
list_write fs ws us known (kinded (Other code)) labels after e = absurd cc
list_write fs ws us known (based class version) labels after e = absurd cc
list_write fs ws us known flags labels after e = absurd cc
list_write fs ws us known any_pointer labels after e = absurd cc

same_count : (fs : List Fitting) (ws us : List Writing) → AllWrite fs ws us → length ws ≡ length us
unfolding AllWrite
same_count [] [] [] known = refl
same_count (f ∷ fs) (w ∷ ws) (u ∷ us) known = ap suc (same_count fs ws us known.1)
same_count [] [] (u ∷ us) known = absurd known
same_count [] (w ∷ ws) us known = absurd known
same_count (f ∷ fs) [] us known = absurd known
same_count (f ∷ fs) (w ∷ ws) [] known = absurd known

-- ---- fields

FieldsWrite : List (List ℕ × Fitting) → List Writing → List Writing → Type 0
FieldsWrite [] [] [] = Unit {0}
FieldsWrite (y ∷ ys) (w ∷ ws) (u ∷ us) = Writes y.1 w u × FieldsWrite ys ws us
FieldsWrite ys ws us = ⊥

-- a value in its field: a counted list is as long as its counter says
field_write : (f : Fitting) (w u : Writing) → Writes f w u → (counters : Counters) (slot : Slot) (labels after : Labels) → f.fits (counted_slot counters slot) labels ≡ Some after → w.bytes slot ≡ u.bytes slot
field_write f w u known counters (kinded (Counted of counter)) labels after e = by (lookup (bytes_eq counter) counters) e
  where
    by : (z : Option ℤ) → f.fits (fixed_by of z) labels ≡ Some after → w.bytes (kinded (Counted of counter)) ≡ u.bytes (kinded (Counted of counter))
    by (Some (pos n)) h = known.counted of counter n labels after h
    by (Some (negsuc n)) h = absurd (known.nothing (pos 0) labels after h)
    by None h = absurd (known.nothing (pos 0) labels after h)
field_write f w u known counters (kinded (Plain of)) labels after e = known.bytes (kinded (Plain of)) labels after e
field_write f w u known counters (kinded Counter) labels after e = known.bytes (kinded Counter) labels after e
field_write f w u known counters (kinded (Fixed of n)) labels after e = known.bytes (kinded (Fixed of n)) labels after e
field_write f w u known counters (kinded Texted) labels after e = known.bytes (kinded Texted) labels after e
field_write f w u known counters (kinded (Inline c)) labels after e = known.bytes (kinded (Inline c)) labels after e
field_write f w u known counters (kinded (Pointer c)) labels after e = known.bytes (kinded (Pointer c)) labels after e
field_write f w u known counters (kinded (Other c)) labels after e = known.bytes (kinded (Other c)) labels after e
field_write f w u known counters (based c version) labels after e = known.bytes (based c version) labels after e
field_write f w u known counters flags labels after e = known.bytes flags labels after e
field_write f w u known counters any_pointer labels after e = known.bytes any_pointer labels after e
field_write f w u known counters link labels after e = known.bytes link labels after e
field_write f w u known counters (many slot) labels after e = known.bytes (many slot) labels after e

-- the first field fits, and the others behind it
first_field : (f : Field) (fs : List Field) (y : List ℕ × Fitting) (ys : List (List ℕ × Fitting)) (counters : Counters) (labels after : Labels) → fields_fit (f ∷ fs) (y ∷ ys) counters labels ≡ Some after
    → (mid : Labels) × (y.1.fits (counted_slot counters f.slot) labels ≡ Some mid) × (fields_fit fs ys (counted_so_far f y.1.number counters) mid ≡ Some after)
first_field f fs y ys counters labels after e = then_some (fields_fit fs ys (counted_so_far f y.1.number counters)) (y.1.fits (counted_slot counters f.slot) labels) after (if_some (bytes_eq y.0 f.name) _ after e)

fields_write : (fs : List Field) (ys : List (List ℕ × Fitting)) (ws us : List Writing) → FieldsWrite ys ws us → (counters : Counters) (labels after : Labels) → fields_fit fs ys counters labels ≡ Some after → fields_bytes fs ws ≡ fields_bytes fs us
unfolding FieldsWrite
fields_write [] ys ws us known counters labels after e = refl
fields_write (f ∷ fs) [] ws us known counters labels after e = absurd cc
fields_write (f ∷ fs) (y ∷ ys) (w ∷ ws) (u ∷ us) known counters labels after e =
    let first = first_field f fs y ys counters labels after e in
    let own = field_write y.1 w u known.0 counters f.slot labels first.0 first.1 in
    let later = fields_write fs ys ws us known.1 (counted_so_far f y.1.number counters) first.0 after first.2 in
    λ i. both (own i) (later i)
fields_write (f ∷ fs) (y ∷ ys) [] us known counters labels after e = absurd known
fields_write (f ∷ fs) (y ∷ ys) (w ∷ ws) [] known counters labels after e = absurd known

-- ---- objects

module _ (classes : List ClassDef) (class : ClassDef) where
  abbrev more : List ClassDef
  more = classes ++ class ∷ []

  -- a value that fits is written as it was
  Same : Value → Type 0
  Same v = Writes (fitting_of classes v) (writing_of classes v) (writing_of more v)

  abbrev fit_parts : List Part → List (List ℕ × Fitting)
  fit_parts ps = map (λ p. (p.name, fitting_of classes p.value)) ps

  abbrev old_parts : List Part → List Writing
  old_parts ps = map (λ p. writing_of classes p.value) ps

  abbrev new_parts : List Part → List Writing
  new_parts ps = map (λ p. writing_of more p.value) ps

  parts_write : (ps : List Part) → Each (λ p. Same p.value) ps → FieldsWrite (fit_parts ps) (old_parts ps) (new_parts ps)
  unfolding FieldsWrite Same
  parts_write [] known = tt
  parts_write (p ∷ ps) known = (known.0, parts_write ps known.1)

  values_write : (vs : List Value) → Each Same vs → AllWrite (map (fitting_of classes) vs) (map (writing_of classes) vs) (map (writing_of more) vs)
  unfolding AllWrite Same
  values_write [] known = tt
  values_write (v ∷ vs) known = (known.0, values_write vs known.1)

  own_field : (p : Part) → Same p.value → (f : Field) (counters : Counters) (labels mid : Labels) → (fitting_of classes p.value).fits (counted_slot counters f.slot) labels ≡ Some mid → (writing_of classes p.value).bytes f.slot ≡ (writing_of more p.value).bytes f.slot
  unfolding Same
  own_field p known f counters labels mid e = field_write (fitting_of classes p.value) (writing_of classes p.value) (writing_of more p.value) known counters f.slot labels mid e

  own_count : (p : Part) → Same p.value → (writing_of classes p.value).count ≡ (writing_of more p.value).count
  unfolding Same
  own_count p known = known.count

  bare_write : (f g : Field) (ps : List Part) → Each (λ p. Same p.value) ps → f.slot ≡ kinded (Plain U32) → g.slot ≡ flags → (labels after : Labels) → fields_fit (f ∷ g ∷ []) (fit_parts ps) [] labels ≡ Some after → bare_bytes (old_parts ps) ≡ bare_bytes (new_parts ps)
  bare_write f g [] known is was labels after e = absurd cc
  bare_write f g (a ∷ []) known is was labels after e =
      let first = first_field f (g ∷ []) (a.name, fitting_of classes a.value) [] [] labels after e in
      let none = first.2 in
      absurd cc
  bare_write f g (a ∷ b ∷ c ∷ ps) known is was labels after e =
      let first = first_field f (g ∷ []) (a.name, fitting_of classes a.value) (fit_parts (b ∷ c ∷ ps)) [] labels after e in
      let second = first_field g [] (b.name, fitting_of classes b.value) (fit_parts (c ∷ ps)) _ first.0 after first.2 in
      let none = second.2 in
      absurd cc
  bare_write f g (a ∷ b ∷ []) known is was labels after e =
      let first = first_field f (g ∷ []) (a.name, fitting_of classes a.value) (fit_parts (b ∷ [])) [] labels after e in
      let second = first_field g [] (b.name, fitting_of classes b.value) [] _ first.0 after first.2 in
      let id = subst (λ s. (writing_of classes a.value).bytes s ≡ (writing_of more a.value).bytes s) is (own_field a known.0 f [] labels first.0 first.1) in
      let bits = subst (λ s. (writing_of classes b.value).bytes s ≡ (writing_of more b.value).bytes s) was (own_field b known.1.0 g _ first.0 second.0 second.1) in
      λ i. both (just (big_bytes 2 1)) (both (id i) (bits i))

  array_write : (of : Primitive) (f : Field) (ps : List Part) → Each (λ p. Same p.value) ps → f.slot ≡ many (kinded (Plain of)) → (labels after : Labels) → fields_fit (f ∷ []) (fit_parts ps) [] labels ≡ Some after → number_array_bytes of (old_parts ps) ≡ number_array_bytes of (new_parts ps)
  array_write of f [] known is labels after e = absurd cc
  array_write of f (a ∷ b ∷ ps) known is labels after e =
      let first = first_field f [] (a.name, fitting_of classes a.value) (fit_parts (b ∷ ps)) [] labels after e in
      let none = first.2 in
      absurd cc
  array_write of f (a ∷ []) known is labels after e =
      let first = first_field f [] (a.name, fitting_of classes a.value) [] [] labels after e in
      let items = subst (λ s. (writing_of classes a.value).bytes s ≡ (writing_of more a.value).bytes s) is (own_field a known.0 f [] labels first.0 first.1) in
      let count = own_count a known.0 in
      λ i. both (just (big_bytes 4 (count i))) (items i)

  -- the parts are as many as the fields, and each is written as it was
  AreSame : List Field → List Part → Type 0
  AreSame [] [] = Unit {0}
  AreSame (f ∷ fs) (p ∷ ps) = ((writing_of classes p.value).bytes f.slot ≡ (writing_of more p.value).bytes f.slot) × ((writing_of classes p.value).count ≡ (writing_of more p.value).count) × AreSame fs ps
  AreSame fs ps = ⊥

  are_same : (fs : List Field) (ps : List Part) → Each (λ p. Same p.value) ps → (counters : Counters) (labels after : Labels) → fields_fit fs (fit_parts ps) counters labels ≡ Some after → AreSame fs ps
  unfolding AreSame
  are_same [] [] known counters labels after e = tt
  are_same [] (p ∷ ps) known counters labels after e = absurd cc
  are_same (f ∷ fs) [] known counters labels after e = absurd cc
  are_same (f ∷ fs) (p ∷ ps) known counters labels after e =
      let first = first_field f fs (p.name, fitting_of classes p.value) (fit_parts ps) counters labels after e in
      (own_field p known.0 f counters labels first.0 first.1, own_count p known.0, are_same fs ps known.1 _ first.0 after first.2)

  abbrev listed_fields : List Field
  listed_fields = base_field t_object_base ∷ field (codes "fName") (kinded Texted) ∷ field (codes "items") (many link) ∷ []

  listed_write : (ps : List Part) → AreSame listed_fields ps → listed_bytes (old_parts ps) ≡ listed_bytes (new_parts ps)
  unfolding AreSame
  listed_write [] same = absurd same
  listed_write (a ∷ []) same = absurd same.2
  listed_write (a ∷ b ∷ []) same = absurd same.2.2
  listed_write (a ∷ b ∷ c ∷ d ∷ ps) same = absurd same.2.2.2
  listed_write (a ∷ b ∷ c ∷ []) same =
      let base = same.0 in
      let name = same.2.0 in
      let items = same.2.2.0 in
      let count = same.2.2.1 in
      λ i. both (base i) (both (name i) (both (just (big_bytes 4 (count i))) (items i)))

  abbrev arrayed_fields : List Field
  arrayed_fields = base_field t_object_base ∷ field (codes "fName") (kinded Texted) ∷ field (codes "fLowerBound") (kinded (Plain I32)) ∷ field (codes "items") (many any_pointer) ∷ []

  arrayed_write : (ps : List Part) → AreSame arrayed_fields ps → arrayed_bytes (old_parts ps) ≡ arrayed_bytes (new_parts ps)
  unfolding AreSame
  arrayed_write [] same = absurd same
  arrayed_write (a ∷ []) same = absurd same.2
  arrayed_write (a ∷ b ∷ []) same = absurd same.2.2
  arrayed_write (a ∷ b ∷ c ∷ []) same = absurd same.2.2.2
  arrayed_write (a ∷ b ∷ c ∷ d ∷ x ∷ ps) same = absurd same.2.2.2.2
  arrayed_write (a ∷ b ∷ c ∷ d ∷ []) same =
      let base = same.0 in
      let name = same.2.0 in
      let lower = same.2.2.0 in
      let items = same.2.2.2.0 in
      let count = same.2.2.2.1 in
      λ i. both (base i) (both (name i) (both (just (big_bytes 4 (count i))) (both (lower i) (items i))))

  body_write : (body : Option Body) (ps : List Part) → Each (λ p. Same p.value) ps → (labels after : Labels) → parts_fit (body_fields body) (fit_parts ps) labels ≡ Some after → body_bytes body (old_parts ps) ≡ body_bytes body (new_parts ps)
  body_write None ps known labels after e = absurd cc
  body_write (Some opaque) ps known labels after e = absurd cc
  body_write (Some (described c)) ps known labels after e =
      fields_write (map base_field c.bases ++ map member_field c.members) (fit_parts ps) (old_parts ps) (new_parts ps) (parts_write ps known) [] labels after e
  body_write (Some listed) ps known labels after e = listed_write ps (are_same listed_fields ps known [] labels after e)
  body_write (Some arrayed) ps known labels after e = arrayed_write ps (are_same arrayed_fields ps known [] labels after e)

  some_fields : (body : Option Body) (ys : List (List ℕ × Fitting)) (labels after : Labels) → parts_fit (body_fields body) ys labels ≡ Some after → (b : Body) × (body ≡ Some b)
  some_fields None ys labels after e = absurd cc
  some_fields (Some b) ys labels after e = (b, refl)

  headed_write : (name : List ℕ) (version : ℤ) (ps : List Part) → Each (λ p. Same p.value) ps → (labels after : Labels) → parts_fit (body_fields (declared_body classes name version)) (fit_parts ps) labels ≡ Some after
      → body_bytes (declared_body classes name version) (old_parts ps) ≡ body_bytes (declared_body more name version) (new_parts ps)
  headed_write name version ps known labels after e =
      let own = some_fields (declared_body classes name version) (fit_parts ps) labels after e in
      let kept : declared_body more name version ≡ declared_body classes name version = body_more classes class name version own.0 own.1 ∙ sym own.1 in
      body_write (declared_body classes name version) ps known labels after e ∙ ap (λ b. body_bytes b (new_parts ps)) (sym kept)

  one_version : (b : Bool) (fs : List Field) (ys : List (List ℕ × Fitting)) (labels after : Labels) → parts_fit (if b then Some fs else None) ys labels ≡ Some after → fields_fit fs ys [] labels ≡ Some after
  one_version true fs ys labels after e = e
  one_version false fs ys labels after e = absurd cc

  form_write : (name : List ℕ) (version : ℤ) (form : Form) (ps : List Part) → Each (λ p. Same p.value) ps → (labels after : Labels) → parts_fit (form_fields classes name version form) (fit_parts ps) labels ≡ Some after
      → form_bytes classes name version form (old_parts ps) ≡ form_bytes more name version form (new_parts ps)
  form_write name version bare ps known labels after e =
      bare_write (field (codes "fUniqueID") (kinded (Plain U32))) (field (codes "fBits") flags) ps known refl refl labels after (one_version (int_eq version (pos 1)) _ (fit_parts ps) labels after e)
  form_write name version (numbers of) ps known labels after e =
      array_write of (field (codes "items") (many (kinded (Plain of)))) ps known refl labels after (one_version (int_eq version (pos 1)) _ (fit_parts ps) labels after e)
  form_write name version headed ps known labels after e =
      let body = headed_write name version ps known labels after e in
      λ i. headed_bytes version (body i)

  -- ---- values

  alone : (v : Value) (f : Fitting) (w : Writing) → fitting_of classes v ≡ f → writing_of classes v ≡ w → writing_of more v ≡ w → ((code : ℤ) (labels after : Labels) → f.fits (kinded (Other code)) labels ≡ Some after → ⊥) → Same v
  unfolding Same
  alone v f w is was now nothing =
      let own : Writes f w w = record { class = refl; count = refl; bytes = λ slot labels after e. refl; counted = λ of counter n labels after e. refl; nothing = nothing } in
      subst (λ (x : Fitting). Writes x (writing_of classes v) (writing_of more v)) (sym is) (subst (λ (x : Writing). Writes f x (writing_of more v)) (sym was) (subst (λ (x : Writing). Writes f w x) (sym now) own))

  given : (v : Value) (f : Fitting) (w u : Writing) → fitting_of classes v ≡ f → writing_of classes v ≡ w → writing_of more v ≡ u → Writes f w u → Same v
  unfolding Same
  given v f w u is was now known =
      subst (λ (x : Fitting). Writes x (writing_of classes v) (writing_of more v)) (sym is) (subst (λ (x : Writing). Writes f x (writing_of more v)) (sym was) (subst (λ (x : Writing). Writes f w x) (sym now) known))

  int_same : (z : ℤ) → Same (Int z)
  int_same z = alone (Int z) _ _ (fold_Int (fitting_step classes) (λ p. (p.name, p.value)) z) (fold_Int (writing_step classes) (λ p. p.value) z) (fold_Int (writing_step more) (λ p. p.value) z) (nothing z)
    where
      nothing : (z : ℤ) (code : ℤ) (labels after : Labels) → pass (int_fits z (kinded (Other code))) labels ≡ Some after → ⊥
      nothing (pos n) code labels after e = absurd cc
      nothing (negsuc n) code labels after e = absurd cc

  list_same : (vs : List Value) → Each Same vs → Same (Items vs)
  list_same vs known =
      let all_same = values_write vs known in
      given (Items vs) _ _ _ (fold_List (fitting_step classes) (λ p. (p.name, p.value)) vs) (fold_List (writing_step classes) (λ p. p.value) vs) (fold_List (writing_step more) (λ p. p.value) vs)
      (record {
        class = refl;
        count = same_count _ _ _ all_same;
        bytes = λ slot labels after e. list_write _ _ _ all_same slot labels after e;
        counted = λ of counter n labels after e. counted_write of _ _ _ all_same labels after (if_some (length (map (fitting_of classes) vs) == n) _ after e);
        nothing = λ code labels after e. cc;
      })

  object_same : (name : List ℕ) (version : ℤ) (ps : List Part) → Each (λ p. Same p.value) ps → Same (Object name version ps)
  object_same name version ps known =
      given (Object name version ps) _ _ _ (fit_object classes name version ps) (write_object classes name version ps) (write_object more name version ps)
      (record {
        class = refl;
        count = refl;
        bytes = λ slot labels after e. form_write name version (form_of name) ps known labels after (if_some (object_may_stand name version slot) _ after e);
        counted = λ of counter n labels after e. absurd cc;
        nothing = λ code labels after e. absurd cc;
      })

  -- the object that a pointer points to, where the pointer fits
  object_there : (label : ℕ) (object : Fitting) (own : Option (List ℕ × ℤ)) (slot : Slot) (labels after : Labels) → pointed_fits classes label object own slot labels ≡ Some after
      → (name : List ℕ) × (before : Labels) × (object.fits (kinded (Inline name)) before ≡ Some after)
  object_there label object None slot labels after e = absurd cc
  object_there label object (Some own) slot labels after e = (own.0, labels ++ own ∷ [], if_some (label == length labels && may_point classes own slot) _ after e)

  never_true : (b : Bool) (x : Option Labels) (after : Labels) → cond (b && false) x None ≡ Some after → ⊥
  never_true true x after e = absurd cc
  never_true false x after e = absurd cc

  no_pointer : (label : ℕ) (object : Fitting) (own : Option (List ℕ × ℤ)) (code : ℤ) (labels after : Labels) → pointed_fits classes label object own (kinded (Other code)) labels ≡ Some after → ⊥
  no_pointer label object None code labels after e = absurd cc
  no_pointer label object (Some own) code labels after e = never_true (label == length labels) _ after e

  pointer_bytes : (object : Value) → Same object → (slot : Slot) (label : ℕ) (labels after : Labels) → pointed_fits classes label (fitting_of classes object) (fitting_of classes object).class slot labels ≡ Some after
      → pointed_bytes (writing_of classes object) ≡ pointed_bytes (writing_of more object)
  unfolding Same
  pointer_bytes object known slot label labels after e =
      let there = object_there label (fitting_of classes object) (fitting_of classes object).class slot labels after e in
      let named = inline_class classes object there.0 there.1 after there.2 in
      let class_same = known.class in
      let inner : (writing_of classes object).bytes (kinded (Inline (writing_of classes object).class)) ≡ (writing_of more object).bytes (kinded (Inline (writing_of more object).class)) =
      ap (λ n. (writing_of classes object).bytes (kinded (Inline n))) named ∙ known.bytes (kinded (Inline there.0)) there.1 after there.2
      ∙ ap (λ n. (writing_of more object).bytes (kinded (Inline n))) (sym named ∙ class_same) in
      λ i p t. counted (both (class_bytes (class_same i)) (labelled p (inner i)) (p + 4) t)

  pointed_same : (label : ℕ) (object : Value) → Same object → Same (Pointed label object)
  pointed_same label object known =
      given (Pointed label object) _ _ _ (fold_Pointed (fitting_step classes) (λ p. (p.name, p.value)) label object) (fold_Pointed (writing_step classes) (λ p. p.value) label object) (fold_Pointed (writing_step more) (λ p. p.value) label object)
      (record {
        class = refl;
        count = refl;
        bytes = λ slot labels after e. pointer_bytes object known slot label labels after e;
        counted = λ of counter n labels after e. pointer_bytes object known (kinded (Fixed of n)) label labels after e;
        nothing = λ code labels after e. no_pointer label (fitting_of classes object) (fitting_of classes object).class code labels after e;
      })

  no_reference : (own : Option (List ℕ × ℤ)) (code : ℤ) (labels after : Labels) → pass (back_fits classes own (kinded (Other code))) labels ≡ Some after → ⊥
  no_reference None code labels after e = absurd cc
  no_reference (Some own) code labels after e = absurd cc

  each_same : (v : Value) → Same v
  each_same = by_cases Same (record {
    int = int_same;
    bits32 = λ n. alone (Bits32 n) _ _ (fold_Bits32 (fitting_step classes) (λ p. (p.name, p.value)) n) (fold_Bits32 (writing_step classes) (λ p. p.value) n) (fold_Bits32 (writing_step more) (λ p. p.value) n) (λ code labels after e. absurd cc);
    bits64 = λ n. alone (Bits64 n) _ _ (fold_Bits64 (fitting_step classes) (λ p. (p.name, p.value)) n) (fold_Bits64 (writing_step classes) (λ p. p.value) n) (fold_Bits64 (writing_step more) (λ p. p.value) n) (λ code labels after e. absurd cc);
    truth = λ b. alone (Truth b) _ _ (fold_Bool (fitting_step classes) (λ p. (p.name, p.value)) b) (fold_Bool (writing_step classes) (λ p. p.value) b) (fold_Bool (writing_step more) (λ p. p.value) b) (λ code labels after e. absurd cc);
    text = λ t. alone (Text t) _ _ (fold_Text (fitting_step classes) (λ p. (p.name, p.value)) t) (fold_Text (writing_step classes) (λ p. p.value) t) (fold_Text (writing_step more) (λ p. p.value) t) (λ code labels after e. absurd cc);
    list = list_same;
    object = object_same;
    pointed = pointed_same;
    null = alone Null _ _ (fold_Null (fitting_step classes) (λ p. (p.name, p.value))) (fold_Null (writing_step classes) (λ p. p.value)) (fold_Null (writing_step more) (λ p. p.value)) (λ code labels after e. absurd cc);
    back = λ label. alone (Back label) _ _ (fold_Back (fitting_step classes) (λ p. (p.name, p.value)) label) (fold_Back (writing_step classes) (λ p. p.value) label) (fold_Back (writing_step more) (λ p. p.value) label) (λ code labels after e. no_reference (slice_get labels label) code labels after e);
    opaque = λ c n. alone (Opaque c n) _ _ (fold_Opaque (fitting_step classes) (λ p. (p.name, p.value)) c n) (fold_Opaque (writing_step classes) (λ p. p.value) c n) (fold_Opaque (writing_step more) (λ p. p.value) c n) (λ code labels after e. absurd cc);
  })

  pub written_same : (own : List ℕ) (v : Value) (start : ℕ) → fits classes own v ≡ true → written_form more start v ≡ written_form classes start v
  unfolding Same
  written_same own v start e =
      let there = some_of ((fitting_of classes v).fits (kinded (Inline own)) []) e in
      let known = each_same v in
      let named = inline_class classes v own [] there.0 there.1 in
      let bytes : (writing_of more v).bytes (kinded (Inline (writing_of more v).class)) ≡ (writing_of classes v).bytes (kinded (Inline (writing_of classes v).class)) =
      ap (λ n. (writing_of more v).bytes (kinded (Inline n))) (sym known.class ∙ named) ∙ sym (known.bytes (kinded (Inline own)) [] there.0 there.1) ∙ ap (λ n. (writing_of classes v).bytes (kinded (Inline n))) (sym named) in
      λ i. (bytes i start no_words).0

pub slot_written : (classes : List ClassDef) (class : ClassDef) (v : Value) (slot : Slot) (labels after : Labels) → (fitting_of classes v).fits slot labels ≡ Some after → (writing_of (classes ++ class ∷ []) v).bytes slot ≡ (writing_of classes v).bytes slot
unfolding Same
slot_written classes class v slot labels after e = sym ((each_same classes class v).bytes slot labels after e)

pub written_stays : WrittenStays
written_stays classes class own v start e = written_same classes class own v start e

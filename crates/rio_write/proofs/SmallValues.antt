-- Values without pointers fit and are written alike, whatever classes and words there are.
use Rattle.std.proofs.Common.{◌≡◌, ℕ, ◌+◌, ℤ, pos, Bool, true, false, cond, ◌&&◌, List, [], ◌∷◌, ◌++◌, length, map, codes, slice_get, Option, Some, None, refl, sym, ap, subst, ◌∙◌}
use Rattle.std.proofs.{lemmas.Option.{option_and_then_some}, lemmas.Slice.Eq.{bytes_eq-Decides}, lemmas.Bool.{and_parts}}
use Rattle.std.specs.{Option.{option_and_then}, Ordering.{int_eq}, Prelude.{◌==◌}, Str.{bytes_eq}}
use Rattle.byteorder.specs.Endian.{big_bytes}
use Rattle.rio_num.specs.Text.{text_bytes}
use Rattle.rio_format.specs.{declared.class.ClassDef.{ClassDef}, declared.kind.Kind.TheVariants.{Plain, Text as Texted}, declared.kind.Primitive.{Primitive, TheVariants.{U32}}, declared.value.Part.{Part, Part-F}}
use Rattle.rio_format.specs.{declared.value.Value.{Value, Int, Bits32, Bits64, Bool as Truth, Text, List as Items, Object, TheFolds.{fold-Part, fold_out-Part}}, Bodies.{Counters, form_of}}
use Rattle.rio_format.specs.declared.value.Value.TheOpen as layer
use Rattle.rio_format.specs.Fits.{Fitting, Labels, all_fit, back_fits, counted_slot, counted_so_far, fields_fit, fitting_of, fitting_step, object_may_stand, is_pointer, list_fits, part_fitting, parts_fit, pass, pointed_fits}
use Rattle.rio_format.specs.Slots.{Field, Slot, based, field, fields_of, flags, kinded, many}
use Rattle.rio_format.specs.{Written.{Writing, all, bare_bytes, both, fields_bytes, form_bytes, int_bytes, just, plainly, truth_byte, writing_of, writing_step}, ReaderState.{WordsMet}, Writer.{Writer}}
use Rattle.rio_format.proofs.{ValueCases.{Each, Steps, by_cases, fold_Int, fold_Bits32, fold_Bits64, fold_Bool, fold_Text, fold_List, fold_Object, fold_Pointed, fold_Null, fold_Back, fold_Opaque}, WrittenBodies.{first_fits}}
use Rattle.rio_write.specs.{Small.{own_writing}, Writing.{part_writing}}
use Rattle.rio_write.proofs.{BuiltinBodies.{refuted}, WriteValues.{object_is}}

-- ---- the same bytes everywhere, and no words

abbrev pub Steady : (List ClassDef → Writer) → Type 0
Steady write = (bytes : List ℕ) × ((classes : List ClassDef) (p : ℕ) (t : WordsMet) → write classes p t ≡ (bytes, t))

pub steady_just : (bytes : List ℕ) → Steady (λ classes. just bytes)
steady_just bytes = (bytes, λ classes p t. refl)

pub steady_both : (f g : List ClassDef → Writer) → Steady f → Steady g → Steady (λ classes. both (f classes) (g classes))
steady_both f g a b = (a.0 ++ b.0, λ classes p t. rw (a.1 classes p t, b.1 classes (p + length a.0) t) refl)

-- the slot of an object for its own class
abbrev pub own_bytes : Value → List ClassDef → Writer
own_bytes v classes = own_writing classes v

-- ---- slots without pointers

pub data Place : Type 0 where
  number : Primitive → Place
  word : Place
  text : Place
  numbers : Primitive → Place
  base : Place

abbrev pub slot_at : Place → Slot
slot_at (number of) = kinded (Plain of)
slot_at word = flags
slot_at text = kinded Texted
slot_at (numbers of) = many (kinded (Plain of))
slot_at base = based (codes "TObject") (pos 1)

abbrev pub Named : Type 0
Named = List ℕ × Place

abbrev pub field_at : Named → Field
field_at k = field k.0 (slot_at k.1)

-- a value that fits there fits over no classes, and is written alike
abbrev pub IsAlike : Value → Type 0
IsAlike v = (k : Place) (known : List ClassDef) (before after : Labels) → (fitting_of known v).fits (slot_at k) before ≡ Some after
    → ((fitting_of [] v).fits (slot_at k) before ≡ Some after) × Steady (λ classes. (writing_of classes v).bytes (slot_at k))

-- ---- lists and parts

all_alike : (of : Primitive) (vs : List Value) → Each IsAlike vs → (known : List ClassDef) (before after : Labels) → all_fit (kinded (Plain of)) (map (fitting_of known) vs) before ≡ Some after
    → (all_fit (kinded (Plain of)) (map (fitting_of []) vs) before ≡ Some after) × Steady (λ classes. all (kinded (Plain of)) (map (writing_of classes) vs))
all_alike of [] each known before after e = (e, steady_just [])
all_alike of (v ∷ vs) each known before after e =
    option_and_then_some (all_fit (kinded (Plain of)) (map (fitting_of known) vs)) ((fitting_of known v).fits (kinded (Plain of)) before) after e (λ mid first rest.
    let one = each.0 (number of) known before mid first in
    let more = all_alike of vs each.1 known mid after rest in (
      ap (option_and_then (all_fit (kinded (Plain of)) (map (fitting_of []) vs))) one.0 ∙ more.0,
      steady_both (λ classes. (writing_of classes v).bytes (kinded (Plain of))) (λ classes. all (kinded (Plain of)) (map (writing_of classes) vs)) one.1 more.1,
    ))

abbrev pub fits_so : List Field → List ClassDef → List Part → Counters → Labels → Option Labels
fits_so fields known parts counters before = fields_fit fields (map (part_fitting known) parts) counters before

asks_nothing : (counters : Counters) (k : Place) → counted_slot counters (slot_at k) ≡ slot_at k
asks_nothing counters (number of) = refl
asks_nothing counters word = refl
asks_nothing counters text = refl
asks_nothing counters (numbers of) = refl
asks_nothing counters base = refl

module _ (k : Named) (ks : List Named) (y : Part) (ys : List Part) (known : List ClassDef) (counters others : Counters) (before after : Labels) where
  abbrev FitsFirst : List ClassDef → Counters → Slot → Bool → Type 0
  FitsFirst list behind slot b = cond b (option_and_then (fits_so (map field_at ks) list ys behind) ((fitting_of list y.value).fits slot before)) None ≡ Some after

  abbrev AreWritten : List Named → List Part → Type 0
  AreWritten fs parts = Steady (λ classes. fields_bytes (map field_at fs) (map (part_writing classes) parts))

  first_alike : (b : Bool) → IsAlike y.value → ((mid : Labels) → fits_so (map field_at ks) known ys counters mid ≡ Some after → (fits_so (map field_at ks) [] ys others mid ≡ Some after) × AreWritten ks ys)
      → FitsFirst known counters (slot_at k.1) b → FitsFirst [] others (slot_at k.1) b × AreWritten (k ∷ ks) (y ∷ ys)
  first_alike true own more e =
      option_and_then_some (fits_so (map field_at ks) known ys counters) ((fitting_of known y.value).fits (slot_at k.1) before) after e (λ mid first rest.
      let one = own k.1 known before mid first in
      let two = more mid rest in (
        ap (option_and_then (fits_so (map field_at ks) [] ys others)) one.0 ∙ two.0,
        steady_both (λ classes. (writing_of classes y.value).bytes (slot_at k.1)) (λ classes. fields_bytes (map field_at ks) (map (part_writing classes) ys)) one.1 two.1,
      ))
  first_alike false own more e = refuted after e

-- whatever the counters are: no slot asks for one
pub fields_alike : (ks : List Named) (parts : List Part) → Each (λ p. IsAlike p.value) parts → (known : List ClassDef) (counters others : Counters) (before after : Labels) → fits_so (map field_at ks) known parts counters before ≡ Some after
    → (fits_so (map field_at ks) [] parts others before ≡ Some after) × Steady (λ classes. fields_bytes (map field_at ks) (map (part_writing classes) parts))
fields_alike [] [] each known counters others before after e = (e, steady_just [])
fields_alike [] (y ∷ ys) each known counters others before after e = refuted after e
fields_alike (k ∷ ks) [] each known counters others before after e = refuted after e
fields_alike (k ∷ ks) (y ∷ ys) each known counters others before after e =
    let behind = counted_so_far (field_at k) (fitting_of known y.value).number counters in
    let beyond = counted_so_far (field_at k) (fitting_of [] y.value).number others in
    let same = bytes_eq y.name k.0 in
    let first = first_alike k ks y ys known behind beyond before after same each.0 (λ mid rest. fields_alike ks ys each.1 known behind beyond mid after rest)
    (subst (λ (slot : Slot). FitsFirst k ks y ys known behind beyond before after known behind slot same) (asks_nothing counters k.1) e) in
    (subst (λ (slot : Slot). FitsFirst k ks y ys known behind beyond before after [] beyond slot same) (sym (asks_nothing others k.1)) first.0, first.1)

-- ---- objects

part_is : (known : List ClassDef) (p : Part) → fold-Part Fitting (List ℕ × Fitting) (fitting_step known) (λ p. (p.name, p.value)) p ≡ part_fitting known p
part_is known p = fold_out-Part Fitting (List ℕ × Fitting) (fitting_step known) (λ p. (p.name, p.value)) p

pub object_fits : (known : List ClassDef) (class : List ℕ) (version : ℤ) (parts : List Part) (slot : Slot) (before : Labels)
    → (fitting_of known (Object class version parts)).fits slot before ≡ cond (object_may_stand class version slot) (parts_fit (fields_of known class version) (map (part_fitting known) parts) before) None
object_fits known class version parts slot before =
    ap (λ (f : Fitting). f.fits slot before) (fold_Object (fitting_step known) (λ p. (p.name, p.value)) class version parts)
    ∙ ap (λ (g : Part → List ℕ × Fitting). cond (object_may_stand class version slot) (parts_fit (fields_of known class version) (map g parts) before) None) (λ i p. part_is known p i)

-- the parts of a TObject
abbrev pub bare_parts : List Named
bare_parts = (codes "fUniqueID", number U32) ∷ (codes "fBits", word) ∷ []

module _ (parts : List Part) (before after : Labels) where
  abbrev pub FitParts : List ClassDef → List Named → Bool → Type 0
  FitParts list fields b = parts_fit (cond b (Some (map field_at fields)) None) (map (part_fitting list) parts) before ≡ Some after

  pub parts_stay : Each (λ p. IsAlike p.value) parts → (known : List ClassDef) (fields : List Named) (b : Bool) → FitParts known fields b → FitParts [] fields b
  parts_stay each known fields true e = (fields_alike fields parts each known [] [] before after e).0
  parts_stay each known fields false e = refuted after e

pub bare_steady : (parts : List Part) → Each (λ p. IsAlike p.value) parts → (known : List ClassDef) (before after : Labels) (b : Bool) → FitParts parts before after known bare_parts b → Steady (λ classes. bare_bytes (map (part_writing classes) parts))
bare_steady parts each known before after false e = refuted after e
bare_steady [] each known before after true e = steady_just []
bare_steady (y ∷ []) each known before after true e = steady_just []
bare_steady (y ∷ z ∷ x ∷ xs) each known before after true e =
    let f = first_fits known (codes "fUniqueID") (kinded (Plain U32)) (field (codes "fBits") flags ∷ []) y (z ∷ x ∷ xs) before after e in
    let g = first_fits known (codes "fBits") flags [] z (x ∷ xs) f.mid after f.rest in
    refuted after g.rest
bare_steady (y ∷ z ∷ []) each known before after true e =
    let f = first_fits known (codes "fUniqueID") (kinded (Plain U32)) (field (codes "fBits") flags ∷ []) y (z ∷ []) before after e in
    let g = first_fits known (codes "fBits") flags [] z [] f.mid after f.rest in
    let id = each.0 (number U32) known before f.mid f.first in
    let bits = each.1.0 word known f.mid g.mid g.first in
    steady_both (λ classes. just (big_bytes 2 1)) (λ classes. both ((writing_of classes y.value).bytes (kinded (Plain U32))) ((writing_of classes z.value).bytes flags)) (steady_just (big_bytes 2 1))
    (steady_both (λ classes. (writing_of classes y.value).bytes (kinded (Plain U32))) (λ classes. (writing_of classes z.value).bytes flags) id.1 bits.1)

-- ---- values

module _ (before after : Labels) where
  no_pointer : (b : Bool) (o : Option Labels) → cond (b && false) o None ≡ Some after → ⊥
  no_pointer true o e = refuted after e
  no_pointer false o e = refuted after e

  module _ (known : List ClassDef) (label : ℕ) (object : Fitting) where
    not_pointed : (own : Option (List ℕ × ℤ)) (k : Place) → pointed_fits known label object own (slot_at k) before ≡ Some after → ⊥
    not_pointed None k e = refuted after e
    not_pointed (Some own) (number of) e = no_pointer (label == length before) _ e
    not_pointed (Some own) word e = no_pointer (label == length before) _ e
    not_pointed (Some own) text e = no_pointer (label == length before) _ e
    not_pointed (Some own) (numbers of) e = no_pointer (label == length before) _ e
    not_pointed (Some own) base e = no_pointer (label == length before) _ e

  not_null : (k : Place) → pass (is_pointer (slot_at k)) before ≡ Some after → ⊥
  not_null (number of) e = refuted after e
  not_null word e = refuted after e
  not_null text e = refuted after e
  not_null (numbers of) e = refuted after e
  not_null base e = refuted after e

  not_back : (known : List ClassDef) (own : Option (List ℕ × ℤ)) (k : Place) → pass (back_fits known own (slot_at k)) before ≡ Some after → ⊥
  not_back known None k e = refuted after e
  not_back known (Some own) (number of) e = refuted after e
  not_back known (Some own) word e = refuted after e
  not_back known (Some own) text e = refuted after e
  not_back known (Some own) (numbers of) e = refuted after e
  not_back known (Some own) base e = refuted after e

-- each value without a pointer in it, and no other fits there
abbrev pub fit_pair : Part-F Fitting (List ℕ × Fitting) → List ℕ × Fitting
fit_pair p = (p.name, p.value)

abbrev pub part_value : Part-F Writing Writing → Writing
part_value p = p.value

pub chosen : (after : Labels) (b : Bool) (o : Option Labels) → cond b o None ≡ Some after → (b ≡ true) × (o ≡ Some after)
chosen after true o e = (refl, e)
chosen after false o e = refuted after e

module _ (parts : List Part) (before after : Labels) where
  -- the parts of an object of the class fit
  abbrev pub FitIn : List ClassDef → List ℕ → ℤ → Type 0
  FitIn list class version = parts_fit (fields_of list class version) (map (part_fitting list) parts) before ≡ Some after

  abbrev pub FormStays : List ℕ → ℤ → Type 0
  FormStays class version = FitIn [] class version × Steady (λ classes. form_bytes classes class version (form_of class) (map (part_writing classes) parts))

  pub tobject_stays : Each (λ p. IsAlike p.value) parts → (known : List ClassDef) (version : ℤ) → FitIn known (codes "TObject") version → FormStays (codes "TObject") version
  tobject_stays each known version e = (parts_stay parts before after each known bare_parts (int_eq version (pos 1)) e, bare_steady parts each known before after (int_eq version (pos 1)) e)

  base_stays : Each (λ p. IsAlike p.value) parts → (known : List ClassDef) (class : List ℕ) (version : ℤ) (b : Bool) → bytes_eq class (codes "TObject") ≡ b → b ≡ true → FitIn known class version → FormStays class version
  base_stays each known class version false e is fits = absurd cc
  base_stays each known class version true e is fits =
      let own : class ≡ codes "TObject" = (bytes_eq-Decides class (codes "TObject")).0 e in
      subst (λ (c : List ℕ). FormStays c version) (sym own) (tobject_stays each known version (subst (λ (c : List ℕ). FitIn known c version) own fits))

  module _ (class : List ℕ) (version : ℤ) where
    abbrev own_slot : Slot
    own_slot = based (codes "TObject") (pos 1)

    pub placed : (slot : Slot) → object_may_stand class version slot ≡ true → FormStays class version
        → ((fitting_of [] (Object class version parts)).fits slot before ≡ Some after) × Steady (λ classes. (writing_of classes (Object class version parts)).bytes slot)
    placed slot stands stays =
        let fits : (fitting_of [] (Object class version parts)).fits slot before ≡ Some after = object_fits [] class version parts slot before ∙ rw stands stays.0 in
        (fits, (stays.1.0, λ classes p t. ap (λ (w : Writer). w p t) (object_is classes slot class version parts) ∙ stays.1.1 classes p t))

    object_alike : Each (λ p. IsAlike p.value) parts → (known : List ClassDef) (k : Place) → (fitting_of known (Object class version parts)).fits (slot_at k) before ≡ Some after
        → ((fitting_of [] (Object class version parts)).fits (slot_at k) before ≡ Some after) × Steady (λ classes. (writing_of classes (Object class version parts)).bytes (slot_at k))
    object_alike each known (number of) e = refuted after (sym (object_fits known class version parts (kinded (Plain of)) before) ∙ e)
    object_alike each known word e = refuted after (sym (object_fits known class version parts flags before) ∙ e)
    object_alike each known text e = refuted after (sym (object_fits known class version parts (kinded Texted) before) ∙ e)
    object_alike each known (numbers of) e = refuted after (sym (object_fits known class version parts (many (kinded (Plain of))) before) ∙ e)
    object_alike each known base e =
        let both_fit = chosen after (object_may_stand class version own_slot) (parts_fit (fields_of known class version) (map (part_fitting known) parts) before) (sym (object_fits known class version parts own_slot before) ∙ e) in
        let is : bytes_eq class (codes "TObject") ≡ true = (and_parts (bytes_eq class (codes "TObject")) (int_eq version (pos 1)) both_fit.0).0 in
        placed own_slot both_fit.0 (base_stays each known class version (bytes_eq class (codes "TObject")) refl is both_fit.1)

list_alike : (vs : List Value) → Each IsAlike vs → IsAlike (Items vs)
list_alike vs each k known before after e = by k (ap (λ (f : Fitting). f.fits (slot_at k) before) (sym (fold_List (fitting_step known) fit_pair vs)) ∙ e)
  where
    by : (k : Place) → list_fits (map (fitting_of known) vs) (slot_at k) before ≡ Some after → ((fitting_of [] (Items vs)).fits (slot_at k) before ≡ Some after) × Steady (λ classes. (writing_of classes (Items vs)).bytes (slot_at k))
    by (number of) f = refuted after f
    by word f = refuted after f
    by text f = refuted after f
    by base f = refuted after f
    by (numbers of) f =
        let items = all_alike of vs each known before after f in (
          ap (λ (f : Fitting). f.fits (many (kinded (Plain of))) before) (fold_List (fitting_step []) fit_pair vs) ∙ items.0,
          (items.1.0, λ classes p t. ap (λ (w : Writing). w.bytes (many (kinded (Plain of))) p t) (fold_List (writing_step classes) part_value vs) ∙ items.1.1 classes p t),
        )

-- a value whose layer speaks of no classes
module _ (v : Value) (fitting : Fitting) (bytes : Slot → List ℕ) (fits : (known : List ClassDef) → fitting_of known v ≡ fitting) (writes : (classes : List ClassDef) → writing_of classes v ≡ plainly bytes) where
  plain_alike : IsAlike v
  plain_alike k known before after e = (
    ap (λ (f : Fitting). f.fits (slot_at k) before) (fits [] ∙ sym (fits known)) ∙ e,
    (bytes (slot_at k), λ classes p t. ap (λ (w : Writing). w.bytes (slot_at k) p t) (writes classes)),
  )

alike_steps : Steps IsAlike
alike_steps = record {
  int = λ z. plain_alike (Int z) (fitting_step [] (layer.Int z)) (int_bytes z) (λ known. fold_Int (fitting_step known) fit_pair z) (λ classes. fold_Int (writing_step classes) part_value z);
  bits32 = λ n. plain_alike (Bits32 n) (fitting_step [] (layer.Bits32 n)) (λ slot. big_bytes 4 n) (λ known. fold_Bits32 (fitting_step known) fit_pair n) (λ classes. fold_Bits32 (writing_step classes) part_value n);
  bits64 = λ n. plain_alike (Bits64 n) (fitting_step [] (layer.Bits64 n)) (λ slot. big_bytes 8 n) (λ known. fold_Bits64 (fitting_step known) fit_pair n) (λ classes. fold_Bits64 (writing_step classes) part_value n);
  truth = λ b. plain_alike (Truth b) (fitting_step [] (layer.Bool b)) (λ slot. truth_byte b ∷ []) (λ known. fold_Bool (fitting_step known) fit_pair b) (λ classes. fold_Bool (writing_step classes) part_value b);
  text = λ t. plain_alike (Text t) (fitting_step [] (layer.Text t)) (λ slot. text_bytes t) (λ known. fold_Text (fitting_step known) fit_pair t) (λ classes. fold_Text (writing_step classes) part_value t);
  list = list_alike;
  object = λ class version parts each k known before after e. object_alike parts before after class version each known k e;
  pointed = λ label object own k known before after e. absurd (not_pointed before after known label (fitting_of known object) (fitting_of known object).class k
      (ap (λ (f : Fitting). f.fits (slot_at k) before) (sym (fold_Pointed (fitting_step known) fit_pair label object)) ∙ e));
  null = λ k known before after e. absurd (not_null before after k (ap (λ (f : Fitting). f.fits (slot_at k) before) (sym (fold_Null (fitting_step known) fit_pair)) ∙ e));
  back = λ label k known before after e. absurd (not_back before after known (slice_get before label) k (ap (λ (f : Fitting). f.fits (slot_at k) before) (sym (fold_Back (fitting_step known) fit_pair label)) ∙ e));
  opaque = λ class len k known before after e. refuted after (ap (λ (f : Fitting). f.fits (slot_at k) before) (sym (fold_Opaque (fitting_step known) fit_pair class len)) ∙ e);
}

pub is_alike : (v : Value) → IsAlike v
is_alike = by_cases IsAlike alike_steps

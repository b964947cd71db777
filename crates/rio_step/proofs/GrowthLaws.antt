-- A value that fits among some classes fits with one class more.
use Rattle.std.proofs.Common.{◌≡◌, ℕ, suc, ℤ, List, [], ◌∷◌, ◌++◌, length, map, Bool, true, false, cond, ◌&&◌, ◌==◌, Option, Some, None, refl, sym, ap, subst, ◌∙◌}
use Rattle.std.specs.{Prelude.{option_and_then, slice_get}, Str.{bytes_eq}}
use Rattle.rio_format.specs.{declared.class.ClassDef.{ClassDef}, declared.kind.Kind.TheVariants.{Plain, Counter, Fixed, Counted, Text as Texted, Inline, Pointer, Other}, declared.kind.Primitive.{Primitive}}
use Rattle.rio_format.specs.{declared.value.Part.{Part}, declared.value.Value.{Value, Int, Bits32, Bits64, Bool as Truth, Text, List as Items, Object, Pointed, Null, Back, Opaque}, Bodies.{Counters}}
use Rattle.rio_format.specs.declared.value.Value.TheOpen as layer
use Rattle.rio_format.proofs.{ValueCases.{Each, by_cases, fold_Int, fold_Bits32, fold_Bits64, fold_Bool, fold_Text, fold_List, fold_Pointed, fold_Null, fold_Back, fold_Opaque}, WrittenValues.{fit_object}}
use Rattle.rio_format.specs.Fits.{Fitting, Labels, all_fit, back_fits, counted_slot, counted_so_far, fields_fit, fitting_of, fitting_step, link_fits, list_fits, may_point, object_may_stand, parts_fit, pointed_fits}
use Rattle.rio_format.specs.Slots.{Field, Slot, kinded, based, flags, any_pointer, link, many, fields_of, can_be_word}
use Rattle.rio_step.proofs.FitLaws.{and_true, derives_more, fields_more, put_more}

-- the second fits wherever the first does, with the same labels behind it
record Grows (f g : Fitting) : Type 0 where
  class : f.class ≡ g.class
  number : f.number ≡ g.number
  fits : (slot : Slot) (labels after : Labels) → f.fits slot labels ≡ Some after → g.fits slot labels ≡ Some after

pub then_some : {A B : Type 0} (k : A → Option B) (x : Option A) (b : B) → option_and_then k x ≡ Some b → (a : A) × (x ≡ Some a) × (k a ≡ Some b)
then_some k None b e = absurd cc
then_some k (Some a) b e = (a, refl, e)

then_is : {A B : Type 0} (k : A → Option B) (x : Option A) (a : A) (b : B) → x ≡ Some a → k a ≡ Some b → option_and_then k x ≡ Some b
then_is k x a b is e = ap (option_and_then k) is ∙ e

-- ---- lists

AllGrow : List Fitting → List Fitting → Type 0
AllGrow [] [] = Unit {0}
AllGrow [] (g ∷ gs) = ⊥
AllGrow (f ∷ fs) [] = ⊥
AllGrow (f ∷ fs) (g ∷ gs) = Grows f g × AllGrow fs gs

same_length : (fs gs : List Fitting) → AllGrow fs gs → length fs ≡ length gs
unfolding AllGrow
same_length [] [] all = refl
same_length [] (g ∷ gs) all = absurd all
same_length (f ∷ fs) [] all = absurd all
same_length (f ∷ fs) (g ∷ gs) all = ap suc (same_length fs gs all.1)

all_grow : (slot : Slot) (fs gs : List Fitting) → AllGrow fs gs → (labels after : Labels) → all_fit slot fs labels ≡ Some after → all_fit slot gs labels ≡ Some after
unfolding AllGrow
all_grow slot [] [] all labels after e = e
all_grow slot [] (g ∷ gs) all labels after e = absurd all
all_grow slot (f ∷ fs) [] all labels after e = absurd all
all_grow slot (f ∷ fs) (g ∷ gs) all labels after e =
    let first = then_some (all_fit slot fs) (f.fits slot labels) after e in
    then_is (all_fit slot gs) (g.fits slot labels) first.0 after (all.0.fits slot labels first.0 first.1) (all_grow slot fs gs all.1 first.0 after first.2)

link_grows : (fs gs : List Fitting) → AllGrow fs gs → (labels after : Labels) → link_fits fs labels ≡ Some after → link_fits gs labels ≡ Some after
unfolding AllGrow
link_grows [] gs all labels after e = absurd cc
link_grows (a ∷ []) gs all labels after e = absurd cc
link_grows (a ∷ b ∷ c ∷ fs) gs all labels after e = absurd cc
link_grows (a ∷ b ∷ []) [] all labels after e = absurd all
link_grows (a ∷ b ∷ []) (x ∷ []) all labels after e = absurd all.1
link_grows (a ∷ b ∷ []) (x ∷ y ∷ z ∷ gs) all labels after e = absurd all.1.1
link_grows (a ∷ b ∷ []) (x ∷ y ∷ []) all labels after e =
    let first = then_some (b.fits (kinded Texted)) (a.fits any_pointer labels) after e in
    then_is (y.fits (kinded Texted)) (x.fits any_pointer labels) first.0 after (all.0.fits any_pointer labels first.0 first.1) (all.1.0.fits (kinded Texted) first.0 after first.2)

fixed_grows : (of : Primitive) (fs gs : List Fitting) (b : Bool) → AllGrow fs gs → (labels after : Labels) → cond b (all_fit (kinded (Plain of)) fs labels) None ≡ Some after → cond b (all_fit (kinded (Plain of)) gs labels) None ≡ Some after
fixed_grows of fs gs true all labels after e = all_grow (kinded (Plain of)) fs gs all labels after e
fixed_grows of fs gs false all labels after e = absurd cc

list_grows : (fs gs : List Fitting) → AllGrow fs gs → (slot : Slot) (labels after : Labels) → list_fits fs slot labels ≡ Some after → list_fits gs slot labels ≡ Some after
list_grows fs gs all (kinded (Fixed of count)) labels after e =
    subst (λ n. cond (n == count) (all_fit (kinded (Plain of)) gs labels) None ≡ Some after) (same_length fs gs all) (fixed_grows of fs gs (length fs == count) all labels after e)
list_grows fs gs all link labels after e = link_grows fs gs all labels after e
list_grows fs gs all (many slot) labels after e = all_grow slot fs gs all labels after e
list_grows fs gs all (kinded (Plain of)) labels after e = absurd cc
list_grows fs gs all (kinded Counter) labels after e = absurd cc
list_grows fs gs all (kinded (Counted of counter)) labels after e = absurd cc
list_grows fs gs all (kinded Texted) labels after e = absurd cc
list_grows fs gs all (kinded (Inline class)) labels after e = absurd cc
list_grows fs gs all (kinded (Pointer class)) labels after e = absurd cc
list_grows fs gs all (kinded (Other code)) labels after e = absurd cc
list_grows fs gs all (based class version) labels after e = absurd cc
list_grows fs gs all flags labels after e = absurd cc
list_grows fs gs all any_pointer labels after e = absurd cc

-- ---- objects

NamedGrow : List (List ℕ × Fitting) → List (List ℕ × Fitting) → Type 0
NamedGrow [] [] = Unit {0}
NamedGrow [] (z ∷ zs) = ⊥
NamedGrow (y ∷ ys) [] = ⊥
NamedGrow (y ∷ ys) (z ∷ zs) = (y.0 ≡ z.0) × Grows y.1 z.1 × NamedGrow ys zs

fields_grow : (fs : List Field) (ys zs : List (List ℕ × Fitting)) → NamedGrow ys zs → (counters : Counters) (labels after : Labels) → fields_fit fs ys counters labels ≡ Some after → fields_fit fs zs counters labels ≡ Some after
unfolding NamedGrow
fields_grow [] [] [] all counters labels after e = e
fields_grow [] [] (z ∷ zs) all counters labels after e = absurd all
fields_grow [] (y ∷ ys) zs all counters labels after e = absurd cc
fields_grow (f ∷ fs) [] zs all counters labels after e = absurd cc
fields_grow (f ∷ fs) (y ∷ ys) [] all counters labels after e = absurd all
fields_grow (f ∷ fs) (y ∷ ys) (z ∷ zs) all counters labels after e =
    subst (λ n. cond (bytes_eq n f.name) (option_and_then (fields_fit fs zs (counted_so_far f z.1.number counters)) (z.1.fits (counted_slot counters f.slot) labels)) None ≡ Some after) all.0
    (by (bytes_eq y.0 f.name) e (λ counted labels after. fields_grow fs ys zs all.2 counted labels after))
  where
    by : (b : Bool) → cond b (option_and_then (fields_fit fs ys (counted_so_far f y.1.number counters)) (y.1.fits (counted_slot counters f.slot) labels)) None ≡ Some after
        → ((counted : Counters) (labels after : Labels) → fields_fit fs ys counted labels ≡ Some after → fields_fit fs zs counted labels ≡ Some after)
        → cond b (option_and_then (fields_fit fs zs (counted_so_far f z.1.number counters)) (z.1.fits (counted_slot counters f.slot) labels)) None ≡ Some after
    by false e later = absurd cc
    by true e later =
        let first = then_some (fields_fit fs ys (counted_so_far f y.1.number counters)) (y.1.fits (counted_slot counters f.slot) labels) after e in
        then_is (fields_fit fs zs (counted_so_far f z.1.number counters)) (z.1.fits (counted_slot counters f.slot) labels) first.0 after
        (all.1.fits (counted_slot counters f.slot) labels first.0 first.1)
        (subst (λ n. fields_fit fs zs (counted_so_far f n counters) first.0 ≡ Some after) all.1.number (later (counted_so_far f y.1.number counters) first.0 after first.2))

parts_grow : (x y : Option (List Field)) (ys zs : List (List ℕ × Fitting)) → ((fs : List Field) → x ≡ Some fs → y ≡ Some fs) → NamedGrow ys zs → (labels after : Labels) → parts_fit x ys labels ≡ Some after → parts_fit y zs labels ≡ Some after
parts_grow None y ys zs kept all labels after e = absurd cc
parts_grow (Some fs) y ys zs kept all labels after e =
    subst (λ fields. parts_fit fields zs labels ≡ Some after) (sym (kept fs refl)) (fields_grow fs ys zs all [] labels after e)

stands_grow : (b : Bool) (x y : Option (List Field)) (ys zs : List (List ℕ × Fitting)) → ((fs : List Field) → x ≡ Some fs → y ≡ Some fs) → NamedGrow ys zs → (labels after : Labels) → cond b (parts_fit x ys labels) None ≡ Some after → cond b (parts_fit y zs labels) None ≡ Some after
stands_grow true x y ys zs kept all labels after e = parts_grow x y ys zs kept all labels after e
stands_grow false x y ys zs kept all labels after e = absurd cc

module _ (classes : List ClassDef) (class : ClassDef) where
  abbrev more : List ClassDef
  more = classes ++ class ∷ []

  -- ---- pointers

  point_more : (own : List ℕ × ℤ) (slot : Slot) → may_point classes own slot ≡ true → may_point more own slot ≡ true
  point_more own (kinded (Pointer c)) e = and_true (can_be_word own.0) _ _ (derives_more classes class c own.0 own.1) e
  point_more own any_pointer e = and_true (can_be_word own.0) _ _ (put_more classes class own.0) e
  point_more own (kinded (Plain of)) e = absurd cc
  point_more own (kinded Counter) e = absurd cc
  point_more own (kinded (Fixed of count)) e = absurd cc
  point_more own (kinded (Counted of counter)) e = absurd cc
  point_more own (kinded Texted) e = absurd cc
  point_more own (kinded (Inline c)) e = absurd cc
  point_more own (kinded (Other code)) e = absurd cc
  point_more own (based c version) e = absurd cc
  point_more own flags e = absurd cc
  point_more own link e = absurd cc
  point_more own (many slot) e = absurd cc

  if_kept : {A : Type 0} (a b : Bool) (x y : Option A) (z : A) → (a ≡ true → b ≡ true) → (x ≡ Some z → y ≡ Some z) → cond a x None ≡ Some z → cond b y None ≡ Some z
  if_kept true b x y z f g e = ap (λ t. cond t y None) (f refl) ∙ g e
  if_kept false b x y z f g e = absurd cc

  pointed_more : (label : ℕ) (f g : Fitting) → Grows f g → (own : Option (List ℕ × ℤ)) (slot : Slot) (labels after : Labels) → pointed_fits classes label f own slot labels ≡ Some after → pointed_fits more label g own slot labels ≡ Some after
  pointed_more label f g grows None slot labels after e = absurd cc
  pointed_more label f g grows (Some own) slot labels after e =
      if_kept (label == length labels && may_point classes own slot) (label == length labels && may_point more own slot) _ _ after
      (and_true (label == length labels) _ _ (point_more own slot)) (grows.fits (kinded (Inline own.0)) (labels ++ own ∷ []) after) e

  back_more : (own : Option (List ℕ × ℤ)) (slot : Slot) → back_fits classes own slot ≡ true → back_fits more own slot ≡ true
  back_more None slot e = absurd cc
  back_more (Some own) slot e = point_more own slot e

  -- ---- values

  Fit : Value → Type 0
  Fit v = Grows (fitting_of classes v) (fitting_of more v)

  along : (v : Value) (f g : Fitting) → fitting_of classes v ≡ f → fitting_of more v ≡ g → Grows f g → Fit v
  unfolding Fit
  along v f g is was grows = subst (λ (x : Fitting). Grows x (fitting_of more v)) (sym is) (subst (λ (y : Fitting). Grows f y) (sym was) grows)

  same_fit : (f : Fitting) → Grows f f
  same_fit f = record { class = refl; number = refl; fits = λ slot labels after e. e }

  list_all_grow : (vs : List Value) → Each Fit vs → AllGrow (map (fitting_of classes) vs) (map (fitting_of more) vs)
  unfolding AllGrow Fit
  list_all_grow [] known = tt
  list_all_grow (v ∷ vs) known = (known.0, list_all_grow vs known.1)

  parts_all_grow : (ps : List Part) → Each (λ p. Fit p.value) ps → NamedGrow (map (λ p. (p.name, fitting_of classes p.value)) ps) (map (λ p. (p.name, fitting_of more p.value)) ps)
  unfolding NamedGrow Fit
  parts_all_grow [] known = tt
  parts_all_grow (p ∷ ps) known = (refl, known.0, parts_all_grow ps known.1)

  list_fit : (vs : List Value) → Each Fit vs → Fit (Items vs)
  list_fit vs known =
      along (Items vs) (fitting_step classes (layer.List (map (fitting_of classes) vs))) (fitting_step more (layer.List (map (fitting_of more) vs)))
      (fold_List (fitting_step classes) (λ p. (p.name, p.value)) vs) (fold_List (fitting_step more) (λ p. (p.name, p.value)) vs)
      (record { class = refl; number = refl; fits = list_grows _ _ (list_all_grow vs known) })

  object_fit : (name : List ℕ) (version : ℤ) (parts : List Part) → Each (λ p. Fit p.value) parts → Fit (Object name version parts)
  object_fit name version parts known =
      along (Object name version parts) _ _ (fit_object classes name version parts) (fit_object more name version parts)
      (record {
        class = refl;
        number = refl;
        fits = λ slot labels after e. stands_grow (object_may_stand name version slot) (fields_of classes name version) (fields_of more name version) _ _ (λ fs is. fields_more classes class name version fs is) (parts_all_grow parts known) labels after e;
      })

  pointed_fit : (label : ℕ) (object : Value) → Fit object → Fit (Pointed label object)
  unfolding Fit
  pointed_fit label object known =
      along (Pointed label object) (fitting_step classes (layer.Pointed label (fitting_of classes object))) (fitting_step more (layer.Pointed label (fitting_of more object)))
      (fold_Pointed (fitting_step classes) (λ p. (p.name, p.value)) label object) (fold_Pointed (fitting_step more) (λ p. (p.name, p.value)) label object)
      (record {
        class = refl;
        number = refl;
        fits = λ slot labels after e. subst (λ own. pointed_fits more label (fitting_of more object) own slot labels ≡ Some after) known.class
            (pointed_more label (fitting_of classes object) (fitting_of more object) known (fitting_of classes object).class slot labels after e);
      })

  back_fit : (label : ℕ) → Fit (Back label)
  back_fit label =
      along (Back label) (fitting_step classes (layer.Back label)) (fitting_step more (layer.Back label)) (fold_Back (fitting_step classes) (λ p. (p.name, p.value)) label) (fold_Back (fitting_step more) (λ p. (p.name, p.value)) label)
      (record { class = refl; number = refl; fits = λ slot labels after e. if_kept _ _ (Some labels) (Some labels) after (back_more (slice_get labels label) slot) (λ h. h) e })

  each_fit : (v : Value) → Fit v
  each_fit = by_cases Fit (record {
    int = λ z. along (Int z) _ _ (fold_Int (fitting_step classes) (λ p. (p.name, p.value)) z) (fold_Int (fitting_step more) (λ p. (p.name, p.value)) z) (same_fit (fitting_step classes (layer.Int z)));
    bits32 = λ n. along (Bits32 n) _ _ (fold_Bits32 (fitting_step classes) (λ p. (p.name, p.value)) n) (fold_Bits32 (fitting_step more) (λ p. (p.name, p.value)) n) (same_fit (fitting_step classes (layer.Bits32 n)));
    bits64 = λ n. along (Bits64 n) _ _ (fold_Bits64 (fitting_step classes) (λ p. (p.name, p.value)) n) (fold_Bits64 (fitting_step more) (λ p. (p.name, p.value)) n) (same_fit (fitting_step classes (layer.Bits64 n)));
    truth = λ b. along (Truth b) _ _ (fold_Bool (fitting_step classes) (λ p. (p.name, p.value)) b) (fold_Bool (fitting_step more) (λ p. (p.name, p.value)) b) (same_fit (fitting_step classes (layer.Bool b)));
    text = λ t. along (Text t) _ _ (fold_Text (fitting_step classes) (λ p. (p.name, p.value)) t) (fold_Text (fitting_step more) (λ p. (p.name, p.value)) t) (same_fit (fitting_step classes (layer.Text t)));
    list = list_fit;
    object = object_fit;
    pointed = pointed_fit;
    null = along Null _ _ (fold_Null (fitting_step classes) (λ p. (p.name, p.value))) (fold_Null (fitting_step more) (λ p. (p.name, p.value))) (same_fit (fitting_step classes layer.Null));
    back = back_fit;
    opaque = λ c n. along (Opaque c n) _ _ (fold_Opaque (fitting_step classes) (λ p. (p.name, p.value)) c n) (fold_Opaque (fitting_step more) (λ p. (p.name, p.value)) c n) (same_fit (fitting_step classes (layer.Opaque c n)));
  })

-- what fits in a slot fits there with one class more
pub slot_more : (classes : List ClassDef) (class : ClassDef) (v : Value) (slot : Slot) (labels after : Labels) → (fitting_of classes v).fits slot labels ≡ Some after → (fitting_of (classes ++ class ∷ []) v).fits slot labels ≡ Some after
unfolding Fit
slot_more classes class v slot labels after e = (each_fit classes class v).fits slot labels after e

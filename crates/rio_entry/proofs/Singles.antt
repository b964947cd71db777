-- The values of leaves among all values: they fit, and are written, as values of their kinds are.
use Rattle.std.proofs.{Common.{◌≡◌, ◌==◌, ◌&&◌, ℕ, ◌+◌, ◌*◌, ℤ, pos, List, [], ◌∷◌, ◌++◌, length, map, Bool, true, false, cond, Option, Some, None, refl, sym, ap, ◌∙◌, subst}, lemmas.Bool.{and_parts}}
use Rattle.std.proofs.lemmas.List.{length-map}
use Rattle.std.specs.{Prelude.{codes, is_some, negsuc, option_and_then, slice_get}, Map.{lookup}, Str.{bytes_eq}, List.{flat_map, list_all}}
use Rattle.rio_leaf.specs.{declared.leaf.Dim.{Dim, TheVariants.{One, Fixed as Several, Counted}}, declared.leaf.Leaf.{Leaf}}
use Rattle.rio_format.specs.{ReaderState.{WordsMet}, Bodies.{Counters}, Fits.{Fitting, Labels, all_fit, back_fits, fitting_of, fitting_step, may_point, pass, pointed_fits}}
use Rattle.rio_format.specs.{Slots.{Slot, kinded}, Written.{Writing, all, joined_output, writing_of, writing_step}}
use Rattle.rio_machine.specs.Rows.{counted_leaf_kind, kind_of_nothing, leaf_kind, letter_kind, sized_kind, stands_in}
use Rattle.rio_format.specs.{declared.class.ClassDef.{ClassDef}, declared.kind.Kind.{Kind, TheVariants.{Plain, Fixed, Text as Texted, Inline, Other}}, declared.kind.Primitive.{Primitive}, declared.value.Part.{Part}}
use Rattle.rio_format.specs.declared.value.Value.{Value, out-Value, TheOpen.{Value-F}, TheFolds.{fold_out-Value}}
use Rattle.rio_format.specs.declared.value.Value.TheOpen as layer
use Rattle.rio_format.proofs.WrittenPointers.{fit_layer, write_layer}
use Rattle.rio_entry.specs.Leaves.{kind_fits, layer_bytes, layer_fits, layer_fits_kind, layer_value_bytes, single_bytes, single_fits, value_bytes}
use Rattle.rio_entry.proofs.LeafKinds.{IsLeafy, kind_none, kind_some}

fit_out : (classes : List ClassDef) (v : Value) → fitting_of classes v ≡ fit_layer classes (out-Value v)
fit_out classes v = fold_out-Value Fitting (List ℕ × Fitting) (fitting_step classes) (λ p. (p.name, p.value)) v

write_out : (classes : List ClassDef) (v : Value) → writing_of classes v ≡ write_layer classes (out-Value v)
write_out classes v = fold_out-Value Writing Writing (writing_step classes) (λ p. p.value) v

-- ---- no pointer stands where a leaf's value does

not_pointed : (classes : List ClassDef) (slot : Slot) → ((own : List ℕ × ℤ) → may_point classes own slot ≡ false) → (label : ℕ) (object : Fitting) (own : Option (List ℕ × ℤ)) (labels : Labels) → pointed_fits classes label object own slot labels ≡ None
not_pointed classes slot none label object None labels = refl
not_pointed classes slot none label object (Some own) labels = rw (none own) (by (label == length labels))
  where
    by : (b : Bool) → cond (b && false) (object.fits (kinded (Inline own.0)) (labels ++ own ∷ [])) None ≡ None
    by true = refl
    by false = refl

not_back : (classes : List ClassDef) (slot : Slot) → ((own : List ℕ × ℤ) → may_point classes own slot ≡ false) → (own : Option (List ℕ × ℤ)) → back_fits classes own slot ≡ false
not_back classes slot none None = refl
not_back classes slot none (Some own) = none own

-- ---- what fits

module _ (classes : List ClassDef) where
  single_layer : (of : Primitive) (x : Value-F Value Part) (labels : Labels) → (fit_layer classes x).fits (kinded (Plain of)) labels ≡ pass (layer_fits of x) labels
  single_layer of (layer.Int z) labels = refl
  single_layer of (layer.Bits32 n) labels = refl
  single_layer of (layer.Bits64 n) labels = refl
  single_layer of (layer.Bool b) labels = refl
  single_layer of (layer.Text t) labels = refl
  single_layer of (layer.List vs) labels = refl
  single_layer of (layer.Object class version parts) labels = refl
  single_layer of (layer.Pointed label object) labels = not_pointed classes (kinded (Plain of)) (λ own. refl) label (fitting_of classes object) (fitting_of classes object).class labels
  single_layer of layer.Null labels = refl
  single_layer of (layer.Back label) labels = ap (λ (b : Bool). pass b labels) (not_back classes (kinded (Plain of)) (λ own. refl) (slice_get labels label))
  single_layer of (layer.Opaque class len) labels = refl

  pub single_is : (of : Primitive) (v : Value) (labels : Labels) → (fitting_of classes v).fits (kinded (Plain of)) labels ≡ pass (single_fits of v) labels
  single_is of v labels = ap (λ (f : Fitting). f.fits (kinded (Plain of)) labels) (fit_out classes v) ∙ single_layer of (out-Value v) labels

  one_more : (of : Primitive) (vs : List Value) (labels : Labels) (b : Bool) → all_fit (kinded (Plain of)) (map (fitting_of classes) vs) labels ≡ pass (list_all (single_fits of) vs) labels
      → option_and_then (all_fit (kinded (Plain of)) (map (fitting_of classes) vs)) (pass b labels) ≡ pass (b && list_all (single_fits of) vs) labels
  one_more of vs labels true rest = rest
  one_more of vs labels false rest = refl

  all_is : (of : Primitive) (vs : List Value) (labels : Labels) → all_fit (kinded (Plain of)) (map (fitting_of classes) vs) labels ≡ pass (list_all (single_fits of) vs) labels
  all_is of [] labels = refl
  all_is of (v ∷ vs) labels = ap (option_and_then (all_fit (kinded (Plain of)) (map (fitting_of classes) vs))) (single_is of v labels) ∙ one_more of vs labels (single_fits of v) (all_is of vs labels)

  passes : (b : Bool) → is_some (pass b []) ≡ b
  passes true = refl
  passes false = refl

  list_is : (of : Primitive) (count : ℕ) (vs : List Value) → is_some (cond (length (map (fitting_of classes) vs) == count) (all_fit (kinded (Plain of)) (map (fitting_of classes) vs) []) None) ≡ ((length vs == count) && list_all (single_fits of) vs)
  list_is of count vs =
      ap (λ (n : ℕ). is_some (cond (n == count) (all_fit (kinded (Plain of)) (map (fitting_of classes) vs) []) None)) (length-map vs (fitting_of classes))
      ∙ ap (λ (o : Option Labels). is_some (cond (length vs == count) o None)) (all_is of vs [])
      ∙ by (length vs == count)
    where
      by : (b : Bool) → is_some (cond b (pass (list_all (single_fits of) vs) []) None) ≡ (b && list_all (single_fits of) vs)
      by true = passes (list_all (single_fits of) vs)
      by false = refl

  none_pointed : (slot : Slot) (label : ℕ) (object : Value) → ((own : List ℕ × ℤ) → may_point classes own slot ≡ false) → is_some (pointed_fits classes label (fitting_of classes object) (fitting_of classes object).class slot []) ≡ false
  none_pointed slot label object none = ap is_some (not_pointed classes slot none label (fitting_of classes object) (fitting_of classes object).class [])

  fixed_layer : (of : Primitive) (count : ℕ) (x : Value-F Value Part) → is_some ((fit_layer classes x).fits (kinded (Fixed of count)) []) ≡ layer_fits_kind (Fixed of count) x
  fixed_layer of count (layer.Int (pos n)) = refl
  fixed_layer of count (layer.Int (negsuc n)) = refl
  fixed_layer of count (layer.Bits32 n) = refl
  fixed_layer of count (layer.Bits64 n) = refl
  fixed_layer of count (layer.Bool b) = refl
  fixed_layer of count (layer.Text t) = refl
  fixed_layer of count (layer.List vs) = list_is of count vs
  fixed_layer of count (layer.Object class version parts) = refl
  fixed_layer of count (layer.Pointed label object) = none_pointed (kinded (Fixed of count)) label object (λ own. refl)
  fixed_layer of count layer.Null = refl
  fixed_layer of count (layer.Back label) = refl
  fixed_layer of count (layer.Opaque class len) = refl

  text_layer : (x : Value-F Value Part) → is_some ((fit_layer classes x).fits (kinded Texted) []) ≡ layer_fits_kind Texted x
  text_layer (layer.Int (pos n)) = refl
  text_layer (layer.Int (negsuc n)) = refl
  text_layer (layer.Bits32 n) = refl
  text_layer (layer.Bits64 n) = refl
  text_layer (layer.Bool b) = refl
  text_layer (layer.Text t) = refl
  text_layer (layer.List vs) = refl
  text_layer (layer.Object class version parts) = refl
  text_layer (layer.Pointed label object) = none_pointed (kinded Texted) label object (λ own. refl)
  text_layer layer.Null = refl
  text_layer (layer.Back label) = refl
  text_layer (layer.Opaque class len) = refl

  other_layer : (code : ℤ) (x : Value-F Value Part) → is_some ((fit_layer classes x).fits (kinded (Other code)) []) ≡ layer_fits_kind (Other code) x
  other_layer code (layer.Int (pos n)) = refl
  other_layer code (layer.Int (negsuc n)) = refl
  other_layer code (layer.Bits32 n) = refl
  other_layer code (layer.Bits64 n) = refl
  other_layer code (layer.Bool b) = refl
  other_layer code (layer.Text t) = refl
  other_layer code (layer.List vs) = refl
  other_layer code (layer.Object class version parts) = refl
  other_layer code (layer.Pointed label object) = none_pointed (kinded (Other code)) label object (λ own. refl)
  other_layer code layer.Null = refl
  other_layer code (layer.Back label) = refl
  other_layer code (layer.Opaque class len) = refl

  kind_layer : (kind : Kind) (x : Value-F Value Part) → IsLeafy kind → is_some ((fit_layer classes x).fits (kinded kind) []) ≡ layer_fits_kind kind x
  kind_layer (Plain of) x leafy = ap is_some (single_layer of x []) ∙ passes (layer_fits of x)
  kind_layer (Fixed of count) x leafy = fixed_layer of count x
  kind_layer Texted x leafy = text_layer x
  kind_layer (Other code) x leafy = other_layer code x
  kind_layer other x leafy = absurd leafy

  pub stands_is : (kind : Kind) (v : Value) → IsLeafy kind → stands_in classes (kinded kind) v ≡ kind_fits kind v
  stands_is kind v leafy = ap (λ (f : Fitting). is_some (f.fits (kinded kind) [])) (fit_out classes v) ∙ kind_layer kind (out-Value v) leafy

  -- ---- what is written

  single_bytes_layer : (of : Primitive) (x : Value-F Value Part) (p : ℕ) (t : WordsMet) → layer_fits of x ≡ true → (write_layer classes x).bytes (kinded (Plain of)) p t ≡ (layer_bytes of x, t)
  single_bytes_layer of (layer.Int z) p t fit = refl
  single_bytes_layer of (layer.Bits32 n) p t fit = refl
  single_bytes_layer of (layer.Bits64 n) p t fit = refl
  single_bytes_layer of (layer.Bool b) p t fit = refl
  single_bytes_layer of other p t fit = absurd cc

  single_written : (of : Primitive) (v : Value) (p : ℕ) (t : WordsMet) → single_fits of v ≡ true → (writing_of classes v).bytes (kinded (Plain of)) p t ≡ (single_bytes of v, t)
  single_written of v p t fit = ap (λ (w : Writing). w.bytes (kinded (Plain of)) p t) (write_out classes v) ∙ single_bytes_layer of (out-Value v) p t fit

  all_written : (of : Primitive) (vs : List Value) (p : ℕ) (t : WordsMet) → list_all (single_fits of) vs ≡ true → all (kinded (Plain of)) (map (writing_of classes) vs) p t ≡ (flat_map (single_bytes of) vs, t)
  all_written of [] p t fit = refl
  all_written of (v ∷ vs) p t fit =
      let parts = and_parts (single_fits of v) (list_all (single_fits of) vs) fit in
      ap (λ (a : List ℕ × WordsMet). joined_output a (all (kinded (Plain of)) (map (writing_of classes) vs) (p + length a.0) a.1)) (single_written of v p t parts.0)
      ∙ ap (λ (b : List ℕ × WordsMet). joined_output (single_bytes of v, t) b) (all_written of vs (p + length (single_bytes of v)) t parts.1)

  -- the kind of a leaf's single values says how a value that fits is written
  abbrev IsWrittenAs : Option Primitive → Kind → Type 0
  IsWrittenAs of kind = (x : Value-F Value Part) (p : ℕ) (t : WordsMet) → layer_fits_kind kind x ≡ true → (write_layer classes x).bytes (kinded kind) p t ≡ (layer_value_bytes of x, t)

  plain_written : (of : Primitive) → IsWrittenAs (Some of) (Plain of)
  plain_written of (layer.Int z) p t fit = refl
  plain_written of (layer.Bits32 n) p t fit = refl
  plain_written of (layer.Bits64 n) p t fit = refl
  plain_written of (layer.Bool b) p t fit = refl
  plain_written of other p t fit = absurd cc

  fixed_written : (of : Primitive) (count : ℕ) → IsWrittenAs (Some of) (Fixed of count)
  fixed_written of count (layer.List vs) p t fit = all_written of vs p t (and_parts (length vs == count) (list_all (single_fits of) vs) fit).1
  fixed_written of count other p t fit = absurd cc

  counted_written : (of : Primitive) (times : ℕ) (n : Option ℤ) → IsWrittenAs (Some of) (counted_leaf_kind of times n)
  counted_written of times None x p t fit = absurd cc
  counted_written of times (Some (pos n)) x p t fit = fixed_written of (n * times) x p t fit
  counted_written of times (Some (negsuc n)) x p t fit = absurd cc

  sized_written : (counters : Counters) (of : Primitive) (dim : Dim) → IsWrittenAs (Some of) (sized_kind counters of dim)
  sized_written counters of One x p t fit = plain_written of x p t fit
  sized_written counters of (Several n) x p t fit = fixed_written of n x p t fit
  sized_written counters of (Counted counter times) x p t fit = counted_written of times (lookup (bytes_eq counter) counters) x p t fit

  text_written : (b : Bool) → IsWrittenAs None (cond b Texted kind_of_nothing)
  text_written true (layer.Text text) p t fit = refl
  text_written true other p t fit = absurd cc
  text_written false x p t fit = absurd cc

  leaf_layer : (counters : Counters) (leaf : Leaf) (o : Option Primitive) → letter_kind leaf.letter ≡ o → IsWrittenAs o (leaf_kind counters leaf)
  leaf_layer counters leaf (Some of) e = subst (IsWrittenAs (Some of)) (sym (kind_some counters leaf of e)) (sized_written counters of leaf.dim)
  leaf_layer counters leaf None e = subst (IsWrittenAs None) (sym (kind_none counters leaf e)) (text_written (bytes_eq (leaf.letter ∷ []) (codes "C")))

  pub leaf_written : (counters : Counters) (leaf : Leaf) (v : Value) (p : ℕ) (t : WordsMet) → kind_fits (leaf_kind counters leaf) v ≡ true → (writing_of classes v).bytes (kinded (leaf_kind counters leaf)) p t ≡ (value_bytes (letter_kind leaf.letter) v, t)
  leaf_written counters leaf v p t fit = ap (λ (w : Writing). w.bytes (kinded (leaf_kind counters leaf)) p t) (write_out classes v) ∙ leaf_layer counters leaf (letter_kind leaf.letter) refl (out-Value v) p t fit

-- Entries of a branch of a class.
use Rattle.std.proofs.Common.{◌≡◌, ◌&&◌, ℕ, List, [], ◌∷◌, Bool, true, false, Option, Some, None, length, slice_index_or, refl, sym, ap, ◌∙◌, arith}
use Rattle.std.proofs.lemmas.List.{append-nil}
use Rattle.std.specs.Prelude.{is_some}
use Rattle.rio_leaf.specs.declared.branch.Shape.TheVariants.{Class}
use Rattle.rio_format.specs.{ReaderState.{no_words}, Fits.{Labels, fits, fitting_of}, Slots.{kinded}, Written.{writing_of, written_form}, declared.class.ClassDef.{ClassDef}, declared.kind.Kind.TheVariants.{Inline}}
use Rattle.rio_format.proofs.WrittenPointers.{inline_class}
use Rattle.rio_format.specs.declared.value.Value.{Value}
use Rattle.rio_entry.specs.Entries.{branch_entry_bytes, entry_fits}

module _ (classes : List ClassDef) (class : List ℕ) (counts : List Value) (v : Value) where
  -- the one value of a row fits where the object does
  pub object_fits : entry_fits classes (Class class) counts (v ∷ []) ≡ fits classes class v
  object_fits = by (fits classes class v)
    where
      by : (b : Bool) → (b && true) ≡ b
      by true = refl
      by false = refl

  found : (o : Option Labels) → is_some o ≡ true → (labels : Labels) × (o ≡ Some labels)
  found None e = absurd cc
  found (Some labels) e = (labels, refl)

  -- and its bytes are the object's
  pub object_bytes : fits classes class v ≡ true → written_form classes 0 v ≡ branch_entry_bytes classes (Class class) counts (v ∷ [])
  object_bytes fit =
      let labels = found ((fitting_of classes v).fits (kinded (Inline class)) []) fit in
      let same = inline_class classes v class [] labels.0 labels.1 in
      ap (λ (c : List ℕ). ((writing_of classes v).bytes (kinded (Inline c)) 0 no_words).0) same ∙ sym (append-nil (((writing_of classes v).bytes (kinded (Inline class)) 0 no_words).0))

-- a row of one value
pub only_one : (row : List Value) (v : Value) → length row ≡ 1 → v ≡ slice_index_or row 0 v → v ∷ [] ≡ row
only_one [] v len e = absurd (omega (arith, len))
only_one (w ∷ []) v len e = ap (λ (z : Value). z ∷ []) e
only_one (w ∷ x ∷ more) v len e = absurd (omega (arith, len))

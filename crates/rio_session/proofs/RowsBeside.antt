-- Baskets are read as they were among one record more, and among one record less that isn't theirs.
use Rattle.std.proofs.Common.{◌≡◌, ◌==◌, ℕ, List, Bool, true, false, refl, sym, ap, subst, ◌∙◌}
use Rattle.std.proofs.lemmas.Bool.{eqb-true}
use Rattle.std.specs.Prelude.{Some, is_some}
use Rattle.rio_tree.specs.declared.basket_at.BasketAt.{BasketAt}
use Rattle.rio_state.specs.{KeyedRecords.{KeyedRecord, begins_at, record_at}, OneMore.{HasOneMoreIn}, Trees.{RecordsAt, basket_bytes}}
use Rattle.rio_state.proofs.{Members.{In}, TreesSame.{none_there, place_same}}
use Rattle.rio_effect.specs.SavedRows.{HoldsEntries}
use Rattle.rio_session.proofs.RowsKept.{HoldStill}

module _ (old new : List KeyedRecord) (x : KeyedRecord) (more : HasOneMoreIn old new x) where
  -- with one record more, at a place where none began
  pub hold_with : begins_at old x.head.seek ≡ false → (places : List ℕ) → HoldStill (record_at old) (record_at new) places
  hold_with free places offsets at entries i h = record { bytes = h.bytes; there = by (x.head.seek == at.seek) refl; read = h.read; some = h.some }
    where
      by : (b : Bool) → (x.head.seek == at.seek) ≡ b → basket_bytes (record_at new) at ≡ Some h.bytes
      by true e =
          let none = none_there old at (ap (begins_at old) (sym (eqb-true x.head.seek at.seek e)) ∙ free) in
          let f : true ≡ false = ap is_some (sym h.there) ∙ none in absurd cc
      by false e = sym (place_same old new x more at e) ∙ h.there

  -- without one that stands at none of the places
  pub hold_without : (places : List ℕ) → (In x.head.seek places → ⊥) → HoldStill (record_at new) (record_at old) places
  hold_without places apart offsets at entries i h = record { bytes = h.bytes; there = by (x.head.seek == at.seek) refl; read = h.read; some = h.some }
    where
      by : (b : Bool) → (x.head.seek == at.seek) ≡ b → basket_bytes (record_at old) at ≡ Some h.bytes
      by true e = absurd (apart (subst (λ (p : ℕ). In p places) (sym (eqb-true x.head.seek at.seek e)) i))
      by false e = place_same old new x more at e ∙ h.there

-- one thing and then another one
pub hold_then : (f g k : RecordsAt) (places : List ℕ) → HoldStill f g places → HoldStill g k places → HoldStill f k places
hold_then f g k places one two offsets at entries i h = two offsets at entries i (one offsets at entries i h)

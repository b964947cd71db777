-- The object of a record is the same with one class more.
use Rattle.std.proofs.Common.{◌≡◌, List, [], ◌∷◌, ◌++◌, Bool, true, false, cond, not, ◌&&◌, Option, Some, None, Ok, Err, refl, ap, ◌∙◌}
use Rattle.std.proofs.lemmas.{Bool.{and_from, and_parts}, Option.{same_Some}}
use Rattle.rio_num.specs.Room.{is_padding}
use Rattle.rio_format.specs.{declared.class.ClassDef.{ClassDef}, declared.value.Value.{Value}, Frames.{Step}, Fits.{fits}, Objects.{first_at}, Slots.{can_be_put}}
use Rattle.rio_machine.specs.Limits.{has_long_list, is_too_deep, is_too_long}
use Rattle.rio_state.specs.{Contents.{can_be_stored, object_in, stored_in}, KeyedRecords.{KeyedRecord, record_data}}
use Rattle.rio_format.proofs.GrowthLaws.{fitting_read_stays}
use Rattle.rio_step.proofs.{FitLaws.{put_more}, FitStays.{fits_stay}}

if_true : {A : Type 0} (b : Bool) (x y : A) → (let o : Option A = cond b (Some x) None in o) ≡ Some y → (b ≡ true) × (x ≡ y)
if_true true x y e = (refl, same_Some x y e)
if_true false x y e = absurd cc

module _ (classes : List ClassDef) (class : ClassDef) (r : KeyedRecord) where
  abbrev more : List ClassDef
  more = classes ++ class ∷ []

  -- what a value that can be stored passes beside its fit and its class
  abbrev passes_limits : Value → Bool
  passes_limits v = not (is_too_long r.head.objlen) && (not (is_too_deep v) && not (has_long_list v))

  stored_fit : (v : Value) → can_be_stored classes r v ≡ true → (fits classes r.head.class v ≡ true) × (can_be_put classes r.head.class ≡ true) × (passes_limits v ≡ true)
  stored_fit v e = by (fits classes r.head.class v) (can_be_put classes r.head.class) (not (is_too_long r.head.objlen)) (not (is_too_deep v)) (not (has_long_list v)) e
    where
      by : (a b c d f : Bool) → (a && b && c && d && f) ≡ true → (a ≡ true) × (b ≡ true) × ((c && (d && f)) ≡ true)
      by true true true true f e = (refl, refl, e)
      by false b c d f e = absurd cc
      by true false c d f e = absurd cc
      by true true false d f e = absurd cc
      by true true true false f e = absurd cc

  stored_more : (v : Value) → can_be_stored classes r v ≡ true → can_be_stored more r v ≡ true
  stored_more v e =
      let own = stored_fit v e in
      by (fits more r.head.class v) (can_be_put more r.head.class) (not (is_too_long r.head.objlen)) (not (is_too_deep v)) (not (has_long_list v))
      (fits_stay classes class r.head.class v own.0) (put_more classes class r.head.class own.1) own.2
    where
      by : (a b c d f : Bool) → a ≡ true → b ≡ true → (c && (d && f)) ≡ true → (a && b && c && d && f) ≡ true
      by true true true true f x y e = e
      by false b c d f x y e = absurd cc
      by true false c d f x y e = absurd cc
      by true true false d f x y e = absurd cc
      by true true true false f x y e = absurd cc

  object_stays : (v : Value) (step : Step Value) → first_at classes r.head.class r.head.keylen (record_data r) ≡ step → stored_in classes r step ≡ Some v
      → stored_in more r (first_at more r.head.class r.head.keylen (record_data r)) ≡ Some v
  object_stays v (Err e) is h = absurd cc
  object_stays v (Ok x) is h =
      let passed = if_true (is_padding x.1.at.rest && can_be_stored classes r x.0) x.0 v h in
      let two = and_parts (is_padding x.1.at.rest) (can_be_stored classes r x.0) passed.0 in
      let read = fitting_read_stays classes class r.head.class r.head.keylen (record_data r) x.0 x.1 (stored_fit x.0 two.1).0 is in
      let stored : (is_padding x.1.at.rest && can_be_stored more r x.0) ≡ true = and_from _ _ two.0 (stored_more x.0 two.1) in
      ap (stored_in more r) read ∙ ap (λ b. cond b (Some x.0) None) stored ∙ ap (λ (w : Value). Some w) passed.1

pub objects_stay : (classes : List ClassDef) (class : ClassDef) (r : KeyedRecord) (v : Value) → object_in classes r ≡ Some v → object_in (classes ++ class ∷ []) r ≡ Some v
unfolding object_in
objects_stay classes class r v e = object_stays classes class r v (first_at classes r.head.class r.head.keylen (record_data r)) refl e

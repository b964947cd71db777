-- Whether the parts of an object fit, one after the other.
use Rattle.std.proofs.Common.{◌≡◌, ◌≤◌, ◌<◌, ℕ, ◌+◌, List, [], ◌∷◌, length, drop, map, Bool, true, false, Option, Some, None, if◌then◌else◌, not, refl, sym, ap, ◌∙◌, slice_index_or, Ok, arith, inl, inr, length-drop}
use Rattle.std.proofs.{lemmas.Bool.Decides.{leb_tells}, lemmas.Option.{slice_get_past}, lemmas.List.{drop_more, drop_all}}
use Rattle.std.specs.{Prelude.{ℤ, is_none, option_and_then, slice_get, unwrap_or}, Option.{option_map}, Str.{bytes_eq}}
use Rattle.rio_format.specs.{declared.kind.Kind.TheVariants.{Counter}, Bodies.{Counters}, Fits.{Fitting, Labels, counted_slot, counted_so_far, fields_fit}, Slots.{Field, kinded}}
use Rattle.rio_format.proofs.FieldLaws.{found_first, none_left, some_left}
use Rattle.rio_fit.specs.Fitting.{Tells, counter_fits, part_fits}

-- ---- one part

-- the labels with the counters behind a part
abbrev met_with : Counters → Option Labels → Option (Labels × Counters)
met_with met r = option_map {U = Labels × Counters} (λ l. (l, met)) r

some_met : (b : Bool) (r : Option Labels) (met met' : Counters) (after : Labels) → (if b then met_with met r else None) ≡ Some (after, met') → (if b then r else None) ≡ Some after
some_met true (Some l) met met' after e = ap (λ (o : Option (Labels × Counters)). option_map (λ q. q.0) o) e
some_met true None met met' after e = absurd cc
some_met false r met met' after e = absurd cc

some_counters : (b : Bool) (r : Option Labels) (met met' : Counters) (after : Labels) → (if b then met_with met r else None) ≡ Some (after, met') → met ≡ met'
some_counters true (Some l) met met' after e =
    ap (λ (o : Option (Labels × Counters)). unwrap_or (option_map (λ q. q.1) o) met) e
some_counters true None met met' after e = absurd cc
some_counters false r met met' after e = absurd cc

joined : (fs : List Field) (ys : List (List ℕ × Fitting)) (met : Counters) (b : Bool) (r : Option Labels) → (if b then option_and_then (fields_fit fs ys met) r else None) ≡ option_and_then (fields_fit fs ys met) (if b then r else None)
joined fs ys met true r = refl
joined fs ys met false r = refl

no_labels : (b : Bool) (r : Option Labels) (met : Counters) → (if b then met_with met r else None) ≡ None → (if b then r else None) ≡ None
no_labels true (Some l) met e = absurd cc
no_labels true None met e = refl
no_labels false r met e = refl

module _ (f : Field) (y : List ℕ × Fitting) (fs : List Field) (ys : List (List ℕ × Fitting)) (met : Counters) (labels : Labels) where
  named : Bool
  named = bytes_eq y.0 f.name

  own : Option Labels
  own = y.1.fits (counted_slot met f.slot) labels

  met_then : Counters
  met_then = counted_so_far f y.1.number met

  pub one_more : (after : Labels) (met' : Counters) → part_fits f y met labels ≡ Some (after, met') → fields_fit (f ∷ fs) (y ∷ ys) met labels ≡ fields_fit fs ys met' after
  unfolding named own met_then
  one_more after met' e =
      joined fs ys met_then named own ∙ ap (option_and_then (fields_fit fs ys met_then)) (some_met named own met_then met' after e) ∙ ap (λ (m : Counters). fields_fit fs ys m after) (some_counters named own met_then met' after e)

  pub one_less : part_fits f y met labels ≡ None → fields_fit (f ∷ fs) (y ∷ ys) met labels ≡ None
  unfolding named own met_then
  one_less e = joined fs ys met_then named own ∙ ap (option_and_then (fields_fit fs ys met_then)) (no_labels named own met_then e)

pub same_names : (b : Bool) → false ≡ not b → b ≡ true
same_names true e = refl
same_names false e = absurd cc

-- a part of a counter
pub part_counts : (f : Field) (y : List ℕ × Fitting) (met : Counters) (labels : Labels) → f.slot ≡ kinded Counter → bytes_eq y.0 f.name ≡ true → part_fits f y met labels ≡ counter_fits f.name y.1 met labels
part_counts f y met labels e h = rw (h, e) refl

pub counter_noted : (name : List ℕ) (f : Fitting) (met met' : Counters) (labels : Labels) (said : ℤ) → f.number ≡ said → f.fits (kinded Counter) labels ≡ Some labels → met' ≡ (name, said) ∷ met → counter_fits name f met labels ≡ Some (labels, met')
counter_noted name f met met' labels said n e h = rw (e, n, h) refl

-- ---- all of them

no_more : {Y : Type 0} (h : Y → List ℕ × Fitting) (ys : List Y) (met : Counters) (labels : Labels) → 0 < length ys → fields_fit [] (map h ys) met labels ≡ None
no_more h [] met labels lt = absurd (omega arith)
no_more h (y ∷ ys) met labels lt = refl

no_part : (fs : List Field) (met : Counters) (labels : Labels) → 0 < length fs → fields_fit fs [] met labels ≡ None
no_part [] met labels lt = absurd (omega arith)
no_part (f ∷ fs) met labels lt = refl

module _ {Y : Type 0} (h : Y → List ℕ × Fitting) (fields : List Field) (parts : List Y) (k : ℕ) (met : Counters) (labels : Labels) (total : Option Labels) where
  module _ (field : Field) (part : Y) (found : slice_get fields k ≡ Some field) (lp : k < length parts) (e : part ≡ slice_index_or parts k part) where
    first : drop k parts ≡ part ∷ drop (k + 1) parts
    first = drop_more parts k part lp ∙ ap (λ (z : Y). z ∷ drop (k + 1) parts) (sym e)

    pub part_goes_on : (after : Labels) (met' : Counters) → part_fits field (h part) met labels ≡ Some (after, met') → fields_fit (drop k fields) (map h (drop k parts)) met labels ≡ total → fields_fit (drop (k + 1) fields) (map h (drop (k + 1) parts)) met' after ≡ total
    part_goes_on after met' fit so_far =
        let one : fields_fit (drop k fields) (map h (drop k parts)) met labels ≡ fields_fit (drop (k + 1) fields) (map h (drop (k + 1) parts)) met' after =
        rw (found_first fields k field found, first) (one_more field (h part) (drop (k + 1) fields) (map h (drop (k + 1) parts)) met labels after met' fit) in
        sym one ∙ so_far

    pub part_stops : part_fits field (h part) met labels ≡ None → fields_fit (drop k fields) (map h (drop k parts)) met labels ≡ total → total ≡ None
    part_stops fit so_far =
        let one : fields_fit (drop k fields) (map h (drop k parts)) met labels ≡ None =
        rw (found_first fields k field found, first) (one_less field (h part) (drop (k + 1) fields) (map h (drop (k + 1) parts)) met labels fit) in
        sym so_far ∙ one

module _ {Y : Type 0} (h : Y → List ℕ × Fitting) (fields : List Field) (parts : List Y) (k : ℕ) (met : Counters) (labels : Labels) (total : Option Labels) where
  pub part_too_many : slice_get fields k ≡ None → k < length parts → fields_fit (drop k fields) (map h (drop k parts)) met labels ≡ total → total ≡ None
  part_too_many none lt so_far =
      let some : 0 < length (drop k parts) = simp length-drop (omega arith) in
      let one : fields_fit (drop k fields) (map h (drop k parts)) met labels ≡ None =
      rw (none_left fields k none) (no_more h (drop k parts) met labels some) in
      sym so_far ∙ one

  -- where no part is left, no field must be
  pub parts_done : (done : Bool) → length parts ≤ k → done ≡ is_none (slice_get fields k) → fields_fit (drop k fields) (map h (drop k parts)) met labels ≡ total → Tells (Ok done) total labels
  parts_done done le is so_far = rw is (elim (leb_tells (length fields) k) [ inl w ↦ enough (slice_get_past fields k w.1) | inr w ↦ missing w.1 ])
    where
      sp : drop k parts ≡ []
      sp = drop_all k parts le

      missing : k < length fields → Tells (Ok (is_none (slice_get fields k))) total labels
      missing lf =
          let found = some_left fields k lf in
          let some : 0 < length (drop k fields) = simp length-drop (omega arith) in
          let one : fields_fit (drop k fields) (map h (drop k parts)) met labels ≡ None = rw sp (no_part (drop k fields) met labels some) in
          rw found.1 (sym so_far ∙ one)

      enough : slice_get fields k ≡ None → Tells (Ok (is_none (slice_get fields k))) total labels
      enough none =
          let one : fields_fit (drop k fields) (map h (drop k parts)) met labels ≡ Some labels = rw (none_left fields k none, sp) refl in
          rw none (sym so_far ∙ one)

-- A search among keys in order of place.
use Rattle.std.proofs.Common.{◌≡◌, ◌∙◌, inl, inr, ℕ, zero, suc, ◌+◌, ◌<◌, ◌≤◌, Bool, true, false, cond, ◌==◌, ltb, List, [], ◌∷◌, length, get_or, Option, Some, None, refl, ap, sym, slice_get, arith}
use Rattle.std.proofs.{Math.Numerals.{one-add}, lemmas.Bool.{cases_lt, eqb-false, le-ltb, lt-ltb, ltb-false, ltb-true, ne_eqb}}
use Rattle.std.proofs.lemmas.List.{Sums.{prefix_len-le-length, prefix_len_passes, prefix_len_stops}}
use Rattle.std.specs.{Prelude.{option_and_then}, List.{find, prefix_len, Sorted.{IsPartitionedBy, IsPartitionPoint}}}
use Rattle.rio_num.specs.Reading.{some_if}
use Rattle.rio_key.specs.declared.head.KeyHead.{KeyHead}
use Rattle.rio_entry.specs.SavedRows.{AreByPlace}
use Rattle.rio_recover.specs.{Baskets.{if_at_place, is_before_place}, Keys.{HeadsRise}}

-- keys behind a place
behind_at : (p : ℕ) (hs : List KeyHead) → HeadsRise p hs → (k : ℕ) (d : KeyHead) → k < length hs → p ≤ (get_or hs k d).seek
behind_at p [] rise k d lt = absurd (omega (arith, lt))
behind_at p (h ∷ hs) rise zero d lt = rise.0
behind_at p (h ∷ hs) rise (suc k) d lt = omega (arith, behind_at (h.seek + 1) hs rise.1 k d (omega (arith, lt)), rise.0)

pub by_place : (p : ℕ) (hs : List KeyHead) → HeadsRise p hs → AreByPlace hs
by_place p [] rise i j d le lt = absurd (omega (arith, lt))
by_place p (h ∷ hs) rise zero zero d le lt = omega arith
by_place p (h ∷ hs) rise zero (suc j) d le lt = omega (arith, behind_at (h.seek + 1) hs rise.1 j d (omega (arith, lt)))
by_place p (h ∷ hs) rise (suc i) zero d le lt = absurd (omega (arith, le))
by_place p (h ∷ hs) rise (suc i) (suc j) d le lt = by_place (h.seek + 1) hs rise.1 i j d (omega (arith, le)) (omega (arith, lt))

none_behind : (place p : ℕ) (hs : List KeyHead) → place < p → HeadsRise p hs → find (λ h. h.seek == place) hs ≡ None
none_behind place p [] lt rise = refl
none_behind place p (h ∷ hs) lt rise = rw (ne_eqb h.seek place (omega (arith, lt, rise.0))) (none_behind place (h.seek + 1) hs (omega (arith, lt, rise.0)) rise.1)

module _ (place : ℕ) where
  pub partitioned : (p : ℕ) (hs : List KeyHead) → HeadsRise p hs → IsPartitionedBy (is_before_place place) hs
  partitioned p [] rise i j d le lt holds = absurd (omega (arith, lt))
  partitioned p (h ∷ hs) rise zero zero d le lt holds = holds
  partitioned p (h ∷ hs) rise zero (suc j) d le lt holds =
      lt-ltb h.seek place (omega (arith, behind_at (h.seek + 1) hs rise.1 j d (omega (arith, lt)), ltb-true (get_or hs j d).seek place holds))
  partitioned p (h ∷ hs) rise (suc i) zero d le lt holds = absurd (omega (arith, le))
  partitioned p (h ∷ hs) rise (suc i) (suc j) d le lt holds = partitioned (h.seek + 1) hs rise.1 i j d (omega (arith, le)) (omega (arith, lt)) holds

  pub searched : (p : ℕ) (hs : List KeyHead) → HeadsRise p hs → option_and_then (if_at_place place) (slice_get hs (prefix_len (is_before_place place) hs)) ≡ find (λ h. h.seek == place) hs
  searched p [] rise = refl
  searched p (h ∷ hs) rise = by (searched (h.seek + 1) hs rise.1) (ltb h.seek place) refl
    where
      by : option_and_then (if_at_place place) (slice_get hs (prefix_len (is_before_place place) hs)) ≡ find (λ k. k.seek == place) hs → (b : Bool) → ltb h.seek place ≡ b
          → option_and_then (if_at_place place) (slice_get (h ∷ hs) (cond b (1 + prefix_len (is_before_place place) hs) 0)) ≡ cond (h.seek == place) (Some h) (find (λ k. k.seek == place) hs)
      by ih true e = rw (one-add, ne_eqb h.seek place (omega (arith, ltb-true h.seek place e))) ih
      by ih false e = first (h.seek == place) refl
        where
          first : (c : Bool) → (h.seek == place) ≡ c → cond c (Some h) None ≡ cond c (Some h) (find (λ k. k.seek == place) hs)
          first true f = refl
          first false f = sym (none_behind place (h.seek + 1) hs (omega (arith, ltb-false h.seek place e, eqb-false h.seek place f)) rise.1)

pub point_is : (p : KeyHead → Bool) (hs : List KeyHead) (i : ℕ) → i ≤ length hs → IsPartitionPoint (λ h. p h ≡ true) (λ h. p h ≡ false) hs i → i ≡ prefix_len p hs
point_is p [] i le point = omega (arith, le)
point_is p (h ∷ hs) i le point =
    elim (cases_lt i (prefix_len p (h ∷ hs))) [
      | inl lt ↦ let yes = prefix_len_passes p (h ∷ hs) i h lt in let no = point.1 i h (omega arith) (omega (arith, prefix_len-le-length p (h ∷ hs))) in absurd cc
      | inr ge ↦ elim (cases_lt (prefix_len p (h ∷ hs)) i) [
        | inl lt ↦ let yes = point.0 (prefix_len p (h ∷ hs)) h (omega arith) lt in let no = prefix_len_stops p (h ∷ hs) h (omega arith) in absurd cc
        | inr same ↦ omega arith
      ]
    ]

-- A list by places, at a place.
use Rattle.std.proofs.Common.{◌≡◌, ℕ, ◌<◌, ◌≤◌, map, slice_get, Option, Some, None, ◌∙◌, ap, arith}
use Rattle.std.proofs.{lemmas.List.FromFn.{get_or-map-range_with_len, length-map-range_with_len}, lemmas.Option.{slice_get-get_or, slice_get_past}}
use Rattle.std.specs.List.{range_with_len}

module _ {X : Type 0} (f : ℕ → X) where
  pub item_there : (n k : ℕ) → k < n → slice_get (map f (range_with_len 0 n)) k ≡ Some (f k)
  item_there n k lt =
      slice_get-get_or (map f (range_with_len 0 n)) k (f k) (omega (arith, length-map-range_with_len f 0 n))
      ∙ ap (λ (x : X). let o : Option X = Some x in o) (get_or-map-range_with_len f 0 n k k (f k) lt (omega arith))

  pub no_item : (n k : ℕ) → n ≤ k → slice_get (map f (range_with_len 0 n)) k ≡ None
  no_item n k le = slice_get_past (map f (range_with_len 0 n)) k (omega (arith, length-map-range_with_len f 0 n))

-- The key of a basket's record, among keys in order of place.
use Rattle.std.proofs.Common.{◌≡◌, ℕ, zero, suc, ◌+◌, ◌<◌, ◌≤◌, ◌==◌, ◌&&◌, Bool, true, false, cond, ltb, List, [], ◌∷◌, length, slice_get, slice_index_or, Option, Some, None, refl, sym, ap, ◌∙◌, arith}
use Rattle.std.proofs.lemmas.Bool.{eqb-false, eqb-true, ltb-false, ltb-true}
use Rattle.std.specs.{List.{find}, Option.{option_map_or}}
use Rattle.rio_key.specs.declared.head.KeyHead.{KeyHead}
use Rattle.rio_tree.specs.declared.basket_at.BasketAt.{BasketAt}
use Rattle.rio_entry.specs.SavedRows.{AreByPlace, has_basket, is_basket_key}

-- no key is at this place
none_there : (keys : List KeyHead) (place : ℕ) → ((j : ℕ) (d : KeyHead) → j < length keys → place < (slice_index_or keys j d).seek) → find (λ key. key.seek == place) keys ≡ None
none_there [] place above = refl
none_there (x ∷ xs) place above = by (x.seek == place) refl (none_there xs place (λ j d lt. above (suc j) d (omega (arith, lt))))
  where
    by : (b : Bool) → (x.seek == place) ≡ b → find (λ key. key.seek == place) xs ≡ None → cond (x.seek == place) (Some x) (find (λ key. key.seek == place) xs) ≡ None
    by true e rest = let low = above 0 x (omega arith) in let same = eqb-true _ _ e in absurd (omega (arith, low, same))
    by false e rest = ap (λ (c : Bool). cond c (Some x) (find (λ key. key.seek == place) xs)) e ∙ rest

module _ (at : BasketAt) where
  abbrev found : Option KeyHead → Bool
  found o = option_map_or (is_basket_key at) o false

  abbrev test : KeyHead → Bool
  test key = key.seek == at.seek

  -- only the key at the place can be that of the basket
  elsewhere : (x : KeyHead) → test x ≡ false → is_basket_key at x ≡ false
  elsewhere x e = rw e refl

  pub key_found : (keys : List KeyHead) (k : ℕ) → AreByPlace keys → k ≤ length keys
      → ((j : ℕ) (d : KeyHead) → 0 ≤ j → j < k → ltb (slice_index_or keys j d).seek at.seek ≡ true)
      → ((j : ℕ) (d : KeyHead) → k ≤ j → j < length keys → ltb (slice_index_or keys j d).seek at.seek ≡ false)
      → found (slice_get keys k) ≡ has_basket keys at
  key_found [] k order le front back = refl
  key_found (x ∷ xs) zero order le front back = by (test x) refl
    where
      by : (b : Bool) → test x ≡ b → is_basket_key at x ≡ found (cond (test x) (Some x) (find test xs))
      by true e = ap (λ (c : Bool). found (cond c (Some x) (find test xs))) (sym e)
      by false e =
          let low = ltb-false _ _ (back 0 x (omega arith) (omega arith)) in
          let none = none_there xs at.seek (λ j d lt.
          let above = order 0 (suc j) d (omega arith) (omega (arith, lt)) in
          place_above x.seek at.seek (slice_index_or xs j d).seek low e above) in
          elsewhere x e ∙ ap found (sym none) ∙ ap (λ (c : Bool). found (cond c (Some x) (find test xs))) (sym e)
        where
          place_above : (m n o : ℕ) → n ≤ m → (m == n) ≡ false → m ≤ o → n < o
          place_above m n o le ne up = let other = eqb-false _ _ ne in omega (arith, le, other, up)
  key_found (x ∷ xs) (suc k) order le front back =
      let before = ltb-true _ _ (front 0 x (omega arith) (omega arith)) in
      let rest = key_found xs k (λ i j d low lt. order (suc i) (suc j) d (omega (arith, low)) (omega (arith, lt))) (omega (arith, le))
      (λ j d low lt. front (suc j) d (omega arith) (omega (arith, lt)))
      (λ j d low lt. back (suc j) d (omega (arith, low)) (omega (arith, lt))) in
      rest ∙ ap found (sym (by (test x) refl before))
    where
      by : (b : Bool) → test x ≡ b → x.seek < at.seek → cond (test x) (Some x) (find test xs) ≡ find test xs
      by true e lt = let same = eqb-true _ _ e in absurd (omega (arith, same, lt))
      by false e lt = ap (λ (c : Bool). cond c (Some x) (find test xs)) e

-- Offsets, one behind the other.
use Rattle.std.proofs.Common.{◌≡◌, ℕ, suc, ◌+◌, ◌-◌, ◌<◌, List, Bool, true, false, cond, Some, None, Err, refl, sym, arith, add-one}
use Rattle.rio_key.specs.{declared.basket_fault.BasketFault.TheVariants.{BadOffsets}, declared.basket_layout.Layout.{Layout}, BasketEntries.{is_offset, offset_at, offset_before, offset_place, offsets_from, sound_offset}}

module _ (layout : Layout) (bytes : List ℕ) where
  pub before_next : (k : ℕ) → offset_before layout bytes (k + 1) ≡ offset_at layout bytes k
  before_next k = rw add-one refl

  sound : (t : Bool) (k x : ℕ) → cond t (Some x) None ≡ Some k → (t ≡ true) × (x ≡ k)
  sound true k x e = (refl, cc)
  sound false k x e = absurd cc

  unsound : (t : Bool) (x : ℕ) → cond t (Some x) None ≡ None → t ≡ false
  unsound true x e = absurd cc
  unsound false x e = refl

  pub offset_sound : (k x : ℕ) → sound_offset layout bytes k ≡ Some x → x ≡ offset_at layout bytes k
  offset_sound k x e = sym (sound (is_offset layout bytes k) x (offset_at layout bytes k) e).1

  pub one_sound : (n k x : ℕ) → k < n → sound_offset layout bytes k ≡ Some x → offsets_from layout bytes (n - k) k ≡ offsets_from layout bytes (n - (k + 1)) (k + 1)
  one_sound n k x lt e =
      let more : n - k ≡ suc (n - (k + 1)) = omega arith in
      rw (more, (sound (is_offset layout bytes k) x (offset_at layout bytes k) e).0) refl

  pub one_bad : (n k : ℕ) → k < n → sound_offset layout bytes k ≡ None → offsets_from layout bytes (n - k) k ≡ Err (BadOffsets (offset_place layout k))
  one_bad n k lt e =
      let more : n - k ≡ suc (n - (k + 1)) = omega arith in
      rw (more, unsound (is_offset layout bytes k) (offset_at layout bytes k) e) refl

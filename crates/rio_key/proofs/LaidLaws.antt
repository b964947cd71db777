-- What is known of a basket's places once its layout is read.
use Rattle.std.proofs.Common.{◌≡◌, ◌⊎◌, inl, inr, ℕ, zero, suc, ◌+◌, ◌<◌, ◌≤◌, ℤ, pos, List, length, Bool, true, false, cond, ◌&&◌, ◌||◌, not, nat_lt, int_le, unsigned_abs, Result, Ok, Err, refl, sym, subst, arith}
use Rattle.std.proofs.{lemmas.Bool.{and_parts, cases_lt, not-false, Decides.{nat_tests}}, lemmas.Int.{ints}}
use Rattle.rio_num.specs.{Reading.{◌>>=◌}, Meanings.{read}, Plain.{plain, value_of}}
use Rattle.rio_num.proofs.ReadLaws.{bind_ok, chosen, ok_is}
use Rattle.rio_key.specs.{BasketFront.{basket_front}, Key.{is_compressed}, declared.basket_head.BasketFront.{BasketFront}, declared.fault.KeyFault.{KeyFault}}
use Rattle.rio_key.specs.{declared.basket_fault.BasketFault.{BasketFault, TheVariants.{BadLast, BadOffsets, Compressed}}, declared.basket_layout.Layout.{Layout}}
use Rattle.rio_key.specs.{BasketEntries.{has_count, is_offset, is_whole_at, number_there, offset_at, offset_before, offset_place, offsets_from, offsets_in, spare_offset}, LaidBasket.{AreOffsets, IsLaid, IsLayoutWithin}}
use Rattle.rio_key.specs.StoredLayout.{ends_within, has_negative, has_one_length, is_sound, last_place, layout_by, layout_in, layout_of}
use Rattle.rio_key.proofs.OffsetLaws.{before_next}

-- ---- the numbers of the head

abbrev sound_or : Bool → BasketFront → Result Layout BasketFault
sound_or t front = cond t (Err (BadLast (last_place front))) (Ok (layout_of front))

abbrev stored_or : Bool → Bool → BasketFront → Result Layout BasketFault
stored_or t offsets front = cond t (Err Compressed) (sound_or (not (is_sound offsets front)) front)

layout_bounds : (offsets : Bool) (n : ℕ) (front : BasketFront) (long packed : Bool) (wrong : Bool) → nat_lt n (unsigned_abs front.key.nbytes) ≡ long → is_compressed front.key ≡ packed → not (is_sound offsets front) ≡ wrong → (layout : Layout) → cond long (Err (BadLast 0)) (cond packed (Err Compressed) (cond wrong (Err (BadLast (last_place front))) (Ok (layout_of front)))) ≡ Ok layout → (layout ≡ layout_of front) × (is_sound offsets front ≡ true) × (unsigned_abs front.key.nbytes ≤ n)
layout_bounds offsets n front true packed wrong a b c layout e = absurd cc
layout_bounds offsets n front false true wrong a b c layout e = absurd cc
layout_bounds offsets n front false false true a b c layout e = absurd cc
layout_bounds offsets n front false false false a b c layout e =
    (sym (ok_is {E = BasketFault} (layout_of front) layout e), not-false (is_sound offsets front) c, grind (arith, nat_tests))

sound_bounds : (front : BasketFront) → ends_within front ≡ true → (front.key.keylen ≤ unsigned_abs front.head.last) × (unsigned_abs front.head.last ≤ unsigned_abs front.key.nbytes)
sound_bounds front h =
    let parts = and_parts (int_le (pos front.key.keylen) front.head.last) (int_le front.head.last front.key.nbytes) h in
    (first (front.key.keylen) front.head.last parts.0, last front.key.keylen front.head.last front.key.nbytes parts.0 parts.1)
  where
    first : (k : ℕ) (z : ℤ) → int_le (pos k) z ≡ true → k ≤ unsigned_abs z
    first k z e = grind (arith, ints)

    last : (k : ℕ) (z y : ℤ) → int_le (pos k) z ≡ true → int_le z y ≡ true → unsigned_abs z ≤ unsigned_abs y
    last k z y e f = grind (arith, ints)

within_by : (offsets : Bool) (bytes : List ℕ) (layout : Layout) (r : Result BasketFront KeyFault) → layout_by offsets (length bytes) r ≡ Ok layout → IsLayoutWithin layout bytes
within_by offsets bytes layout (Err e) h = absurd cc
within_by offsets bytes layout (Ok front) h =
    let b = layout_bounds offsets (length bytes) front _ _ _ refl refl refl layout h in
    let sound = and_parts (not (has_negative front.head) && ends_within front) (offsets || has_one_length front) b.1 in
    let ends = sound_bounds front (and_parts (not (has_negative front.head)) (ends_within front) sound.0).1 in
    let made : IsLayoutWithin (layout_of front) bytes = record { first_within = ends.0; last_within = ends.1; end_within = b.2 } in
    subst (λ (l : Layout). IsLayoutWithin l bytes) (sym b.0) made

pub layout_within : (offsets : Bool) (bytes : List ℕ) (layout : Layout) → layout_in offsets bytes ≡ Ok layout → IsLayoutWithin layout bytes
layout_within offsets bytes layout e = within_by offsets bytes layout (value_of (read basket_front (plain (record { place = 0; rest = bytes })))) e

-- ---- offsets

at_or_above : (j k : ℕ) → k ≤ j → (j ≡ k) ⊎ (k + 1 ≤ j)
at_or_above j k le = elim (cases_lt k j) [ inl lt ↦ inr (omega arith) | inr ge ↦ inl (omega arith) ]

at_most : (n m : ℕ) → not (nat_lt n m) ≡ true → m ≤ n
at_most n m h = grind (arith, nat_tests)

neither : (x a b : ℕ) → not (nat_lt x a || nat_lt b x) ≡ true → (a ≤ x) × (x ≤ b)
neither x a b h = grind (arith, nat_tests)

module _ (layout : Layout) (bytes : List ℕ) where
  -- one that can stand
  record Stands (k : ℕ) : Type 0 where
    whole : offset_place layout k + 4 ≤ layout.end
    behind : offset_before layout bytes k ≤ offset_at layout bytes k
    within : offset_at layout bytes k ≤ layout.last

  stands : (k : ℕ) → is_offset layout bytes k ≡ true → Stands k
  stands k h =
      let parts = and_parts (is_whole_at layout (offset_place layout k)) (not (nat_lt (offset_at layout bytes k) (offset_before layout bytes k) || nat_lt layout.last (offset_at layout bytes k))) h in
      record {
        whole = at_most layout.end (offset_place layout k + 4) parts.0;
        behind = (neither (offset_at layout bytes k) (offset_before layout bytes k) layout.last parts.1).0;
        within = (neither (offset_at layout bytes k) (offset_before layout bytes k) layout.last parts.1).1;
      }

  one_ok : (n k : ℕ) (u : Unit {0}) (t : Bool) → cond t (offsets_from layout bytes n (k + 1)) (Err (BadOffsets (offset_place layout k))) ≡ Ok u → (t ≡ true) × (offsets_from layout bytes n (k + 1) ≡ Ok u)
  one_ok n k u true e = (refl, e)
  one_ok n k u false e = absurd cc

  offsets_ok : (n k : ℕ) (u : Unit {0}) → offsets_from layout bytes n k ≡ Ok u → (j : ℕ) → k ≤ j → j < k + n → Stands j
  offsets_ok zero k u e j low high = absurd (omega arith)
  offsets_ok (suc n) k u e j low high =
      let one = one_ok n k u (is_offset layout bytes k) e in
      elim (at_or_above j k low) [
        | inl same ↦ subst (λ (i : ℕ). Stands i) (sym same) (stands k one.0)
        | inr above ↦ offsets_ok n (k + 1) u one.1 j above (omega arith)
      ]

  all_ok : (u : Unit {0}) → offsets_in layout bytes ≡ Ok u → (j : ℕ) → j < layout.count → Stands j
  all_ok u e j lt =
      let all : Result (Unit {0}) BasketFault = offsets_from layout bytes layout.count 0 >>= λ all. spare_offset layout (number_there bytes layout.last) in
      let none : Result (Unit {0}) BasketFault = Err (BadOffsets layout.last) in
      elim (chosen (has_count layout bytes) all none (Ok u) e) [
        | inl w ↦
            let one = bind_ok (offsets_from layout bytes layout.count 0) (λ all. spare_offset layout (number_there bytes layout.last)) u w.1 in
            offsets_ok layout.count 0 one.0 one.1 j (omega arith) (omega arith)
        | inr w ↦ absurd (let clash : none ≡ Ok u = w.1 in cc)
      ]

  pub are_offsets : (u : Unit {0}) → layout.end ≤ length bytes → offsets_in layout bytes ≡ Ok u → AreOffsets layout bytes
  are_offsets u le e = record {
    whole = λ k lt. let s = all_ok u e k lt in omega (arith, s.whole);
    rise = λ k lt. let s = all_ok u e (k + 1) lt in omega (arith, s.behind, before_next layout bytes k);
    end_within = λ k lt. (all_ok u e k lt).within;
  }

-- where both are read, the entries are laid out
pub is_laid : (offsets : Bool) (bytes : List ℕ) (layout : Layout) (u : Unit {0}) → layout_in offsets bytes ≡ Ok layout → (offsets ≡ true → offsets_in layout bytes ≡ Ok u) → IsLaid offsets layout bytes
is_laid offsets bytes layout u e all =
    let within = layout_within offsets bytes layout e in
    record { within = within; with_offsets = λ t. are_offsets layout bytes u within.end_within (all t) }

-- A basket whose entries have offsets: they are read as they were written.
use Rattle.std.proofs.Common.{◌≡◌, inl, inr, ℕ, zero, suc, ◌+◌, ◌-◌, ◌*◌, ◌^◌, ◌<◌, ◌≤◌, List, [], ◌++◌, length, take, drop, Bool, true, false, cond, not, nat_lt, ◌==◌, ◌||◌, ◌&&◌, Ok, Err, refl, sym, ap, subst, ◌∙◌, append_assoc, length-append, arith}
use Rattle.std.proofs.{lemmas.Bool.{eq-eqb, ne_eqb, le-ltb, cases_eq}, lemmas.List.{drop_at, drop-drop, FromFn.{fill_by_all}}}
use Rattle.std.specs.List.{concat, flat_map}
use Rattle.byteorder.specs.{Endian.{big_bytes, big_number}, Numbers.{big_number-reads_back, length-bytes_high_first}}
use Rattle.rio_key.specs.{declared.basket_fault.BasketFault.TheVariants.{BadOffsets}, declared.basket_layout.Layout.{Layout}}
use Rattle.rio_key.specs.BasketEntries.{has_count, is_offset, is_whole_at, laid_entries, laid_entry, number_there, offset_at, offset_before, offset_behind, offset_place, offsets_from, offsets_in, spare_offset}
use Rattle.rio_key.specs.BasketRecord.{offset_table, offsets_of}
use Rattle.rio_key.proofs.JoinedLaws.{before, before_all, before_next, before_within, entry_at, entry_there, length-offsets_of, number_in_table, offset_is}

module _ (front : List ℕ) (entries : List (List ℕ)) (tail : List ℕ) (end : ℕ) (whole : length front + length (concat entries) + 4 * length entries + 8 ≤ end) (small : end < 2 ^ 31) where
  abbrev first : ℕ
  first = length front

  abbrev last : ℕ
  last = length front + length (concat entries)

  abbrev layout : Layout
  layout = record { first = length front; last = length front + length (concat entries); end = end; count = length entries }

  abbrev numbers : List ℕ
  numbers = flat_map (big_bytes 4) (offsets_of (length front) entries)

  abbrev bytes : List ℕ
  bytes = front ++ (concat entries ++ (offset_table (length front) entries ++ tail))

  to_count : front ++ (concat entries ++ (offset_table (length front) entries ++ tail)) ≡ (front ++ concat entries) ++ (big_bytes 4 (length entries + 1) ++ (numbers ++ tail))
  to_count =
      sym (append_assoc front (concat entries) (offset_table (length front) entries ++ tail))
      ∙ ap (λ (l : List ℕ). (front ++ concat entries) ++ l) (append_assoc (big_bytes 4 (length entries + 1)) numbers tail)

  to_numbers : front ++ (concat entries ++ (offset_table (length front) entries ++ tail)) ≡ ((front ++ concat entries) ++ big_bytes 4 (length entries + 1)) ++ (numbers ++ tail)
  to_numbers = to_count ∙ sym (append_assoc (front ++ concat entries) (big_bytes 4 (length entries + 1)) (numbers ++ tail))

  -- how many offsets are said to be there
  count_there : number_there bytes last ≡ length entries + 1
  count_there =
      ap (λ (l : List ℕ). big_number 4 (drop last l)) to_count
      ∙ ap (big_number 4) (drop_at (front ++ concat entries) (big_bytes 4 (length entries + 1) ++ (numbers ++ tail)) last (length-append front (concat entries)))
      ∙ big_number-reads_back 4 (length entries + 1) (numbers ++ tail) (omega (arith, whole, small))

  -- the k-th offset, and the one behind those of the entries
  offset_there : (k : ℕ) → k ≤ length entries → offset_at layout bytes k ≡ length front + before k entries
  offset_there k le =
      let long : length ((front ++ concat entries) ++ big_bytes 4 (length entries + 1)) ≡ last + 4 =
      omega (arith, length-append (front ++ concat entries) (big_bytes 4 (length entries + 1)), length-append front (concat entries), length-bytes_high_first 4 (length entries + 1)) in
      let there : drop (last + 4 + 4 * k) bytes ≡ drop (4 * k) (numbers ++ tail) =
      sym (drop-drop (4 * k) (last + 4) bytes)
      ∙ ap (λ (l : List ℕ). drop (4 * k) (drop (last + 4) l)) to_numbers
      ∙ ap (drop (4 * k)) (drop_at ((front ++ concat entries) ++ big_bytes 4 (length entries + 1)) (numbers ++ tail) (last + 4) long) in
      let is = offset_is (length front) entries k le in
      let within = before_within entries k in
      let inside : k < length (offsets_of (length front) entries) = omega (arith, le, length-offsets_of (length front) entries) in
      ap (big_number 4) there ∙ number_in_table (offsets_of (length front) entries) tail k inside (omega (arith, is, within, whole, small)) ∙ is

  is_whole : (k : ℕ) → k ≤ length entries → is_whole_at layout (offset_place layout k) ≡ true
  is_whole k le = ap not (le-ltb end (last + 4 + 4 * k + 4) (omega (arith, le, whole)))

  before_low : (k : ℕ) → k < length entries → offset_before layout bytes k ≤ length front + before k entries
  before_low zero lt = omega arith
  before_low (suc k) lt =
      let there = offset_there k (omega arith) in
      let next = before_next entries k (omega arith) in
      let same : before (suc k) entries ≡ before (k + 1) entries = ap (λ (n : ℕ). before n entries) (let e : suc k ≡ k + 1 = omega arith in e) in
      omega (arith, there, next, same)

  stands : (k : ℕ) → k < length entries → is_offset layout bytes k ≡ true
  stands k lt =
      let there = offset_there k (omega arith) in
      let low = before_low k lt in
      let within = before_within entries k in
      let not_low : nat_lt (offset_at layout bytes k) (offset_before layout bytes k) ≡ false = le-ltb _ _ (omega (arith, there, low)) in
      let not_high : nat_lt last (offset_at layout bytes k) ≡ false = le-ltb _ _ (omega (arith, there, within)) in
      ap (λ (t : Bool). t && not (nat_lt (offset_at layout bytes k) (offset_before layout bytes k) || nat_lt last (offset_at layout bytes k))) (is_whole k (omega arith))
      ∙ ap (λ (t : Bool). not (t || nat_lt last (offset_at layout bytes k))) not_low
      ∙ ap not not_high

  all_stand : (n k : ℕ) → k + n ≡ length entries → offsets_from layout bytes n k ≡ Ok tt
  all_stand zero k e = refl
  all_stand (suc n) k e =
      ap (λ (t : Bool). cond t (offsets_from layout bytes n (k + 1)) (Err (BadOffsets (offset_place layout k)))) (stands k (omega arith))
      ∙ all_stand n (k + 1) (omega arith)

  counted : has_count layout bytes ≡ true
  counted =
      let there = count_there in
      let is_whole_count : is_whole_at layout last ≡ true = ap not (le-ltb end (last + 4) (omega (arith, whole))) in
      let more : number_there bytes last == length entries + 1 ≡ true = eq-eqb _ _ there in
      let other : number_there bytes last == length entries ≡ false = ne_eqb _ _ (omega (arith, there)) in
      ap (λ (t : Bool). t && ((number_there bytes last == length entries) || (number_there bytes last == length entries + 1))) is_whole_count
      ∙ ap (λ (t : Bool). t || (number_there bytes last == length entries + 1)) other
      ∙ more

  spare : spare_offset layout (number_there bytes last) ≡ Ok tt
  spare =
      let other : number_there bytes last == length entries ≡ false = ne_eqb _ _ (omega (arith, count_there)) in
      rw (other, is_whole (length entries) (omega arith)) refl

  pub offsets_read : offsets_in layout bytes ≡ Ok tt
  offsets_read = rw (counted, all_stand (length entries) 0 (omega arith), spare) refl

  -- the k-th entry
  ends_there : (k : ℕ) → k < length entries → offset_behind layout bytes k ≡ length front + before (k + 1) entries
  ends_there k lt =
      elim (cases_eq (k + 1) (length entries)) [
        | inl e ↦
            let test : k + 1 == length entries ≡ true = eq-eqb (k + 1) (length entries) e in
            ap (λ (t : Bool). cond t last (offset_at layout bytes (k + 1))) test ∙ ap (λ (n : ℕ). length front + n) (sym (before_all entries (k + 1) (omega arith)))
        | inr ne ↦
            let test : k + 1 == length entries ≡ false = ne_eqb (k + 1) (length entries) ne in
            ap (λ (t : Bool). cond t last (offset_at layout bytes (k + 1))) test ∙ offset_there (k + 1) (omega arith)
      ]

  entry_read : (k : ℕ) → k < length entries → entry_at entries k ≡ laid_entry true layout bytes k
  entry_read k lt =
      let from = offset_there k (omega arith) in
      let to = ends_there k lt in
      let long : offset_behind layout bytes k - offset_at layout bytes k ≡ length (entry_at entries k) = omega (arith, from, to, before_next entries k lt) in
      sym (
      ap (λ (n : ℕ). take n (drop (offset_at layout bytes k) bytes)) long
      ∙ ap (λ (n : ℕ). take (length (entry_at entries k)) (drop n bytes)) from
      ∙ entry_there entries front (offset_table (length front) entries ++ tail) k lt
      )

  pub entries_read : laid_entries true layout bytes ≡ entries
  entries_read = sym (fill_by_all (laid_entry true layout bytes) entries (length entries) [] refl entry_read)

-- behind a front of this length
pub read_with_offsets : (front : List ℕ) (k : ℕ) → k ≡ length front → (entries : List (List ℕ)) (tail : List ℕ) (end : ℕ) → k + length (concat entries) + 4 * length entries + 8 ≤ end → end < 2 ^ 31 → let layout : Layout = record { first = k; last = k + length (concat entries); end = end; count = length entries } in let bytes = front ++ (concat entries ++ (offset_table k entries ++ tail)) in (offsets_in layout bytes ≡ Ok tt) × (laid_entries true layout bytes ≡ entries)
read_with_offsets front k e entries tail end =
    subst (λ (n : ℕ). n + length (concat entries) + 4 * length entries + 8 ≤ end → end < 2 ^ 31 → (offsets_in (record { first = n; last = n + length (concat entries); end = end; count = length entries }) (front ++ (concat entries ++ (offset_table n entries ++ tail))) ≡ Ok tt) × (laid_entries true (record { first = n; last = n + length (concat entries); end = end; count = length entries }) (front ++ (concat entries ++ (offset_table n entries ++ tail))) ≡ entries)) (sym e)
    (λ whole small. (offsets_read front entries tail end whole small, entries_read front entries tail end whole small))

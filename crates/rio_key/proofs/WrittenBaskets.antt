-- The record that is written for a basket: how long it is, its key, and its entries as they are read.
use Rattle.std.proofs.Common.{◌≡◌, ◌≤◌, ℕ, ◌+◌, ◌-◌, ◌*◌, ◌%◌, pos, ◌-ℤ◌, Bool, true, false, cond, not, nat_lt, int_lt, int_le, ◌&&◌, ◌||◌, List, [], ◌++◌, length, take, Result, Ok, Err, refl, sym, ap, ◌∙◌, append_assoc, length-append, arith}
use Rattle.std.proofs.{lemmas.Bool.{le-ltb}, lemmas.Int.{ints}, lemmas.List.{append-nil, length-replicate, take_at}}
use Rattle.std.specs.{Int.{w32, cast_unsigned}, List.{concat}}
use Rattle.rio_num.specs.{Reading.{◌>>=◌}, Room.{padding}, Text.{text_bytes}, Meanings.{Reading, read}}
use Rattle.rio_num.specs.{declared.cursor.Short.{Short as Shortage}, Plain.{IsSpelledIn, plain, value_of}}
use Rattle.rio_num.proofs.{ReadLaws.{bind_is}, Plain.{standing}, TextLengths.{text_within}, Cut.{cut}}
use Rattle.rio_key.specs.{BasketFront.{basket_front, number_within}, BasketHead.{AreInRange, basket_head_at, basket_head_bytes, basket_head_of, integer_bytes, sizes_bytes}}
use Rattle.rio_key.specs.{Key.{SpellsKey, is_compressed}, Written.{FitsKey, HoldsItself, number_bytes, padded_size, written_key}}
use Rattle.rio_key.specs.{declared.basket_head.BasketFront.{BasketFront}, declared.basket_head.BasketHead.{BasketHead}, declared.head.KeyHead.{KeyHead}, declared.fault.KeyFault.{KeyFault}}
use Rattle.rio_key.proofs.{BasketFrontLaws.{front_is, head_within, whole}, BasketHeadLaws.{basket_head_again}, KeyAgain.{key_again}, KeyWritten.{key_spelled}}
use Rattle.rio_key.specs.{declared.basket_fault.BasketFault.{BasketFault, TheVariants.{BadLast, Compressed}}, declared.basket_layout.Layout.{Layout}}
use Rattle.rio_key.specs.{BasketEntries.{entries_in, laid_entries, offsets_in, sound_layout_in}, BasketLaws.{AreBasketRecords, IsBasketRecord}, OpenBasket.{OpenBasket, entries_length, have_one_length}}
use Rattle.rio_key.specs.BasketRecord.{FitsBasketRecord, basket_data, basket_head, basket_key, basket_key_length, basket_record, basket_record_length, entry_size, offset_table, unpadded_basket}
use Rattle.rio_key.specs.StoredLayout.{ends_within, has_negative, has_one_length, is_multiple, is_sound, last_place, layout_by, layout_in}
use Rattle.rio_key.proofs.{HeldLaws.{data_alone, data_parts, data_with_offsets, data_within, size_small}, ReadEqual.{length_divides, read_without_offsets}, ReadOffsets.{read_with_offsets}}

head_long : (h : BasketHead) → length (basket_head_bytes h) ≡ 19
unfolding sizes_bytes integer_bytes
head_long h = refl

not_negative : (n : ℕ) → int_lt (pos n) (pos 0) ≡ false
not_negative n = grind (arith, ints)

is_within : (n m : ℕ) → n ≤ m → int_le (pos n) (pos m) ≡ true
is_within n m le = grind (arith, ints)

not_more : (k n : ℕ) → int_lt (pos (k + n) -ℤ pos k) (pos n) ≡ false
not_more k n = grind (arith, ints)

none_negative : (a b c : ℕ) → int_lt (pos a) (pos 0) || int_lt (pos b) (pos 0) || int_lt (pos c) (pos 0) ≡ false
none_negative a b c = rw (not_negative a, not_negative b, not_negative c) refl

are_within : (a b c : ℕ) → a ≤ b → b ≤ c → int_le (pos a) (pos b) && int_le (pos b) (pos c) ≡ true
are_within a b c p q = rw (is_within a b p, is_within b c q) refl

even_length : (t : Bool) (first : ℕ) (entries : List (List ℕ)) → t || have_one_length entries ≡ true → t || is_multiple (first + length (concat entries) - first) (length entries) ≡ true
even_length true first entries h = refl
even_length false first entries h = length_divides first entries h

all_hold : (n e d : Bool) → n ≡ false → e ≡ true → d ≡ true → not n && e && d ≡ true
all_hold n e d p q r = rw (p, q, r) refl

none_fails : {A : Type 0} (a b c : Bool) (x y z w : A) → a ≡ false → b ≡ false → c ≡ true → cond a x (cond b y (cond (not c) z w)) ≡ w
none_fails a b c x y z w p q r = rw (p, q, r) refl

-- where the layout, the offsets and the entries are read, all is
read_by : (offsets : Bool) (bytes : List ℕ) (layout : Layout) (entries : List (List ℕ)) → layout_in offsets bytes ≡ Ok layout → cond offsets (offsets_in layout bytes) (Ok tt) ≡ Ok tt → laid_entries offsets layout bytes ≡ entries → entries_in offsets bytes ≡ Ok entries
unfolding entries_in sound_layout_in
read_by offsets bytes layout entries is stand are =
    let sound : sound_layout_in offsets bytes ≡ Ok layout =
    bind_is (layout_in offsets bytes) layout (λ (l : Layout). cond offsets (offsets_in l bytes) (Ok tt) >>= λ (u : Unit {0}). let r : Result Layout BasketFault = Ok l in r) is
    ∙ bind_is (cond offsets (offsets_in layout bytes) (Ok tt)) tt (λ (u : Unit {0}). let r : Result Layout BasketFault = Ok layout in r) stand in
    bind_is (sound_layout_in offsets bytes) layout (λ (l : Layout). let r : Result (List (List ℕ)) BasketFault = Ok (laid_entries offsets l bytes) in r) sound
    ∙ ap (λ (l : List (List ℕ)). let r : Result (List (List ℕ)) BasketFault = Ok l in r) are

module _ (place : ℕ) (tree branch : List ℕ) (datime : ℕ) (basket : OpenBasket) (fits : FitsBasketRecord place tree branch datime basket) where
  abbrev keylen : ℕ
  keylen = basket_key_length tree branch

  abbrev contents : List ℕ
  contents = basket_data keylen basket

  abbrev objlen : ℕ
  objlen = padded_size keylen (length contents)

  abbrev key : KeyHead
  key = basket_key place tree branch datime (length contents)

  abbrev head : BasketHead
  head = basket_head keylen basket

  abbrev unpadded : List ℕ
  unpadded = unpadded_basket place tree branch datime basket

  -- ---- its parts

  key_long : length (written_key key) + 19 ≡ keylen
  key_long =
      let class = text_bytes key.class in
      let name = text_bytes branch in
      let title = text_bytes tree in
      omega (arith, length-append (number_bytes key (cast_unsigned w32 key.nbytes)) (class ++ (name ++ title)), length-append class (name ++ title), length-append name title)

  key_fits : FitsKey key
  key_fits = record {
    seek = omega (arith, fits.place_fits);
    pdir = omega arith;
    class = omega arith;
    name = omega (arith, fits.key_fits, text_within branch);
    title = omega (arith, fits.key_fits, text_within tree);
  }

  key_holds : HoldsItself key
  key_holds = record {
    numbers = record {
      version = omega arith;
      objlen = omega (arith, fits.record_fits);
      datime = fits.datime_fits;
      keylen = fits.key_fits;
      cycle = omega arith;
      seek = omega (arith, fits.place_fits);
      pdir = omega arith;
    };
    nbytes = keylen + objlen;
    length_is = refl;
    length_fits = fits.record_fits;
    key_held = omega arith;
    title_held = omega (arith, key_long);
  }

  spelled : SpellsKey key (written_key key)
  spelled = key_spelled key key_fits key_holds

  unpadded_long : length unpadded ≡ keylen + length contents
  unpadded_long = omega (arith, length-append (written_key key) (basket_head_bytes head ++ contents), length-append (basket_head_bytes head) contents, key_long, head_long head)

  parts : (rest : List ℕ) → basket_record place tree branch datime basket ++ rest ≡ written_key key ++ (basket_head_bytes head ++ (contents ++ (padding unpadded ++ rest)))
  unfolding basket_record
  parts rest =
      append_assoc unpadded (padding unpadded) rest
      ∙ append_assoc (written_key key) (basket_head_bytes head ++ contents) (padding unpadded ++ rest)
      ∙ ap (λ (l : List ℕ). written_key key ++ l) (append_assoc (basket_head_bytes head) contents (padding unpadded ++ rest))

  pub size : length (basket_record place tree branch datime basket) ≡ basket_record_length tree branch basket
  unfolding basket_record
  size =
      length-append unpadded (padding unpadded)
      ∙ ap (λ (k : ℕ). length unpadded + k) (length-replicate ((4 - length unpadded % 4) % 4) 0)
      ∙ ap (λ (k : ℕ). k + (4 - k % 4) % 4) unpadded_long
      ∙ (let e : keylen + length contents + (4 - (keylen + length contents) % 4) % 4 ≡ keylen + objlen = omega arith in e)

  aligned : length (basket_record place tree branch datime basket) % 4 ≡ 0
  aligned = ap (λ (k : ℕ). k % 4) size ∙ padded_is keylen (length contents)
    where
      padded_is : (k n : ℕ) → (k + padded_size k n) % 4 ≡ 0
      padded_is k n = omega arith

  key_in_it : IsSpelledIn (SpellsKey key) (basket_record place tree branch datime basket)
  key_in_it =
      (written_key key, basket_head_bytes head ++ (contents ++ (padding unpadded ++ [])), sym (append-nil (basket_record place tree branch datime basket)) ∙ parts [], spelled)

  -- ---- its front

  in_range : AreInRange head
  in_range = record {
    version = omega arith;
    buffer_size = omega (arith, ints);
    nev_size = omega (arith, ints, size_small basket fits.count_fits (omega (arith, data_within keylen basket, fits.record_fits)));
    nev = omega (arith, ints, fits.count_fits);
    last = omega (arith, ints, data_within keylen basket, fits.record_fits);
    flag = omega arith;
  }

  front_read : (more : List ℕ) → value_of (read basket_front (plain (standing 0 (written_key key ++ (basket_head_bytes head ++ more))))) ≡ Ok (record { key = key; head = head; place = length (written_key key) })
  front_read more =
      let p = 0 + length (written_key key) in
      let behind = standing p (basket_head_bytes head ++ more) in
      let end : 0 + keylen ≡ p + 19 = omega (arith, key_long) in
      let taken : take 19 (basket_head_bytes head ++ more) ≡ basket_head_bytes head ++ [] = take_at (basket_head_bytes head) more 19 (head_long head) ∙ sym (append-nil (basket_head_bytes head)) in
      let again = basket_head_again head p [] in_range in
      let alone : whole (value_of (basket_head_at (cut 19 behind))) ≡ Ok head =
      ap (λ (b : List ℕ). whole (value_of (basket_head_at (standing p b)))) taken ∙ ap (λ (r : Reading (Unit {0}) Shortage BasketHead). whole (value_of r)) again in
      let held : value_of (read (basket_head_of (number_within (0 + keylen))) (plain behind)) ≡ Ok head =
      ap (λ (e : ℕ). value_of (read (basket_head_of (number_within e)) (plain behind))) end ∙ head_within 19 behind ∙ alone in
      let there : p ≡ length (written_key key) = omega arith in
      front_is (standing 0 (written_key key ++ (basket_head_bytes head ++ more))) key behind (Ok head) (key_again key (written_key key) 0 (basket_head_bytes head ++ more) spelled) held
      ∙ ap (λ (q : ℕ). let r : Result BasketFront KeyFault = Ok (record { key = key; head = head; place = q }) in r) there

  -- ---- its entries

  abbrev stored_front : BasketFront
  stored_front = record { key = key; head = head; place = length (written_key key) }

  abbrev stored_layout : Layout
  stored_layout = record { first = keylen; last = keylen + entries_length basket.entries; end = keylen + objlen; count = length basket.entries }

  abbrev behind : List ℕ → List ℕ
  behind rest = padding unpadded ++ rest

  stored_long : (rest : List ℕ) → keylen + objlen ≤ length (written_key key ++ (basket_head_bytes head ++ (contents ++ behind rest)))
  stored_long rest = omega (arith, ap length (parts rest), length-append (basket_record place tree branch datime basket) rest, size)

  sound : basket.offsets || have_one_length basket.entries ≡ true → is_sound basket.offsets stored_front ≡ true
  sound even =
      all_hold (has_negative head) (ends_within stored_front) (basket.offsets || has_one_length stored_front)
      (none_negative 32000 (entry_size basket) (length basket.entries))
      (are_within keylen (keylen + entries_length basket.entries) (keylen + objlen) (omega arith) (omega (arith, data_within keylen basket)))
      (even_length basket.offsets keylen basket.entries even)

  layout_read : (rest : List ℕ) → basket.offsets || have_one_length basket.entries ≡ true → layout_in basket.offsets (basket_record place tree branch datime basket ++ rest) ≡ Ok stored_layout
  layout_read rest even =
      let bytes = written_key key ++ (basket_head_bytes head ++ (contents ++ behind rest)) in
      let whole_record : nat_lt (length bytes) (keylen + objlen) ≡ false = le-ltb _ _ (stored_long rest) in
      let done : Result Layout BasketFault = Ok stored_layout in
      ap (layout_in basket.offsets) (parts rest)
      ∙ ap (layout_by basket.offsets (length bytes)) (front_read (contents ++ behind rest))
      ∙ none_fails (nat_lt (length bytes) (keylen + objlen)) (is_compressed key) (is_sound basket.offsets stored_front) (Err (BadLast 0)) (Err Compressed) (Err (BadLast (last_place stored_front))) done
      whole_record (not_more keylen objlen) (sound even)

  front_long : keylen ≡ length (written_key key ++ basket_head_bytes head)
  front_long = omega (arith, length-append (written_key key) (basket_head_bytes head), key_long, head_long head)

  -- with the key and the head as one
  joined : (more tail : List ℕ) → written_key key ++ (basket_head_bytes head ++ (more ++ tail)) ≡ (written_key key ++ basket_head_bytes head) ++ (more ++ tail)
  joined more tail = sym (append_assoc (written_key key) (basket_head_bytes head) (more ++ tail))

  entries_are : (rest : List ℕ) → basket.offsets || have_one_length basket.entries ≡ true → entries_in basket.offsets (basket_record place tree branch datime basket ++ rest) ≡ Ok basket.entries
  entries_are rest even = by basket.offsets refl
    where
      by : (t : Bool) → basket.offsets ≡ t → entries_in basket.offsets (basket_record place tree branch datime basket ++ rest) ≡ Ok basket.entries
      by true e =
          let entries = basket.entries in
          let front = written_key key ++ basket_head_bytes head in
          let table = offset_table keylen entries in
          let bytes = basket_record place tree branch datime basket ++ rest in
          let bytes_are : bytes ≡ front ++ (concat entries ++ (table ++ behind rest)) =
          parts rest
          ∙ joined contents (behind rest)
          ∙ ap (λ (l : List ℕ). front ++ (l ++ behind rest)) (data_parts keylen basket e)
          ∙ ap (λ (l : List ℕ). front ++ l) (append_assoc (concat entries) table (behind rest)) in
          let room : keylen + length (concat entries) + 4 * length entries + 8 ≤ keylen + objlen = omega (arith, data_with_offsets keylen basket e) in
          let read = read_with_offsets front keylen front_long entries (behind rest) (keylen + objlen) room fits.record_fits in
          read_by basket.offsets bytes stored_layout entries (layout_read rest even)
          (ap (λ (t : Bool). cond t (offsets_in stored_layout bytes) (Ok tt)) e ∙ ap (offsets_in stored_layout) bytes_are ∙ read.0)
          (ap (λ (t : Bool). laid_entries t stored_layout bytes) e ∙ ap (laid_entries true stored_layout) bytes_are ∙ read.1)
      by false e =
          let entries = basket.entries in
          let front = written_key key ++ basket_head_bytes head in
          let bytes = basket_record place tree branch datime basket ++ rest in
          let bytes_are : bytes ≡ front ++ (concat entries ++ behind rest) =
          parts rest ∙ joined contents (behind rest) ∙ ap (λ (l : List ℕ). front ++ (l ++ behind rest)) (data_alone keylen basket e) in
          let one_length : have_one_length entries ≡ true = sym (ap (λ (t : Bool). t || have_one_length entries) e) ∙ even in
          read_by basket.offsets bytes stored_layout entries (layout_read rest even)
          (ap (λ (t : Bool). cond t (offsets_in stored_layout bytes) (Ok tt)) e)
          (ap (λ (t : Bool). laid_entries t stored_layout bytes) e
          ∙ ap (laid_entries false stored_layout) bytes_are
          ∙ read_without_offsets front keylen front_long entries (behind rest) (keylen + objlen) one_length)

  pub is_basket_record : basket.offsets || have_one_length basket.entries ≡ true → IsBasketRecord place tree branch datime basket
  is_basket_record even = record { size = size; aligned = aligned; key = key_in_it; entries_are = λ rest. entries_are rest even }

pub are_basket_records : AreBasketRecords
are_basket_records place tree branch datime basket fits even = is_basket_record place tree branch datime basket fits even

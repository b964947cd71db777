-- What is written, one thing behind the other.
use Rattle.std.proofs.Common.{◌≡◌, ◌<◌, ◌≤◌, ◌^◌, ℕ, ◌+◌, ◌-◌, List, [], ◌∷◌, ◌++◌, Bool, true, false, cond, ltb, length, drop, map, slice_get, slice_index_or, None, Some, Result, Ok, Err, refl, sym, ap, subst, ◌∙◌, append_assoc, arith}
use Rattle.std.proofs.{Math.Seq.{drop-append-add, take-append_seam}, lemmas.List.{append-nil, drop_more, drop_all, length-append}}
use Rattle.std.specs.{Prelude.{ℤ}, Int.{w16, cast_unsigned}}
use Rattle.byteorder.specs.Endian.{big_bytes}
use Rattle.rio_num.specs.{Text.{text_bytes, short_form, long_form}, declared.no_memory.NoMemory.{NoMemory}}
use Rattle.rio_format.specs.{ReaderState.{WordsMet, no_words, with_label}, Writer.{Writer, class_bytes, Puts, WriterState, next_place, nothing_written, ended, with_count, counted_from, innermost}}
use Rattle.rio_format.proofs.FieldLaws.{found_first, none_left}
use Rattle.rio_format.specs.{Slots.{Slot, Field}, Written.{Writing, just, both, all, counted, fields_bytes, headed_bytes}}
use Rattle.rio_write.specs.Writing.{HasRoom, Writes, pointer_to, with_written}

pub nothing : (s : WriterState) → s ≡ with_written (just []) s
unfolding with_written
nothing s = rw append-nil refl

-- ---- single values

text_length : (text : List ℕ) (b : Bool) → length text ≤ length (cond b (short_form text) (long_form text))
text_length text true = omega arith
text_length text false = omega arith

pub text_room : (text : List ℕ) (s : WriterState) → HasRoom (just (text_bytes text)) s → length text < 2 ^ 32
unfolding HasRoom
text_room text s room = omega (arith, room, text_length text (ltb (length text) 255))

-- bytes that were put at the end are what is written
pub just_writes : (bytes : List ℕ) (old new : WriterState) (r : Result (Unit {0}) NoMemory) → Puts bytes r old new → Writes (just bytes) r old new
unfolding with_written
just_writes bytes old new (Ok x) h = h
just_writes bytes old new (Err x) h = tt

pub place_room : (f : Writer) (s : WriterState) → HasRoom f s → next_place s < 2 ^ 30 - 2
unfolding HasRoom
place_room f s room = omega (arith, room)

-- ---- one behind the other

module _ (f g : Writer) (s : WriterState) where
  pub room_first : HasRoom (both f g) s → HasRoom f s
  unfolding HasRoom
  room_first room =
      let a = f (next_place s) s.words in
      omega (arith, room, length-append a.0 (g (next_place s + length a.0) a.1).0)

  behind : s.start + length (s.bytes ++ (f (next_place s) s.words).0) ≡ next_place s + length (f (next_place s) s.words).0
  behind = omega (arith, length-append s.bytes (f (next_place s) s.words).0)

  pub both_after : with_written (both f g) s ≡ with_written g (with_written f s)
  unfolding with_written
  both_after = rw (behind, append_assoc) refl

  pub room_then : (s1 : WriterState) → s1 ≡ with_written f s → HasRoom (both f g) s → HasRoom g s1
  unfolding HasRoom with_written
  room_then s1 e room =
      let a = f (next_place s) s.words in
      let here : HasRoom g (with_written f s) = rw behind (omega (arith, room, length-append a.0 (g (next_place s + length a.0) a.1).0)) in
      subst (HasRoom g) (sym e) here

-- ---- a list

module _ {X : Type 0} (h : X → Writing) (slot : Slot) (xs : List X) (i : ℕ) (s : WriterState) where
  split : (x : X) → i < length xs → x ≡ slice_index_or xs i x → drop i xs ≡ x ∷ drop (i + 1) xs
  split x lt e = drop_more xs i x lt ∙ ap (λ (z : X). z ∷ drop (i + 1) xs) (sym e)

  pub item_room : (x : X) → i < length xs → x ≡ slice_index_or xs i x → HasRoom (all slot (map h (drop i xs))) s → HasRoom ((h x).bytes slot) s
  item_room x lt e room = room_first ((h x).bytes slot) (all slot (map h (drop (i + 1) xs))) s (rw (split x lt e) at room)

  pub items_room : (x : X) (s1 : WriterState) → i < length xs → x ≡ slice_index_or xs i x → s1 ≡ with_written ((h x).bytes slot) s → HasRoom (all slot (map h (drop i xs))) s → HasRoom (all slot (map h (drop (i + 1) xs))) s1
  items_room x s1 lt e w room = room_then ((h x).bytes slot) (all slot (map h (drop (i + 1) xs))) s s1 w (rw (split x lt e) at room)

  pub items_go_on : (x : X) (s1 total : WriterState) → i < length xs → x ≡ slice_index_or xs i x → s1 ≡ with_written ((h x).bytes slot) s → with_written (all slot (map h (drop i xs))) s ≡ total → with_written (all slot (map h (drop (i + 1) xs))) s1 ≡ total
  items_go_on x s1 total lt e w so_far =
      ap (with_written (all slot (map h (drop (i + 1) xs)))) w ∙ sym (both_after ((h x).bytes slot) (all slot (map h (drop (i + 1) xs))) s) ∙ rw (split x lt e) at so_far

  pub items_done : (total : WriterState) → length xs ≤ i → with_written (all slot (map h (drop i xs))) s ≡ total → s ≡ total
  unfolding with_written
  items_done total le so_far =
      let none : drop i xs ≡ [] = drop_all i xs le in
      let one : with_written (all slot (map h (drop i xs))) s ≡ s = rw (none, append-nil) refl in
      sym one ∙ so_far

-- ---- the parts of an object

module _ {Y : Type 0} (h : Y → Writing) (fields : List Field) (parts : List Y) (k : ℕ) (s : WriterState) where
  abbrev left_from : ℕ → Writer
  left_from k = fields_bytes (drop k fields) (map h (drop k parts))

  module _ (field : Field) (slot : Slot) (y : Y) (f : slice_get fields k ≡ Some field) (lp : k < length parts) (same : slot ≡ field.slot) (e : y ≡ slice_index_or parts k y) where
    cut : left_from k ≡ both ((h y).bytes slot) (left_from (k + 1))
    cut =
        let sf = found_first fields k field f in
        let sp : drop k parts ≡ y ∷ drop (k + 1) parts = drop_more parts k y lp ∙ ap (λ (z : Y). z ∷ drop (k + 1) parts) (sym e) in
        rw (sf, sp, same) refl

    pub part_room : HasRoom (left_from k) s → HasRoom ((h y).bytes slot) s
    part_room room = room_first ((h y).bytes slot) (left_from (k + 1)) s (subst (λ (w : Writer). HasRoom w s) cut room)

    pub parts_room : (s1 : WriterState) → s1 ≡ with_written ((h y).bytes slot) s → HasRoom (left_from k) s → HasRoom (left_from (k + 1)) s1
    parts_room s1 w room = room_then ((h y).bytes slot) (left_from (k + 1)) s s1 w (subst (λ (w : Writer). HasRoom w s) cut room)

    pub parts_go_on : (s1 total : WriterState) → s1 ≡ with_written ((h y).bytes slot) s → with_written (left_from k) s ≡ total → with_written (left_from (k + 1)) s1 ≡ total
    parts_go_on s1 total w so_far =
        ap (with_written (left_from (k + 1))) w ∙ sym (both_after ((h y).bytes slot) (left_from (k + 1)) s) ∙ sym (ap (λ (w : Writer). with_written w s) cut) ∙ so_far

  no_part : (fs : List Field) → with_written (fields_bytes fs []) s ≡ s
  unfolding with_written
  no_part [] = rw append-nil refl
  no_part (f ∷ fs) = rw append-nil refl

  pub parts_missing : (total : WriterState) → length parts ≤ k → with_written (left_from k) s ≡ total → s ≡ total
  parts_missing total lp so_far =
      let none : drop k parts ≡ [] = drop_all k parts lp in
      let one : with_written (left_from k) s ≡ s = rw none (no_part (drop k fields)) in
      sym one ∙ so_far

  pub parts_done : (total : WriterState) → slice_get fields k ≡ None → with_written (left_from k) s ≡ total → s ≡ total
  unfolding with_written
  parts_done total f so_far =
      let none = none_left fields k f in
      let one : with_written (left_from k) s ≡ s = rw (none, append-nil) refl in
      sym one ∙ so_far

-- ---- a count word

module _ (front inner : List ℕ) where
  count_is : counted_from (length front) (front ++ (big_bytes 4 0 ++ inner)) ≡ length inner
  count_is = omega (arith, length-append front (big_bytes 4 0 ++ inner))

  with_count_is : with_count (length front) (front ++ (big_bytes 4 0 ++ inner)) ≡ front ++ (big_bytes 4 (length inner + 2 ^ 30) ++ inner)
  with_count_is = rw (count_is, take-append_seam front (big_bytes 4 0 ++ inner), drop-append-add front (big_bytes 4 0 ++ inner) 4) refl

-- behind an open count word and a head
abbrev pub opened_at : WriterState → List ℕ → WordsMet → WriterState
opened_at s head t = record s { bytes = s.bytes ++ (big_bytes 4 0 ++ head); opened = length s.bytes ∷ s.opened; words = t }

-- the same, with the count that is closed
abbrev pub closed_at : WriterState → List ℕ → List ℕ × WordsMet → WriterState
closed_at s head a = record s { bytes = s.bytes ++ (counted (head ++ a.0, a.1)).0; words = a.1 }

module _ (s : WriterState) (head : List ℕ) (t : WordsMet) (f : Writer) where
  abbrev pub inside : List ℕ × WordsMet
  inside = f (next_place s + 4 + length head) t

  at_head : s.start + length (s.bytes ++ (big_bytes 4 0 ++ head)) ≡ next_place s + 4 + length head
  at_head = omega (arith, length-append s.bytes (big_bytes 4 0 ++ head))

  behind_head : with_written f (opened_at s head t) ≡ record s { bytes = s.bytes ++ (big_bytes 4 0 ++ (head ++ inside.0)); opened = length s.bytes ∷ s.opened; words = inside.1 }
  unfolding with_written
  behind_head = rw (at_head, append_assoc) refl

  pub inside_room : (s1 : WriterState) → s1 ≡ opened_at s head t → next_place s + 4 + length head + length inside.0 < 2 ^ 30 - 2 → HasRoom f s1
  unfolding HasRoom
  inside_room s1 e room =
      let here : HasRoom f (opened_at s head t) = rw at_head room in
      subst (HasRoom f) (sym e) here

  module _ (s1 s2 : WriterState) (opens : s1 ≡ opened_at s head t) (w : s2 ≡ with_written f s1) where
    s2_is : s2 ≡ record s { bytes = s.bytes ++ (big_bytes 4 0 ++ (head ++ inside.0)); opened = length s.bytes ∷ s.opened; words = inside.1 }
    s2_is = w ∙ ap (with_written f) opens ∙ behind_head

    pub still_innermost : innermost s2.opened ≡ Some (length s.bytes)
    still_innermost = ap (λ (z : WriterState). innermost z.opened) s2_is

    pub count_room : next_place s + 4 + length head + length inside.0 < 2 ^ 30 - 2 → counted_from (length s.bytes) s2.bytes < 2 ^ 30
    count_room room = rw (ap (λ (z : WriterState). counted_from (length s.bytes) z.bytes) s2_is) (omega (arith, room, count_is s.bytes (head ++ inside.0), length-append head inside.0))

    pub count_stands : length s.bytes + 4 ≤ length s2.bytes
    count_stands = rw (ap (λ (z : WriterState). z.bytes) s2_is) (omega (arith, length-append s.bytes (big_bytes 4 0 ++ (head ++ inside.0))))

    pub closed_is : ended (length s.bytes) s2 ≡ closed_at s head inside
    closed_is = ap (ended (length s.bytes)) s2_is ∙ ap (λ (l : List ℕ). let z : WriterState = record { start = s.start; bytes = l; opened = s.opened; words = inside.1 } in z) (with_count_is s.bytes (head ++ inside.0))

-- ---- a header

module _ (version : ℤ) (body : Writer) (s : WriterState) where
  abbrev pub header : List ℕ
  header = big_bytes 2 (cast_unsigned w16 version)

  pub header_room : HasRoom (headed_bytes version body) s → next_place s + 4 + length header + length (inside s header s.words body).0 < 2 ^ 30 - 2
  unfolding HasRoom
  header_room room = omega (arith, room)

-- ---- a pointer to a new object

module _ (class : List ℕ) (object : Writer) (s : WriterState) where
  abbrev pub word : List ℕ × WordsMet
  word = class_bytes class (next_place s + 4) s.words

  pub pointer_room : HasRoom (pointer_to class object) s → next_place s + 4 + length word.0 + length (inside s word.0 (with_label word.1 (next_place s)) object).0 < 2 ^ 30 - 2
  unfolding HasRoom
  pointer_room room = omega (arith, room, length-append word.0 (inside s word.0 (with_label word.1 (next_place s)) object).0)

-- ---- the first bytes

module _ (f : Writer) (start : ℕ) where
  at_start : start + length {A = ℕ} [] ≡ start
  at_start = omega arith

  pub first_room : start + length (f start no_words).0 < 2 ^ 30 - 2 → HasRoom f (nothing_written start)
  unfolding HasRoom
  first_room room = rw at_start room

  pub first_written : (s : WriterState) → s ≡ with_written f (nothing_written start) → (s.bytes ≡ (f start no_words).0) × (s.opened ≡ [])
  unfolding with_written
  first_written s e = (ap (λ (z : WriterState). z.bytes) e ∙ rw at_start refl, ap (λ (z : WriterState). z.opened) e)

-- An object is spelled by its own bytes, whatever follows them.
use Rattle.std.proofs.Common.{◌≡◌, ◌==◌, ℕ, zero, suc, ◌+◌, ◌-◌, ◌*◌, ◌^◌, ◌≤◌, ℤ, pos, negsuc, nat_le, nat_lt, Bool, true, false, List, [], ◌∷◌, length, codes, Some, None, refl, ap, subst, arith}
use Rattle.std.proofs.{lemmas.Bool.{eqb-true}, lemmas.List.{length-append}}
use Rattle.rio_format.specs.{declared.class.Base.{Base}, declared.class.ClassDef.{ClassDef}, declared.class.Member.{Member}}
use Rattle.rio_format.specs.{declared.kind.Kind.{Kind, TheVariants.{Plain, Counter, Fixed, Counted, Text as Texted, Inline, Pointer, Other}}, declared.kind.Primitive.{Primitive, TheVariants.{I32}}}
use Rattle.rio_format.specs.{declared.value.Part.{Part}, Bodies.{Form, bare, numbers as numbered, headed as with_header, form_of, Body, described, listed, arrayed, opaque, body_of, Counters, counters_with, count_by}}
use Rattle.rio_format.specs.Prims.{width_of}
use Rattle.rio_format.specs.Objects.{has_pid, Objects, pointed, pointer, number_value, numbers, filled, counted_values, text_value, kind_value, member_part, member_parts, base_part, parts, count_of, link, list_parts, array_parts, pid_of, bare_layout, number_array, closed as closed_by, whole_object, unread, body, headed, formed, object_of}
use Rattle.rio_format.specs.{ReaderState.{WordsMet, with_label, with_name}, declared.words.Header.{Header}, declared.words.PointerWord.{PointerWord, TheVariants.{Null, New, Back}}}
use Rattle.rio_format.specs.declared.fault.ObjFault.{ObjFault, TheVariants.{Short, BadCount, NoCount, CountMismatch}}
use Rattle.rio_format.specs.Frames.{ObjLayout, is_count, end_of, finish, header_end, checksum_behind, header, new_class, class_word, new_word, pointer_word}
use Rattle.rio_num.specs.{Layout.{behind, must}, Meanings.{Spells}}
use Rattle.rio_num.proofs.Within.{Within, Closed, IsLong, GoesTo, IsFree, closed_behind, closed_over, within_behind, long_first, long_next, goes_first, goes_next, closed_done, closed_broken, closed_number, closed_text, closed_any, closed_here, closed_choice, closed_must, closed_each, closed_times, within_free, within_choice, free_number, free_here, free_name, free_met, free_note, free_done, free_broken, free_known, free_choice, free_behind, free_must, long_number, long_times}

-- ---- byte counts

-- the end that is asked for is the one that is given
end_within : (place w : ℕ) → Within (end_of place w) (λ e. e)
end_within place w = record {
  within = λ end end' p t y b t' c le. (c.0, c.1, c.2, c.3, c.4, (omega (arith, c.6.0, le), c.5.1, c.5.2), c.6);
}

header_end_within : (place w : ℕ) → Within (header_end place w) (λ e. e)
header_end_within place w =
    within_choice (λ e. e) (is_count w) _ _ (end_within place w) (within_choice (λ e. e) (nat_le (3 * 2 ^ 30) w) _ _ (within_free (λ e. e) _ (free_broken (BadCount place))) (within_free (λ e. e) _ (free_broken (NoCount place))))

free_checksum : (version : ℕ) → IsFree (checksum_behind version)
free_checksum version = free_choice (version == 0) _ _ (free_behind (free_number Short 4) (λ sum. free_done (Some sum))) (free_done None)

abbrev header_far : Header → ℕ
header_far h = h.end

header_within : Within header header_far
unfolding header
header_within =
    within_behind (λ x. 0) header_far (within_free (λ x. 0) _ free_here)
    (λ place. within_behind (λ x. 0) header_far (within_free (λ x. 0) _ (free_number Short 4))
    (λ w. within_behind (λ e. e) header_far (header_end_within place w)
    (λ e. within_free header_far _ (free_behind (free_number Short 2) (λ version. free_behind (free_checksum version) (λ sum. free_done _))))
    (λ e end p t y b t' c. omega (arith, ap header_far c.6.6.0)))
    (λ w end p t y b t' c. omega arith))
    (λ place end p t y b t' c. omega arith)

must_hold : (b : Bool) (f : ObjFault) (end p : ℕ) (t : WordsMet) (y : Unit {0}) (bs : List ℕ) (t' : WordsMet) → Spells (must b f) end p t y bs t' → b ≡ true
must_hold true f end p t y bs t' c = refl
must_hold false f end p t y bs t' c = absurd c

finish_goes : (place e : ℕ) → GoesTo e (finish place e)
finish_goes place e = record {
  goes = λ end p t y b t' c.
      let there : c.0 ≡ e = eqb-true c.0 e (must_hold (c.0 == e) (CountMismatch place (e - place - 4) (c.0 - place - 4)) end (p + length c.1) c.3 y c.2 t' c.6) in
      omega (arith, there, c.5.0);
}

closed_finish : (place e : ℕ) → Closed (finish place e)
closed_finish place e = closed_behind closed_here (λ q. closed_must (q == e) (CountMismatch place (e - place - 4) (q - place - 4)))

-- ---- pointers

free_new_class : (place : ℕ) → IsFree (new_class place)
unfolding new_class
free_new_class place = free_behind (free_name Short) (λ class. free_behind free_met (λ t. free_behind (free_note (with_name t place class)) (λ u. free_done class)))

free_class_word : IsFree class_word
unfolding class_word
free_class_word =
    free_behind free_here (λ place. free_behind (free_number Short 4) (λ w. free_choice (w == 2 ^ 32 - 1) _ _ (free_new_class place) (free_behind free_met (λ t. free_known _ _))))

-- where the object behind a pointer's word ends
abbrev word_far : PointerWord → ℕ
word_far Null = 0
word_far (New label place end class) = end
word_far (Back label) = 0

new_word_within : (place w : ℕ) → Within (new_word place w) word_far
unfolding new_word
new_word_within place w =
    within_behind (λ e. e) word_far (end_within place w)
    (λ e. within_free word_far _ (free_behind free_class_word (λ class. free_behind free_met (λ t. free_behind (free_note (with_label t place)) (λ u. free_done _)))))
    (λ e end p t y b t' c. omega (arith, ap word_far c.6.6.6.0))

pointer_word_within : Within pointer_word word_far
unfolding pointer_word
pointer_word_within =
    within_behind (λ x. 0) word_far (within_free (λ x. 0) _ free_here)
    (λ place. within_behind (λ x. 0) word_far (within_free (λ x. 0) _ (free_number Short 4))
    (λ w. within_choice word_far (w == 0) _ _ (within_free word_far _ (free_done Null)) (within_choice word_far (is_count w) _ _ (new_word_within place w) (within_free word_far _ (free_behind free_met (λ t. free_behind (free_known _ _) (λ label. free_done (Back label)))))))
    (λ w end p t y b t' c. omega arith))
    (λ place end p t y b t' c. omega arith)

pub long_pointer_word : IsLong 4 pointer_word
unfolding pointer_word
long_pointer_word = long_next 4 (λ place. long_first 4 (long_number Short 4))

pub long_pointer : (object : Objects) → IsLong 4 (pointer object)
unfolding pointer
long_pointer object = long_first 4 long_pointer_word

pub long_link : (object : Objects) → IsLong 4 (link object)
unfolding link
long_link object = long_first 4 (long_pointer object)

module _ (object : Objects) (inner : (class : List ℕ) → Closed (object class)) where
  pointed_goes : (w : PointerWord) → GoesTo (word_far w) (pointed object w)
  unfolding pointed
  pointed_goes Null = record { goes = λ end p t y b t' c. omega arith }
  pointed_goes (New label place e class) = goes_next e (λ o. goes_first e (finish_goes place e))
  pointed_goes (Back label) = record { goes = λ end p t y b t' c. omega arith }

  closed_pointed : (w : PointerWord) → Closed (pointed object w)
  unfolding pointed
  closed_pointed Null = closed_done _
  closed_pointed (New label place e class) = closed_behind (inner class) (λ o. closed_behind (closed_finish place e) (λ u. closed_done _))
  closed_pointed (Back label) = closed_done _

  closed_pointer : Closed (pointer object)
  unfolding pointer
  closed_pointer = closed_over word_far pointer_word_within pointed_goes closed_pointed

-- ---- members

closed_number_value : (of : Primitive) → Closed (number_value of)
unfolding number_value
closed_number_value of = closed_behind (closed_number Short (width_of of)) (λ n. closed_done _)

pub long_number_value : (of : Primitive) → IsLong (width_of of) (number_value of)
unfolding number_value
long_number_value of = long_first (width_of of) (long_number Short (width_of of))

closed_numbers : (of : Primitive) (count : ℕ) → Closed (numbers of count)
unfolding numbers
closed_numbers of count = closed_behind (closed_times count _ (closed_number_value of)) (λ vs. closed_done _)

closed_filled : (of : Primitive) (place : ℕ) (count : ℤ) → Closed (filled of place count)
closed_filled of place (pos count) = closed_numbers of count
closed_filled of place (negsuc count) = closed_broken (BadCount place)

closed_counted : (of : Primitive) (count : ℤ) → Closed (counted_values of count)
unfolding counted_values
closed_counted of count = closed_behind closed_here (λ place. closed_behind (closed_number Short 1) (λ flag. closed_choice (flag == 0) _ _ (closed_done _) (closed_choice (flag == 1) _ _ (closed_filled of place count) (closed_broken _))))

closed_text_value : Closed text_value
unfolding text_value
closed_text_value = closed_behind (closed_text Short) (λ t. closed_done _)

-- ---- counts of items

-- the data have as many bytes as are asked for, since the items do
closed_items : {A : Type 0} (w : ℕ) (k : ℕ → ObjLayout A) → ((n : ℕ) → IsLong (n * w) (k n)) → ((n : ℕ) → Closed (k n)) → Closed (behind (count_of w) k)
unfolding count_of
closed_items w k long next = record {
  closed = λ end p t y b t' c.
      let d = c.5 in
      let f = d.6 in
      let e = f.6 in
      let g = e.6 in
      let h = g.6 in
      let some : c.0 * w ≤ length c.2 = (long c.0).long end (p + length c.1) c.3 y c.2 t' c.6 in
      let same : c.0 * w ≡ f.0 * w = ap (λ (x : ℕ). x * w) h.6.0 in
      let front : e.0 ≤ p + length c.1 = omega (arith, e.5.0, ap length d.4, length-append d.1 d.2, ap length f.4, length-append f.1 f.2) in
      let total : p + length c.1 + length c.2 ≡ p + length b = omega (arith, ap length c.4, length-append c.1 c.2) in
      let far : e.0 + f.0 * w ≤ p + length b = omega (arith, some, same, front, total) in
      let low = (free_must (nat_lt f.0 (2 ^ 31)) (BadCount d.0)).free end (p + length b) (p + length d.1 + length f.1 + length e.1) e.3 g.0 g.1 g.3 g.5 in (
        c.0,
        c.1,
        c.2,
        c.3,
        c.4,
        (d.0, d.1, d.2, d.3, d.4, d.5, (f.0, f.1, f.2, f.3, f.4, f.5, (e.0, e.1, e.2, e.3, e.4, e.5, (g.0, g.1, g.2, g.3, g.4, low, (h.0, h.1, h.2, h.3, h.4, (far, h.5.1, h.5.2), h.6))))),
        subst (λ (q : ℕ). Spells (k c.0) q (p + length c.1) c.3 y c.2 t') total ((next c.0).closed end (p + length c.1) c.3 y c.2 t' c.6),
      );
}

closed_pid : (bits : ℕ) → Closed (pid_of bits)
closed_pid bits = closed_choice (has_pid bits) _ _ (closed_behind (closed_number Short 2) (λ pid. closed_done _)) (closed_done [])

closed_bare : Closed bare_layout
unfolding bare_layout
closed_bare =
    closed_behind closed_here (λ place. closed_behind (closed_number Short 2) (λ version. closed_behind (closed_must (version == 1) (NoCount place)) (λ u. closed_behind (closed_number Short 4) (λ id. closed_behind (closed_number Short 4) (λ bits. closed_behind (closed_pid bits) (λ pid. closed_done _))))))

closed_array : (class : List ℕ) (of : Primitive) → Closed (number_array class of)
unfolding number_array numbers
closed_array class of =
    closed_items (width_of of) _ (λ n. long_first (n * width_of of) (long_first (n * width_of of) (long_times n (width_of of) _ (long_number_value of)))) (λ n. closed_behind (closed_behind (closed_times n _ (closed_number_value of)) (λ vs. closed_done _)) (λ items. closed_done _))

unread_goes : (class : List ℕ) (h : Header) → GoesTo h.end (unread class h)
unfolding unread
unread_goes class h = record {
  goes = λ end p t y b t' c.
      let d = c.6 in
      let f = d.6 in
      omega (arith, c.5.0, f.5.5.0, ap length f.5.5.1, ap length f.5.4, length-append f.5.1 f.5.2, ap length c.4, length-append c.1 c.2, ap length d.4, length-append d.1 d.2, ap length f.4, length-append f.1 f.2);
}

module _ (object : Objects) (inner : (class : List ℕ) → Closed (object class)) where
  closed_kind : (counters : Counters) (k : Kind) → Closed (kind_value object counters k)
  unfolding kind_value
  closed_kind counters (Plain of) = closed_number_value of
  closed_kind counters Counter = closed_number_value I32
  closed_kind counters (Fixed of count) = closed_numbers of count
  closed_kind counters (Counted of counter) = closed_counted of (count_by counter counters)
  closed_kind counters Texted = closed_text_value
  closed_kind counters (Inline class) = inner class
  closed_kind counters (Pointer class) = closed_pointer object inner
  closed_kind counters (Other code) = closed_behind closed_here (λ place. closed_broken (NoCount place))

  closed_member : (counters : Counters) (m : Member) → Closed (member_part object counters m)
  unfolding member_part
  closed_member counters m = closed_behind (closed_kind counters m.kind) (λ v. closed_done _)

  closed_members : (counters : Counters) (ms : List Member) → Closed (member_parts object counters ms)
  unfolding member_parts
  closed_members counters [] = closed_done []
  closed_members counters (m ∷ ms) = closed_behind (closed_member counters m) (λ p. closed_behind (closed_members (counters_with m p.value counters) ms) (λ ps. closed_done _))

  closed_base_part : (b : Base) → Closed (base_part object b)
  unfolding base_part
  closed_base_part b = closed_behind (inner b.name) (λ v. closed_done _)

  closed_parts : (c : ClassDef) → Closed (parts object c)
  unfolding parts
  closed_parts c = closed_behind (closed_each (base_part object) closed_base_part c.bases) (λ bs. closed_behind (closed_members [] c.members) (λ ms. closed_done _))

  closed_link : Closed (link object)
  unfolding link
  closed_link = closed_behind (closed_pointer object inner) (λ p. closed_behind (closed_text Short) (λ option. closed_done _))

  closed_list : Closed (list_parts object)
  unfolding list_parts
  closed_list =
      closed_behind (inner (codes "TObject")) (λ b. closed_behind (closed_text Short) (λ n. closed_items 4 _ (λ count. long_first (count * 4) (long_times count 4 _ (long_link object))) (λ count. closed_behind (closed_times count _ closed_link) (λ items. closed_done _))))

  closed_arrayed : Closed (array_parts object)
  unfolding array_parts
  closed_arrayed =
      closed_behind (inner (codes "TObject")) (λ b. closed_behind (closed_text Short) (λ n. closed_items 4 _
      (λ count. long_next (count * 4) (λ lower. long_first (count * 4) (long_times count 4 _ (long_pointer object))))
      (λ count. closed_behind (closed_number_value I32) (λ lower. closed_behind (closed_times count _ (closed_pointer object inner)) (λ items. closed_done _)))))

  closed_whole : (class : List ℕ) (version : ℤ) (h : Header) (inside : ObjLayout (List Part)) → Closed inside → Closed (whole_object class version h inside)
  unfolding whole_object closed_by
  closed_whole class version h inside c = closed_behind c (λ ps. closed_behind (closed_finish h.place h.end) (λ u. closed_done _))

  whole_goes : (class : List ℕ) (version : ℤ) (h : Header) (inside : ObjLayout (List Part)) → GoesTo h.end (whole_object class version h inside)
  unfolding whole_object closed_by
  whole_goes class version h inside = goes_next h.end (λ ps. goes_first h.end (finish_goes h.place h.end))

  closed_unread : (class : List ℕ) (h : Header) → Closed (unread class h)
  unfolding unread
  closed_unread class h = closed_behind closed_here (λ place. closed_behind (closed_must (nat_le place h.end) _) (λ u. closed_behind (closed_any Short (h.end - place)) (λ v. closed_done _)))

  closed_body : (class : List ℕ) (h : Header) (b : Body) → Closed (body object class h b)
  unfolding body
  closed_body class h (described c) = closed_whole class c.version h _ (closed_parts c)
  closed_body class h listed = closed_whole class (pos 5) h _ closed_list
  closed_body class h arrayed = closed_whole class (pos 3) h _ closed_arrayed
  closed_body class h opaque = closed_unread class h

  body_goes : (class : List ℕ) (h : Header) (b : Body) → GoesTo h.end (body object class h b)
  unfolding body
  body_goes class h (described c) = whole_goes class c.version h _
  body_goes class h listed = whole_goes class (pos 5) h _
  body_goes class h arrayed = whole_goes class (pos 3) h _
  body_goes class h opaque = unread_goes class h

  closed_headed : (classes : List ClassDef) (class : List ℕ) → Closed (headed object classes class)
  unfolding headed
  closed_headed classes class = closed_over header_far header_within (λ h. body_goes class h (body_of classes class h.version h.sum)) (λ h. closed_body class h (body_of classes class h.version h.sum))

  closed_formed : (classes : List ClassDef) (class : List ℕ) (f : Form) → Closed (formed object classes class f)
  unfolding formed
  closed_formed classes class bare = closed_bare
  closed_formed classes class (numbered of) = closed_array class of
  closed_formed classes class with_header = closed_headed classes class

pub closed_object : (levels : ℕ) (classes : List ClassDef) (class : List ℕ) → Closed (object_of levels classes class)
unfolding object_of
closed_object zero classes class = closed_behind closed_here (λ place. closed_broken _)
closed_object (suc levels) classes class = closed_formed (object_of levels classes) (closed_object levels classes) classes class (form_of class)

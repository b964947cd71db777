-- What is put together spells an object, by its description.
use Rattle.std.proofs.Common.{◌≡◌, ◌==◌, inl, inr, ℕ, zero, suc, ◌+◌, ◌-◌, ◌*◌, ◌^◌, ◌<◌, ◌≤◌, ℤ, pos, nat_le, nat_lt, Bool, true, false, List, [], ◌∷◌, ◌++◌, map, length, replicate, codes, nat_eq, position, Option, Some, None, if◌then◌else◌, refl, sym, ap, subst, ◌∙◌, append_assoc, arith, lit<}
use Rattle.std.proofs.{lemmas.Bool.{le-ltb, lt-ltb, le-leb, eq-eqb, ne_eqb}, lemmas.List.{length-append, append-nil}}
use Rattle.std.specs.Map.{lookup}
use Rattle.byteorder.specs.{Endian.{big_bytes}, Numbers.{length-bytes_high_first}}
use Rattle.rio_format.specs.{declared.class.Base.{Base}, declared.class.ClassDef.{ClassDef}, declared.class.Member.{Member}}
use Rattle.rio_format.specs.{declared.kind.Kind.{Kind, TheVariants.{Plain, Counter, Fixed, Counted, Text as Texted, Inline, Pointer, Other}}, declared.kind.Primitive.{Primitive, TheVariants.{I32}}}
use Rattle.rio_format.specs.{declared.value.Value.{Value, Text, List as Items, Object, Pointed, Null as Nothing, Back as Earlier, Opaque}, declared.value.Part.{Part}}
use Rattle.rio_num.specs.Layout.{done, name, text, each, times, ◌>>=◌}
use Rattle.rio_num.proofs.Intro.{IsSo, so_by, first_is, second_is, here_then, reaches_then, met_then, number_then, still_then, note_then, done_is, known_is, ends_with, both_are, any_is}
use Rattle.rio_num.proofs.Within.{IsLong, long_times}
use Rattle.rio_format.specs.Frames.{ObjLayout, is_count, counted_end, end_of, finish, checksum_behind, header, new_class, class_word, new_word, pointer_word}
use Rattle.rio_format.specs.{ReaderState.{WordsMet, with_label, with_name}, declared.words.Header.{Header}, declared.words.PointerWord.TheVariants.{Null, New, Back}}
use Rattle.rio_format.specs.declared.fault.ObjFault.TheVariants.{Short, UnknownClassWord, UnknownRef}
use Rattle.rio_format.specs.Bodies.{part, Form, bare, numbers as numbered, headed as with_header, form_of, Body, described, listed, arrayed, opaque, body_of, base_slot, Counters, counters_with, count_by}
use Rattle.rio_format.specs.Objects.{Objects, has_pid, bare_object, pid_part, pointed, pointer, number_value, numbers, filled, counted_values, text_value, kind_value, member_part, member_parts, base_part, parts, count_of, link, list_parts, array_parts, pid_of, bare_layout, number_array, closed, whole_object, unread, body, headed, formed, object_of}
use Rattle.rio_format.specs.Prims.{width_of}
use Rattle.rio_format.proofs.Composed.{Spelling, Spellings, SpellsEach, SpellsTimes, SpellsNumber, SpellsNumbers, IsText, SpellsCounted, SpellsClass, SpellsPointer, SpellsKind, IsPart, IsParts, IsLink, IsListParts, IsArrayParts, SpellsPid, IsBare, IsArray, SpellsVersion, IsWhole, SpellsBody, IsHeaded, SpellsForm, Composes}
use Rattle.rio_format.proofs.Closed.{long_number_value, long_pointer, long_link}

-- what is put together spells it, within data that go as far as its bytes
pub record In {Y : Type 0} (one : Spelling Y) (l : ObjLayout Y) : Type 0 where
  pub into : (end p : ℕ) (t : WordsMet) (y : Y) (b : List ℕ) (t' : WordsMet) → p + length b ≤ end → one p t y b t' → IsSo l end p t y b t'

-- ---- one thing after the other

each_in : {X Y : Type 0} (one : X → Spelling Y) (l : X → ObjLayout Y) → ((x : X) → In (one x) (l x)) → (xs : List X) → In (SpellsEach one xs) (each l xs)
unfolding each
each_in one l inner [] = record { into = λ end p t ys b t' le c. record { so = c } }
each_in one l inner (x ∷ xs) = record {
  into = λ end p t ys b t' le c.
      let len : length b ≡ length c.front + length c.back = ap length c.spelled ∙ length-append c.front c.back in
      let first = (inner x).into end p t c.y c.front c.s1 (omega (arith, le, len)) c.first in
      let others = (each_in one l inner xs).into end (p + length c.front) c.s1 c.more c.back t' (omega (arith, le, len)) c.others in
      let all : IsSo (each l (x ∷ xs)) end p t (c.y ∷ c.more) (c.front ++ c.back) t' = both_are c.y c.s1 first (ends_with c.more t' others done_is) in
      so_by all c.values c.spelled refl;
}

times_in : (n : ℕ) (one : Spelling Value) (l : ObjLayout Value) → In one l → In (SpellsTimes n one) (times n l)
times_in n one l inner = each_in (λ (x : Unit {0}). one) (λ (x : Unit {0}). l) (λ x. inner) (replicate n tt)

-- ---- numbers and texts

number_in : (of : Primitive) → In (SpellsNumber of) (number_value of)
unfolding number_value
number_in of = record {
  into = λ end p t v b t' le c. record { so = (c.n, b, [], t, sym (append-nil b), (c.fits, c.spelled, refl), (c.value, refl, c.words)) };
}

numbers_in : (of : Primitive) (count : ℕ) → In (SpellsNumbers of count) (numbers of count)
unfolding numbers
numbers_in of count = record {
  into = λ end p t v b t' le c.
      let items = (times_in count (SpellsNumber of) (number_value of) (number_in of)).into end p t c.items b t' le c.each in
      record { so = (c.items, b, [], t', sym (append-nil b), items.so, (c.value, refl, refl)) };
}

text_in : In (λ p t v b t'. IsText t v b t') text_value
unfolding text_value
text_in = record { into = λ end p t v b t' le c. record { so = (c.text, b, [], t', sym (append-nil b), (c.spelled, c.words), (c.value, refl, refl)) } }

-- ---- counted arrays

counted_in : (of : Primitive) (counter : ℤ) → In (SpellsCounted of counter) (counted_values of counter)
unfolding counted_values
counted_in of counter = record { into = by }
  where
    by : (end p : ℕ) (t : WordsMet) (v : Value) (b : List ℕ) (t' : WordsMet) → p + length b ≤ end → SpellsCounted of counter p t v b t' → IsSo (counted_values of counter) end p t v b t'
    by end p t v b t' le (inl c) =
        let all : IsSo (counted_values of counter) end p t (Items []) (0 ∷ []) t = here_then (number_then 0 (lit< tt) (first_is (0 == 0) refl done_is)) in
        so_by all c.value c.spelled c.words
    by end p t v b t' le (inr c) =
        let inside = (numbers_in of c.count).into end (p + 1) t v c.inner t' (omega (arith, le, ap length c.spelled)) c.values in
        let some : IsSo (filled of p counter) end (p + 1) t v c.inner t' = subst (λ (z : ℤ). IsSo (filled of p z) end (p + 1) t v c.inner t') (sym c.counted) inside in
        let all : IsSo (counted_values of counter) end p t v (1 ∷ c.inner) t' = here_then (number_then 1 (lit< tt) (second_is (1 == 0) refl (first_is (1 == 1) refl some))) in
        so_by all refl c.spelled refl

-- ---- pointers

class_in : In SpellsClass class_word
unfolding class_word new_class
class_in = record { into = by }
  where
    by : (end p : ℕ) (t : WordsMet) (own b : List ℕ) (t' : WordsMet) → p + length b ≤ end → SpellsClass p t own b t' → IsSo class_word end p t own b t'
    by end p t own b t' le (inl c) =
        let spelled : IsSo (name Short) end (p + 4) t own (own ++ 0 ∷ []) t = record { so = (c.plain, refl, refl) } in
        let all : IsSo class_word end p t own (big_bytes 4 (2 ^ 32 - 1) ++ (own ++ 0 ∷ [])) (with_name t p own) =
        here_then (number_then (2 ^ 32 - 1) (lit< tt) (first_is (2 ^ 32 - 1 == 2 ^ 32 - 1) refl (ends_with own t spelled (met_then (note_then done_is))))) in
        so_by all refl c.spelled c.words
    by end p t own b t' le (inr c) =
        let w = c.place + (2 ^ 31 + 2) in
        let other : (w == 2 ^ 32 - 1) ≡ false = ne_eqb _ _ (omega (arith, c.low)) in
        let high : nat_lt w (2 ^ 31 + 2) ≡ false = le-ltb _ _ (omega arith) in
        let there : w - (2 ^ 31 + 2) ≡ c.place = omega arith in
        let found : (if nat_lt w (2 ^ 31 + 2) then None else lookup (nat_eq (w - (2 ^ 31 + 2))) t.names) ≡ Some own = rw (high, there) c.known in
        let all : IsSo class_word end p t own (big_bytes 4 w ++ []) t = here_then (number_then w (omega (arith, c.low)) (second_is (w == 2 ^ 32 - 1) other (met_then (known_is (UnknownClassWord p w) _ own found)))) in
        so_by all refl (c.spelled ∙ sym (append-nil (big_bytes 4 w))) c.words

counts : (n : ℕ) → n < 2 ^ 30 → is_count (n + 2 ^ 30) ≡ true
counts n lt =
    let low : nat_le (2 ^ 30) (n + 2 ^ 30) ≡ true = le-leb _ _ (omega arith) in
    let high : nat_lt (n + 2 ^ 30) (2 ^ 31) ≡ true = lt-ltb _ _ (omega (arith, lt)) in
    rw (low, high) refl

end_is : {end p : ℕ} {t : WordsMet} (place w : ℕ) → counted_end place w ≤ end → IsSo (end_of place w) end p t (counted_end place w) [] t
end_is place w le = reaches_then le done_is

finish_is : {end p : ℕ} {t : WordsMet} (place e : ℕ) → p ≡ e → IsSo (finish place e) end p t tt [] t
finish_is {p = p} place e is = let there : (p == e) ≡ true = eq-eqb _ _ is in here_then (first_is (p == e) there done_is)

null_is : {end p : ℕ} {t : WordsMet} → IsSo pointer_word end p t Null (big_bytes 4 0) t
unfolding pointer_word
null_is = here_then (number_then 0 (lit< tt) (first_is (0 == 0) refl done_is))

-- the words before an object
new_is : (end p n : ℕ) (t u : WordsMet) (class class_bytes : List ℕ) → n < 2 ^ 30 → p + 4 + n ≤ end → IsSo class_word end (p + 4) t class class_bytes u
    → IsSo pointer_word end p t (New (length u.labels) p (counted_end p (n + 2 ^ 30)) class) (big_bytes 4 (n + 2 ^ 30) ++ class_bytes) (with_label u p)
unfolding pointer_word new_word
new_is end p n t u class class_bytes low room c =
    let w = n + 2 ^ 30 in
    let some : (w == 0) ≡ false = ne_eqb _ _ (omega arith) in
    let within : counted_end p w ≤ end = omega (arith, room) in
    here_then (number_then w (omega (arith, low)) (second_is (w == 0) some (first_is (is_count w) (counts n low) (still_then (counted_end p w) (end_is p w within) (ends_with class u c (met_then (note_then done_is)))))))

back_is : (end p place label : ℕ) (t : WordsMet) → position (nat_eq place) t.labels ≡ Some label → place + 2 < 2 ^ 32 → is_count (place + 2) ≡ false → IsSo pointer_word end p t (Back label) (big_bytes 4 (place + 2)) t
unfolding pointer_word
back_is end p place label t known low word =
    let w = place + 2 in
    let some : (w == 0) ≡ false = ne_eqb _ _ (omega arith) in
    let high : nat_lt w 2 ≡ false = le-ltb _ _ (omega arith) in
    let there : w - 2 ≡ place = omega arith in
    let found : (if nat_lt w 2 then None else position (nat_eq (w - 2)) t.labels) ≡ Some label = rw (high, there) known in
    let all : IsSo pointer_word end p t (Back label) (big_bytes 4 w ++ []) t =
    here_then (number_then w (omega (arith, low)) (second_is (w == 0) some (second_is (is_count w) word (met_then (still_then label (known_is (UnknownRef p w) _ label found) done_is))))) in
    so_by all refl (sym (append-nil (big_bytes 4 w))) refl

module _ (object : Spellings) (layouts : Objects) (inner : (class : List ℕ) → In (object class) (layouts class)) where
  pointer_in : In (SpellsPointer object) (pointer layouts)
  unfolding pointer pointed
  pointer_in = record { into = by }
    where
      by : (end p : ℕ) (t : WordsMet) (v : Value) (b : List ℕ) (t' : WordsMet) → p + length b ≤ end → SpellsPointer object p t v b t' → IsSo (pointer layouts) end p t v b t'
      by end p t v b t' le (inl c) =
          let all : IsSo (pointer layouts) end p t Nothing (big_bytes 4 0) t = ends_with Null t null_is done_is in
          so_by all c.value c.spelled c.words
      by end p t v b t' le (inr (inl c)) =
          let all : IsSo (pointer layouts) end p t (Earlier c.label) (big_bytes 4 (c.place + 2)) t = ends_with (Back c.label) t (back_is end p c.place c.label t c.known c.low c.reference) done_is in
          so_by all c.value c.spelled c.words
      by end p t v b t' le (inr (inr c)) =
          let n = length (c.class_bytes ++ c.object_bytes) in
          let word = big_bytes 4 (n + 2 ^ 30) in
          let e = counted_end p (n + 2 ^ 30) in
          let q = p + length (word ++ c.class_bytes) in
          let sum : n ≡ length c.class_bytes + length c.object_bytes = length-append c.class_bytes c.object_bytes in
          let same : p + 4 + length c.class_bytes ≡ q = omega (arith, length-append word c.class_bytes) in
          let to : q + length c.object_bytes ≡ e = omega (arith, length-append word c.class_bytes, sum) in
          let room : p + 4 + n ≤ end = omega (arith, le, ap length c.spelled) in
          let class = class_in.into end (p + 4) t c.name c.class_bytes c.t1 (omega (arith, room, sum)) c.class in
          let inside = (inner c.name).into end (p + 4 + length c.class_bytes) (with_label c.t1 p) c.inner c.object_bytes t' (omega (arith, room, sum)) c.inside in
          let there = subst (λ (r : ℕ). IsSo (layouts c.name) end r (with_label c.t1 p) c.inner c.object_bytes t') same inside in
          let all : IsSo (pointer layouts) end p t (Pointed (length c.t1.labels) c.inner) ((word ++ c.class_bytes) ++ c.object_bytes) t' =
          both_are (New (length c.t1.labels) p e c.name) (with_label c.t1 p) (new_is end p n t c.t1 c.name c.class_bytes c.count room class) (ends_with c.inner t' there (still_then tt (finish_is p e to) done_is)) in
          so_by all c.value (c.spelled ∙ sym (append_assoc word c.class_bytes c.object_bytes)) refl

  -- ---- members

  kind_in : (counters : Counters) (k : Kind) → In (SpellsKind object counters k) (kind_value layouts counters k)
  unfolding kind_value
  kind_in counters (Plain of) = record { into = λ end p t v b t' le c. record { so = ((number_in of).into end p t v b t' le c).so } }
  kind_in counters Counter = record { into = λ end p t v b t' le c. record { so = ((number_in I32).into end p t v b t' le c).so } }
  kind_in counters (Fixed of count) = record { into = λ end p t v b t' le c. record { so = ((numbers_in of count).into end p t v b t' le c).so } }
  kind_in counters (Counted of counter) = record { into = λ end p t v b t' le c. record { so = ((counted_in of (count_by counter counters)).into end p t v b t' le c).so } }
  kind_in counters Texted = record { into = λ end p t v b t' le c. record { so = (text_in.into end p t v b t' le c).so } }
  kind_in counters (Inline class) = record { into = λ end p t v b t' le c. record { so = ((inner class).into end p t v b t' le c).so } }
  kind_in counters (Pointer class) = record { into = λ end p t v b t' le c. record { so = (pointer_in.into end p t v b t' le c).so } }
  kind_in counters (Other code) = record { into = λ end p t v b t' le c. absurd c }

  members_in : (ms : List Member) (counters : Counters) (end p : ℕ) (t : WordsMet) (ps : List Part) (b : List ℕ) (s' : WordsMet × Counters) → p + length b ≤ end → SpellsEach (IsPart object) ms p (t, counters) ps b s' → IsSo (member_parts layouts counters ms) end p t ps b s'.0
  unfolding member_parts member_part
  members_in [] counters end p t ps b s' le c =
      let words : s'.0 ≡ t = ap (λ (s : WordsMet × Counters). s.0) c.2 in
      record { so = (c.0, c.1, words) }
  members_in (m ∷ ms) counters end p t ps b s' le c =
      let h = c.first in
      let y = part m.name h.v in
      let len : length b ≡ length c.front + length c.back = ap length c.spelled ∙ length-append c.front c.back in
      let value = (kind_in counters m.kind).into end p t h.v c.front c.s1.0 (omega (arith, le, len)) h.value in
      let first : IsSo (member_part layouts counters m) end p t y c.front c.s1.0 = ends_with h.v c.s1.0 value done_is in
      let rest : SpellsEach (IsPart object) ms (p + length c.front) (c.s1.0, counters_with m h.v counters) c.more c.back s' =
      subst (λ (d : Counters). SpellsEach (IsPart object) ms (p + length c.front) (c.s1.0, d) c.more c.back s') h.counters c.others in
      let others = members_in ms (counters_with m h.v counters) end (p + length c.front) c.s1.0 c.more c.back s' (omega (arith, le, len)) rest in
      let all : IsSo (member_parts layouts counters (m ∷ ms)) end p t (y ∷ c.more) (c.front ++ c.back) s'.0 = both_are y c.s1.0 first (ends_with c.more s'.0 others done_is) in
      so_by all (c.values ∙ ap (λ (q : Part). q ∷ c.more) h.part) c.spelled refl

  -- bases, and these members behind them
  abbrev bases_and : List Base → List Member → ObjLayout (List Part)
  bases_and bs ms = each (base_part layouts) bs >>= λ xs. member_parts layouts [] ms >>= λ ys. done (xs ++ ys)

  in_front : (b : Base) (bs : List Base) (ms : List Member) (end p q : ℕ) (t u t' : WordsMet) (v : Value) (ps : List Part) (front back : List ℕ) → q ≡ p + length front → IsSo (layouts b.name) end p t v front u → IsSo (bases_and bs ms) end q u ps back t' → IsSo (bases_and (b ∷ bs) ms) end p t (part [] v ∷ ps) (front ++ back) t'
  unfolding each base_part
  in_front b bs ms end p q t u t' v ps front back is one others =
      let c = others.so in
      let d = c.6 in
      let first : IsSo (base_part layouts b) end p t (part [] v) front u = ends_with v u one done_is in
      let place : q + length c.1 ≡ p + length (front ++ c.1) = omega (arith, is, length-append front c.1) in
      let bases : IsSo (each (base_part layouts) bs) end (p + length front) u c.0 c.1 c.3 = subst (λ (r : ℕ). IsSo (each (base_part layouts) bs) end r u c.0 c.1 c.3) is (record { so = c.5 }) in
      let both : IsSo (each (base_part layouts) (b ∷ bs)) end p t (part [] v ∷ c.0) (front ++ c.1) c.3 = both_are (part [] v) u first (ends_with c.0 c.3 bases done_is) in
      let members : IsSo (member_parts layouts [] ms) end (p + length (front ++ c.1)) c.3 d.0 d.1 d.3 = subst (λ (r : ℕ). IsSo (member_parts layouts [] ms) end r c.3 d.0 d.1 d.3) place (record { so = d.5 }) in
      let tail : IsSo (member_parts layouts [] ms >>= λ ys. done ((part [] v ∷ c.0) ++ ys)) end (p + length (front ++ c.1)) c.3 (part [] v ∷ ps) c.2 t' =
      record { so = (d.0, d.1, d.2, d.3, d.4, members.so, (ap (λ (x : List Part). part [] v ∷ x) d.6.0, d.6.1, d.6.2)) } in
      let all : IsSo (bases_and (b ∷ bs) ms) end p t (part [] v ∷ ps) ((front ++ c.1) ++ c.2) t' = both_are (part [] v ∷ c.0) c.3 both tail in
      so_by all refl (ap (λ (x : List ℕ). front ++ x) c.4 ∙ sym (append_assoc front c.1 c.2)) refl

  slots_in : (bs : List Base) (ms : List Member) (end p : ℕ) (t : WordsMet) (ps : List Part) (b : List ℕ) (s' : WordsMet × Counters) → p + length b ≤ end → SpellsEach (IsPart object) (map base_slot bs ++ ms) p (t, []) ps b s' → IsSo (bases_and bs ms) end p t ps b s'.0
  unfolding each
  slots_in [] ms end p t ps b s' le c =
      let members = members_in ms [] end p t ps b s' le c in
      still_then [] done_is (ends_with ps s'.0 members done_is)
  slots_in (base ∷ bs) ms end p t ps b s' le c =
      let h = c.first in
      let len : length b ≡ length c.front + length c.back = ap length c.spelled ∙ length-append c.front c.back in
      let one = (inner base.name).into end p t h.v c.front c.s1.0 (omega (arith, le, len)) h.value in
      let rest : SpellsEach (IsPart object) (map base_slot bs ++ ms) (p + length c.front) (c.s1.0, []) c.more c.back s' =
      subst (λ (d : Counters). SpellsEach (IsPart object) (map base_slot bs ++ ms) (p + length c.front) (c.s1.0, d) c.more c.back s') h.counters c.others in
      let others = slots_in bs ms end (p + length c.front) c.s1.0 c.more c.back s' (omega (arith, le, len)) rest in
      let all = in_front base bs ms end p (p + length c.front) t c.s1.0 s'.0 h.v c.more c.front c.back refl one others in
      so_by all (c.values ∙ ap (λ (q : Part). q ∷ c.more) h.part) c.spelled refl

  parts_in : (c : ClassDef) → In (λ p t ps b t'. IsParts object c p t ps b t') (parts layouts c)
  unfolding parts
  parts_in c = record { into = λ end p t ps b t' le d. slots_in c.bases c.members end p t ps b (t', d.counters) le d.each }

-- ---- counts of items

count_then : {A : Type 0} {end p : ℕ} {t : WordsMet} {y : A} {b : List ℕ} {t' : WordsMet} (w : ℕ) {k : ℕ → ObjLayout A} (n : ℕ) → n < 2 ^ 31 → p + 4 + n * w ≤ end → IsSo (k n) end (p + 4) t y b t' → IsSo (count_of w >>= k) end p t y (big_bytes 4 n ++ b) t'
unfolding count_of
count_then {p = p} {t = t} w n low room c =
    let few : nat_lt n (2 ^ 31) ≡ true = lt-ltb _ _ low in
    let own : IsSo (count_of w) _ p t n (big_bytes 4 n ++ []) t = here_then (number_then n (omega (arith, low)) (here_then (still_then tt (first_is (nat_lt n (2 ^ 31)) few done_is) (reaches_then room done_is)))) in
    let so : IsSo (count_of w) _ p t n (big_bytes 4 n) t = so_by own refl (sym (append-nil (big_bytes 4 n))) refl in
    both_are n t so c

-- as many items have as many bytes
room_for : {l : ObjLayout Value} (n w : ℕ) → IsLong w l → (end p : ℕ) (t : WordsMet) (ys : List Value) (b : List ℕ) (t' : WordsMet) → IsSo (times n l) end p t ys b t' → n * w ≤ length b
room_for {l = l} n w one end p t ys b t' c = (long_times n w l one).long end p t ys b t' c.so

pid_in : (bits : ℕ) (end p : ℕ) (t : WordsMet) (ps : List Part) (b : List ℕ) → SpellsPid (has_pid bits) ps b → IsSo (pid_of bits) end p t ps b t
pid_in bits end p t ps b c = by (has_pid bits) refl c
  where
    by : (has : Bool) → has_pid bits ≡ has → SpellsPid has ps b → IsSo (pid_of bits) end p t ps b t
    by true e d =
        let all : IsSo (pid_of bits) end p t (pid_part d.0 ∷ []) (big_bytes 2 d.0 ++ []) t = first_is (has_pid bits) e (number_then d.0 (omega (arith, d.1)) done_is) in
        so_by all d.2 (d.3 ∙ sym (append-nil (big_bytes 2 d.0))) refl
    by false e d =
        let all : IsSo (pid_of bits) end p t [] [] t = second_is (has_pid bits) e done_is in
        so_by all d.0 d.1 refl

bare_in : In (λ p t v b t'. IsBare t v b t') bare_layout
unfolding bare_layout
bare_in = record {
  into = λ end p t v b t' le c.
      let pid = pid_in c.bits end (p + 2 + 4 + 4) t c.pid c.pid_bytes c.pid_fits in
      let all : IsSo bare_layout end p t (bare_object c.id c.bits c.pid) (big_bytes 2 1 ++ (big_bytes 4 c.id ++ (big_bytes 4 c.bits ++ c.pid_bytes))) t =
      here_then (number_then 1 (lit< tt) (still_then tt (first_is (1 == 1) refl done_is) (number_then c.id (omega (arith, c.id_fits)) (number_then c.bits (omega (arith, c.bits_fit)) (ends_with c.pid t pid done_is))))) in
      so_by all c.value c.spelled c.words;
}

array_in : (class : List ℕ) (of : Primitive) → In (λ p t v b t'. IsArray class of p t v b t') (number_array class of)
unfolding number_array numbers
array_in class of = record {
  into = λ end p t v b t' le c.
      let d = c.each in
      let len : length b ≡ 4 + length c.item_bytes = ap length c.spelled ∙ length-append (big_bytes 4 c.count) c.item_bytes in
      let items = (times_in c.count (SpellsNumber of) (number_value of) (number_in of)).into end (p + 4) t d.items c.item_bytes t' (omega (arith, le, len)) d.each in
      let room = room_for c.count (width_of of) (long_number_value of) end (p + 4) t d.items c.item_bytes t' items in
      let own : IsSo (numbers of c.count) end (p + 4) t c.items c.item_bytes t' = so_by (ends_with d.items t' items done_is) d.value refl refl in
      let all : IsSo (number_array class of) end p t (Object class (pos 1) (part (codes "items") c.items ∷ [])) (big_bytes 4 c.count ++ c.item_bytes) t' =
      count_then (width_of of) c.count c.low (omega (arith, le, len, room)) (ends_with c.items t' own done_is) in
      so_by all c.value c.spelled refl;
}

module _ (object : Spellings) (layouts : Objects) (inner : (class : List ℕ) → In (object class) (layouts class)) where
  link_in : In (λ p t v b t'. IsLink object p t v b t') (link layouts)
  unfolding link
  link_in = record {
    into = λ end p t v b t' le c.
        let len : length b ≡ length c.pointer_bytes + length c.option_bytes = ap length c.spelled ∙ length-append c.pointer_bytes c.option_bytes in
        let first = (pointer_in object layouts inner).into end p t c.pointer c.pointer_bytes t' (omega (arith, le, len)) c.first in
        let second : IsSo (text Short) end (p + length c.pointer_bytes) t' c.option c.option_bytes t' = record { so = (c.second, refl) } in
        let all : IsSo (link layouts) end p t (Items (c.pointer ∷ Text c.option ∷ [])) (c.pointer_bytes ++ c.option_bytes) t' = both_are c.pointer t' first (ends_with c.option t' second done_is) in
        so_by all c.value c.spelled refl;
  }

  list_in : In (λ p t ps b t'. IsListParts object p t ps b t') (list_parts layouts)
  unfolding list_parts
  list_in = record {
    into = λ end p t ps b t' le c.
        let q = p + length c.base_bytes + length c.name_bytes in
        let len : length b ≡ length c.base_bytes + (length c.name_bytes + (4 + length c.item_bytes)) =
        ap length c.spelled ∙ length-append c.base_bytes _ ∙ ap (λ (n : ℕ). length c.base_bytes + n) (length-append c.name_bytes _ ∙ ap (λ (n : ℕ). length c.name_bytes + n) (length-append (big_bytes 4 c.count) c.item_bytes)) in
        let base = (inner (codes "TObject")).into end p t c.base c.base_bytes c.t1 (omega (arith, le, len)) c.based in
        let named : IsSo (text Short) end (p + length c.base_bytes) c.t1 c.name c.name_bytes c.t1 = record { so = (c.named, refl) } in
        let items = (times_in c.count (λ p t v b t'. IsLink object p t v b t') (link layouts) link_in).into end (q + 4) c.t1 c.items c.item_bytes t' (omega (arith, le, len)) c.each in
        let room = room_for c.count 4 (long_link layouts) end (q + 4) c.t1 c.items c.item_bytes t' items in
        let all : IsSo (list_parts layouts) end p t (part [] c.base ∷ part (codes "fName") (Text c.name) ∷ part (codes "items") (Items c.items) ∷ []) (c.base_bytes ++ (c.name_bytes ++ (big_bytes 4 c.count ++ c.item_bytes))) t' =
        both_are c.base c.t1 base (both_are c.name c.t1 named (count_then 4 c.count c.low (omega (arith, le, len, room)) (ends_with c.items t' items done_is))) in
        so_by all c.value c.spelled refl;
  }

  arrayed_in : In (λ p t ps b t'. IsArrayParts object p t ps b t') (array_parts layouts)
  unfolding array_parts
  arrayed_in = record {
    into = λ end p t ps b t' le c.
        let q = p + length c.base_bytes + length c.name_bytes in
        let lower : length c.lower_bytes ≡ 4 = ap length c.bound.spelled ∙ length-bytes_high_first 4 c.bound.n in
        let len : length b ≡ length c.base_bytes + (length c.name_bytes + (4 + (length c.lower_bytes + length c.item_bytes))) =
        ap length c.spelled
        ∙ length-append c.base_bytes _
        ∙ ap (λ (n : ℕ). length c.base_bytes + n) (length-append c.name_bytes _ ∙ ap (λ (n : ℕ). length c.name_bytes + n) (length-append (big_bytes 4 c.count) _ ∙ ap (λ (n : ℕ). 4 + n) (length-append c.lower_bytes c.item_bytes))) in
        let base = (inner (codes "TObject")).into end p t c.base c.base_bytes c.t1 (omega (arith, le, len)) c.based in
        let named : IsSo (text Short) end (p + length c.base_bytes) c.t1 c.name c.name_bytes c.t1 = record { so = (c.named, refl) } in
        let bound = (number_in I32).into end (q + 4) c.t1 c.lower c.lower_bytes c.t1 (omega (arith, le, len)) c.bound in
        let items = (times_in c.count (SpellsPointer object) (pointer layouts) (pointer_in object layouts inner)).into end (q + 8) c.t1 c.items c.item_bytes t' (omega (arith, le, len, lower)) c.each in
        let room = room_for c.count 4 (long_pointer layouts) end (q + 8) c.t1 c.items c.item_bytes t' items in
        let there : q + 8 ≡ q + 4 + length c.lower_bytes = omega (arith, lower) in
        let items1 = subst (λ (r : ℕ). IsSo (times c.count (pointer layouts)) end r c.t1 c.items c.item_bytes t') there items in
        let all : IsSo (array_parts layouts) end p t (part [] c.base ∷ part (codes "fName") (Text c.name) ∷ part (codes "fLowerBound") c.lower ∷ part (codes "items") (Items c.items) ∷ []) (c.base_bytes ++ (c.name_bytes ++ (big_bytes 4 c.count ++ (c.lower_bytes ++ c.item_bytes)))) t' =
        both_are c.base c.t1 base (both_are c.name c.t1 named (count_then 4 c.count c.low (omega (arith, le, len, room)) (both_are c.lower c.t1 bound (ends_with c.items t' items1 done_is)))) in
        so_by all c.value c.spelled refl;
  }

-- ---- headers

checksum_is : {end p : ℕ} {t : WordsMet} (sum : ℕ) → sum < 2 ^ 32 → IsSo (checksum_behind 0) end p t (Some sum) (big_bytes 4 sum) t
checksum_is {t = t} sum low =
    let all : IsSo (checksum_behind 0) _ _ t (Some sum) (big_bytes 4 sum ++ []) t = first_is (0 == 0) refl (number_then sum (omega (arith, low)) done_is) in
    so_by all refl (sym (append-nil (big_bytes 4 sum))) refl

-- the header of an object that counts n bytes
abbrev header_of : ℕ → ℕ → ℕ → Option ℕ → Header
header_of place n version sum = record { place = place; end = counted_end place (n + 2 ^ 30); version = pos version; sum = sum }

header_is : (end p n : ℕ) (t : WordsMet) (version : ℕ) (sum : Option ℕ) (b : List ℕ) → n < 2 ^ 30 → p + 4 + n ≤ end → SpellsVersion version sum b → IsSo header end p t (header_of p n version sum) (big_bytes 4 (n + 2 ^ 30) ++ b) t
unfolding header
header_is end p n t version None b low room c =
    let w = n + 2 ^ 30 in
    let within : counted_end p w ≤ end = omega (arith, room) in
    let some : (version == 0) ≡ false = ne_eqb _ _ (omega (arith, c.0)) in
    let all : IsSo header end p t (header_of p n version None) (big_bytes 4 w ++ (big_bytes 2 version ++ [])) t =
    here_then (number_then w (omega (arith, low)) (still_then (counted_end p w) (first_is (is_count w) (counts n low) (end_is p w within)) (number_then version (omega (arith, c.1)) (still_then None (second_is (version == 0) some done_is) done_is)))) in
    so_by all refl (ap (λ (x : List ℕ). big_bytes 4 w ++ x) (c.2 ∙ sym (append-nil (big_bytes 2 version)))) refl
header_is end p n t version (Some sum) b low room c =
    let w = n + 2 ^ 30 in
    let within : counted_end p w ≤ end = omega (arith, room) in
    let all : IsSo header end p t (header_of p n 0 (Some sum)) (big_bytes 4 w ++ (big_bytes 2 0 ++ big_bytes 4 sum)) t =
    here_then (number_then w (omega (arith, low)) (still_then (counted_end p w) (first_is (is_count w) (counts n low) (end_is p w within)) (number_then 0 (lit< tt) (ends_with (Some sum) t (checksum_is sum c.1) done_is)))) in
    so_by all (ap (λ (v : ℕ). header_of p n v (Some sum)) c.0) (ap (λ (x : List ℕ). big_bytes 4 w ++ x) c.2) refl

-- ---- objects

-- how many bytes a header counts
abbrev counted_by : Header → ℕ
counted_by h = h.end - h.place - 4

whole_in : (class : List ℕ) (version : ℤ) (h : Header) (one : Spelling (List Part)) (l : ObjLayout (List Part)) → In one l → (end q : ℕ) (t : WordsMet) (v : Value) (b : List ℕ) (t' : WordsMet) → q + length b ≤ end → q + length b ≡ h.end → IsWhole class version one q t v b t' → IsSo (whole_object class version h l) end q t v b t'
unfolding whole_object closed
whole_in class version h one l inner end q t v b t' le to c =
    let inside = inner.into end q t c.parts b t' le c.inside in
    let all : IsSo (whole_object class version h l) end q t (Object class version c.parts) b t' = ends_with c.parts t' inside (still_then tt (finish_is h.place h.end to) done_is) in
    so_by all c.value refl refl

unread_in : (class : List ℕ) (h : Header) (end q : ℕ) (t : WordsMet) (b : List ℕ) → q + length b ≡ h.end → IsSo (unread class h) end q t (Opaque class (counted_by h)) b t
unfolding unread
unread_in class h end q t b to =
    let within : nat_le q h.end ≡ true = le-leb _ _ (omega (arith, to)) in
    here_then (still_then tt (first_is (nat_le q h.end) within done_is) (ends_with tt t (any_is (h.end - q) b (omega (arith, to))) done_is))

module _ (object : Spellings) (layouts : Objects) (inner : (class : List ℕ) → In (object class) (layouts class)) where
  body_in : (class : List ℕ) (h : Header) (body_is : Body) (end q : ℕ) (t : WordsMet) (v : Value) (b : List ℕ) (t' : WordsMet) → q + length b ≤ end → q + length b ≡ h.end → SpellsBody object class (counted_by h) body_is q t v b t' → IsSo (body layouts class h body_is) end q t v b t'
  unfolding body
  body_in class h (described d) end q t v b t' le to c = record { so = (whole_in class d.version h (λ p t ps b t'. IsParts object d p t ps b t') (parts layouts d) (parts_in object layouts inner d) end q t v b t' le to c).so }
  body_in class h listed end q t v b t' le to c = record { so = (whole_in class (pos 5) h (λ p t ps b t'. IsListParts object p t ps b t') (list_parts layouts) (list_in object layouts inner) end q t v b t' le to c).so }
  body_in class h arrayed end q t v b t' le to c = record { so = (whole_in class (pos 3) h (λ p t ps b t'. IsArrayParts object p t ps b t') (array_parts layouts) (arrayed_in object layouts inner) end q t v b t' le to c).so }
  body_in class h opaque end q t v b t' le to c = record { so = (so_by (unread_in class h end q t b to) c.0 refl c.1).so }

  headed_in : (classes : List ClassDef) (class : List ℕ) → In (λ p t v b t'. IsHeaded object classes class p t v b t') (headed layouts classes class)
  unfolding headed
  headed_in classes class = record {
    into = λ end p t v b t' le c.
        let n = length (c.version_bytes ++ c.inner) in
        let sum : n ≡ length c.version_bytes + length c.inner = length-append c.version_bytes c.inner in
        let word = big_bytes 4 (n + 2 ^ 30) in
        let h = header_of p n c.version c.sum in
        let q = p + 4 + length c.version_bytes in
        let which = body_of classes class (pos c.version) c.sum in
        let room : p + 4 + n ≤ end = omega (arith, le, ap length c.spelled) in
        let first = header_is end p n t c.version c.sum c.version_bytes c.count room c.stated in
        let count : n ≡ counted_by h = omega arith in
        let stated = subst (λ (k : ℕ). SpellsBody object class k which q t v c.inner t') count c.body in
        let second = body_in class h which end q t v c.inner t' (omega (arith, room, sum)) (omega (arith, sum)) stated in
        let there : q ≡ p + length (word ++ c.version_bytes) = omega (arith, length-append word c.version_bytes) in
        let next = subst (λ (r : ℕ). IsSo (body layouts class h which) end r t v c.inner t') there second in
        let all : IsSo (headed layouts classes class) end p t v ((word ++ c.version_bytes) ++ c.inner) t' = both_are h t first next in
        so_by all refl (c.spelled ∙ sym (append_assoc word c.version_bytes c.inner)) refl;
  }

  form_in : (classes : List ClassDef) (class : List ℕ) (f : Form) → In (SpellsForm object classes class f) (formed layouts classes class f)
  unfolding formed
  form_in classes class bare = record { into = λ end p t v b t' le c. record { so = (bare_in.into end p t v b t' le c).so } }
  form_in classes class (numbered of) = record { into = λ end p t v b t' le c. record { so = ((array_in class of).into end p t v b t' le c).so } }
  form_in classes class with_header = record { into = λ end p t v b t' le c. record { so = ((headed_in classes class).into end p t v b t' le c).so } }

pub object_in : (levels : ℕ) (classes : List ClassDef) (class : List ℕ) → In (Composes levels classes class) (object_of levels classes class)
unfolding Composes object_of
object_in zero classes class = record { into = λ end p t v b t' le c. absurd c }
object_in (suc levels) classes class = record {
  into = λ end p t v b t' le c. record { so = ((form_in (Composes levels classes) (object_of levels classes) (object_in levels classes) classes class (form_of class)).into end p t v b t' le c).so };
}

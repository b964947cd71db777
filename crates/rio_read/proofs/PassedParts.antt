-- Parts of objects that are passed over, one after the other.
use Rattle.std.proofs.Common.{◌≡◌, ℕ, ℤ, suc, ◌+◌, ◌-◌, ◌<◌, ◌≤◌, false, List, [], length, drop, slice_index_or, Result, Ok, Err, refl, sym, ap, ◌∙◌, arith}
use Rattle.std.proofs.lemmas.List.{drop_more, drop_all}
use Rattle.rio_num.specs.{Reading.{◌>>=◌}, Meanings.{read}, Layout.{each, text, times}}
use Rattle.rio_format.specs.{declared.class.Base.{Base}, declared.class.ClassDef.{ClassDef}, declared.class.Member.{Member}}
use Rattle.rio_format.specs.{declared.kind.Kind.TheVariants.{Counter}, declared.kind.Primitive.TheVariants.{I32}, Members.{is_counter}, declared.value.Part.{Part}}
use Rattle.rio_format.specs.declared.value.Value.TheOpen as layer
use Rattle.rio_format.specs.{Frames.{ObjLayout, Step, finish, pointer_word}, ReaderState.{ReaderState}, declared.fault.ObjFault.{ObjFault, TheVariants.{Short}}}
use Rattle.rio_format.specs.{declared.words.Header.{Header}, declared.words.PointerWord.{PointerWord, TheVariants.{New}}, Bodies.{Counters, t_named, t_obj_string}}
use Rattle.rio_format.specs.Objects.{Objects, array_parts, base_object, base_part, closed, count_of, kind_value, link, list_parts, member_part, member_parts, number_value, parts, pointed, pointer, text_value, whole_object}
use Rattle.rio_format.proofs.ValueCases.{out_int}
use Rattle.rio_read.specs.Passing.{counted_member, pass_of_new, counters_with_next, pass_of}
use Rattle.rio_read.proofs.Passing.{at_end}

pub bind_assoc : {A B C E : Type 0} (r : Result A E) (f : A → Result B E) (g : B → Result C E) → ((r >>= f) >>= g) ≡ (r >>= λ x. f x >>= g)
bind_assoc (Ok x) f g = refl
bind_assoc (Err e) f g = refl

-- nothing was read, of which nothing is kept
kept : (step : Step (Unit {0})) → (step >>= λ x. at_end x.1) ≡ step
kept (Ok x) = refl
kept (Err e) = refl

-- ---- one part behind the other

pub whole_passed : (class : List ℕ) (version : ℤ) (h : Header) (inside : ObjLayout (List Part)) (s : ReaderState) → read (pass_of (whole_object class version h inside)) s ≡ (read (pass_of inside) s >>= λ x. read (pass_of (finish h.place h.end)) x.1)
unfolding whole_object closed
whole_passed class version h inside s = simp bind_assoc

pub link_passed : (object : Objects) (s : ReaderState) → read (pass_of (link object)) s ≡ (read (pass_of (pointer object)) s >>= λ x. read (pass_of (text Short)) x.1)
unfolding link
link_passed object s = simp bind_assoc

pub parts_passed : (object : Objects) (c : ClassDef) (s : ReaderState) → read (pass_of (parts object c)) s ≡ (read (pass_of (each (base_part object) c.bases)) s >>= λ x. read (pass_of (member_parts object [] c.members)) x.1)
unfolding parts
parts_passed object c s = simp bind_assoc

pub list_passed : (object : Objects) (s : ReaderState) → read (pass_of (list_parts object)) s
    ≡ (read (pass_of (base_object object)) s >>= λ b. read (text Short) b.1 >>= λ n. read (count_of 4) n.1 >>= λ count. read (pass_of (times count.0 (link object))) count.1)
unfolding list_parts
list_passed object s = simp bind_assoc

pub array_passed : (object : Objects) (s : ReaderState) → read (pass_of (array_parts object)) s
    ≡ (read (pass_of (base_object object)) s >>= λ b. read (text Short) b.1 >>= λ n. read (count_of 4) n.1 >>= λ count. read (number_value I32) count.1 >>= λ lower. read (pass_of (times count.0 (pointer object))) lower.1)
unfolding array_parts
array_passed object s = simp bind_assoc

pub named_passed : (object : Objects) (s : ReaderState) → read (pass_of (parts object t_named)) s
    ≡ (read (pass_of (base_object object)) s >>= λ b. read (text Short) b.1 >>= λ n. read (pass_of (text Short)) n.1)
unfolding parts each base_part member_parts member_part kind_value text_value
named_passed object s = simp bind_assoc

pub obj_string_passed : (object : Objects) (s : ReaderState) → read (pass_of (parts object t_obj_string)) s
    ≡ (read (pass_of (base_object object)) s >>= λ b. read (pass_of (text Short)) b.1)
unfolding parts each base_part member_parts member_part kind_value text_value
obj_string_passed object s = simp bind_assoc

pub base_passed : (object : Objects) (b : Base) (s : ReaderState) → read (pass_of (base_part object b)) s ≡ read (pass_of (object b.name)) s
unfolding base_part
base_passed object b s = simp bind_assoc

pub pointer_passed : (object : Objects) (s : ReaderState) → read (pass_of (pointer object)) s ≡ (read pointer_word s >>= λ w. read (pass_of (pointed object w.0)) w.1)
unfolding pointer
pointer_passed object s = simp bind_assoc

pub pointed_passed : (object : Objects) (label place end : ℕ) (class : List ℕ) (s : ReaderState) → read (pass_of (pointed object (New label place end class))) s ≡ read (pass_of_new object place end class) s
unfolding pointed pass_of_new
pointed_passed object label place end class s = simp (bind_assoc, kept)

abbrev pub word_read : PointerWord → ReaderState → Step PointerWord
word_read w s = Ok (w, s)

pub pointer_new : (object : Objects) (label place end : ℕ) (class : List ℕ) (s s1 : ReaderState) → read pointer_word s ≡ word_read (New label place end class) s1 → read (pass_of (pointer object)) s ≡ read (pass_of_new object place end class) s1
pointer_new object label place end class s s1 e =
    pointer_passed object s
    ∙ ap (λ (r : Step PointerWord). r >>= λ w. read (pass_of (pointed object w.0)) w.1) e
    ∙ pointed_passed object label place end class s1

-- ---- loops

-- a loop over a list
module _ {X Y : Type 0} (f : X → ObjLayout Y) (xs : List X) (i : ℕ) (s : ReaderState) (total : Step (Unit {0})) where
  split : (x : X) → i < length xs → x ≡ slice_index_or xs i x → read (pass_of (each f (drop i xs))) s ≡ (read (pass_of (f x)) s >>= λ y. read (pass_of (each f (drop (i + 1) xs))) y.1)
  unfolding each
  split x lt e = rw (drop_more xs i x lt, ← e) (simp bind_assoc)

  pub each_passed_on : (x : X) (s1 : ReaderState) → i < length xs → x ≡ slice_index_or xs i x → read (pass_of (f x)) s ≡ Ok (tt, s1) → read (pass_of (each f (drop i xs))) s ≡ total → read (pass_of (each f (drop (i + 1) xs))) s1 ≡ total
  each_passed_on x s1 lt e h so_far =
      let one : read (pass_of (each f (drop i xs))) s ≡ read (pass_of (each f (drop (i + 1) xs))) s1 = split x lt e ∙ ap (λ (r : Step (Unit {0})). r >>= λ y. read (pass_of (each f (drop (i + 1) xs))) y.1) h in
      sym one ∙ so_far

  pub each_passed_fails : (x : X) (d : ObjFault) → i < length xs → x ≡ slice_index_or xs i x → read (pass_of (f x)) s ≡ Err d → read (pass_of (each f (drop i xs))) s ≡ total → total ≡ Err d
  each_passed_fails x d lt e h so_far =
      sym so_far ∙ split x lt e ∙ ap (λ (r : Step (Unit {0})). r >>= λ y. read (pass_of (each f (drop (i + 1) xs))) y.1) h

  pub each_passed_done : length xs ≤ i → read (pass_of (each f (drop i xs))) s ≡ total → total ≡ Ok (tt, s)
  unfolding each
  each_passed_done le so_far =
      let none : drop i xs ≡ [] = drop_all i xs le in
      sym so_far ∙ rw none refl

-- a loop that does the same thing so many times
module _ {Y : Type 0} (l : ObjLayout Y) (n i : ℕ) (s : ReaderState) (total : Step (Unit {0})) where
  split_times : i < n → read (pass_of (times (n - i) l)) s ≡ (read (pass_of l) s >>= λ y. read (pass_of (times (n - (i + 1)) l)) y.1)
  unfolding each
  split_times lt =
      let one : n - i ≡ suc (n - (i + 1)) = omega arith in
      rw one (simp bind_assoc)

  pub times_passed_on : (s1 : ReaderState) → i < n → read (pass_of l) s ≡ Ok (tt, s1) → read (pass_of (times (n - i) l)) s ≡ total → read (pass_of (times (n - (i + 1)) l)) s1 ≡ total
  times_passed_on s1 lt h so_far =
      let one : read (pass_of (times (n - i) l)) s ≡ read (pass_of (times (n - (i + 1)) l)) s1 = split_times lt ∙ ap (λ (r : Step (Unit {0})). r >>= λ y. read (pass_of (times (n - (i + 1)) l)) y.1) h in
      sym one ∙ so_far

  pub times_passed_fails : (d : ObjFault) → i < n → read (pass_of l) s ≡ Err d → read (pass_of (times (n - i) l)) s ≡ total → total ≡ Err d
  times_passed_fails d lt h so_far =
      sym so_far ∙ split_times lt ∙ ap (λ (r : Step (Unit {0})). r >>= λ y. read (pass_of (times (n - (i + 1)) l)) y.1) h

  pub times_passed_done : n ≤ i → read (pass_of (times (n - i) l)) s ≡ total → total ≡ Ok (tt, s)
  unfolding each
  times_passed_done le so_far =
      let none : n - i ≡ 0 = omega arith in
      sym so_far ∙ rw none refl

-- ---- members

-- a counter among the members
pub counter_passed : (object : Objects) (counters : Counters) (m : Member) (s : ReaderState) → m.kind ≡ Counter → read (counted_member object counters m) s ≡ read (counters_with_next m.name counters) s
unfolding counted_member member_part kind_value number_value counters_with_next
counter_passed object counters m s e = rw e (simp (bind_assoc, out_int))

-- any other member
pub member_passed : (object : Objects) (counters : Counters) (m : Member) (s : ReaderState) → is_counter m.kind ≡ false → read (counted_member object counters m) s ≡ (read (pass_of (kind_value object counters m.kind)) s >>= λ x. Ok (counters, x.1))
unfolding counted_member member_part
member_passed object counters m s e = simp (bind_assoc, e)

-- a loop over members
module _ (object : Objects) (ms : List Member) (i : ℕ) (s : ReaderState) (counters : Counters) (total : Step (Unit {0})) where
  split_members : (m : Member) → i < length ms → m ≡ slice_index_or ms i m → read (pass_of (member_parts object counters (drop i ms))) s ≡ (read (counted_member object counters m) s >>= λ y. read (pass_of (member_parts object y.0 (drop (i + 1) ms))) y.1)
  unfolding member_parts counted_member
  split_members m lt e = rw (drop_more ms i m lt, ← e) (simp bind_assoc)

  pub members_passed_on : (m : Member) (s1 : ReaderState) (met : Counters) → i < length ms → m ≡ slice_index_or ms i m → read (counted_member object counters m) s ≡ Ok (met, s1) → read (pass_of (member_parts object counters (drop i ms))) s ≡ total → read (pass_of (member_parts object met (drop (i + 1) ms))) s1 ≡ total
  members_passed_on m s1 met lt e h so_far =
      let one : read (pass_of (member_parts object counters (drop i ms))) s ≡ read (pass_of (member_parts object met (drop (i + 1) ms))) s1 = split_members m lt e ∙ ap (λ (r : Step Counters). r >>= λ y. read (pass_of (member_parts object y.0 (drop (i + 1) ms))) y.1) h in
      sym one ∙ so_far

  pub members_passed_fail : (m : Member) (d : ObjFault) → i < length ms → m ≡ slice_index_or ms i m → read (counted_member object counters m) s ≡ Err d → read (pass_of (member_parts object counters (drop i ms))) s ≡ total → total ≡ Err d
  members_passed_fail m d lt e h so_far =
      sym so_far ∙ split_members m lt e ∙ ap (λ (r : Step Counters). r >>= λ y. read (pass_of (member_parts object y.0 (drop (i + 1) ms))) y.1) h

  pub members_passed_done : length ms ≤ i → read (pass_of (member_parts object counters (drop i ms))) s ≡ total → total ≡ Ok (tt, s)
  unfolding member_parts
  members_passed_done le so_far =
      let none : drop i ms ≡ [] = drop_all i ms le in
      sym so_far ∙ rw none refl

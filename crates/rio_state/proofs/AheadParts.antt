-- What is written for the parts of an object that were read is no longer than they were.
use Rattle.std.proofs.Common.{◌≡◌, ◌⊎◌, inl, inr, ℕ, ◌+◌, ◌-◌, ◌^◌, ℤ, pos, negsuc, Bool, true, false, List, [], ◌∷◌, ◌++◌, length, map, Option, Some, None, nat_eq, position, refl, sym, ap, subst, ◌∙◌, append-nil, append_assoc, arith}
use Rattle.std.proofs.{lemmas.List.{length-append}}
use Rattle.std.specs.{Prelude.{if◌then◌else◌, nat_lt, ◌==◌, slice_index}, Map.{lookup}}
use Rattle.byteorder.specs.{Endian.{big_bytes}, Numbers.{length-bytes_high_first}}
use Rattle.rio_num.proofs.Intro.{IsSo}
use Rattle.rio_num.proofs.Apart.{both_of, here_of, number_of}
use Rattle.rio_num.specs.{Layout.{Layout, behind, broken, choice, done, known, must, met, note, reaches}, Meanings.{Spells}}
use Rattle.rio_format.specs.{declared.class.ClassDef.{ClassDef}, declared.kind.Kind.{Kind, TheVariants.{Plain, Counter, Fixed, Counted, Text as Texted, Inline, Pointer, Other}}, declared.kind.Primitive.{Primitive}}
use Rattle.rio_format.specs.declared.value.Value.{Value, List as Items, Pointed, Null as Nothing, Back as Earlier}
use Rattle.rio_format.specs.{Frames.{class_word, counted_end, end_of, finish, is_count, known_class, new_class, new_word, pointer_word, reference}, ReaderState.{WordsMet, with_label, with_name}, Writer.{Writer, class_bytes}}
use Rattle.rio_format.specs.{declared.fault.ObjFault.{ObjFault, TheVariants.{BadFlag, CountMismatch, NoCount, UnknownClassWord, UnknownRef}}, declared.words.PointerWord.{PointerWord, TheVariants.{Null, New, Back}}}
use Rattle.rio_format.specs.{Bodies.{Counters, count_by}, Objects.{Objects, counted_values, filled, kind_value, pointed, pointer}, Slots.{Slot, kinded}}
use Rattle.rio_format.specs.{Written.{Writing, all, counted_bytes, just, pointed_bytes, reference_bytes, writing_of, writing_step}, Growth.{is_all_read}}
use Rattle.rio_format.proofs.{ValueCases.{fold_Back, fold_Null, fold_Pointed}, AllRead.{AllRead, pointed_read}}
use Rattle.rio_state.proofs.Ahead.{Ahead, ahead_as, ahead_both, ahead_just, ahead_known, ahead_new, ahead_pointed, looked_up}
use Rattle.rio_state.proofs.AheadValues.{counter_covers, items_ahead, number_covers, plain_ahead, numbers_covers, numbers_read, text_covers}

-- ---- what was met, noted and reached

module _ {W F A : Type 0} {end p : ℕ} {t : W} {y : A} {b : List ℕ} {t' : W} where
  met_of : {k : W → Layout W F A} → IsSo (behind met k) end p t y b t' → IsSo (k t) end p t y b t'
  met_of {k = k} c =
      let d = c.so in
      let place : p + length d.1 ≡ p = omega (arith, ap length d.5.1) in
      let all : d.2 ≡ b = sym (d.4 ∙ ap (λ (z : List ℕ). z ++ d.2) d.5.1) in
      record { so = subst (λ (q : W × ℕ × W × List ℕ). Spells (k q.0) end q.1 q.2 y q.3 t') (λ i. (d.5.0 i, place i, d.5.2 i, all i)) d.6 }

  note_of : {s : W} {k : Unit {0} → Layout W F A} → IsSo (behind (note s) k) end p t y b t' → IsSo (k tt) end p s y b t'
  note_of {s = s} {k = k} c =
      let d = c.so in
      let place : p + length d.1 ≡ p = omega (arith, ap length d.5.0) in
      let all : d.2 ≡ b = sym (d.4 ∙ ap (λ (z : List ℕ). z ++ d.2) d.5.0) in
      record { so = subst (λ (q : ℕ × W × List ℕ). Spells (k tt) end q.0 q.1 y q.2 t') (λ i. (place i, d.5.1 i, all i)) d.6 }

  pub reaches_of : {e : ℕ} {f : F} {k : Unit {0} → Layout W F A} → IsSo (behind (reaches e f) k) end p t y b t' → IsSo (k tt) end p t y b t'
  reaches_of {k = k} c =
      let d = c.so in
      let place : p + length d.1 ≡ p = omega (arith, ap length d.5.1) in
      let all : d.2 ≡ b = sym (d.4 ∙ ap (λ (z : List ℕ). z ++ d.2) d.5.1) in
      record { so = subst (λ (q : ℕ × W × List ℕ). Spells (k tt) end q.0 q.1 y q.2 t') (λ i. (place i, d.5.2 i, all i)) d.6 }

-- the other one
unchosen : {W F A : Type 0} {l m : Layout W F A} {end p : ℕ} {t : W} {y : A} {b : List ℕ} {t' : W} → IsSo (choice false l m) end p t y b t' → IsSo m end p t y b t'
unchosen c = record { so = c.so }

-- ---- class words

class_ahead : (end p q : ℕ) (t : WordsMet) (w : ℕ) (y b : List ℕ) (t' : WordsMet) (word : List ℕ) → length word ≡ 4 → IsSo (choice (w == 2 ^ 32 - 1) (new_class q) (known_class q w)) end (p + length word) t y b t' → q ≡ p
    → Ahead (class_bytes y) p t (word ++ b) t'
unfolding new_class
class_ahead end p q t w y b t' word four c at = by (w == 2 ^ 32 - 1) c
  where
    of_known : (o : Option (List ℕ)) → lookup (nat_eq (w - (2 ^ 31 + 2))) t.names ≡ o → IsSo (known (UnknownClassWord q w) o) end (p + length word) t y b t' → Ahead (class_bytes y) p t (word ++ b) t'
    of_known None is c = absurd c.so
    of_known (Some class) is c =
        let d = c.so in
        let named = looked_up (w - (2 ^ 31 + 2)) y t.names (is ∙ ap (λ (k : List ℕ). let o : Option (List ℕ) = Some k in o) (sym d.0)) in
        subst (λ (u : WordsMet). Ahead (class_bytes y) p t (word ++ b) u) (sym d.2) (ahead_known y (word ++ b) p t (omega (arith, four, length-append word b)) named)

    of_small : (small : Bool) → IsSo (known (UnknownClassWord q w) (if small then None else lookup (nat_eq (w - (2 ^ 31 + 2))) t.names)) end (p + length word) t y b t' → Ahead (class_bytes y) p t (word ++ b) t'
    of_small true c = absurd c.so
    of_small false c = of_known (lookup (nat_eq (w - (2 ^ 31 + 2))) t.names) refl c

    by : (new : Bool) → IsSo (choice new (new_class q) (known_class q w)) end (p + length word) t y b t' → Ahead (class_bytes y) p t (word ++ b) t'
    by true c =
        let d = c.so in
        let own = d.5 in
        let named : IsSo {F = ObjFault} (behind met (λ (s : WordsMet). behind (note (with_name s q d.0)) (λ (x : Unit {0}). done d.0))) end (p + length word + length d.1) t y d.2 t' =
        record { so = subst (λ (u : WordsMet). Spells {F = ObjFault} (behind met (λ (s : WordsMet). behind (note (with_name s q d.0)) (λ (x : Unit {0}). done d.0))) end (p + length word + length d.1) u y d.2 t') own.2 d.6 } in
        let noted : IsSo {F = ObjFault} (behind (note (with_name t q d.0)) (λ (x : Unit {0}). done d.0)) end (p + length word + length d.1) t y d.2 t' = met_of named in
        let rest : IsSo {F = ObjFault} (done d.0) end (p + length word + length d.1) (with_name t q d.0) y d.2 t' = note_of noted in
        let e = rest.so in
        let long : length (word ++ b) ≡ 5 + length y =
        omega (arith, length-append word b, four, ap length d.4, length-append d.1 d.2, ap length own.1, length-append d.0 (0 ∷ []), ap length e.1, ap length e.0) in
        subst (λ (u : WordsMet). Ahead (class_bytes y) p t (word ++ b) u) ((λ i. with_name t (sym at i) (e.0 i)) ∙ sym e.2) (ahead_new y (word ++ b) p t long)
    by false c = of_small (nat_lt w (2 ^ 31 + 2)) (met_of (unchosen c))

class_so : (end p : ℕ) (t : WordsMet) (y b : List ℕ) (t' : WordsMet) → IsSo class_word end p t y b t' → Ahead (class_bytes y) p t b t'
unfolding class_word
class_so end p t y b t' c =
    number_of (here_of c) (λ w rest fits parts next.
    let four = length-bytes_high_first 4 w in
    let at : p + 4 ≡ p + length (big_bytes 4 w) = omega (arith, four) in
    let next_at : IsSo (choice (w == 2 ^ 32 - 1) (new_class p) (known_class p w)) end (p + length (big_bytes 4 w)) t y rest t' =
    record { so = subst (λ (q : ℕ). Spells (choice (w == 2 ^ 32 - 1) (new_class p) (known_class p w)) end q t y rest t') at next.so } in
    ahead_as (class_bytes y) p t t' (big_bytes 4 w ++ rest) b (sym parts) (class_ahead end p p t w y rest t' (big_bytes 4 w) four next_at refl))

-- ---- pointers

-- a word of a new object: a byte count and a class word, and the object has the next label
record NewRead (x : PointerWord) (p : ℕ) (t : WordsMet) (front : List ℕ) (u : WordsMet) : Type 0 where
  label : ℕ
  place : ℕ
  end : ℕ
  class : List ℕ
  word : List ℕ
  cls : List ℕ
  t1 : WordsMet
  is : x ≡ New label place end class
  four : length word ≡ 4
  parts : front ≡ word ++ cls
  first : Ahead (class_bytes class) (p + length word) t cls t1
  words : u ≡ with_label t1 place

-- what was read of a pointer's word
PointerRead : PointerWord → ℕ → WordsMet → List ℕ → WordsMet → Type 0
PointerRead x p t front u = ((x ≡ Null) × (length front ≡ 4) × (u ≡ t)) ⊎ ((label : ℕ) × (x ≡ Back label) × (length front ≡ 4) × (u ≡ t)) ⊎ NewRead x p t front u

-- nothing is read, and no words are met
pub record IsNothing (b : List ℕ) (t t' : WordsMet) : Type 0 where
  pub bytes : b ≡ []
  pub words : t' ≡ t

pub end_keeps : (end p place w : ℕ) (t : WordsMet) (x : ℕ) (b : List ℕ) (t' : WordsMet) → IsSo (end_of place w) end p t x b t' → IsNothing b t t'
end_keeps end p place w t x b t' c = let d : IsSo {F = ObjFault} (done (counted_end place w)) end p t x b t' = reaches_of c in let e = d.so in record { bytes = e.1; words = e.2 }

pub finish_keeps : (end p place stop : ℕ) (t : WordsMet) (x : Unit {0}) (b : List ℕ) (t' : WordsMet) → IsSo (finish place stop) end p t x b t' → IsNothing b t t'
finish_keeps end p place stop t x b t' c = by (p == stop) (here_of c)
  where
    by : (same : Bool) → IsSo (must same (CountMismatch place (stop - place - 4) (p - place - 4))) end p t x b t' → IsNothing b t t'
    by true c = let e = c.so in record { bytes = e.1; words = e.2 }
    by false c = absurd c.so

module _ (end p place w : ℕ) (t : WordsMet) (x : PointerWord) (word b : List ℕ) (t' : WordsMet) (four : length word ≡ 4) where
  new_read : IsSo (new_word place w) end (p + length word) t x b t' → NewRead x p t (word ++ b) t'
  unfolding new_word
  new_read c =
      both_of c (λ stop f1 rest u parts first next.
      let none = end_keeps end (p + length word) place w t stop f1 u first in
      both_of next (λ class cls rest2 u2 parts2 own next2.
      let noted : IsSo {F = ObjFault} (behind (note (with_label u2 place)) (λ (z : Unit {0}). done (New (length u2.labels) place stop class))) end (p + length word + length f1 + length cls) u2 x rest2 t' = met_of next2 in
      let last : IsSo {F = ObjFault} (done (New (length u2.labels) place stop class)) end (p + length word + length f1 + length cls) (with_label u2 place) x rest2 t' = note_of noted in
      let e = last.so in
      let at : p + length word + length f1 ≡ p + length word = omega (arith, ap length none.bytes) in
      let same : b ≡ cls = parts ∙ ap (λ (z : List ℕ). z ++ rest) none.bytes ∙ parts2 ∙ ap (λ (z : List ℕ). cls ++ z) e.1 ∙ append-nil cls in
      let made : NewRead x p t (word ++ b) t' = record {
        label = length u2.labels;
        place = place;
        end = stop;
        class = class;
        word = word;
        cls = cls;
        t1 = u2;
        is = e.0;
        four = four;
        parts = ap (λ (z : List ℕ). word ++ z) same;
        first = subst (λ (q : ℕ × WordsMet). Ahead (class_bytes class) q.0 q.1 cls u2) (λ i. (at i, none.words i)) (class_so end (p + length word + length f1) u class cls u2 own);
        words = e.2;
      } in made))

  back_read : IsSo (reference place w) end (p + length word) t x b t' → (label : ℕ) × (x ≡ Back label) × (length (word ++ b) ≡ 4) × (t' ≡ t)
  back_read c = of_small (nat_lt w 2) (met_of c)
    where
      of_known : (o : Option ℕ) → IsSo (behind (known (UnknownRef place w) o) (λ (label : ℕ). done (Back label))) end (p + length word) t x b t' → (label : ℕ) × (x ≡ Back label) × (length (word ++ b) ≡ 4) × (t' ≡ t)
      of_known None c = let d = c.so in absurd d.5
      of_known (Some label) c =
          let d = c.so in
          let one = d.5 in
          let two = d.6 in
          (d.0, two.0, omega (arith, four, length-append word b, ap length d.4, length-append d.1 d.2, ap length one.1, ap length two.1), two.2 ∙ one.2)

      of_small : (small : Bool) → IsSo (behind (known (UnknownRef place w) (if small then None else position (nat_eq (w - 2)) t.labels)) (λ (label : ℕ). done (Back label))) end (p + length word) t x b t' → (label : ℕ) × (x ≡ Back label) × (length (word ++ b) ≡ 4) × (t' ≡ t)
      of_small true c = of_known None c
      of_small false c = of_known (position (nat_eq (w - 2)) t.labels) c

  word_read : IsSo (choice (w == 0) (done Null) (choice (is_count w) (new_word place w) (reference place w))) end (p + length word) t x b t' → PointerRead x p t (word ++ b) t'
  unfolding PointerRead
  word_read c = by (w == 0) (is_count w) c
    where
      by : (null count : Bool) → IsSo (choice null (done Null) (choice count (new_word place w) (reference place w))) end (p + length word) t x b t' → PointerRead x p t (word ++ b) t'
      by true count c = let e = c.so in inl (e.0, omega (arith, four, length-append word b, ap length e.1), e.2)
      by false true c = inr (inr (new_read (record { so = c.so })))
      by false false c = inr (inl (back_read (record { so = c.so })))

pointer_read : (end p : ℕ) (t : WordsMet) (x : PointerWord) (b : List ℕ) (t' : WordsMet) → IsSo pointer_word end p t x b t' → PointerRead x p t b t'
unfolding pointer_word
pointer_read end p t x b t' c =
    number_of (here_of c) (λ w rest fits parts next.
    let four = length-bytes_high_first 4 w in
    let at : p + 4 ≡ p + length (big_bytes 4 w) = omega (arith, four) in
    let next_at : IsSo (choice (w == 0) (done Null) (choice (is_count w) (new_word p w) (reference p w))) end (p + length (big_bytes 4 w)) t x rest t' =
    record { so = subst (λ (q : ℕ). Spells (choice (w == 0) (done Null) (choice (is_count w) (new_word p w) (reference p w))) end q t x rest t') at next.so } in
    subst (λ (z : List ℕ). PointerRead x p t z t') (sym parts) (word_read end p p w t x (big_bytes 4 w) rest t' four next_at))

-- what is written of an object of a class, all of which was read, is no longer than it was; and it is of that class
abbrev pub ObjectAhead : List ClassDef → Objects → Type 0
ObjectAhead classes object =
    (class : List ℕ) (slot : Slot) (end p : ℕ) (t : WordsMet) (y : Value) (b : List ℕ) (t' : WordsMet) → AllRead y → IsSo (object class) end p t y b t' → Ahead ((writing_of classes y).bytes slot) p t b t'

abbrev pub ObjectOwn : List ClassDef → Objects → Type 0
ObjectOwn classes object = (class : List ℕ) (end p : ℕ) (t : WordsMet) (y : Value) (b : List ℕ) (t' : WordsMet) → AllRead y → IsSo (object class) end p t y b t' → (writing_of classes y).class ≡ class

module _ (classes : List ClassDef) (object : Objects) (inner : ObjectAhead classes object) (own : ObjectOwn classes object) where
  abbrev pub W : Value → Writing
  W v = writing_of classes v

  -- the word of a pointer, and the object that it leads to
  pointed_ahead : (class : List ℕ) (label : ℕ) (v : Value) (slot : Slot) (i p : ℕ) (t t1 t' : WordsMet) (word cls b : List ℕ) → (W v).class ≡ class → length word ≡ 4 → Ahead (class_bytes class) (p + length word) t cls t1
      → Ahead ((W v).bytes (kinded (Inline class))) (p + length word + length cls) (with_label t1 i) b t' → Ahead ((W (Pointed label v)).bytes slot) p t (word ++ (cls ++ b)) t'
  pointed_ahead class label v slot i p t t1 t' word cls b same four first own =
      let is : (W (Pointed label v)).bytes slot ≡ pointed_bytes (W v) = ap (λ (x : Writing). x.bytes slot) (fold_Pointed (writing_step classes) (λ p. p.value) label v) in
      subst (λ (f : Writer). Ahead f p t (word ++ (cls ++ b)) t') (sym is)
      (ahead_pointed (W v) i p t t1 t' word cls b four
      (subst (λ (k : List ℕ). Ahead (class_bytes k) (p + length word) t cls t1) (sym same) first)
      (subst (λ (k : List ℕ). Ahead ((W v).bytes (kinded (Inline k))) (p + length word + length cls) (with_label t1 i) b t') (sym same) own))

  null_ahead : (slot : Slot) (p : ℕ) (t t' : WordsMet) (b : List ℕ) → length b ≡ 4 → t' ≡ t → Ahead ((W Nothing).bytes slot) p t b t'
  null_ahead slot p t t' b four same = plain_ahead classes Nothing _ (big_bytes 4 0) slot p t t' b (fold_Null (writing_step classes) (λ p. p.value)) refl (omega (arith, four)) same

  pub back_ahead : (label : ℕ) (slot : Slot) (p : ℕ) (t t' : WordsMet) (b : List ℕ) → length b ≡ 4 → t' ≡ t → Ahead ((W (Earlier label)).bytes slot) p t b t'
  back_ahead label slot p t t' b four same =
      let is : (W (Earlier label)).bytes slot ≡ reference_bytes label = ap (λ (x : Writing). x.bytes slot) (fold_Back (writing_step classes) (λ p. p.value) label) in
      subst (λ (f : Writer). Ahead f p t b t') (sym is) (subst (λ (u : WordsMet). Ahead (reference_bytes label) p t b u) (sym same) (λ q u h.
      ahead_just (big_bytes 4 (slice_index u.labels label + 2)) b p t (omega (arith, four, length-bytes_high_first 4 (slice_index u.labels label + 2))) q u h))

  -- what the pointer leads to
  new_ahead : (slot : Slot) (end p : ℕ) (t u : WordsMet) (x : PointerWord) (f rest : List ℕ) (y : Value) (t' : WordsMet) → (r : NewRead x p t f u) → AllRead y
      → IsSo (pointed object (New r.label r.place r.end r.class)) end (p + length f) u y rest t' → Ahead ((W y).bytes slot) p t (f ++ rest) t'
  unfolding pointed
  new_ahead slot end p t u x f rest y t' r all c =
      both_of c (λ o b1 r1 u1 parts1 first next.
      both_of next (λ z b2 r2 u2 parts2 fin last.
      let none = finish_keeps end (p + length f + length b1) r.place r.end u1 z b2 u2 fin in
      let e = last.so in
      let whole : AllRead (Pointed r.label o) = ap is_all_read (sym e.0) ∙ all in
      let at : p + length f ≡ p + length r.word + length r.cls = omega (arith, ap length r.parts, length-append r.word r.cls) in
      let read = pointed_read r.label o whole in
      let start : Ahead ((W o).bytes (kinded (Inline r.class))) (p + length r.word + length r.cls) (with_label r.t1 r.place) b1 u1 =
      subst (λ (q : ℕ × WordsMet). Ahead ((W o).bytes (kinded (Inline r.class))) q.0 q.1 b1 u1) (λ i. (at i, r.words i)) (inner r.class (kinded (Inline r.class)) end (p + length f) u o b1 u1 read first) in
      let made = pointed_ahead r.class r.label o slot r.place p t r.t1 u1 r.word r.cls b1 (own r.class end (p + length f) u o b1 u1 read first) r.four r.first start in
      let tail : rest ≡ b1 = parts1 ∙ ap (λ (zs : List ℕ). b1 ++ zs) (parts2 ∙ (λ i. none.bytes i ++ e.1 i)) ∙ append-nil b1 in
      let same : r.word ++ (r.cls ++ b1) ≡ f ++ rest = sym (append_assoc r.word r.cls b1) ∙ (λ i. sym r.parts i ++ sym tail i) in
      subst (λ (v : Value). Ahead ((W v).bytes slot) p t (f ++ rest) t') (sym e.0)
      (subst (λ (w : WordsMet). Ahead ((W (Pointed r.label o)).bytes slot) p t (f ++ rest) w) (sym (e.2 ∙ none.words))
      (ahead_as ((W (Pointed r.label o)).bytes slot) p t u1 (r.word ++ (r.cls ++ b1)) (f ++ rest) same made))))

  pub pointer_ahead : (slot : Slot) (end p : ℕ) (t : WordsMet) (y : Value) (b : List ℕ) (t' : WordsMet) → AllRead y → IsSo (pointer object) end p t y b t' → Ahead ((W y).bytes slot) p t b t'
  unfolding pointer pointed PointerRead
  pointer_ahead slot end p t y b t' all c =
      both_of c (λ x f rest u parts first next.
      ahead_as ((W y).bytes slot) p t t' (f ++ rest) b (sym parts) (by x f rest u (pointer_read end p t x f u first) next))
    where
      by : (x : PointerWord) (f rest : List ℕ) (u : WordsMet) → ((x ≡ Null) × (length f ≡ 4) × (u ≡ t)) ⊎ ((label : ℕ) × (x ≡ Back label) × (length f ≡ 4) × (u ≡ t)) ⊎ NewRead x p t f u
          → IsSo (pointed object x) end (p + length f) u y rest t' → Ahead ((W y).bytes slot) p t (f ++ rest) t'
      by x f rest u (inl (is, four, same)) next =
          let done_so : IsSo (pointed object Null) end (p + length f) u y rest t' = record { so = subst (λ (z : PointerWord). Spells (pointed object z) end (p + length f) u y rest t') is next.so } in
          let e = done_so.so in
          subst (λ (v : Value). Ahead ((W v).bytes slot) p t (f ++ rest) t') (sym e.0) (null_ahead slot p t t' (f ++ rest) (omega (arith, four, length-append f rest, ap length e.1)) (e.2 ∙ same))
      by x f rest u (inr (inl (label, is, four, same))) next =
          let done_so : IsSo (pointed object (Back label)) end (p + length f) u y rest t' = record { so = subst (λ (z : PointerWord). Spells (pointed object z) end (p + length f) u y rest t') is next.so } in
          let e = done_so.so in
          subst (λ (v : Value). Ahead ((W v).bytes slot) p t (f ++ rest) t') (sym e.0) (back_ahead label slot p t t' (f ++ rest) (omega (arith, four, length-append f rest, ap length e.1)) (e.2 ∙ same))
      by x f rest u (inr (inr r)) next =
          new_ahead slot end p t u x f rest y t' r all (record { so = subst (λ (z : PointerWord). Spells (pointed object z) end (p + length f) u y rest t') r.is next.so })

  -- ---- members

  -- the byte 0 for nothing, or the byte 1 and the values
  filled_ahead : (of : Primitive) (ws : List Writing) (p : ℕ) (t t' : WordsMet) (flag b : List ℕ) → length flag ≡ 1 → Ahead (all (kinded (Plain of)) ws) (p + length flag) t b t' → Ahead (counted_bytes of ws) p t (flag ++ b) t'
  filled_ahead of [] p t t' flag b one rest = ahead_both (just (0 ∷ [])) (just []) p t t t' flag b (ahead_just (0 ∷ []) flag p t (omega (arith, one))) rest
  filled_ahead of (w ∷ ws) p t t' flag b one rest = ahead_both (just (1 ∷ [])) (all (kinded (Plain of)) (w ∷ ws)) p t t t' flag b (ahead_just (1 ∷ []) flag p t (omega (arith, one))) rest

  counted_ahead : (of : Primitive) (counter : List ℕ) (z : ℤ) (end p : ℕ) (t : WordsMet) (y : Value) (b : List ℕ) (t' : WordsMet) → IsSo (counted_values of z) end p t y b t' → Ahead ((W y).bytes (kinded (Counted of counter))) p t b t'
  unfolding counted_values
  counted_ahead of counter z end p t y b t' c =
      number_of (here_of c) (λ flag rest fits parts next.
      ahead_as ((W y).bytes (kinded (Counted of counter))) p t t' (big_bytes 1 flag ++ rest) b (sym parts) (by flag rest (flag == 0) (flag == 1) next))
    where
      of_filled : (n : ℤ) (flag : ℕ) (rest : List ℕ) → IsSo (filled of p n) end (p + 1) t y rest t' → Ahead ((W y).bytes (kinded (Counted of counter))) p t (big_bytes 1 flag ++ rest) t'
      of_filled (pos count) flag rest c =
          let r = numbers_read classes of count end (p + 1) t y rest t' c.so in
          subst (λ (v : Value). Ahead ((W v).bytes (kinded (Counted of counter))) p t (big_bytes 1 flag ++ rest) t') (sym r.value)
          (items_ahead classes r.vs (kinded (Counted of counter)) (counted_bytes of (map W r.vs)) p t t' (big_bytes 1 flag ++ rest) refl (filled_ahead of (map W r.vs) p t t' (big_bytes 1 flag) rest refl r.ahead))
      of_filled (negsuc n) flag rest c = absurd c.so

      by : (flag : ℕ) (rest : List ℕ) (none one : Bool) → IsSo (choice none (done (Items [])) (choice one (filled of p z) (broken (BadFlag p)))) end (p + 1) t y rest t' → Ahead ((W y).bytes (kinded (Counted of counter))) p t (big_bytes 1 flag ++ rest) t'
      by flag rest true one c =
          let e = c.so in
          subst (λ (v : Value). Ahead ((W v).bytes (kinded (Counted of counter))) p t (big_bytes 1 flag ++ rest) t') (sym e.0)
          (items_ahead classes [] (kinded (Counted of counter)) (just (0 ∷ [])) p t t' (big_bytes 1 flag ++ rest) refl
          (subst (λ (u : WordsMet). Ahead (just (0 ∷ [])) p t (big_bytes 1 flag ++ rest) u) (sym e.2) (ahead_just (0 ∷ []) (big_bytes 1 flag ++ rest) p t (omega arith))))
      by flag rest false true c = of_filled z flag rest (record { so = c.so })
      by flag rest false false c = absurd c.so

  pub kind_ahead : (counters : Counters) (k : Kind) (end p : ℕ) (t : WordsMet) (y : Value) (b : List ℕ) (t' : WordsMet) → AllRead y → IsSo (kind_value object counters k) end p t y b t' → Ahead ((W y).bytes (kinded k)) p t b t'
  unfolding kind_value
  kind_ahead counters (Plain of) end p t y b t' all c = number_covers classes of end p t y b t' c.so
  kind_ahead counters Counter end p t y b t' all c = counter_covers classes end p t y b t' c.so
  kind_ahead counters (Fixed of count) end p t y b t' all c = numbers_covers classes of count (kinded (Fixed of count)) (λ ws. refl) end p t y b t' c.so
  kind_ahead counters (Counted of counter) end p t y b t' all c = counted_ahead of counter (count_by counter counters) end p t y b t' c
  kind_ahead counters Texted end p t y b t' all c = text_covers classes end p t y b t' c.so
  kind_ahead counters (Inline class) end p t y b t' all c = inner class (kinded (Inline class)) end p t y b t' all c
  kind_ahead counters (Pointer class) end p t y b t' all c = pointer_ahead (kinded (Pointer class)) end p t y b t' all c
  kind_ahead counters (Other code) end p t y b t' all c = let d : IsSo {F = ObjFault} {A = Value} (broken (NoCount p)) end p t y b t' = here_of c in absurd d.so

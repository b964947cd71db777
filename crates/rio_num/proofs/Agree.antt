-- The meanings of a description agree, by one induction each.
use Rattle.std.proofs.Common.{◌≡◌, ◌⊎◌, inl, inr, ℕ, ◌+◌, ◌<◌, ◌≤◌, Bool, true, false, cond, ltb, List, [], ◌∷◌, ◌++◌, length, take, drop, Result, Ok, Err, refl, sym, ap, subst, ◌∙◌, append_assoc, arith}
use Rattle.std.proofs.{lemmas.Bool.{lt-ltb, le-ltb, ltb-true, ltb-false}, lemmas.List.{length-append, length-take, take-append-drop, take_at, drop_at}}
use Rattle.byteorder.specs.{Endian.{big_bytes, big_number}, Numbers.{big_from-lt, big_number-reads_back, length-bytes_high_first}}
use Rattle.rio_num.specs.{At.{At, AreBytes, end_place}, Reading.{◌>>=◌, skip, short, text_at}, declared.cursor.Short.{Short}}
use Rattle.rio_num.specs.Layout.{Layout, done, broken, number, bytes, text, name, here, reaches, met, note, choice, behind}
use Rattle.rio_num.specs.{Meanings.{Standing, Reading, read, of_bytes, stand, Spells, Breaks, HasTaken}, Laws.{Agrees}}
use Rattle.rio_num.proofs.{ReadLaws.{IsBytes-drop, ok_is, bind_ok, text_again, text_found}, LayoutBytes.{reads_back}}
use Rattle.rio_num.proofs.{LayoutNames.{name_again, name_endless, name_found, name_told}, LayoutTexts.{text_fault, text_told}}

-- nothing is taken of the bytes
still : {W F A : Type 0} (p : ℕ) (b more : List ℕ) (u : W) (a : A) → b ≡ [] → read {F = F} (done a) (stand p (b ++ more) u) ≡ Ok (a, stand (p + length b) more u)
still p b more u a e =
    let end : p + length b ≡ p = omega (arith, ap length e) in
    rw (end, e) refl

-- What is spelled is read, whatever follows, and reading stands behind it.
pub spelled_is_read : {W F A : Type 0} (l : Layout W F A) (end p : ℕ) (t : W) (y : A) (b more : List ℕ) (t' : W) → end ≤ p + length (b ++ more) → Spells l end p t y b t' → read l (stand p (b ++ more) t) ≡ Ok (y, stand (p + length b) more t')
spelled_is_read (done a) end p t y b more t' le c = rw (c.0, c.2) (still p b more t a c.1)
spelled_is_read (broken f) end p t y b more t' le c = absurd c
spelled_is_read (number f n) end p t y b more t' le c =
    let long : ltb (length (big_bytes n y ++ more)) n ≡ false = le-ltb _ _ (omega (arith, length-append (big_bytes n y) more, length-bytes_high_first n y)) in
    let len : p + n ≡ p + length (big_bytes n y) = omega (arith, length-bytes_high_first n y) in
    rw (c.1, c.2, long, big_number-reads_back n y more c.0, drop_at (big_bytes n y) more n (length-bytes_high_first n y), ← len) refl
spelled_is_read (bytes f n) end p t y b more t' le c =
    let long : ltb (length (y ++ more)) n ≡ false = le-ltb _ _ (omega (arith, c.0, length-append y more)) in
    rw (c.1, c.2, long, take_at y more n c.0, drop_at y more n c.0, ← c.0) refl
spelled_is_read (text f) end p t y b more t' le c = rw (c.1, text_again y b p more c.0) refl
spelled_is_read (name f) end p t y b more t' le c =
    let whole : b ++ more ≡ y ++ 0 ∷ more = ap (λ (d : List ℕ). d ++ more) c.1 ∙ append_assoc y (0 ∷ []) more in
    let len : p + (length y + 1) ≡ p + length b = omega (arith, ap length c.1, length-append y (0 ∷ [])) in
    rw (whole, name_again f p y more t c.0, c.2, len) refl
spelled_is_read here end p t y b more t' le c = rw (c.0, c.2) (still p b more t p c.1)
spelled_is_read (reaches e f) end p t y b more t' le c =
    let there : ltb (p + length (b ++ more)) e ≡ false = le-ltb _ _ (omega (arith, c.0, le)) in
    rw (there, c.2) (still p b more t tt c.1)
spelled_is_read met end p t y b more t' le c = rw (c.0, c.2) (still p b more t t c.1)
spelled_is_read (note u) end p t y b more t' le c = rw c.1 (still p b more u tt c.0)
spelled_is_read (choice true l m) end p t y b more t' le c = spelled_is_read l end p t y b more t' le c
spelled_is_read (choice false l m) end p t y b more t' le c = spelled_is_read m end p t y b more t' le c
spelled_is_read (behind l k) end p t y b more t' le c =
    let x = c.0 in
    let front = c.1 in
    let back = c.2 in
    let whole : b ++ more ≡ front ++ (back ++ more) = ap (λ (d : List ℕ). d ++ more) c.4 ∙ append_assoc front back more in
    let same : p + length (b ++ more) ≡ p + length (front ++ (back ++ more)) = ap (λ (d : List ℕ). p + length d) whole in
    let inner : p + length front + length (back ++ more) ≡ p + length (front ++ (back ++ more)) = omega (arith, length-append front (back ++ more)) in
    let first = spelled_is_read l end p t x front (back ++ more) c.3 (omega (arith, le, same)) c.5 in
    let second = spelled_is_read (k x) end (p + length front) c.3 y back more t' (omega (arith, le, same, inner)) c.6 in
    let len : p + length front + length back ≡ p + length b = omega (arith, ap length c.4, length-append front back) in
    rw (whole, first, second, len) refl

-- bytes behind others
bytes_behind : (bs front rest : List ℕ) → bs ≡ front ++ rest → AreBytes bs → AreBytes rest
bytes_behind bs front rest e fits = subst AreBytes (ap (drop (length front)) e ∙ drop_at front rest (length front) refl) (IsBytes-drop (length front) bs fits)

-- Where bytes break with a fault, reading gives it.
pub broken_is_fault : {W F A : Type 0} (l : Layout W F A) (p : ℕ) (t : W) (b : List ℕ) (g : F) → Breaks l p t b g → read l (stand p b t) ≡ Err g
broken_is_fault (done a) p t b g c = absurd c
broken_is_fault (broken f) p t b g c = rw c refl
broken_is_fault (number f n) p t b g c = let few : ltb (length b) n ≡ true = lt-ltb _ _ c.0 in rw (few, c.1) refl
broken_is_fault (bytes f n) p t b g c = let few : ltb (length b) n ≡ true = lt-ltb _ _ c.0 in rw (few, c.1) refl
broken_is_fault (text f) p t b g c = rw (c.2, text_fault p b c.0 c.1) refl
broken_is_fault (name f) p t b g c = rw c.1 (name_endless f p b t c.0)
broken_is_fault here p t b g c = absurd c
broken_is_fault (reaches e f) p t b g c = let past : ltb (p + length b) e ≡ true = lt-ltb _ _ c.0 in rw (past, c.1) refl
broken_is_fault met p t b g c = absurd c
broken_is_fault (note u) p t b g c = absurd c
broken_is_fault (choice true l m) p t b g c = broken_is_fault l p t b g c
broken_is_fault (choice false l m) p t b g c = broken_is_fault m p t b g c
broken_is_fault (behind l k) p t b g (inl c) = rw (broken_is_fault l p t b g c) refl
broken_is_fault (behind l k) p t b g (inr c) =
    let le : p + length b ≤ p + length (c.1 ++ c.2) = omega (arith, ap length c.4) in
    let first = spelled_is_read l (p + length b) p t c.0 c.1 c.2 c.3 le c.5 in
    rw (c.4, first) (broken_is_fault (k c.0) (p + length c.1) c.3 c.2 g c.6)

-- nothing was taken of the bytes
nothing_taken : {W F A : Type 0} (l : Layout W F A) (s : Standing W) (a : A) (u : W) (y : A) (s' : Standing W) → Spells l (end_place s.at) s.at.place s.words a [] u → read {F = F} (done a) (record s { words = u }) ≡ Ok (y, s') → HasTaken l s y s'
nothing_taken {W = W} {F = F} {A = A} l s a u y s' c h =
    let made : HasTaken l s a (record s { words = u }) = record { front = []; parts = refl; place = omega arith; spelled = c } in
    subst (λ (q : A × Standing W). HasTaken l s q.0 q.1) (ok_is {E = F} (a, record s { words = u }) (y, s') h) made

-- so many bytes were taken
so_many_taken : {W F A : Type 0} (l : Layout W F A) (n : ℕ) (s : Standing W) (a : A) (front : List ℕ) (y : A) (s' : Standing W) → n ≤ length s.at.rest → front ≡ take n s.at.rest → Spells l (end_place s.at) s.at.place s.words a front s.words
    → read {F = F} (done a) (record s { at = skip n s.at }) ≡ Ok (y, s') → HasTaken l s y s'
so_many_taken {W = W} {F = F} {A = A} l n s a front y s' le e c h =
    let made : HasTaken l s a (record s { at = skip n s.at }) = record {
      front = front;
      parts = sym (take-append-drop n s.at.rest) ∙ ap (λ (d : List ℕ). d ++ drop n s.at.rest) (sym e);
      place = omega (arith, ap length e, length-take n s.at.rest, le);
      spelled = c;
    } in
    subst (λ (q : A × Standing W). HasTaken l s q.0 q.1) (ok_is {E = F} (a, record s { at = skip n s.at }) (y, s') h) made

-- what is read of n bytes, or too few of them
abbrev or_short : {W F A : Type 0} → (ℕ → ℕ → F) → ℕ → Standing W → A → Bool → Reading W F A
or_short f n s x few = of_bytes f s (cond few (Err (short s.at.place n)) (Ok (x, skip n s.at)))

module _ {W F : Type 0} (f : ℕ → ℕ → F) (n : ℕ) (s : Standing W) where
  number_taken : (y : ℕ) (s' : Standing W) (b : Bool) → ltb (length s.at.rest) n ≡ b → AreBytes s.at.rest → or_short f n s (big_number n s.at.rest) b ≡ Ok (y, s') → HasTaken (number f n) s y s'
  number_taken y s' true few fits h = absurd cc
  number_taken y s' false few fits h =
      let le : n ≤ length s.at.rest = ltb-false _ _ few in
      so_many_taken (number f n) n s (big_number n s.at.rest) (big_bytes n (big_number n s.at.rest)) y s' le (reads_back n s.at.rest fits le) (big_from-lt 0 n s.at.rest fits, refl, refl) h

  bytes_taken : (y : List ℕ) (s' : Standing W) (b : Bool) → ltb (length s.at.rest) n ≡ b → or_short f n s (take n s.at.rest) b ≡ Ok (y, s') → HasTaken (bytes f n) s y s'
  bytes_taken y s' true few h = absurd cc
  bytes_taken y s' false few h =
      let le : n ≤ length s.at.rest = ltb-false _ _ few in
      so_many_taken (bytes f n) n s (take n s.at.rest) (take n s.at.rest) y s' le refl (omega (arith, length-take n s.at.rest, le), refl, refl) h

  cut : {A : Type 0} (x : A) (g : F) (b : Bool) → ltb (length s.at.rest) n ≡ b → or_short f n s x b ≡ Err g → (length s.at.rest < n) × (g ≡ f s.at.place n)
  cut x g true few h = (ltb-true _ _ few, cc)
  cut x g false few h = absurd cc

-- a text was taken
text_taken : {W F : Type 0} (f : ℕ → ℕ → F) (s : Standing W) (y : List ℕ) (s' : Standing W) (r : Result (List ℕ × At) Short) → text_at s.at ≡ r → AreBytes s.at.rest → of_bytes f s r ≡ Ok (y, s') → HasTaken (text f) s y s'
text_taken f s y s' (Err e) is fits h = absurd cc
text_taken {W = W} {F = F} f s y s' (Ok x) is fits h =
    let found = text_found s.at x.0 x.1 fits is in
    let made : HasTaken (text f) s x.0 (record s { at = x.1 }) = record { front = found.bytes; parts = found.took.parts; place = found.took.place; spelled = (found.spelled, refl) } in
    subst (λ (q : List ℕ × Standing W). HasTaken (text f) s q.0 q.1) (ok_is {E = F} (x.0, record s { at = x.1 }) (y, s') h) made

text_short : {W F : Type 0} (f : ℕ → ℕ → F) (s : Standing W) (g : F) (r : Result (List ℕ × At) Short) → text_at s.at ≡ r → AreBytes s.at.rest → of_bytes f s r ≡ Err g → Breaks (text f) s.at.place s.words s.at.rest g
text_short f s g (Ok x) is fits h = absurd cc
text_short f s g (Err e) is fits h =
    let c = text_told s.at e fits is in
    let same : f e.place e.wanted ≡ f s.at.place c.wanted = ap (λ (x : Short). f x.place x.wanted) c.fault in
    let told : g ≡ f e.place e.wanted = cc in
    (c.wanted, c.cut, told ∙ same)

-- the data go as far, or not
abbrev pub reach_or : {W F : Type 0} → F → Standing W → Bool → Reading W F (Unit {0})
reach_or f s past = cond past (Err f) (Ok (tt, s))

reached : {W F : Type 0} (e : ℕ) (f : F) (s : Standing W) (y : Unit {0}) (s' : Standing W) (b : Bool) → ltb (end_place s.at) e ≡ b → reach_or f s b ≡ Ok (y, s') → HasTaken (reaches e f) s y s'
reached e f s y s' true past h = absurd cc
reached e f s y s' false past h = nothing_taken (reaches e f) s tt s.words y s' (ltb-false _ _ past, refl, refl) h

beyond : {W F : Type 0} (e : ℕ) (f : F) (s : Standing W) (g : F) (b : Bool) → ltb (end_place s.at) e ≡ b → reach_or f s b ≡ Err g → (end_place s.at < e) × (g ≡ f)
beyond e f s g true far h = (ltb-true _ _ far, cc)
beyond e f s g false far h = absurd cc

-- one behind the other
pub both_spelled : {W F A B : Type 0} (l : Layout W F B) (k : B → Layout W F A) (s : Standing W) (x : B) (u : Standing W) (y : A) (s' : Standing W) → HasTaken l s x u → HasTaken (k x) u y s' → HasTaken (behind l k) s y s'
both_spelled l k s x u y s' a c =
    let len = length-append a.front c.front in
    let same : end_place u.at ≡ end_place s.at = omega (arith, ap length a.parts, length-append a.front u.at.rest, a.place) in
    let second = subst (λ (q : ℕ). Spells (k x) q u.at.place u.words y c.front s'.words) same c.spelled in
    record {
      front = a.front ++ c.front;
      parts = a.parts ∙ ap (λ (d : List ℕ). a.front ++ d) c.parts ∙ sym (append_assoc a.front c.front s'.at.rest);
      place = omega (arith, a.place, c.place, len);
      spelled = (x, a.front, c.front, u.words, refl, a.spelled, subst (λ (q : ℕ). Spells (k x) (end_place s.at) q u.words y c.front s'.words) a.place second);
    }

-- What is read is spelled by the bytes before the place where reading stands.
pub read_is_spelled : {W F A : Type 0} (l : Layout W F A) (s : Standing W) (y : A) (s' : Standing W) → AreBytes s.at.rest → read l s ≡ Ok (y, s') → HasTaken l s y s'
read_is_spelled {F = F} (done a) s y s' fits h = nothing_taken {F = F} (done a) s a s.words y s' (refl, refl, refl) h
read_is_spelled (broken f) s y s' fits h = absurd cc
read_is_spelled (number f n) s y s' fits h = number_taken f n s y s' (ltb (length s.at.rest) n) refl fits h
read_is_spelled (bytes f n) s y s' fits h = bytes_taken f n s y s' (ltb (length s.at.rest) n) refl h
read_is_spelled (text f) s y s' fits h = text_taken f s y s' (text_at s.at) refl fits h
read_is_spelled (name f) s y s' fits h =
    let found = name_found f s y s' h in
    record { front = y ++ 0 ∷ []; parts = found.parts; place = found.place; spelled = (found.plain, refl, found.same) }
read_is_spelled {F = F} here s y s' fits h = nothing_taken {F = F} here s s.at.place s.words y s' (refl, refl, refl) h
read_is_spelled (reaches e f) s y s' fits h = reached e f s y s' (ltb (end_place s.at) e) refl h
read_is_spelled {F = F} met s y s' fits h = nothing_taken {F = F} met s s.words s.words y s' (refl, refl, refl) h
read_is_spelled {F = F} (note u) s y s' fits h = nothing_taken {F = F} (note u) s tt u y s' (refl, refl) h
read_is_spelled (choice true l m) s y s' fits h = let c = read_is_spelled l s y s' fits h in record { front = c.front; parts = c.parts; place = c.place; spelled = c.spelled }
read_is_spelled (choice false l m) s y s' fits h = let c = read_is_spelled m s y s' fits h in record { front = c.front; parts = c.parts; place = c.place; spelled = c.spelled }
read_is_spelled (behind l k) s y s' fits h =
    let w = bind_ok (read l s) (λ x. read (k x.0) x.1) (y, s') h in
    let x = w.0.0 in
    let u = w.0.1 in
    let a = read_is_spelled l s x u fits w.1 in
    both_spelled l k s x u y s' a (read_is_spelled (k x) u y s' (bytes_behind s.at.rest a.front u.at.rest a.parts fits) w.2)

bind_err : {A B E : Type 0} (r : Result A E) (f : A → Result B E) (g : E) → (r >>= f) ≡ Err g → (r ≡ Err g) ⊎ ((x : A) × (r ≡ Ok x) × (f x ≡ Err g))
bind_err (Ok x) f g e = inr (x, refl, e)
bind_err (Err d) f g e = inl cc

-- Where reading gives a fault, the bytes break with it.
pub fault_is_broken : {W F A : Type 0} (l : Layout W F A) (s : Standing W) (g : F) → AreBytes s.at.rest → read l s ≡ Err g → Breaks l s.at.place s.words s.at.rest g
fault_is_broken (done a) s g fits h = absurd cc
fault_is_broken (broken f) s g fits h = cc
fault_is_broken (number f n) s g fits h = cut f n s (big_number n s.at.rest) g (ltb (length s.at.rest) n) refl h
fault_is_broken (bytes f n) s g fits h = cut f n s (take n s.at.rest) g (ltb (length s.at.rest) n) refl h
fault_is_broken (text f) s g fits h = text_short f s g (text_at s.at) refl fits h
fault_is_broken (name f) s g fits h = name_told f s g h
fault_is_broken here s g fits h = absurd cc
fault_is_broken (reaches e f) s g fits h = beyond e f s g (ltb (end_place s.at) e) refl h
fault_is_broken met s g fits h = absurd cc
fault_is_broken (note u) s g fits h = absurd cc
fault_is_broken (choice true l m) s g fits h = fault_is_broken l s g fits h
fault_is_broken (choice false l m) s g fits h = fault_is_broken m s g fits h
fault_is_broken (behind l k) s g fits h =
    elim (bind_err (read l s) (λ x. read (k x.0) x.1) g h) [
      | inl c ↦ inl (fault_is_broken l s g fits c)
      | inr c ↦
          let x = c.0.0 in
          let u = c.0.1 in
          let a = read_is_spelled l s x u fits c.1 in
          let b = fault_is_broken (k x) u g (bytes_behind s.at.rest a.front u.at.rest a.parts fits) c.2 in
          inr (x, a.front, u.at.rest, u.words, a.parts, a.spelled, subst (λ (q : ℕ). Breaks (k x) q u.words u.at.rest g) a.place b)
    ]

pub agrees : {W F A : Type 0} (l : Layout W F A) → Agrees l
agrees l = record { spelled_is_read = spelled_is_read l; broken_is_fault = broken_is_fault l; read_is_spelled = read_is_spelled l; fault_is_broken = fault_is_broken l }

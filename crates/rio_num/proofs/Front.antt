-- What is read depends on the bytes that it takes, and not on those behind.
use Rattle.std.proofs.Common.{◌≡◌, ℕ, ◌+◌, ◌<◌, ◌≤◌, Bool, true, false, cond, ltb, eqb, List, [], ◌∷◌, ◌++◌, length, take, drop, Result, Ok, Err, refl, sym, ap, subst, ◌∙◌, append_assoc, arith}
use Rattle.std.proofs.lemmas.Bool.{ltb-false, ltb-true, le-ltb}
use Rattle.std.proofs.{lemmas.List.{length-append, length-take, length-drop, take-append-drop, drop_at, take-append-le, drop-append-le}, Math.Seq.{take-add}}
use Rattle.byteorder.specs.{Endian.{big_number}, Numbers.{big_from-append, big_from-take}}
use Rattle.rio_num.specs.{At.{At}, Reading.{◌>>=◌, number_at, text_at, text_head, skip, short}, declared.cursor.Short.{Short}}
use Rattle.rio_num.proofs.{Plain.{standing}, ReadLaws.{ok_is}}

-- what was taken from the front is taken again, whatever follows
pub record TakesFront {X E : Type 0} (read : At → Result (X × At) E) (s : At) (x : X) (s' : At) : Type 0 where
  pub front : List ℕ
  pub parts : s.rest ≡ front ++ s'.rest
  pub place : s'.place ≡ s.place + length front
  pub again : (more : List ℕ) → read (standing s.place (front ++ more)) ≡ Ok (x, standing (s.place + length front) more)

abbrev number_taken : ℕ → At → ℕ × At
number_taken n s = (big_number n s.rest, skip n s)

abbrev text_taken : ℕ × ℕ → At → List ℕ × At
text_taken h s = (take h.1 (drop h.0 s.rest), skip (h.0 + h.1) s)

pub number_front : (n : ℕ) (s : At) (x : ℕ) (s' : At) → number_at n s ≡ Ok (x, s') → TakesFront (number_at n) s x s'
number_front n s x s' e = by (ltb (length s.rest) n) refl e
  where
    by : (b : Bool) → ltb (length s.rest) n ≡ b → cond b (Err (short s.place n)) (Ok (number_taken n s)) ≡ Ok (x, s') → TakesFront (number_at n) s x s'
    by true t e = absurd cc
    by false t e =
        let long : n ≤ length s.rest = ltb-false _ _ t in
        let own : length (take n s.rest) ≡ n = omega (arith, length-take n s.rest) in
        let made : TakesFront (number_at n) s (big_number n s.rest) (skip n s) = record {
          front = take n s.rest;
          parts = sym (take-append-drop n s.rest);
          place = ap (λ (k : ℕ). s.place + k) (sym own);
          again = λ more.
              let enough : ltb (length (take n s.rest ++ more)) n ≡ false = le-ltb _ _ (omega (arith, own, length-append (take n s.rest) more)) in
              let same : big_number n (take n s.rest ++ more) ≡ big_number n s.rest = big_from-append n (take n s.rest) more (omega (arith, own)) ∙ big_from-take 0 n n s.rest (omega arith) in
              rw (enough, same, drop_at (take n s.rest) more n own, own) refl;
        } in
        subst (λ (y : ℕ × At). TakesFront (number_at n) s y.0 y.1) (ok_is {E = Short} (number_taken n s) (x, s') e) made

-- the bytes before a text's own are among those that the text takes
HeadStays : List ℕ → ℕ × ℕ → Type 0
HeadStays rest h = h.0 + h.1 ≤ length rest → (more : List ℕ) → text_head (take (h.0 + h.1) rest ++ more) ≡ h

short_stays : (b : ℕ) (bs : List ℕ) → eqb b 255 ≡ false → HeadStays (b ∷ bs) (1, b)
unfolding HeadStays
short_stays b bs t le more =
    let first : take (1 + b) (b ∷ bs) ≡ b ∷ take b bs = take-add 1 b (b ∷ bs) in
    rw (first, t) refl

long_stays : (b : ℕ) (bs : List ℕ) → eqb b 255 ≡ true → HeadStays (b ∷ bs) (5, big_number 4 bs)
unfolding HeadStays
long_stays b bs t le more =
    let n = big_number 4 bs in
    let first : take (5 + n) (b ∷ bs) ≡ b ∷ take (4 + n) bs = ap (λ (k : ℕ). take k (b ∷ bs)) (omega arith) ∙ take-add 1 (4 + n) (b ∷ bs) in
    let whole : 4 ≤ length bs = omega arith in
    let enough : ltb (length (take (4 + n) bs ++ more)) 4 ≡ false = le-ltb _ _ (omega (arith, length-append (take (4 + n) bs) more, length-take (4 + n) bs)) in
    let same : big_number 4 (take (4 + n) bs ++ more) ≡ n = big_from-append 4 (take (4 + n) bs) more (omega (arith, length-take (4 + n) bs)) ∙ big_from-take 0 4 (4 + n) bs (omega arith) in
    rw (first, t, enough, same) refl

long_by : (b : ℕ) (bs : List ℕ) (few : Bool) → eqb b 255 ≡ true → ltb (length bs) 4 ≡ few → HeadStays (b ∷ bs) (5, cond few 0 (big_number 4 bs))
unfolding HeadStays
long_by b bs true t u le more = let few : length bs < 4 = ltb-true _ _ u in absurd (omega arith)
long_by b bs false t u le more = unfold HeadStays in long_stays b bs t le more

head_by : (b : ℕ) (bs : List ℕ) (t : Bool) → eqb b 255 ≡ t → HeadStays (b ∷ bs) (cond t (5, cond (ltb (length bs) 4) 0 (big_number 4 bs)) (1, b))
head_by b bs true t = long_by b bs (ltb (length bs) 4) t refl
head_by b bs false t = short_stays b bs t

head_stays : (rest : List ℕ) → HeadStays rest (text_head rest)
unfolding HeadStays
head_stays [] le more = absurd (omega arith)
head_stays (b ∷ bs) le more = unfold HeadStays in head_by b bs (eqb b 255) refl le more

-- a text whose lengths are known
abbrev read_text : ℕ × ℕ → At → Result (List ℕ × At) Short
read_text h s = cond (ltb (length s.rest) (h.0 + h.1)) (Err (short s.place (h.0 + h.1))) (Ok (text_taken h s))

headed : (s : At) (h : ℕ × ℕ) → text_head s.rest ≡ h → text_at s ≡ read_text h s
unfolding text_at
headed s h e = ap (λ (k : ℕ × ℕ). read_text k s) e

-- what stands within a front of some bytes
inner : (a b : ℕ) (rest front more : List ℕ) → front ≡ take (a + b) rest → a + b ≤ length rest → take b (drop a (front ++ more)) ≡ take b (drop a rest)
inner a b rest front more is le =
    let whole : rest ≡ front ++ drop (a + b) rest = sym (take-append-drop (a + b) rest) ∙ ap (λ (x : List ℕ). x ++ drop (a + b) rest) (sym is) in
    let long : length front ≡ a + b = ap length is ∙ omega (arith, length-take (a + b) rest) in
    let one : (x : List ℕ) → take b (drop a (front ++ x)) ≡ take b (drop a front) = λ x. ap (take b) (drop-append-le a front x (omega arith)) ∙ take-append-le b (drop a front) x (omega (arith, length-drop a front)) in
    one more ∙ sym (one (drop (a + b) rest)) ∙ ap (λ (x : List ℕ). take b (drop a x)) (sym whole)

text_in_front : (s : At) (h : ℕ × ℕ) (n : ℕ) (more : List ℕ) → n ≡ h.0 + h.1 → n ≤ length s.rest → length (take n s.rest) ≡ n → text_head (take n s.rest ++ more) ≡ h
    → text_at (standing s.place (take n s.rest ++ more)) ≡ Ok (take h.1 (drop h.0 s.rest), standing (s.place + length (take n s.rest)) more)
text_in_front s h n more is long own head =
    let front = take n s.rest in
    let enough : ltb (length (front ++ more)) (h.0 + h.1) ≡ false = le-ltb _ _ (omega (arith, own, length-append front more)) in
    let behind : drop (h.0 + h.1) (front ++ more) ≡ more = drop_at front more (h.0 + h.1) (omega (arith, own)) in
    let text : take h.1 (drop h.0 (front ++ more)) ≡ take h.1 (drop h.0 s.rest) = inner h.0 h.1 s.rest front more (ap (λ (k : ℕ). take k s.rest) is) (omega arith) in
    let end : s.place + (h.0 + h.1) ≡ s.place + length front = omega (arith, own) in
    headed (standing s.place (front ++ more)) h head ∙ rw (enough, behind, text, end) refl

pub text_front : (s : At) (x : List ℕ) (s' : At) → text_at s ≡ Ok (x, s') → TakesFront text_at s x s'
text_front s x s' e = by (text_head s.rest) (ltb (length s.rest) ((text_head s.rest).0 + (text_head s.rest).1)) refl refl (sym (headed s (text_head s.rest) refl) ∙ e)
  where
    by : (h : ℕ × ℕ) (b : Bool) → text_head s.rest ≡ h → ltb (length s.rest) (h.0 + h.1) ≡ b → cond b (Err (short s.place (h.0 + h.1))) (Ok (text_taken h s)) ≡ Ok (x, s') → TakesFront text_at s x s'
    by h true is t e = absurd cc
    by h false is t e =
        let n = h.0 + h.1 in
        let long : n ≤ length s.rest = ltb-false _ _ t in
        let own : length (take n s.rest) ≡ n = omega (arith, length-take n s.rest) in
        let stays : (more : List ℕ) → text_head (take n s.rest ++ more) ≡ h = subst (λ (k : ℕ × ℕ). k.0 + k.1 ≤ length s.rest → (more : List ℕ) → text_head (take (k.0 + k.1) s.rest ++ more) ≡ k) is (unfold HeadStays in head_stays s.rest) long in
        let made : TakesFront text_at s (take h.1 (drop h.0 s.rest)) (skip n s) = record {
          front = take n s.rest;
          parts = sym (take-append-drop n s.rest);
          place = ap (λ (k : ℕ). s.place + k) (sym own);
          again = λ more. text_in_front s h n more refl long own (stays more);
        } in
        subst (λ (y : List ℕ × At). TakesFront text_at s y.0 y.1) (ok_is {E = Short} (text_taken h s) (x, s') e) made

-- one reading behind the other
pub then_front : {A B E : Type 0} (read : At → Result (A × At) E) (next : A × At → Result (B × At) E) (s : At) (x : A) (t : At) (y : B) (u : At) → TakesFront read s x t → TakesFront (λ w. next (x, w)) t y u → TakesFront (λ w. read w >>= next) s y u
then_front {A = A} {E = E} read next s x t y u a b = record {
  front = a.front ++ b.front;
  parts = a.parts ∙ ap (λ (z : List ℕ). a.front ++ z) b.parts ∙ sym (append_assoc a.front b.front u.rest);
  place = omega (arith, a.place, b.place, length-append a.front b.front);
  again = λ more.
      let first : read (standing s.place ((a.front ++ b.front) ++ more)) ≡ Ok (x, standing (s.place + length a.front) (b.front ++ more)) = ap (λ (z : List ℕ). read (standing s.place z)) (append_assoc a.front b.front more) ∙ a.again (b.front ++ more) in
      let second : next (x, standing (s.place + length a.front) (b.front ++ more)) ≡ Ok (y, standing (t.place + length b.front) more) = ap (λ (p : ℕ). next (x, standing p (b.front ++ more))) (sym a.place) ∙ b.again more in
      let end : t.place + length b.front ≡ s.place + length (a.front ++ b.front) = omega (arith, a.place, length-append a.front b.front) in
      ap (λ (z : Result (A × At) E). z >>= next) first ∙ second ∙ ap (λ (p : ℕ). let r : Result _ E = Ok (y, standing p more) in r) end;
}

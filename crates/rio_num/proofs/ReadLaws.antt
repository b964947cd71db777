-- What reading takes from the front, and that it takes again what is spelled.
use Rattle.std.proofs.Common.{◌≡◌, ◌≢◌, ◌⊎◌, inl, inr, ℕ, suc, ◌+◌, ◌-◌, ◌^◌, ◌<◌, ◌≤◌, Bool, true, false, cond, ltb, eqb, List, [], ◌∷◌, ◌++◌, length, take, drop, get_or, Result, Ok, Err, Some, refl, sym, ap, subst, ◌∙◌, append_assoc, arith}
use Rattle.std.proofs.lemmas.Bool.{ltb-false, ltb-true, le-ltb, eqb-true, eqb-false, ne_eqb, cases_lt}
use Rattle.std.proofs.lemmas.List.{length-append, length-take, length-drop, take-append-drop, take_at, drop_at, get_or-drop, get_or-take, get_or_past}
use Rattle.std.proofs.Math.Seq.{take-add}
use Rattle.byteorder.specs.{Endian.{big_bytes, big_number}, Numbers.{big_from-lt, big_number-reads_back}}
use Rattle.rio_num.specs.{At.{At, standing_at}, Reading.{◌>>=◌, skip, short, some_if, text_at, text_head}, Text.{SpellsText, long_form, short_form, text_bytes}}
use Rattle.rio_num.specs.declared.cursor.Short.{Short}
use Rattle.rio_num.proofs.LayoutBytes.{reads_back}

-- ---- one reading after the other

pub bind_is : {A B E : Type 0} (r : Result A E) (x : A) (f : A → Result B E) → r ≡ Ok x → (r >>= f) ≡ f x
bind_is r x f e = ap (λ (y : Result _ _). y >>= f) e

pub bind_ok : {A B E : Type 0} (r : Result A E) (f : A → Result B E) (y : B) → (r >>= f) ≡ Ok y → (x : A) × (r ≡ Ok x) × (f x ≡ Ok y)
bind_ok (Ok x) f y e = (x, refl, e)
bind_ok (Err d) f y e = absurd cc

-- a test that did not fail
pub guard_ok : {A E : Type 0} (b : Bool) (d : E) (x y : A) → cond b (Err d) (Ok x) ≡ Ok y → (b ≡ false) × (x ≡ y)
guard_ok true d x y e = absurd cc
guard_ok false d x y e = (refl, cc)

pub if_is : {A : Type 0} (b : Bool) (x w : A) → some_if b x ≡ Some w → (b ≡ true) × (x ≡ w)
if_is true x w h = (refl, cc)
if_is false x w h = absurd cc

pub chosen : {A : Type 0} (b : Bool) (x y z : A) → cond b x y ≡ z → ((b ≡ true) × (x ≡ z)) ⊎ ((b ≡ false) × (y ≡ z))
chosen true x y z e = inl (refl, e)
chosen false x y z e = inr (refl, e)

abbrev done : {A E : Type 0} → A → Result A E
done x = Ok x

pub ok_is : {A E : Type 0} (x y : A) → done {E = E} x ≡ done y → x ≡ y
ok_is x y e = cc

-- ---- bytes

abbrev pub IsBytes : List ℕ → Type 0
IsBytes bytes = (i : ℕ) → get_or bytes i 0 < 256

pub IsBytes-drop : (n : ℕ) (bytes : List ℕ) → IsBytes bytes → IsBytes (drop n bytes)
IsBytes-drop n bytes h i = rw get_or-drop (h (n + i))

pub IsBytes-take : (n : ℕ) (bytes : List ℕ) → IsBytes bytes → IsBytes (take n bytes)
IsBytes-take n bytes h i =
    elim (cases_lt i n) [
      | inl lt ↦ rw (get_or-take n bytes i 0 lt) (h i)
      | inr le ↦ rw (get_or_past (take n bytes) i 0 (omega (arith, length-take n bytes))) (omega arith)
    ]

IsBytes-cond : (b : Bool) (bytes : List ℕ) → IsBytes bytes → IsBytes (cond b [] bytes)
IsBytes-cond true bytes h i = omega arith
IsBytes-cond false bytes h i = h i

pub IsBytes-standing : (base place : ℕ) (bytes : List ℕ) → IsBytes bytes → IsBytes (standing_at base place bytes).rest
IsBytes-standing base place bytes h = IsBytes-cond (ltb place base) (drop (place - base) bytes) (IsBytes-drop (place - base) bytes h)

-- what a reader took from the front
pub record Took (s : At) (bytes : List ℕ) (s' : At) : Type 0 where
  pub parts : s.rest ≡ bytes ++ s'.rest
  pub place : s'.place ≡ s.place + length bytes
  pub fits : IsBytes s'.rest

-- ---- texts

-- reading a text whose lengths are known
headed : (s : At) (h : ℕ × ℕ) → text_head s.rest ≡ h → text_at s ≡ cond (ltb (length s.rest) (h.0 + h.1)) (Err (short s.place (h.0 + h.1))) (Ok (take h.1 (drop h.0 s.rest), skip (h.0 + h.1) s))
unfolding text_at
headed s h e = ap (λ (k : ℕ × ℕ). let r : Result (List ℕ × At) Short = cond (ltb (length s.rest) (k.0 + k.1)) (Err (short s.place (k.0 + k.1))) (Ok (take k.1 (drop k.0 s.rest), skip (k.0 + k.1) s)) in r) e

pub long_head : (n : ℕ) (rest : List ℕ) → n < 2 ^ 32 → text_head (255 ∷ (big_bytes 4 n ++ rest)) ≡ (5, n)
long_head n rest lt =
    let few : ltb (length (big_bytes 4 n ++ rest)) 4 ≡ false = le-ltb _ _ (omega arith) in
    rw few (ap (λ (k : ℕ). let h : ℕ × ℕ = (5, k) in h) (big_number-reads_back 4 n rest lt))

pub text_written : (text : List ℕ) → length text < 2 ^ 32 → SpellsText text (text_bytes text)
text_written text lt = by (ltb (length text) 255) refl
  where
    by : (b : Bool) → ltb (length text) 255 ≡ b → SpellsText text (cond b (short_form text) (long_form text))
    by true e = inl (ltb-true _ _ e, refl)
    by false e = inr (lt, refl)

pub text_again : (text bytes : List ℕ) (p : ℕ) (rest : List ℕ) → SpellsText text bytes → text_at (record { place = p; rest = bytes ++ rest }) ≡ Ok (text, record { place = p + length bytes; rest = rest })
unfolding text_at
text_again text bytes p rest (inl spelled) =
    let whole : bytes ++ rest ≡ length text ∷ (text ++ rest) = ap (λ (b : List ℕ). b ++ rest) spelled.1 in
    let below : eqb (length text) 255 ≡ false = ne_eqb _ _ (omega (arith, spelled.0)) in
    let long : ltb (length (length text ∷ (text ++ rest))) (1 + length text) ≡ false = le-ltb _ _ (omega (arith, length-append text rest)) in
    let own : take (length text) (text ++ rest) ≡ text = take_at text rest (length text) refl in
    let behind : drop (1 + length text) (length text ∷ (text ++ rest)) ≡ rest = drop_at (short_form text) rest (1 + length text) (omega arith) in
    let end : p + (1 + length text) ≡ p + length bytes = omega (arith, ap length spelled.1) in
    rw (whole, below, long, own, behind, end) refl
text_again text bytes p rest (inr spelled) =
    let n = length text in
    let whole : bytes ++ rest ≡ 255 ∷ (big_bytes 4 n ++ (text ++ rest)) = ap (λ (b : List ℕ). b ++ rest) spelled.1 ∙ ap (λ (b : List ℕ). 255 ∷ b) (append_assoc (big_bytes 4 n) text rest) in
    let head : text_head (255 ∷ (big_bytes 4 n ++ (text ++ rest))) ≡ (5, n) = long_head n (text ++ rest) spelled.0 in
    let long : ltb (length (255 ∷ (big_bytes 4 n ++ (text ++ rest)))) (5 + n) ≡ false = le-ltb _ _ (omega (arith, length-append text rest)) in
    let own : take n (text ++ rest) ≡ text = take_at text rest n refl in
    let behind : drop (5 + n) (255 ∷ (big_bytes 4 n ++ (text ++ rest))) ≡ rest =
    ap (λ (b : List ℕ). drop (5 + n) (255 ∷ b)) (sym (append_assoc (big_bytes 4 n) text rest)) ∙ drop_at (long_form text) rest (5 + n) (omega arith) in
    let end : p + (5 + n) ≡ p + length bytes = omega (arith, ap length spelled.1) in
    ap (λ (b : List ℕ). text_at (record { place = p; rest = b })) whole
    ∙ headed (record { place = p; rest = 255 ∷ (big_bytes 4 n ++ (text ++ rest)) }) (5, n) head
    ∙ rw (long, own, behind, end) refl

pub record IsTextAt (text : List ℕ) (s s' : At) : Type 0 where
  pub bytes : List ℕ
  pub spelled : SpellsText text bytes
  pub took : Took s bytes s'

record TextIs (s : At) (before own : ℕ) (text : List ℕ) (s' : At) : Type 0 where
  whole : before + own ≤ length s.rest
  text-is : take own (drop before s.rest) ≡ text
  end-is : skip (before + own) s ≡ s'

abbrev taken : At → ℕ → ℕ → List ℕ × At
taken s before own = (take own (drop before s.rest), skip (before + own) s)

text_is : (s : At) (before own : ℕ) (text : List ℕ) (s' : At) (b : Bool) (d : Short) → ltb (length s.rest) (before + own) ≡ b → cond b (Err d) (Ok (taken s before own)) ≡ Ok (text, s') → TextIs s before own text s'
text_is s before own text s' true d t e = absurd cc
text_is s before own text s' false d t e =
    let same = ok_is {E = Short} (taken s before own) (text, s') e in
    record { whole = ltb-false _ _ t; text-is = ap (λ (q : List ℕ × At). q.0) same; end-is = ap (λ (q : List ℕ × At). q.1) same }

text_took : (s : At) (n : ℕ) → n ≤ length s.rest → IsBytes s.rest → Took s (take n s.rest) (skip n s)
text_took s n le fits = record {
  parts = sym (take-append-drop n s.rest);
  place = omega (arith, length-take n s.rest);
  fits = IsBytes-drop n s.rest fits;
}

short_spelled : (b : ℕ) (bs : List ℕ) → b < 255 → 1 + b ≤ length (b ∷ bs) → SpellsText (take b bs) (take (1 + b) (b ∷ bs))
short_spelled b bs lt le =
    let own : length (take b bs) ≡ b = omega (arith, length-take b bs) in
    let whole : take (1 + b) (b ∷ bs) ≡ length (take b bs) ∷ take b bs = take-add 1 b (b ∷ bs) ∙ ap (λ (k : ℕ). k ∷ take b bs) (sym own) in
    inl (omega (arith, own), whole)

long_spelled : (n : ℕ) (bs : List ℕ) → IsBytes bs → n ≡ big_number 4 bs → 5 + n ≤ length (255 ∷ bs) → SpellsText (take n (drop 4 bs)) (take (5 + n) (255 ∷ bs))
long_spelled n bs fits is le =
    let own : length (take n (drop 4 bs)) ≡ n = omega (arith, length-take n (drop 4 bs), length-drop 4 bs) in
    let word : take 4 bs ≡ big_bytes 4 (length (take n (drop 4 bs))) = sym (reads_back 4 bs fits (omega arith)) ∙ ap (big_bytes 4) (sym is ∙ sym own) in
    let five : take (5 + n) (255 ∷ bs) ≡ 255 ∷ (take 4 bs ++ take n (drop 4 bs)) = take-add 5 n (255 ∷ bs) in
    let small : n < 256 ^ 4 = subst (λ (k : ℕ). k < 256 ^ 4) (sym is) (big_from-lt 0 4 bs fits) in
    inr (omega (arith, own, small), five ∙ ap (λ (w : List ℕ). 255 ∷ (w ++ take n (drop 4 bs))) word)

-- the text's own bytes and those before them
abbrev SpelledBy : List ℕ → ℕ × ℕ → Type 0
SpelledBy bytes h = h.0 + h.1 ≤ length bytes → SpellsText (take h.1 (drop h.0 bytes)) (take (h.0 + h.1) bytes)

long_by : (b : ℕ) (bs : List ℕ) (t : Bool) → IsBytes bs → b ≡ 255 → ltb (length bs) 4 ≡ t → SpelledBy (b ∷ bs) (5, cond t 0 (big_number 4 bs))
long_by b bs true fits is t le = let few : length bs < 4 = ltb-true _ _ t in absurd (omega arith)
long_by b bs false fits is t le = subst (λ (k : ℕ). SpellsText (take (big_number 4 bs) (drop 4 bs)) (take (5 + big_number 4 bs) (k ∷ bs))) (sym is) (long_spelled (big_number 4 bs) bs fits refl le)

text_spelled_by : (b : ℕ) (bs : List ℕ) (t : Bool) → IsBytes (b ∷ bs) → eqb b 255 ≡ t → SpelledBy (b ∷ bs) (cond t (5, cond (ltb (length bs) 4) 0 (big_number 4 bs)) (1, b))
text_spelled_by b bs true fits t le = long_by b bs (ltb (length bs) 4) (λ i. fits (suc i)) (eqb-true _ _ t) refl le
text_spelled_by b bs false fits t le = let small : b < 256 = fits 0 in let ne : b ≢ 255 = eqb-false _ _ t in short_spelled b bs (omega arith) le

text_spelled : (bytes : List ℕ) → IsBytes bytes → SpelledBy bytes (text_head bytes)
text_spelled [] fits le = absurd (omega arith)
text_spelled (b ∷ bs) fits le = text_spelled_by b bs (eqb b 255) fits refl le

pub text_found : (s : At) (text : List ℕ) (s' : At) → IsBytes s.rest → text_at s ≡ Ok (text, s') → IsTextAt text s s'
unfolding text_at
text_found s text s' fits e =
    let h = text_head s.rest in
    let t = text_is s (text_head s.rest).0 (text_head s.rest).1 text s' _ _ refl e in
    let made : IsTextAt (take h.1 (drop h.0 s.rest)) s (skip (h.0 + h.1) s) = record {
      bytes = take (h.0 + h.1) s.rest;
      spelled = text_spelled s.rest fits t.whole;
      took = text_took s (h.0 + h.1) t.whole fits;
    } in
    subst (λ (y : List ℕ × At). IsTextAt y.0 s y.1) (λ i. (t.text-is i, t.end-is i)) made

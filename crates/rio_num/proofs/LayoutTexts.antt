-- Texts of which too few bytes are left: where they are cut, reading tells how many are wanted, and back.
use Rattle.std.proofs.Common.{◌≡◌, ◌≢◌, inl, inr, ℕ, suc, ◌+◌, ◌<◌, ◌≤◌, Bool, true, false, cond, ltb, eqb, List, [], ◌∷◌, ◌++◌, length, take, drop, Result, Ok, Err, refl, sym, ap, ◌∙◌, arith}
use Rattle.std.proofs.{lemmas.Bool.{lt-ltb, ltb-false, ltb-true, eqb-true, eqb-false, ne_eqb}, lemmas.List.{length-drop, take-append-drop}}
use Rattle.byteorder.specs.{Endian.{big_bytes, big_number}, Numbers.{big_from-lt}}
use Rattle.rio_num.specs.{At.{At}, Reading.{skip, short, text_at, text_head}, declared.cursor.Short.{Short}, Meanings.{IsCutText}}
use Rattle.rio_num.proofs.{LayoutBytes.{reads_back}, ReadLaws.{IsBytes, long_head}}

-- ---- cut bytes are short

text_cut : (p : ℕ) (bytes : List ℕ) (wanted : ℕ) (h : ℕ × ℕ) → text_head bytes ≡ h → h.0 + h.1 ≡ wanted → length bytes < wanted → text_at (record { place = p; rest = bytes }) ≡ Err (short p wanted)
unfolding text_at
text_cut p bytes wanted h head same lt =
    let few : ltb (length bytes) (h.0 + h.1) ≡ true = lt-ltb _ _ (omega (arith, same, lt)) in
    rw (head, few, same) refl

pub text_fault : (p : ℕ) (bytes : List ℕ) (n : ℕ) → IsCutText bytes n → text_at (record { place = p; rest = bytes }) ≡ Err (short p n)
text_fault p [] n c = rw c (text_cut p [] 1 (1, 0) refl refl (omega arith))
text_fault p (b ∷ bs) n (inl c) =
    let below : eqb b 255 ≡ false = ne_eqb _ _ (omega (arith, c.0)) in
    let head : text_head (b ∷ bs) ≡ (1, b) = rw below refl in
    rw c.2 (text_cut p (b ∷ bs) (1 + b) (1, b) head refl (omega (arith, c.1)))
text_fault p (b ∷ bs) n (inr (inl c)) =
    let few : ltb (length bs) 4 ≡ true = lt-ltb _ _ c.1 in
    let head : text_head (b ∷ bs) ≡ (5, 0) = rw (c.0, few) refl in
    rw c.2 (text_cut p (b ∷ bs) 5 (5, 0) head refl (omega (arith, c.1)))
text_fault p (b ∷ bs) n (inr (inr c)) =
    let whole : b ∷ bs ≡ 255 ∷ (big_bytes 4 c.1 ++ c.2) = ap (λ (x : ℕ). x ∷ bs) c.0 ∙ ap (λ (x : List ℕ). 255 ∷ x) c.4 in
    let long : length (255 ∷ (big_bytes 4 c.1 ++ c.2)) < 5 + c.1 = omega (arith, c.5) in
    rw (whole, c.6) (text_cut p (255 ∷ (big_bytes 4 c.1 ++ c.2)) (5 + c.1) (5, c.1) (long_head c.1 c.2 c.3) refl long)

-- ---- short bytes are cut

-- the text of which so many bytes stand before its own, and so many are its own, or too few bytes
abbrev text_or : At → ℕ → ℕ → Bool → Result (List ℕ × At) Short
text_or s before own few = cond few (Err (short s.place (before + own))) (Ok (take own (drop before s.rest), skip (before + own) s))

cut_short : (s : At) (before own : ℕ) (e : Short) (b : Bool) → ltb (length s.rest) (before + own) ≡ b → text_or s before own b ≡ Err e
    → (length s.rest < before + own) × (e ≡ short s.place (before + own))
cut_short s before own e true u h = (ltb-true _ _ u, cc)
cut_short s before own e false u h = absurd cc

-- this text is cut, and reading tells so
pub record IsTextCut (s : At) (e : Short) : Type 0 where
  pub wanted : ℕ
  pub cut : IsCutText s.rest wanted
  pub fault : e ≡ short s.place wanted

abbrev head_by : ℕ → List ℕ → Bool → Bool → ℕ × ℕ
head_by b bs u v = cond {A = ℕ × ℕ} u (5, cond v 0 (big_number 4 bs)) (1, b)

text_by : (p b : ℕ) (bs : List ℕ) (e : Short) (u v : Bool) → IsBytes (b ∷ bs) → eqb b 255 ≡ u → ltb (length bs) 4 ≡ v
    → (d : Bool) → ltb (length (b ∷ bs)) ((head_by b bs u v).0 + (head_by b bs u v).1) ≡ d
    → text_or (record { place = p; rest = b ∷ bs }) (head_by b bs u v).0 (head_by b bs u v).1 d ≡ Err e
    → IsTextCut (record { place = p; rest = b ∷ bs }) e
text_by p b bs e true true fits is few d t h =
    let c = cut_short (record { place = p; rest = b ∷ bs }) 5 0 e d t h in
    record { wanted = 5; cut = inr (inl (eqb-true _ _ is, ltb-true _ _ few, refl)); fault = c.1 }
text_by p b bs e true false fits is few d t h =
    let n = big_number 4 bs in
    let own : IsBytes bs = λ i. fits (suc i) in
    let le : 4 ≤ length bs = ltb-false _ _ few in
    let c = cut_short (record { place = p; rest = b ∷ bs }) 5 n e d t h in
    let long : length (b ∷ bs) < 5 + n = c.0 in
    let whole : bs ≡ big_bytes 4 n ++ drop 4 bs = sym (take-append-drop 4 bs) ∙ ap (λ (x : List ℕ). x ++ drop 4 bs) (sym (reads_back 4 bs own le)) in
    record {
      wanted = 5 + n;
      cut = inr (inr (eqb-true _ _ is, n, drop 4 bs, big_from-lt 0 4 bs own, whole, omega (arith, length-drop 4 bs, long), refl));
      fault = c.1;
    }
text_by p b bs e false v fits is few d t h =
    let c = cut_short (record { place = p; rest = b ∷ bs }) 1 b e d t h in
    let small : b < 256 = fits 0 in
    let ne : b ≢ 255 = eqb-false _ _ is in
    record { wanted = 1 + b; cut = inl (omega arith, omega (arith, c.0), refl); fault = c.1 }

text_told_by : (p : ℕ) (bytes : List ℕ) (e : Short) → IsBytes bytes → text_at (record { place = p; rest = bytes }) ≡ Err e → IsTextCut (record { place = p; rest = bytes }) e
unfolding text_at
text_told_by p [] e fits h = record { wanted = 1; cut = refl; fault = cc }
text_told_by p (b ∷ bs) e fits h = text_by p b bs e (eqb b 255) (ltb (length bs) 4) fits refl refl _ refl h

pub text_told : (s : At) (e : Short) → IsBytes s.rest → text_at s ≡ Err e → IsTextCut s e
text_told s e fits h = let c = text_told_by s.place s.rest e fits h in record { wanted = c.wanted; cut = c.cut; fault = c.fault }

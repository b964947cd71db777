-- The head of a basket: what is written spells it, and what spells it is written so.
use Rattle.std.proofs.Common.{◌≡◌, ℕ, ◌+◌, ◌^◌, ◌<◌, ◌≤◌, ℤ, List, ◌++◌, length, Result, Ok, Err, IfErr, IfOk, refl, sym, ap, subst, ◌∙◌, append_assoc, arith}
use Rattle.std.proofs.{lemmas.Int.{ints, of_z-to_z, to_z-of_z}, lemmas.List.{append-nil, length-append}}
use Rattle.std.specs.Int.{w32, cast_signed, cast_unsigned, RustNames.{FitsSigned}}
use Rattle.byteorder.specs.Endian.{big_bytes}
use Rattle.rio_num.specs.{At.{At, AreBytes, end_place}, declared.cursor.Short.{Short as Shortage}, Plain.{IsSpelledBy, plain, value_of}}
use Rattle.rio_num.proofs.{Intro.{IsSo, done_is, number_then, so_by}, Apart.{number_of}, Plain.{spelled_again, standing, value_broken, value_found}}
use Rattle.rio_key.specs.BasketHead.{AreInRange, BreaksBasketHead, basket_head_at, basket_head_bytes, basket_head_layout, basket_head_of, integer_bytes, sizes_bytes}
use Rattle.rio_key.specs.{declared.basket_head.BasketHead.{BasketHead}, Key.{key_head_at}, declared.head.KeyHead.{KeyHead}}
use Rattle.rio_key.proofs.KeyAgain.{key_found}

small : (z : ℤ) → FitsSigned w32 z → cast_unsigned w32 z < 2 ^ 32
small z fits = grind (arith, ints)

head_spelled : (h : BasketHead) → AreInRange h → IsSpelledBy basket_head_layout h (basket_head_bytes h)
unfolding basket_head_of sizes_bytes integer_bytes
head_spelled h c = λ p.
    let back : (z : ℤ) → FitsSigned w32 z → z ≡ cast_signed w32 (cast_unsigned w32 z) = λ z fits. sym (to_z-of_z w32 z fits) in
    let same : h ≡ record h { buffer_size = cast_signed w32 (cast_unsigned w32 h.buffer_size); nev_size = cast_signed w32 (cast_unsigned w32 h.nev_size); nev = cast_signed w32 (cast_unsigned w32 h.nev); last = cast_signed w32 (cast_unsigned w32 h.last) } =
    λ i. record h { buffer_size = back h.buffer_size c.buffer_size i; nev_size = back h.nev_size c.nev_size i; nev = back h.nev c.nev i; last = back h.last c.last i } in
    let all : IsSo basket_head_layout (p + length (basket_head_bytes h)) p tt h (basket_head_bytes h) tt =
    so_by
    (number_then h.version c.version
    (number_then (cast_unsigned w32 h.buffer_size) (small h.buffer_size c.buffer_size) (number_then (cast_unsigned w32 h.nev_size) (small h.nev_size c.nev_size)
    (number_then (cast_unsigned w32 h.nev) (small h.nev c.nev) (number_then (cast_unsigned w32 h.last) (small h.last c.last) (number_then h.flag c.flag done_is))))))
    same
    (simp (append_assoc, append-nil))
    refl in
    all.so

head_apart : (end p : ℕ) (h : BasketHead) (bytes : List ℕ) → IsSo basket_head_layout end p tt h bytes tt → bytes ≡ basket_head_bytes h
unfolding basket_head_of sizes_bytes integer_bytes
head_apart end p h bytes c =
    number_of c (λ version r1 f1 e1 c1.
    number_of c1 (λ buffer_size r2 f2 e2 c2.
    number_of c2 (λ nev_size r3 f3 e3 c3.
    number_of c3 (λ nev r4 f4 e4 c4.
    number_of c4 (λ last r5 f5 e5 c5.
    number_of c5 (λ flag r6 f6 e6 c6.
    let back : (n : ℕ) → n < 2 ^ 32 → cast_unsigned w32 (cast_signed w32 n) ≡ n = λ n lt. of_z-to_z w32 n lt in
    let made : bytes ≡ big_bytes 2 version ++ ((big_bytes 4 buffer_size ++ (big_bytes 4 nev_size ++ (big_bytes 4 nev ++ big_bytes 4 last))) ++ big_bytes 1 flag) = rw (e1, e2, e3, e4, e5, e6, c6.so.1) (simp (append_assoc, append-nil)) in
    let as_read : bytes ≡ basket_head_bytes (record { version = version; buffer_size = cast_signed w32 buffer_size; nev_size = cast_signed w32 nev_size; nev = cast_signed w32 nev; last = cast_signed w32 last; flag = flag }) =
    rw (back buffer_size f2, back nev_size f3, back nev f4, back last f5) made in
    subst (λ (k : BasketHead). bytes ≡ basket_head_bytes k) (sym c6.so.0) as_read))))))

pub basket_head_again : (h : BasketHead) (p : ℕ) (rest : List ℕ) → AreInRange h → basket_head_at (standing p (basket_head_bytes h ++ rest)) ≡ Ok (h, plain (standing (p + length (basket_head_bytes h)) rest))
basket_head_again h p rest c = spelled_again basket_head_layout h (basket_head_bytes h) p rest (head_spelled h c)

-- ---- what a reader returned

pub is_head_found : (s : At) (r : Result BasketHead Shortage) → r ≡ value_of (basket_head_at s) → AreBytes s.rest → IfOk r (λ h. (rest : List ℕ) × (s.rest ≡ basket_head_bytes h ++ rest))
is_head_found s (Ok h) e fits =
    let f = value_found basket_head_layout s h fits (sym e) in
    (f.rest, f.parts ∙ ap (λ (b : List ℕ). b ++ f.rest) (head_apart (end_place s) s.place h f.front f.spelled))
is_head_found s (Err d) e fits = tt

pub is_head_broken : (s : At) (r : Result BasketHead Shortage) → r ≡ value_of (basket_head_at s) → AreBytes s.rest → IfErr r (λ e. BreaksBasketHead s e)
unfolding BreaksBasketHead
is_head_broken s (Ok h) e fits = tt
is_head_broken s (Err d) e fits = value_broken basket_head_layout s d fits (sym e)

-- the head's place, behind a key, is within the bytes
pub place_within : (base : ℕ) (bytes : List ℕ) (h : KeyHead) (s' : At) → AreBytes bytes → key_head_at (standing base bytes) ≡ Ok (h, plain s') → s'.place ≤ base + length bytes
place_within base bytes h s' fits e =
    let key = key_found (standing base bytes) h s' fits e in
    omega (arith, key.place, ap length key.parts, length-append key.bytes s'.rest)

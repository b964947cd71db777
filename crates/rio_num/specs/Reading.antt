-- Reading from left to right, with the first fault and its place.
use Rattle.std.specs.Prelude.{◌≡◌, ℕ, ◌+◌, List, [], ◌∷◌, length, take, drop, Result, Ok, Err, Option, Some, None, Bool, nat_lt, ◌==◌, if◌then◌else◌}
use Rattle.byteorder.specs.Endian.{big_number}
use Rattle.rio_num.specs.{declared.cursor.Short.{Short}, At.{At}}

-- one reading after the other, up to the first fault
infixl 10 ◌>>=◌
abbrev pub ◌>>=◌ : {A B E : Type 0} → Result A E → (A → Result B E) → Result B E
(Ok x) >>= f = f x
(Err e) >>= f = Err e

-- what stands where the test holds
abbrev pub some_if : {A : Type 0} → Bool → A → Option A
some_if test x = if test then Some x else None

abbrev pub skip : ℕ → At → At
skip n s = record { place = s.place + n; rest = drop n s.rest }

abbrev pub short : ℕ → ℕ → Short
short place wanted = record { place = place; wanted = wanted }

-- the next n bytes, and where reading goes on
abbrev pub bytes_at : ℕ → At → Result (List ℕ × At) Short
bytes_at n s = if nat_lt (length s.rest) n then Err (short s.place n) else Ok (take n s.rest, skip n s)

-- nothing of the next n bytes, and where reading goes on
abbrev pub skip_at : ℕ → At → Result (Unit {0} × At) Short
skip_at n s = if nat_lt (length s.rest) n then Err (short s.place n) else Ok (tt, skip n s)

-- the number in the next n bytes, the highest first
abbrev pub number_at : ℕ → At → Result (ℕ × At) Short
number_at n s = if nat_lt (length s.rest) n then Err (short s.place n) else Ok (big_number n s.rest, skip n s)

-- how many bytes stand before a text's own, and how many its own are; 0 where those before aren't whole
abbrev pub text_head : List ℕ → ℕ × ℕ
text_head [] = (1, 0)
text_head (b ∷ bs) = if b == 255 then (5, (if nat_lt (length bs) 4 then 0 else big_number 4 bs)) else (1, b)

-- the next text, and where reading goes on
unfoldable pub text_at : At → Result (List ℕ × At) Short
text_at s =
    let h = text_head s.rest in
    if nat_lt (length s.rest) (h.0 + h.1) then Err (short s.place (h.0 + h.1)) else Ok (take h.1 (drop h.0 s.rest), skip (h.0 + h.1) s)

-- What a reader did: it took what reading gives, or the reading fails so and it stays where it was.
abbrev pub Takes : {X Y E : Type 0} → (X → Y) → Result X E → Result (Y × At) E → At → At → Type 0
Takes view (Ok x) read old new = read ≡ Ok (view x, new)
Takes view (Err e) read old new = (read ≡ Err e) × (new ≡ old)

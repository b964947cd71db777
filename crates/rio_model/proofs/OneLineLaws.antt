-- No part of a text has a byte below a space.
use Rattle.std.proofs.Common.{◌≡◌, ℕ, zero, suc, ◌+◌, ◌/◌, ◌%◌, ◌≤◌, Bool, true, false, cond, nat_lt, nat_le, nat_eq, ◌&&◌, not, length, ℤ, pos, negsuc, List, [], ◌∷◌, ◌++◌, codes, map, refl, ◌∙◌, arith}
use Rattle.std.proofs.{lemmas.Bool.{and_parts, le-leb, leb-true}, lemmas.List.Folds.{list_all-append}, lemmas.List.Sums.{AllPass-from_list_all}}
use Rattle.std.specs.{List.{flat_map, list_all, All}, Fmt.{decimal, digits, digits_onto, digit_glyph, signed_decimal}}
use Rattle.rio_num.specs.Printed.{escaped, hex_digit, hex_text, is_bare, is_bare_name, name_text, string_text}
use Rattle.rio_model.specs.Lists.{separated}

abbrev shown : ℕ → Bool
shown b = nat_le 32 b

abbrev pub Line : List ℕ → Type 0
Line text = list_all shown text ≡ true

pub both : (a b : List ℕ) → Line a → Line b → Line (a ++ b)
both a b p q = list_all-append shown a b ∙ rw (p, q) refl

pub each : {X : Type 0} (text : X → List ℕ) (xs : List X) → ((x : X) → Line (text x)) → Line (flat_map text xs)
each text [] h = refl
each text (x ∷ xs) h = both (text x) (flat_map text xs) (h x) (each text xs h)

-- ---- numbers

digit_shown : (b : Bool) (d : ℕ) → shown (cond b (48 + d) (87 + d)) ≡ true
digit_shown true d = le-leb 32 (48 + d) (omega arith)
digit_shown false d = le-leb 32 (87 + d) (omega arith)

shown_before : (b : ℕ) (text : List ℕ) → shown b ≡ true → Line text → Line (b ∷ text)
shown_before b text p q = rw (p, q) refl

-- either is
pub chosen : (b : Bool) (x y : List ℕ) → Line x → Line y → Line (cond b x y)
chosen true x y p q = p
chosen false x y p q = q

onto : (k n : ℕ) (text : List ℕ) → Line text → Line (digits_onto k 10 false n text)
onto zero n text p = p
onto (suc k) n text p =
    let more : Line (digit_glyph false (n % 10) ∷ text) = shown_before (digit_glyph false (n % 10)) text (digit_shown (nat_lt (n % 10) 10) (n % 10)) p in
    chosen (nat_eq (n / 10) 0) (digit_glyph false (n % 10) ∷ text) (digits_onto k 10 false (n / 10) (digit_glyph false (n % 10) ∷ text)) more (onto k (n / 10) (digit_glyph false (n % 10) ∷ text) more)

pub decimal_line : (n : ℕ) → Line (decimal n)
unfolding digits
decimal_line n = onto 64 n [] refl

pub signed_line : (z : ℤ) → Line (signed_decimal z)
signed_line (pos n) = decimal_line n
signed_line (negsuc n) = shown_before 45 (decimal (suc n)) refl (decimal_line (suc n))

digit_pair : (b : ℕ) → Line (hex_digit (b / 16) ∷ hex_digit (b % 16) ∷ [])
digit_pair b =
    shown_before (hex_digit (b / 16)) (hex_digit (b % 16) ∷ []) (digit_shown (nat_lt (b / 16) 10) (b / 16))
    (shown_before (hex_digit (b % 16)) [] (digit_shown (nat_lt (b % 16) 10) (b % 16)) refl)

pub hex_line : (bytes : List ℕ) → Line (hex_text bytes)
unfolding hex_text
hex_line bytes = each (λ b. hex_digit (b / 16) ∷ hex_digit (b % 16) ∷ []) bytes digit_pair

-- ---- strings and names

own_line : (b : ℕ) (test : Bool) → nat_le 32 b && nat_le b 126 ≡ test → Line (cond test (b ∷ []) (92 ∷ 120 ∷ hex_digit (b / 16) ∷ hex_digit (b % 16) ∷ []))
own_line b true is = shown_before b [] ((and_parts (nat_le 32 b) (nat_le b 126) is).0) refl
own_line b false is = digit_pair b

escaped_line : (b : ℕ) → Line (escaped b)
escaped_line b =
    chosen (nat_eq b 34) _ _ refl
    (chosen (nat_eq b 92) _ _ refl
    (chosen (nat_eq b 10) _ _ refl
    (chosen (nat_eq b 9) _ _ refl
    (own_line b (nat_le 32 b && nat_le b 126) refl))))

pub string_line : (text : List ℕ) → Line (string_text text)
unfolding string_text
string_line text = both (flat_map escaped text) (34 ∷ []) (each escaped text escaped_line) refl

bare_line : (name : List ℕ) → list_all is_bare name ≡ true → Line name
bare_line [] is = refl
bare_line (b ∷ bs) is =
    let bare : is_bare b ≡ true = (and_parts (is_bare b) (list_all is_bare bs) is).0 in
    let above : nat_le 33 b ≡ true = (and_parts _ _ (and_parts _ _ (and_parts _ _ bare).0).0).0 in
    let le : 33 ≤ b = leb-true 33 b above in
    shown_before b bs (le-leb 32 b (omega arith)) (bare_line bs ((and_parts (is_bare b) (list_all is_bare bs) is).1))

name_by : (name : List ℕ) (test : Bool) → is_bare_name name ≡ test → Line (cond test name (string_text name))
name_by name true is = bare_line name (and_parts (not (nat_eq (length name) 0)) (list_all is_bare name) is).1
name_by name false is = string_line name

pub name_line : (name : List ℕ) → Line (name_text name)
unfolding name_text
name_line name = name_by name (is_bare_name name) refl

-- ---- lists

pub separated_line : {X Y : Type 0} (text : X → List ℕ) (of : Y → X) (ys : List Y) → ((y : Y) → Line (text (of y))) → Line (separated text (map of ys))
separated_line text of [] h = refl
separated_line text of (y ∷ ys) h =
    both (text (of y)) (flat_map (λ x. codes ", " ++ text x) (map of ys)) (h y) (more ys)
  where
    more : (ys : List _) → Line (flat_map (λ x. codes ", " ++ text x) (map of ys))
    more [] = refl
    more (y ∷ ys) = both (codes ", " ++ text (of y)) (flat_map (λ x. codes ", " ++ text x) (map of ys)) (both (codes ", ") (text (of y)) refl (h y)) (more ys)

-- a byte that the test passes isn't below a space
at_least : (b : ℕ) → shown b ≡ true → 32 ≤ b
at_least b is = leb-true 32 b is

pub line_is : (text : List ℕ) → Line text → All (λ b. 32 ≤ b) text
line_is text is = λ k d lt. at_least _ (AllPass-from_list_all shown text is k d lt)

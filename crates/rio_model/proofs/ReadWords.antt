-- Words that values are printed as.
use Rattle.std.proofs.Common.{◌≡◌, inl, inr, ℕ, zero, suc, ◌+◌, ◌-◌, ◌*◌, ◌/◌, ◌%◌, ◌^◌, ◌<◌, ℤ, pos, negsuc, List, [], ◌∷◌, ◌++◌, codes, length, true, false, ◌==◌, ◌&&◌, nat_le, nat_lt, Option, Some, None, Ok, refl, sym, ◌∙◌, ap, arith, subst}
use Rattle.std.proofs.{lemmas.Bool.{and_parts, false_from_ne_true, Decides.{nat_tests}}, lemmas.List.{append-nil}, lemmas.Slice.Eq.{bytes_eq-Decides}}
use Rattle.std.proofs.{Math.Nat.{pow-succ'}, Math.Bool.{and-false}}
use Rattle.std.specs.{Fmt.{decimal, signed_decimal}, Int.{byte_at}, List.{list_all}, Str.{bytes_eq}}
use Rattle.byteorder.specs.{Endian.{big_bytes, big_from}, Numbers.{big_from-cons, big_number-reads_back, length-bytes_high_first}}
use Rattle.rio_num.specs.{Word.{is_name_text, begins_name, goes_on_name}, Printed.{hex_digit, hex_text, is_bare, name_text}}
use Rattle.rio_format.specs.declared.value.Value.{Value, Int, Bits32, Bits64}
use Rattle.rio_token.specs.{declared.words.Bits.{Bits, TheVariants.{Four, Eight}}, Tokens.{scan_of}, Reading.{marked}, Laws.{IsNumber}}
use Rattle.rio_token.specs.Words.{bits_of, decimal as decimal_of, digit_in, has_no_leading_zero, number_after, number_of, written}
use Rattle.rio_token.proofs.DecimalLaws.{decimal_after, decimal_plain, integers_are_read}
use Rattle.rio_token.proofs.StandLaws.{IsWord, Stops, at, digits_are_items, next_is_word, word_back}
use Rattle.rio_model.specs.{Readable.{Follows}, ValueGrammar.{Reader, value_in_text, value_of_bits, word_value, word_value_at}, ValueText.{bits_text}}

-- ---- what follows a value

pub record IsBehind (rest : List ℕ) : Type 0 where
  pub stops : Stops rest
  pub no_version : (p : ℕ) → marked 35 (at p rest) ≡ false
  pub no_brace : (p : ℕ) → marked 123 (at p rest) ≡ false
  pub no_object : (p : ℕ) → marked 61 (at p rest) ≡ false

behind_mark : (b k : ℕ) (bs : List ℕ) → b ≡ k → IsBehind (k ∷ bs) → IsBehind (b ∷ bs)
behind_mark b k bs e h = let P : ℕ → Type 0 = λ i. IsBehind (i ∷ bs) in subst P (sym e) h

pub is_behind : (rest : List ℕ) → Follows rest → IsBehind rest
unfolding scan_of
is_behind [] h = record { stops = refl; no_version = λ p. refl; no_brace = λ p. refl; no_object = λ p. refl }
is_behind (b ∷ bs) (inl e) = behind_mark b 44 bs e (record { stops = refl; no_version = λ p. refl; no_brace = λ p. refl; no_object = λ p. refl })
is_behind (b ∷ bs) (inr (inl e)) = behind_mark b 93 bs e (record { stops = refl; no_version = λ p. refl; no_brace = λ p. refl; no_object = λ p. refl })
is_behind (b ∷ bs) (inr (inr e)) = behind_mark b 125 bs e (record { stops = refl; no_version = λ p. refl; no_brace = λ p. refl; no_object = λ p. refl })

-- ---- a word that is a value

module _ (E : Reader) (p q : ℕ) (w rest : List ℕ) (is : IsWord w) (follows : Follows rest) (count : q ≡ p + length w) where
  pub plain_word_back : (v : Value) → word_value w ≡ Some v → value_in_text E (at p (w ++ rest)) ≡ Ok (v, at q rest)
  unfolding value_in_text word_value_at
  plain_word_back v h =
      let b = is_behind rest follows in
      let next = next_is_word p q w rest is b.stops count in
      let word = word_back p q w rest is b.stops count in
      rw (next, word, b.no_brace q, b.no_version q, and-false (is_name_text w), h) refl

-- ---- integers

pub not_named : (w : List ℕ) (z : ℤ) → number_of w ≡ Some z → (name : List ℕ) → number_of name ≡ None → bytes_eq w name ≡ false
not_named w z h name none =
    false_from_ne_true (bytes_eq w name) (λ t.
    let e : w ≡ name = (bytes_eq-Decides w name).0 t in
    let same : number_of w ≡ None = ap number_of e ∙ none in
    let some : Option ℤ = Some z in
    let nothing : Option ℤ = None in
    let clash : some ≡ nothing = sym h ∙ same in cc)

pub true_no_number : number_of (codes "true") ≡ None
unfolding number_of decimal_of written
true_no_number = refl

pub false_no_number : number_of (codes "false") ≡ None
unfolding number_of decimal_of written
false_no_number = refl

pub null_no_number : number_of (codes "null") ≡ None
unfolding number_of decimal_of written
null_no_number = refl

pub integer_value : (z : ℤ) → IsNumber z → word_value (signed_decimal z) ≡ Some (Int z)
unfolding word_value
integer_value z h =
    let n = integers_are_read z h in
    let w = signed_decimal z in
    rw (not_named w z n (codes "true") true_no_number, not_named w z n (codes "false") false_no_number, not_named w z n (codes "null") null_no_number, n) refl

digits_word : (ds : List ℕ) (n : ℕ) → has_no_leading_zero ds ≡ true → number_after 10 0 ds ≡ Some n → IsWord ds
digits_word [] n h e = absurd (cc)
digits_word (b ∷ bs) n h e = record { first = b; others = bs; parts = refl; all = digits_are_items 10 0 n (b ∷ bs) e }

pub decimal_word : (n : ℕ) → n < 2 ^ 64 → IsWord (decimal n)
decimal_word n h = digits_word (decimal n) n (decimal_plain n h) (decimal_after n h)

pub integer_word : (z : ℤ) → IsNumber z → IsWord (signed_decimal z)
integer_word (pos n) h = decimal_word n h
integer_word (negsuc n) h =
    let is = decimal_word (suc n) (omega arith) in
    record { first = 45; others = decimal (suc n); parts = refl; all = is.all }

-- a name is no number
pub no_digit : (b : ℕ) → begins_name b ≡ true → digit_in 10 b ≡ None
no_digit b h = grind (arith, nat_tests)

-- ---- bit patterns

hex_digit_back : (n : ℕ) → n < 16 → digit_in 16 (hex_digit n) ≡ Some n
hex_digit_back n h = grind (arith, nat_tests)

hex_step : (m b : ℕ) (more : List ℕ) → b < 256 → number_after 16 m (hex_digit (b / 16) ∷ hex_digit (b % 16) ∷ more) ≡ number_after 16 (m * 256 + b) more
hex_step m b more h =
    let high : digit_in 16 (hex_digit (b / 16)) ≡ Some (b / 16) = hex_digit_back (b / 16) (omega arith) in
    let low : digit_in 16 (hex_digit (b % 16)) ≡ Some (b % 16) = hex_digit_back (b % 16) (omega arith) in
    let whole : (m * 16 + b / 16) * 16 + b % 16 ≡ m * 256 + b = omega arith in
    rw (high, low, whole) refl

shifted : (m b p n : ℕ) → (m * 256 + b) * p + n ≡ m * (256 * p) + (b * p + n)
shifted m b p n = grind arith

hex_after : (m : ℕ) (bytes : List ℕ) → list_all (λ b. nat_lt b 256) bytes ≡ true → number_after 16 m (hex_text bytes) ≡ Some (m * 256 ^ length bytes + big_from 0 (length bytes) bytes)
unfolding hex_text
hex_after m [] h = let e : m ≡ m * 1 + 0 = omega arith in ap (λ (i : ℕ). let o : Option ℕ = Some i in o) e
hex_after m (b ∷ bs) h =
    let parts = and_parts (nat_lt b 256) (list_all (λ b. nat_lt b 256) bs) h in
    let small : b < 256 = grind (arith, nat_tests) in
    let moved = big_from-cons 0 (length bs) b bs in
    let power : 256 ^ suc (length bs) ≡ 256 * 256 ^ length bs = pow-succ' 256 (length bs) in
    let value : (m * 256 + b) * 256 ^ length bs + big_from 0 (length bs) bs ≡ m * 256 ^ suc (length bs) + (b * 256 ^ length bs + big_from 1 (length bs) (b ∷ bs)) =
    shifted m b (256 ^ length bs) (big_from 0 (length bs) bs) ∙ rw (power, moved) refl in
    hex_step m b (hex_text bs) small ∙ hex_after (m * 256 + b) bs parts.1 ∙ ap (λ (i : ℕ). let o : Option ℕ = Some i in o) value

byte_small : (k n : ℕ) → nat_lt (byte_at k n) 256 ≡ true
byte_small k n = grind (arith, nat_tests)

bytes_small : (k n : ℕ) → list_all (λ b. nat_lt b 256) (big_bytes k n) ≡ true
bytes_small zero n = refl
bytes_small (suc k) n = rw (byte_small k n, bytes_small k n) refl

hex_back : (k n : ℕ) → n < 256 ^ k → number_after 16 0 (hex_text (big_bytes k n)) ≡ Some n
hex_back k n h =
    let size = length-bytes_high_first k n in
    let same : big_bytes k n ++ [] ≡ big_bytes k n = append-nil (big_bytes k n) in
    let value : big_from 0 k (big_bytes k n) ≡ n = ap (big_from 0 k) (sym same) ∙ big_number-reads_back k n [] h in
    let none : 0 * 256 ^ k + big_from 0 k (big_bytes k n) ≡ n = omega (arith, value) in
    hex_after 0 (big_bytes k n) (bytes_small k n) ∙ rw (size, none) refl

pub not_empty : (b : ℕ) (bs : List ℕ) → (length (b ∷ bs) == 0) ≡ false
not_empty b bs = grind (arith, nat_tests)

bits_no_number : (ds : List ℕ) → number_of (48 ∷ 120 ∷ ds) ≡ None
unfolding number_of decimal_of
bits_no_number ds = let some : (length (120 ∷ ds) == 0) ≡ false = not_empty 120 ds in rw some refl

pub bits_value_of : (ds : List ℕ) (bits : Bits) → bits_of (48 ∷ 120 ∷ ds) ≡ Some bits → word_value (48 ∷ 120 ∷ ds) ≡ Some (value_of_bits bits)
unfolding word_value
bits_value_of ds bits h = rw (bits_no_number ds, h) refl

pub four_value : (n : ℕ) → n < 2 ^ 32 → word_value (bits_text 4 n) ≡ Some (Bits32 n)
unfolding bits_of written hex_text
four_value n h =
    let back : number_after 16 0 (hex_text (big_bytes 4 n)) ≡ Some n = hex_back 4 n h in
    let small : nat_le n (2 ^ 32 - 1) ≡ true = grind (arith, nat_tests) in
    bits_value_of (hex_text (big_bytes 4 n)) (Four n) (rw (back, small) refl)

pub eight_value : (n : ℕ) → n < 2 ^ 64 → word_value (bits_text 8 n) ≡ Some (Bits64 n)
unfolding bits_of written hex_text
eight_value n h =
    let back : number_after 16 0 (hex_text (big_bytes 8 n)) ≡ Some n = hex_back 8 n h in
    let small : nat_le n (2 ^ 64 - 1) ≡ true = grind (arith, nat_tests) in
    bits_value_of (hex_text (big_bytes 8 n)) (Eight n) (rw (back, small) refl)

pub bits_is_word : (k n : ℕ) → n < 256 ^ k → IsWord (bits_text k n)
bits_is_word k n h =
    let all = digits_are_items 16 0 n (hex_text (big_bytes k n)) (hex_back k n h) in
    record { first = 48; others = 120 ∷ hex_text (big_bytes k n); parts = refl; all = all }

-- ---- names

bare_byte : (b : ℕ) → goes_on_name b ≡ true → is_bare b ≡ true
bare_byte b h = grind (arith, nat_tests)

all_bare : (bs : List ℕ) → list_all goes_on_name bs ≡ true → list_all is_bare bs ≡ true
all_bare [] h = refl
all_bare (b ∷ bs) h = let parts = and_parts (goes_on_name b) (list_all goes_on_name bs) h in rw (bare_byte b parts.0, all_bare bs parts.1) refl

first_bare : (b : ℕ) → begins_name b ≡ true → is_bare b ≡ true
first_bare b h = grind (arith, nat_tests)

-- a name is printed without quotes
pub name_as_it_is : (name : List ℕ) → is_name_text name ≡ true → name_text name ≡ name
unfolding name_text
name_as_it_is [] h = absurd (cc)
name_as_it_is (b ∷ bs) h =
    let outer = and_parts (begins_name b && list_all goes_on_name bs) (nat_le (length (b ∷ bs)) 100) h in
    let inner = and_parts (begins_name b) (list_all goes_on_name bs) outer.0 in
    rw (first_bare b inner.0, all_bare bs inner.1, not_empty b bs) refl

-- Reading at texts of known tokens.
use Rattle.std.proofs.Common.{◌≡◌, ℕ, suc, ◌+◌, ◌*◌, ◌≤◌, List, [], ◌∷◌, ◌++◌, length, take, drop, Bool, true, false, ◌==◌, nat_le, nat_lt, if◌then◌else◌, Option, Some, None, option_and_then, Ok, refl, sym, ◌∙◌, arith, subst}
use Rattle.std.proofs.{lemmas.Bool.{and_parts, Decides.{nat_tests}}, Math.Seq.{take-append_seam}}
use Rattle.std.specs.List.{list_all, prefix_len}
pub use Rattle.std.proofs.Math.Seq.{drop-append_seam as drop_front}
use Rattle.rio_num.specs.{At.{AreBytes, At, end_place}, Word.{is_blank_byte, is_word_byte, is_name_text}, Printed.{string_text}}
pub use Rattle.rio_num.proofs.Words.{Stops}
use Rattle.rio_num.proofs.Words.{item_no_blank, name_of_word, word_ends_there}
use Rattle.rio_token.specs.{declared.token.Token.TheVariants.{Word, Text, Mark}, declared.quoted.Ending.{Ending, TheVariants.{Closed, Broken, Unended}}}
use Rattle.rio_token.specs.{declared.quoted.Within.TheVariants.{Between}, Quoted.{hex_value, quoted}}
use Rattle.rio_token.specs.Reading.{num_at, num_between_at, string_at, word_at, word_that_at}
use Rattle.rio_token.specs.{Tokens.{Scan, next_at, scan_from, scan_of, token_place, behind, word_scan, string_scan}, Words.{num_of, number_after}}
use Rattle.rio_token.proofs.StringLaws.{strings_are_read}

abbrev pub at : ℕ → List ℕ → At
at p rest = record { place = p; rest = rest }

-- a word: at least one of its bytes, and no others
pub record IsWord (w : List ℕ) : Type 0 where
  pub first : ℕ
  pub others : List ℕ
  pub parts : w ≡ first ∷ others
  pub all : list_all is_word_byte w ≡ true

abbrev pub word_of : List ℕ → Scan
word_of w = record { token = Word; start = 0; stop = length w; bytes = w }

scan_first : (b : ℕ) (bs rest : List ℕ) → list_all is_word_byte (b ∷ bs) ≡ true → Stops rest → scan_of ((b ∷ bs) ++ rest) ≡ word_of (b ∷ bs)
unfolding scan_of
scan_first b bs rest h e =
    let parts = and_parts (is_word_byte b) (list_all is_word_byte bs) h in
    let no_blank = item_no_blank b parts.0 in
    let run : prefix_len is_word_byte (b ∷ (bs ++ rest)) ≡ suc (length bs) = word_ends_there (b ∷ bs) rest h e in
    let front : take (suc (length bs)) (b ∷ (bs ++ rest)) ≡ b ∷ bs = take-append_seam (b ∷ bs) rest in
    let scanned : scan_from 0 (b ∷ (bs ++ rest)) ≡ word_scan 0 (prefix_len is_word_byte (b ∷ (bs ++ rest))) (b ∷ (bs ++ rest)) = rw parts.0 refl in
    let none : 0 + suc (length bs) ≡ suc (length bs) = omega arith in
    let zero_blanks : prefix_len is_blank_byte (b ∷ (bs ++ rest)) ≡ 0 = rw no_blank refl in
    rw zero_blanks (scanned ∙ rw (run, front, none) refl)

pub scan_word : (w rest : List ℕ) → IsWord w → Stops rest → scan_of (w ++ rest) ≡ word_of w
scan_word w rest is e =
    let P : List ℕ → Type 0 = λ l. scan_of (l ++ rest) ≡ word_of l in
    let Q : List ℕ → Type 0 = λ l. list_all is_word_byte l ≡ true in
    subst P (sym is.parts) (scan_first is.first is.others rest (subst Q is.parts is.all) e)

-- ---- names and digits are words

pub name_is_word : (w : List ℕ) → is_name_text w ≡ true → IsWord w
name_is_word [] h = absurd (cc)
name_is_word (b ∷ bs) h = record { first = b; others = bs; parts = refl; all = name_of_word (b ∷ bs) h }

item_of_hex : (b d : ℕ) → hex_value b ≡ Some d → is_word_byte b ≡ true
item_of_hex b d h = grind (arith, nat_tests)

digit_step : (base n b m : ℕ) (bs : List ℕ) (o : Option ℕ) → hex_value b ≡ o → ((k : ℕ) → number_after base k bs ≡ Some m → list_all is_word_byte bs ≡ true) → option_and_then (λ d. number_after base (n * base + d) bs) (option_and_then (λ d. if nat_lt d base then Some d else None) o) ≡ Some m → list_all is_word_byte (b ∷ bs) ≡ true
digit_step base n b m bs None e ih h = absurd (cc)
digit_step base n b m bs (Some d) e ih h = below_base (nat_lt d base) refl
  where
    below_base : (t : Bool) → nat_lt d base ≡ t → list_all is_word_byte (b ∷ bs) ≡ true
    below_base true t = let h2 : number_after base (n * base + d) bs ≡ Some m = rw t at h in rw (item_of_hex b d e, ih (n * base + d) h2) refl
    below_base false t = absurd (let none : Option ℕ = None in let h2 : none ≡ Some m = rw t at h in cc)

pub digits_are_items : (base n m : ℕ) (ds : List ℕ) → number_after base n ds ≡ Some m → list_all is_word_byte ds ≡ true
digits_are_items base n m [] h = refl
digits_are_items base n m (b ∷ bs) h = digit_step base n b m bs (hex_value b) refl (λ k q. digits_are_items base k m bs q) h

-- ---- words that are read

module _ (p q : ℕ) (w rest : List ℕ) (is : IsWord w) (stops : Stops rest) (count : q ≡ p + length w) where
  pub next_is_word : next_at (at p (w ++ rest)) ≡ word_of w
  next_is_word = scan_word w rest is stops

  pub behind_word : behind (at p (w ++ rest)) ≡ at q rest
  behind_word = rw (next_is_word, drop_front w rest, count) refl

  pub word_back : word_at (at p (w ++ rest)) ≡ Ok (w, at q rest)
  unfolding word_at
  word_back = rw (next_is_word, behind_word) refl

  pub word_that_back : (test : List ℕ → Bool) → test w ≡ true → word_that_at test (at p (w ++ rest)) ≡ Ok (w, at q rest)
  unfolding word_that_at
  word_that_back test h = rw (next_is_word, h, behind_word) refl

  pub num_back : (n : ℕ) → num_of w ≡ Some n → num_at (at p (w ++ rest)) ≡ Ok (n, at q rest)
  unfolding num_at
  num_back n h = rw (next_is_word, h, behind_word) refl

  pub num_between_back : (low high n : ℕ) → num_of w ≡ Some n → low ≤ n → n ≤ high → num_between_at low high (at p (w ++ rest)) ≡ Ok (n, at q rest)
  unfolding num_between_at
  num_between_back low high n h above below =
      let a : nat_le low n ≡ true = grind (arith, nat_tests) in
      let b : nat_le n high ≡ true = grind (arith, nat_tests) in
      rw (next_is_word, h, a, b, behind_word) refl

-- ---- strings that are read

module _ (p q : ℕ) (text rest : List ℕ) (bytes : AreBytes text) (count : q ≡ p + length (string_text text)) where
  pub next_is_text : next_at (at p (string_text text ++ rest)) ≡ record { token = Text; start = 0; stop = length (string_text text); bytes = text }
  next_is_text = strings_are_read text rest bytes

  pub string_back : string_at (at p (string_text text ++ rest)) ≡ Ok (text, at q rest)
  unfolding string_at
  string_back = rw (next_is_text, next_is_text, drop_front (string_text text) rest, count) refl

-- ---- blanks are passed over

-- the same token comes next, and reading goes on at the same place
pub record Alike (s t : At) : Type 0 where
  pub token : (next_at s).token ≡ (next_at t).token
  pub bytes : (next_at s).bytes ≡ (next_at t).bytes
  pub place : token_place s ≡ token_place t
  pub behind : behind s ≡ behind t
  pub end : end_place s ≡ end_place t

abbrev moved : Scan → Scan
moved scan = record { token = scan.token; start = 1 + scan.start; stop = 1 + scan.stop; bytes = scan.bytes }

moved_string : (n : ℕ) (text : List ℕ) (e : Ending) → string_scan (1 + n) text e ≡ moved (string_scan n text e)
moved_string n text (Closed k) = let e : 1 + n + 1 + k ≡ 1 + (n + 1 + k) = omega arith in rw e refl
moved_string n text Broken = refl
moved_string n text Unended = refl

moved_by : (n b : ℕ) (bs : List ℕ) (word quote : Bool) →
    (if word then word_scan (1 + n) (prefix_len is_word_byte (b ∷ bs)) (b ∷ bs) else if quote then (let q = quoted Between bs in string_scan (1 + n) q.text q.ending) else record { token = Mark b; start = 1 + n; stop = 1 + n + 1; bytes = [] })
    ≡ moved (if word then word_scan n (prefix_len is_word_byte (b ∷ bs)) (b ∷ bs) else if quote then (let q = quoted Between bs in string_scan n q.text q.ending) else record { token = Mark b; start = n; stop = n + 1; bytes = [] })
moved_by n b bs true quote = let e : 1 + n + prefix_len is_word_byte (b ∷ bs) ≡ 1 + (n + prefix_len is_word_byte (b ∷ bs)) = omega arith in rw e refl
moved_by n b bs false true = moved_string n (quoted Between bs).text (quoted Between bs).ending
moved_by n b bs false false = let e : 1 + n + 1 ≡ 1 + (n + 1) = omega arith in rw e refl

moved_scan : (n : ℕ) (ys : List ℕ) → scan_from (1 + n) ys ≡ moved (scan_from n ys)
moved_scan n [] = refl
moved_scan n (b ∷ bs) = moved_by n b bs (is_word_byte b) (b == 34)

blank_scan : (xs : List ℕ) → scan_of (32 ∷ xs) ≡ moved (scan_of xs)
unfolding scan_of
blank_scan xs =
    let n = prefix_len is_blank_byte xs in
    let e : 1 + n ≡ suc n = omega arith in
    let d : drop (1 + n) (32 ∷ xs) ≡ drop n xs = rw e refl in
    rw d (moved_scan n (drop n xs))

pub blank_alike : (p : ℕ) (xs : List ℕ) → Alike (at p (32 ∷ xs)) (at (p + 1) xs)
blank_alike p xs =
    let b = blank_scan xs in
    let start : p + (1 + (scan_of xs).start) ≡ p + 1 + (scan_of xs).start = omega arith in
    let stop : p + (1 + (scan_of xs).stop) ≡ p + 1 + (scan_of xs).stop = omega arith in
    let one : 1 + (scan_of xs).stop ≡ suc ((scan_of xs).stop) = omega arith in
    let dropped : drop (1 + (scan_of xs).stop) (32 ∷ xs) ≡ drop (scan_of xs).stop xs = rw one refl in
    record {
      token = rw b refl;
      bytes = rw b refl;
      place = rw (b, start) refl;
      behind = rw (b, stop, dropped) refl;
      end = omega arith;
    }

-- Where the bytes of a token stand.
use Rattle.std.proofs.Common.{◌≡◌, ℕ, ◌+◌, ◌-◌, List, [], ◌∷◌, take, drop, Bool, true, false, ◌==◌, if◌then◌else◌, refl, sym, ◌∙◌, arith, ap, subst}
use Rattle.std.specs.List.{prefix_len}
use Rattle.rio_num.specs.Word.{is_blank_byte, is_word_byte}
use Rattle.rio_token.specs.{declared.token.Token.TheVariants.{Word, Text, Mark}, declared.quoted.Ending.{Ending, TheVariants.{Closed, Broken, Unended}}}
use Rattle.rio_token.specs.{declared.quoted.Within.TheVariants.{Between}, Quoted.{quoted}, Tokens.{scan_from, scan_of, string_scan, word_scan}}

word_run : (n : ℕ) (ys : List ℕ) (k : ℕ) → take k ys ≡ take (n + k - n) ys
word_run n ys k = let e : n + k - n ≡ k = omega arith in rw e refl

string_no_word : (n : ℕ) (text : List ℕ) (e : Ending) → (string_scan n text e).token ≡ Word → ⊥
string_no_word n text (Closed k) h = cc
string_no_word n text Broken h = cc
string_no_word n text Unended h = cc

chosen_word : (n : ℕ) (ys : List ℕ) (b : ℕ) (bs : List ℕ) (word quote : Bool) → ys ≡ b ∷ bs →
    (let s = (if word then word_scan n (prefix_len is_word_byte ys) ys else if quote then (let q = quoted Between bs in string_scan n q.text q.ending) else record { token = Mark b; start = n; stop = n + 1; bytes = [] }) in
    s.token ≡ Word → (s.start ≡ n) × (s.bytes ≡ take (s.stop - s.start) ys))
chosen_word n ys b bs true quote e h = (refl, word_run n ys (prefix_len is_word_byte ys))
chosen_word n ys b bs false true e h = absurd (string_no_word n (quoted Between bs).text (quoted Between bs).ending h)
chosen_word n ys b bs false false e h = absurd (cc)

from_word : (n : ℕ) (ys : List ℕ) → (scan_from n ys).token ≡ Word → ((scan_from n ys).start ≡ n) × ((scan_from n ys).bytes ≡ take ((scan_from n ys).stop - (scan_from n ys).start) ys)
from_word n [] h = absurd (cc)
from_word n (b ∷ bs) h = chosen_word n (b ∷ bs) b bs (is_word_byte b) (b == 34) refl h

-- the bytes of a word
pub word_bytes : (rest : List ℕ) → (scan_of rest).token ≡ Word → (scan_of rest).bytes ≡ take ((scan_of rest).stop - (scan_of rest).start) (drop (scan_of rest).start rest)
unfolding scan_of
word_bytes rest h =
    let n = prefix_len is_blank_byte rest in
    let p = from_word n (drop n rest) h in
    p.1 ∙ ap (λ (k : ℕ). take ((scan_from n (drop n rest)).stop - (scan_from n (drop n rest)).start) (drop k rest)) (sym p.0)

no_text : (n k : ℕ) (ys : List ℕ) → (word_scan n k ys).token ≡ Text → ⊥
no_text n k ys h = cc

by_ending : (n : ℕ) (text : List ℕ) (e : Ending) → (string_scan n text e).token ≡ Text → ((string_scan n text e).start ≡ n) × ((string_scan n text e).bytes ≡ text)
by_ending n text (Closed k) h = (refl, refl)
by_ending n text Broken h = absurd (cc)
by_ending n text Unended h = absurd (cc)

chosen_text : (n k : ℕ) (ys : List ℕ) (b : ℕ) (bs : List ℕ) (word quote : Bool) →
    (let s = (if word then word_scan n k ys else if quote then (let q = quoted Between bs in string_scan n q.text q.ending) else record { token = Mark b; start = n; stop = n + 1; bytes = [] }) in
    s.token ≡ Text → (s.start ≡ n) × (s.bytes ≡ (quoted Between bs).text))
chosen_text n k ys b bs true quote h = absurd (no_text n k ys h)
chosen_text n k ys b bs false true h = by_ending n (quoted Between bs).text (quoted Between bs).ending h
chosen_text n k ys b bs false false h = absurd (cc)

from_text : (n : ℕ) (ys : List ℕ) → (scan_from n ys).token ≡ Text → ((scan_from n ys).start ≡ n) × ((scan_from n ys).bytes ≡ (quoted Between (drop 1 ys)).text)
from_text n [] h = absurd (cc)
from_text n (b ∷ bs) h =
    let p = chosen_text n (prefix_len is_word_byte (b ∷ bs)) (b ∷ bs) b bs (is_word_byte b) (b == 34) h in
    (p.0, p.1)

-- the bytes that a string spells
pub string_bytes : (rest : List ℕ) → (scan_of rest).token ≡ Text → (scan_of rest).bytes ≡ (quoted Between (drop 1 (drop (scan_of rest).start rest))).text
unfolding scan_of
string_bytes rest h =
    let n = prefix_len is_blank_byte rest in
    let p = from_text n (drop n rest) h in
    let back : n ≡ (scan_from n (drop n rest)).start = sym p.0 in
    let P : ℕ → Type 0 = λ k. (scan_from n (drop n rest)).bytes ≡ (quoted Between (drop 1 (drop k rest))).text in
    subst P back p.1

-- Tokens: words, strings, and single bytes of punctuation, with blanks between them.
use Rattle.std.specs.{Prelude.{◌≡◌, ℕ, ◌+◌, List, [], ◌∷◌, length, take, drop, min, Bool, ◌==◌, if◌then◌else◌}, List.{prefix_len}}
use Rattle.rio_num.specs.{At.{At}, Reading.{skip}, Word.{is_blank_byte, is_word_byte}}
use Rattle.rio_token.specs.{declared.token.Token.{Token, TheVariants.{Word, Text, Mark, Bad, Cut, End}}, declared.scan.Scanned.{Scanned}}
use Rattle.rio_token.specs.{declared.quoted.Ending.{Ending, TheVariants.{Closed, Broken, Unended}}, declared.quoted.Within.TheVariants.{Between}}
use Rattle.rio_token.specs.{Marks.{double_quote}, Quoted.{quoted}}

-- The next token: how many bytes stand before it, and before its end; the bytes of a word, or those that a string spells.
pub record Scan : Type 0 where
  pub token : Token
  pub start : ℕ
  pub stop : ℕ
  pub bytes : List ℕ

-- a longest run of letters, digits and _ . - +
abbrev pub word_scan : ℕ → ℕ → List ℕ → Scan
word_scan start n bytes = record { token = Word; start = start; stop = start + n; bytes = take n bytes }

-- A string, with its quotes. One with a bad byte or escape, or one that isn't ended, is a token of its own kind, which is never passed.
abbrev pub string_scan : ℕ → List ℕ → Ending → Scan
string_scan start text (Closed n) = record { token = Text; start = start; stop = start + 1 + n; bytes = text }
string_scan start text Broken = record { token = Bad; start = start; stop = start; bytes = text }
string_scan start text Unended = record { token = Cut; start = start; stop = start; bytes = text }

-- the token at the front, behind so many blanks
abbrev pub scan_from : ℕ → List ℕ → Scan
scan_from start [] = record { token = End; start = start; stop = start; bytes = [] }
scan_from start (b ∷ bs) =
    if is_word_byte b then word_scan start (prefix_len is_word_byte (b ∷ bs)) (b ∷ bs)
    else if b == double_quote then (let q = quoted Between bs in string_scan start q.text q.ending)
    else record { token = Mark b; start = start; stop = start + 1; bytes = [] }

unfoldable pub scan_of : List ℕ → Scan
scan_of bytes = let n = prefix_len is_blank_byte bytes in scan_from n (drop n bytes)

-- what is kept of a token that was found
abbrev pub IsScan : Scanned → Scan → Type 0
IsScan found scan = (found.token ≡ scan.token) × (found.start ≡ scan.start) × (found.stop ≡ scan.stop)

-- the next token from a place on
abbrev pub next_at : At → Scan
next_at s = scan_of s.rest

-- its place
abbrev pub token_place : At → ℕ
token_place s = s.place + (next_at s).start

-- the place behind it
abbrev pub behind : At → At
behind s = skip (next_at s).stop s

-- whether the next token follows directly, without a blank before it
abbrev pub is_glued : At → Bool
is_glued s = (next_at s).start == 0

-- the place in a text, or its end where that is before
abbrev pub standing_in : ℕ → List ℕ → At
standing_in place text = record { place = min place (length text); rest = drop place text }

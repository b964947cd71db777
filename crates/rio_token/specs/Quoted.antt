-- Strings: in double quotes, with bytes 0x20 to 0x7E and the escapes \" \\ \n \t \xHH.
use Rattle.std.specs.Prelude.{ℕ, ◌+◌, ◌-◌, ◌*◌, List, [], ◌∷◌, Option, Some, None, nat_le, ◌==◌, ◌&&◌, ◌||◌, if◌then◌else◌}
use Rattle.rio_token.specs.Marks.{backslash, double_quote, letter_n, letter_t, letter_x, line_feed, tab}
use Rattle.rio_token.specs.declared.quoted.Within.{Within, TheVariants.{Between, Escape, High, Low}}
use Rattle.rio_token.specs.declared.quoted.Step.{Step, TheVariants.{Goes, Spells, Closes, Breaks}}
use Rattle.rio_token.specs.declared.quoted.Ending.{Ending, TheVariants.{Closed, Broken, Unended}}

-- the value of a digit 0 to 9 or a to f
abbrev pub hex_value : ℕ → Option ℕ
hex_value b =
    if nat_le 48 b && nat_le b 57 then Some (b - 48)
    else if nat_le 97 b && nat_le b 102 then Some (b - 87)
    else None

-- behind a first digit of \xHH
abbrev pub first_digit : ℕ → Option ℕ → Step
first_digit b (Some h) = Goes (Low b)
first_digit b None = Breaks

abbrev pub second_digit : Option ℕ → Option ℕ → Step
second_digit (Some h) (Some l) = Spells (16 * h + l)
second_digit (Some h) None = Breaks
second_digit None l = Breaks

-- what a byte does within a string
abbrev pub step_of : Within → ℕ → Step
step_of Between b =
    if b == double_quote then Closes
    else if b == backslash then Goes Escape
    else if nat_le 32 b && nat_le b 126 then Spells b
    else Breaks
step_of Escape b =
    if (b == double_quote) || (b == backslash) then Spells b
    else if b == letter_n then Spells line_feed
    else if b == letter_t then Spells tab
    else if b == letter_x then Goes High
    else Breaks
step_of High b = first_digit b (hex_value b)
step_of (Low h) b = second_digit (hex_value h) (hex_value b)

-- What stands behind an opening quote: the bytes that are spelled, and how the string ends.
pub record Quoted : Type 0 where
  pub text : List ℕ
  pub ending : Ending

-- the ending, seen from n bytes before
abbrev pub later : ℕ → Ending → Ending
later n (Closed length) = Closed (n + length)
later n Broken = Broken
later n Unended = Unended

abbrev pub onward : Step → (Within → Quoted) → Quoted
onward (Goes within) rest = let q = rest within in record { text = q.text; ending = later 1 q.ending }
onward (Spells b) rest = let q = rest Between in record { text = b ∷ q.text; ending = later 1 q.ending }
onward Closes rest = record { text = []; ending = Closed 1 }
onward Breaks rest = record { text = []; ending = Broken }

-- A string from here on. Its length is that of its bytes up to the closing quote, with it.
abbrev pub quoted : Within → List ℕ → Quoted
quoted within [] = record { text = []; ending = Unended }
quoted within (b ∷ bs) = onward (step_of within b) (λ w. quoted w bs)

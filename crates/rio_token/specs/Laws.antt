-- What is printed is read again.
use Rattle.std.specs.{Prelude.{◌≡◌, ℕ, ◌^◌, ◌<◌, ℤ, pos, negsuc, List, ◌++◌, length, Some}, Fmt.{decimal, signed_decimal}}
use Rattle.rio_num.specs.{Printed.{string_text}, At.{AreBytes}}
use Rattle.rio_token.specs.{declared.token.Token.TheVariants.{Text}, Tokens.{scan_of}, Words.{num_of, number_of}}

-- a text that is printed as a string is one token that spells it, whatever follows
abbrev pub StringsAreRead : Type 0
StringsAreRead = (text rest : List ℕ) → AreBytes text → scan_of (string_text text ++ rest) ≡ record { token = Text; start = 0; stop = length (string_text text); bytes = text }

-- from -2^63 to 2^64 - 1
abbrev pub IsNumber : ℤ → Type 0
IsNumber (pos n) = n < 2 ^ 64
IsNumber (negsuc n) = n < 2 ^ 63

abbrev pub IntegersAreRead : Type 0
IntegersAreRead = (z : ℤ) → IsNumber z → number_of (signed_decimal z) ≡ Some z

abbrev pub NumsAreRead : Type 0
NumsAreRead = (n : ℕ) → n < 2 ^ 32 → num_of (decimal n) ≡ Some n

-- Words that are numbers or bit patterns.
use Rattle.std.specs.Prelude.{ℕ, suc, ◌+◌, ◌-◌, ◌*◌, ◌^◌, ℤ, pos, negsuc, List, [], ◌∷◌, length, Option, Some, None, option_map, option_and_then, Bool, false, nat_lt, nat_le, not, ◌==◌, ◌&&◌, ◌||◌, if◌then◌else◌}
use Rattle.rio_token.specs.{declared.words.Bits.{Bits, TheVariants.{Four, Eight}}, Marks.{digit_zero, letter_x, minus_sign}, Quoted.{hex_value}}

-- the value of a digit in a base up to 16
abbrev pub digit_in : ℕ → ℕ → Option ℕ
digit_in base b = option_and_then (λ d. if nat_lt d base then Some d else None) (hex_value b)

-- the number that digits write, when they follow those of n
abbrev pub number_after : ℕ → ℕ → List ℕ → Option ℕ
number_after base n [] = Some n
number_after base n (b ∷ bs) = option_and_then (λ d. number_after base (n * base + d) bs) (digit_in base b)

-- a number that isn't above the greatest
abbrev pub at_most : ℕ → Option ℕ → Option ℕ
at_most most = option_and_then (λ n. if nat_le n most then Some n else None)

-- the number that the digits write in the base, up to the greatest
unfoldable pub written : ℕ → ℕ → List ℕ → Option ℕ
written base most digits = at_most most (number_after base 0 digits)

-- it doesn't begin with a 0 that isn't all
abbrev pub has_no_leading_zero : List ℕ → Bool
has_no_leading_zero [] = false
has_no_leading_zero (b ∷ bs) = not (b == digit_zero) || (length bs == 0)

-- the number that the word writes without a leading 0, up to the greatest
unfoldable pub decimal : ℕ → List ℕ → Option ℕ
decimal most word = if has_no_leading_zero word then written 10 most word else None

-- a number that counts or labels
abbrev pub num_of : List ℕ → Option ℕ
num_of = decimal (2 ^ 32 - 1)

-- such a number between two bounds
abbrev pub num_between_of : ℕ → ℕ → List ℕ → Option ℕ
num_between_of low high word = option_and_then (λ n. if nat_le low n && nat_le n high then Some n else None) (num_of word)

-- a minus stands before no 0
abbrev pub negated : Option ℕ → Option ℤ
negated (Some (suc n)) = Some (negsuc n)
negated n = None

-- an integer from -2^63 to 2^64 - 1
unfoldable pub number_of : List ℕ → Option ℤ
number_of [] = None
number_of (b ∷ bs) = if b == minus_sign then negated (decimal (2 ^ 63) bs) else option_map pos (decimal (2 ^ 64 - 1) (b ∷ bs))

-- 8 digits or 16
abbrev pub bits_from : List ℕ → Option Bits
bits_from digits =
    if length digits == 8 then option_map Four (written 16 (2 ^ 32 - 1) digits)
    else if length digits == 16 then option_map Eight (written 16 (2 ^ 64 - 1) digits)
    else None

-- a bit pattern: 0x and its digits
unfoldable pub bits_of : List ℕ → Option Bits
bits_of [] = None
bits_of (a ∷ []) = None
bits_of (a ∷ x ∷ digits) = if (a == digit_zero) && (x == letter_x) then bits_from digits else None

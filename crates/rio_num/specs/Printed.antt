-- Names and strings as they are printed.
use Rattle.std.specs.{Prelude.{ℕ, ◌+◌, ◌/◌, ◌%◌, List, [], ◌∷◌, ◌++◌, Bool, codes, length, nat_lt, nat_le, ◌==◌, ◌&&◌, not, if◌then◌else◌}, Fmt.{decimal}}
use Rattle.std.specs.List.{flat_map, list_all}

-- 0 to 9 and a to f
abbrev pub hex_digit : ℕ → ℕ
hex_digit n = if nat_lt n 10 then 48 + n else 87 + n

-- two digits for each byte, the one of its upper half first
unfoldable pub hex_text : List ℕ → List ℕ
hex_text bytes = flat_map (λ b. hex_digit (b / 16) ∷ hex_digit (b % 16) ∷ []) bytes

-- a byte within a string
abbrev pub escaped : ℕ → List ℕ
escaped b =
    if b == 34 then 92 ∷ 34 ∷ []
    else if b == 92 then 92 ∷ 92 ∷ []
    else if b == 10 then 92 ∷ 110 ∷ []
    else if b == 9 then 92 ∷ 116 ∷ []
    else if nat_le 32 b && nat_le b 126 then b ∷ []
    else 92 ∷ 120 ∷ hex_digit (b / 16) ∷ hex_digit (b % 16) ∷ []

-- in double quotes
unfoldable pub string_text : List ℕ → List ℕ
string_text text = 34 ∷ (flat_map escaped text ++ 34 ∷ [])

-- a byte that a name may have without quotes: 0x21 to 0x7E, but no double quote and no semicolon
abbrev pub is_bare : ℕ → Bool
is_bare b = nat_le 33 b && nat_le b 126 && not (b == 34) && not (b == 59)

abbrev pub is_bare_name : List ℕ → Bool
is_bare_name name = not (length name == 0) && list_all is_bare name

-- a name of a file: as it is where that can be told apart, and else as a string
unfoldable pub name_text : List ℕ → List ℕ
name_text name = if is_bare_name name then name else string_text name

-- a blank and a number
abbrev pub numbered : ℕ → List ℕ
numbered n = codes " " ++ decimal n

-- NAME;CYCLE
abbrev pub item_text : List ℕ → ℕ → List ℕ
item_text name cycle = name_text name ++ codes ";" ++ decimal cycle

-- a word and a number after it
abbrev pub with_number : List ℕ → ℕ → List ℕ
with_number text n = text ++ numbered n

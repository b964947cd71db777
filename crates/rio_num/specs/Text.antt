-- Texts as they stand in bytes: a length, and the text's own bytes.
use Rattle.std.specs.Prelude.{◌≡◌, ◌⊎◌, ℕ, ◌^◌, ◌<◌, List, ◌∷◌, ◌++◌, length, nat_lt, if◌then◌else◌}
use Rattle.byteorder.specs.Endian.{big_bytes}

-- one byte of length, below 255, before the text
abbrev pub short_form : List ℕ → List ℕ
short_form text = length text ∷ text

-- the byte 255 and four bytes of length before the text
abbrev pub long_form : List ℕ → List ℕ
long_form text = 255 ∷ (big_bytes 4 (length text) ++ text)

-- bytes that spell the text: the long form may have any length
abbrev pub SpellsText : List ℕ → List ℕ → Type 0
SpellsText text bytes = ((length text < 255) × (bytes ≡ short_form text)) ⊎ ((length text < 2 ^ 32) × (bytes ≡ long_form text))

-- the bytes that are written: the short form wherever it can be
abbrev pub text_bytes : List ℕ → List ℕ
text_bytes text = if nat_lt (length text) 255 then short_form text else long_form text

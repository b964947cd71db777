-- Bytes, and how many more are promised to fit without memory.
use Rattle.std.specs.{Prelude.{◌≡◌, ℕ, ◌-◌, ◌<◌, List, ◌++◌, Bool, length, nat_lt, replicate, Result, Ok, Err, ◌&&◌, ◌==◌}, List.{list_all}}
use Rattle.rio_num.specs.{Padding.{zeros_behind}, declared.no_memory.NoMemory.{NoMemory}}

pub record Room : Type 0 where
  pub bytes : List ℕ
  pub spare : ℕ

-- bytes with nothing spare
abbrev pub room_of : List ℕ → Room
room_of bytes = record { bytes = bytes; spare = 0 }

-- old with more at its end, which takes from the spare bytes what it fills
abbrev pub with_more : Room → List ℕ → Room
with_more old more = record { bytes = old.bytes ++ more; spare = old.spare - length more }

-- More stands at the end, or memory ran out: more is then longer than what is spare, and nothing changed.
abbrev pub Appends : Room → Room → List ℕ → Result (Unit {0}) NoMemory → Type 0
Appends old new more (Ok x) = new ≡ with_more old more
Appends old new more (Err e) = (new ≡ old) × (old.spare < length more)

-- zero bytes up to a length that is a multiple of four
abbrev pub padding : List ℕ → List ℕ
padding bytes = replicate (zeros_behind (length bytes)) 0

-- at most three zero bytes: what may stand behind data, up to such a length
abbrev pub is_padding : List ℕ → Bool
is_padding bytes = nat_lt (length bytes) 4 && list_all (λ b. b == 0) bytes

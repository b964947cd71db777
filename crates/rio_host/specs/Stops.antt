-- One image that a stop leaves, by a choice for each write in flight.
use Rattle.std.specs.Prelude.{◌≡◌, ℕ, ◌-◌, List, [], ◌∷◌, ◌++◌, length, take, replicate}
use Rattle.byteorder.specs.Endian.{big_bytes}
use Rattle.rio_host.specs.declared.change.Change.{Change, TheVariants.{Range, Whole}}
use Rattle.rio_host.specs.{declared.change.Remains.{Remains, TheVariants.{Nothing, All, Front, Filled}}, declared.disk.Disk.{Disk}, Replay.{put_at}}

-- the file with these bytes at any place, and zero bytes between where it ends before
abbrev pub patched : List ℕ → ℕ → List ℕ → List ℕ
patched file place bytes = put_at (file ++ replicate (place - length file) 0) place bytes

-- the file with what remains of a write in flight
abbrev pub left_by : Remains → Change → List ℕ → List ℕ
left_by Nothing change file = file
left_by All (Range place bytes) file = patched file place bytes
left_by All (Whole place word) file = patched file place (big_bytes 4 word)
left_by (Front n) (Range place bytes) file = patched file place (take n bytes)
left_by (Front n) (Whole place word) file = file
left_by (Filled byte) (Range place bytes) file = patched file place (replicate (length bytes) byte)
left_by (Filled byte) (Whole place word) file = file

-- the same of these writes, one after the other; nothing remains of one without a choice
abbrev pub left_image : List ℕ → List Change → List Remains → List ℕ
left_image base [] remains = base
left_image base (change ∷ changes) [] = base
left_image base (change ∷ changes) (remains ∷ others) = left_image (left_by remains change base) changes others

-- what was said, and so many bytes of what is being said
abbrev pub left_text : Disk → ℕ → List ℕ
left_text d front = d.text ++ take front d.speaking

-- these are the file and the text that are left so
abbrev pub IsLeft : Disk → List Remains → ℕ → List ℕ → List ℕ → Type 0
IsLeft d remains front image said = (image ≡ left_image d.base d.flight remains) × (said ≡ left_text d front)

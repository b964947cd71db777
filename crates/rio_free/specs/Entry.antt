-- An entry of the free record, read behind the entries before it.
use Rattle.std.specs.Prelude.{◌&&◌, Bool, true, Option, None, Some, ℕ, nat_le, nat_lt}
use Rattle.rio_num.specs.{Layout.{Layout, done, here, met, must, note, number, ◌>>=◌}, At.{place_len_of}}
use Rattle.rio_free.specs.{declared.entry.FreeEntry.{FreeEntry}, declared.fault.FreeFault.{FreeFault, TheVariants.{BadOrder, Short}}}

-- a place is above the last byte of the entry before, if there is one
abbrev pub is_above : Option ℕ → ℕ → Bool
is_above None place = true
is_above (Some last) place = nat_lt last place

-- A version, and the first and the last free byte. What was met is the last byte of the entry before, if there is one. An
-- entry begins above that byte, and its last byte isn't below its first.
unfoldable pub next_entry : Layout (Option ℕ) FreeFault FreeEntry
next_entry = do
  place ← here
  version ← number Short 2
  first ← number Short (place_len_of version)
  last ← number Short (place_len_of version)
  before ← met
  _ ← must (is_above before first && nat_le first last) (BadOrder place)
  _ ← note (Some last)
  done (record { first = first; last = last })

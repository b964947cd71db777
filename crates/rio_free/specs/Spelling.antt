-- The data of a free record as a grammar: which bytes are which entries, and how bytes break.
use Rattle.std.specs.Prelude.{◌≡◌, ℕ, ◌+◌, ◌-◌, ◌^◌, ◌<◌, ◌≤◌, true, false, List, [], ◌∷◌, ◌++◌, length, Option, Some}
use Rattle.rio_num.specs.{Meanings.{Breaks}, Room.{is_padding}, At.{place_len_of}}
use Rattle.rio_free.specs.{declared.entry.FreeEntry.{FreeEntry}, declared.fault.FreeFault.{FreeFault}, Entry.{is_above, next_entry}}
use Rattle.rio_free.specs.Record.{entry_bytes}

-- The bytes begin with the entry, in some version, and the rest is behind it. It begins above the last byte of the entry
-- before, and doesn't end before it begins.
pub record HasEntry (before : Option ℕ) (e : FreeEntry) (bytes rest : List ℕ) : Type 0 where
  pub version : ℕ
  pub version_fits : version < 2 ^ 16
  pub first_fits : e.first < 256 ^ place_len_of version
  pub last_fits : e.last < 256 ^ place_len_of version
  pub parts : bytes ≡ entry_bytes version e ++ rest
  pub above : is_above before e.first ≡ true
  pub in_order : e.first ≤ e.last

-- the bytes are these entries, one behind the other, and the end of the list
abbrev pub SpellsEntries : Option ℕ → List FreeEntry → List ℕ → Type 0
SpellsEntries before [] bytes = is_padding bytes ≡ true
SpellsEntries before (e ∷ entries) bytes =
    (rest : List ℕ) × HasEntry before e bytes rest × SpellsEntries (Some e.last) entries rest

-- The bytes, the first of which has the place, begin with these entries, and what is behind them is no end of the list
-- and breaks the next entry with this fault.
abbrev pub BreaksEntries : Option ℕ → ℕ → FreeFault → List FreeEntry → List ℕ → Type 0
BreaksEntries before place fault [] bytes =
    (is_padding bytes ≡ false) × Breaks next_entry place before bytes fault
BreaksEntries before place fault (e ∷ entries) bytes =
    (rest : List ℕ)
    × HasEntry before e bytes rest
    × BreaksEntries (Some e.last) (place + (length bytes - length rest)) fault entries rest

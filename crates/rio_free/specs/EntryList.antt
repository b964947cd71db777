-- The data of a free record, read: its entries up to the end of the list, and the gaps that they give.
use Rattle.std.specs.Prelude.{◌≡◌, ◌<◌, ◌≤◌, ℕ, zero, suc, ◌+◌, ◌-◌, ◌^◌, true, List, [], ◌∷◌, length, take, Option, None, Some, Result, Ok, Err, if◌then◌else◌}
use Rattle.rio_num.specs.{At.{At}, Meanings.{Standing, read, stand}, Reading.{◌>>=◌}, Room.{is_padding}}
use Rattle.rio_free.specs.{declared.entry.FreeEntry.{FreeEntry}, declared.fault.FreeFault.{FreeFault}, declared.gap.Gap.{Gap}, Entry.{is_above, next_entry}}
use Rattle.rio_free.specs.Gaps.{gap_of, joined}

-- ---- the entries

-- the entries up to the end of the list, at most so many
unfoldable pub free_entries_at : ℕ → Standing (Option ℕ) → Result (List FreeEntry) FreeFault
free_entries_at zero s = Ok []
free_entries_at (suc n) s = if is_padding s.at.rest then Ok [] else (do
  entry ← read next_entry s
  entries ← free_entries_at n entry.1
  Ok (entry.0 ∷ entries))

-- the entries of the data, or the first fault: each takes some bytes, so there are no more than bytes
abbrev pub free_entries_in : List ℕ → Result (List FreeEntry) FreeFault
free_entries_in bytes = free_entries_at (length bytes) (stand 0 bytes None)

-- ---- the gaps

-- each entry begins above the last byte of the one before and doesn't end before it begins, and its places fit 64 bits
abbrev pub AreEntriesAbove : Option ℕ → List FreeEntry → Type 0
AreEntriesAbove before [] = Unit {0}
AreEntriesAbove before (e ∷ entries) =
    (is_above before e.first ≡ true) × (e.first ≤ e.last) × (e.last < 2 ^ 64) × AreEntriesAbove (Some e.last) entries

-- the gap of an entry
abbrev pub gap_of_entry : FreeEntry → Gap
gap_of_entry e = gap_of e.first (e.last - e.first + 1)

-- the gaps of entries, those that touch as one
abbrev pub gaps_of : List FreeEntry → List Gap
gaps_of [] = []
gaps_of (e ∷ entries) = joined (gap_of_entry e) (gaps_of entries)

-- all entries but the last one, which is what is behind the end of the file
abbrev pub inner_entries : List FreeEntry → List FreeEntry
inner_entries entries = take (length entries - 1) entries

-- the gaps that the data of a free record give, or the first fault
unfoldable pub free_gaps_in : List ℕ → Result (List Gap) FreeFault
free_gaps_in bytes = do
  entries ← free_entries_in bytes
  Ok (gaps_of (inner_entries entries))

-- ---- answers

-- what a reader did that stood at old: it took the entry that reading gives there and stands behind it, at new, or it gives
-- that fault
abbrev pub TakesEntry : Result FreeEntry FreeFault → Standing (Option ℕ) → At → Type 0
TakesEntry (Ok e) old new = read next_entry old ≡ Ok (e, record { at = new; words = Some e.last })
TakesEntry (Err f) old new = read next_entry old ≡ Err f

-- The data of the free record: its entries, one behind the other.
use Rattle.std.specs.{Prelude.{ℕ, ◌-◌, List, ◌++◌}, List.{flat_map}}
use Rattle.byteorder.specs.Endian.{big_bytes}
use Rattle.rio_num.specs.At.{place_len_of}
use Rattle.rio_free.specs.{declared.gap.Gap.{Gap}, declared.entry.FreeEntry.{FreeEntry}, Gaps.{gap_end}}

-- the bytes of an entry in a version
abbrev pub entry_bytes : ℕ → FreeEntry → List ℕ
entry_bytes version e = big_bytes 2 version ++ (big_bytes (place_len_of version) e.first ++ big_bytes (place_len_of version) e.last)

-- the entry of a gap
abbrev pub entry_of : Gap → FreeEntry
entry_of g = record { first = g.place; last = gap_end g - 1 }

-- the entry of all that is behind the end of the file
abbrev pub end_entry : ℕ → FreeEntry
end_entry end = record { first = end; last = 2000000000 }

-- what is written: the entries of the gaps, in version 1, and that of what is behind the end
abbrev pub gaps_bytes : List Gap → List ℕ
gaps_bytes gaps = flat_map (λ g. entry_bytes 1 (entry_of g)) gaps

abbrev pub free_bytes : List Gap → ℕ → List ℕ
free_bytes gaps end = gaps_bytes gaps ++ entry_bytes 1 (end_entry end)

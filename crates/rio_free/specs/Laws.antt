-- What holds of the data of every free record.
use Rattle.std.specs.{Prelude.{◌≡◌, ℕ, ◌<◌, ◌≤◌, None, List, [], ◌∷◌, ◌++◌, map, replicate, Ok, Err}, List.{All}}
use Rattle.rio_num.specs.At.{AreBytes}
use Rattle.rio_free.specs.{declared.entry.FreeEntry.{FreeEntry}, declared.fault.FreeFault.{FreeFault}, declared.gap.Gap.{Gap}}
use Rattle.rio_free.specs.{EntryList.{free_entries_in, free_gaps_in}, Gaps.{AreGaps, gap_end}, Record.{end_entry, entry_of, free_bytes}}
use Rattle.rio_free.specs.Spelling.{BreaksEntries, SpellsEntries}

-- reading, spelling and first faults are one
pub record EntriesAgree (bytes : List ℕ) : Type 0 where
  -- what is spelled is read
  pub spelled_is_read : (entries : List FreeEntry) → SpellsEntries None entries bytes → free_entries_in bytes ≡ Ok entries
  -- where bytes break with a fault, reading gives it
  pub broken_is_fault : (fault : FreeFault) (entries : List FreeEntry)
      → BreaksEntries None 0 fault entries bytes → free_entries_in bytes ≡ Err fault
  -- what is read is spelled
  pub read_is_spelled : (entries : List FreeEntry)
      → AreBytes bytes → free_entries_in bytes ≡ Ok entries → SpellsEntries None entries bytes
  -- where reading gives a fault, the bytes break with it
  pub fault_is_broken : (fault : FreeFault) → AreBytes bytes → free_entries_in bytes ≡ Err fault
      → (entries : List FreeEntry) × BreaksEntries None 0 fault entries bytes

-- The data that are written for gaps within a file that ends at 2,000,000,000 at most, and up to three zero bytes.
pub record IsWrittenFree (gaps : List Gap) (end zeros : ℕ) : Type 0 where
  pub sorted : AreGaps gaps
  pub within : All (λ g. gap_end g ≤ end) gaps
  pub end_within : end ≤ 2000000000
  pub few : zeros < 4

-- the written data are read as an entry for each gap and one from the end on
abbrev pub WrittenIsEntries : Type 0
WrittenIsEntries = (gaps : List Gap) (end zeros : ℕ) → IsWrittenFree gaps end zeros
    → free_entries_in (free_bytes gaps end ++ replicate zeros 0) ≡ Ok (map entry_of gaps ++ end_entry end ∷ [])

-- the written data are read as the gaps
abbrev pub WrittenIsGaps : Type 0
WrittenIsGaps = (gaps : List Gap) (end zeros : ℕ) → IsWrittenFree gaps end zeros
    → free_gaps_in (free_bytes gaps end ++ replicate zeros 0) ≡ Ok gaps

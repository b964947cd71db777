-- A host in memory, and which of its calls fail.
use Rattle.std.specs.Prelude.{◌≡◌, ◌⊎◌, ℕ, List, [], ◌∷◌, ◌++◌}
use Rattle.rio_host.specs.{Host.{View}, Failing.{Tally, RanShort}, Memory.{mem_view}, Replay.{Memory}, declared.memory.MemHost.{MemHost}}

abbrev pub memory_of : MemHost → Memory
memory_of h = h.recording

abbrev pub view_of : MemHost → View
view_of h = mem_view h.recording h.disk_faults h.say_faults h.reads

abbrev pub tally_of : MemHost → Tally
tally_of h = record { made = h.made; failing = h.failing; shortages = h.shortages }

-- the numbers of the calls that were writes or words
abbrev pub write_numbers_of : MemHost → List ℕ
write_numbers_of h = h.writes

-- a write's number was noted, unless memory ran out
abbrev pub NotesWrite : MemHost → MemHost → Type 0
NotesWrite old new = (write_numbers_of new ≡ write_numbers_of old ++ old.made ∷ [])
    ⊎ ((write_numbers_of new ≡ write_numbers_of old) × RanShort (tally_of old) (tally_of new))

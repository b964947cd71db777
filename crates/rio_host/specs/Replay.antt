-- The calls of a host in memory, done again: what the disk holds, and what a stop may leave of it.
use Rattle.std.specs.Prelude.{◌≡◌, ℕ, ◌+◌, ◌≤◌, nat_le, if◌then◌else◌, List, [], ◌∷◌, ◌++◌, length, take, drop}
use Rattle.byteorder.specs.Endian.{big_bytes}
use Rattle.rio_host.specs.{Image.{Torn, Put, PutOrNot}, declared.change.Change.{Change, TheVariants.{Range, Whole}}, declared.disk.Disk.{Disk}}
use Rattle.rio_host.specs.declared.call.Call.{Call, TheVariants.{Write, FailedWrite, Sync, Saying, Said}}

-- a stop may leave the first file as the second, by a write in flight
abbrev pub Makes : Change → List ℕ → List ℕ → Type 0
Makes (Range place bytes) = Torn place (length bytes)
Makes (Whole place word) = PutOrNot place (big_bytes 4 word)

-- where it writes
abbrev pub change_start : Change → ℕ
change_start (Range place bytes) = place
change_start (Whole place word) = place

-- the second file is the first with all of it
abbrev pub ChangeDone : Change → List ℕ → List ℕ → Type 0
ChangeDone (Range place bytes) = Put place bytes
ChangeDone (Whole place word) = Put place (big_bytes 4 word)

-- an image that these changes may make of the base, the first of them first
abbrev pub Flown : List ℕ → List Change → List ℕ → Type 0
Flown base [] image = image ≡ base
Flown base (change ∷ changes) image = (next : List ℕ) × Makes change base next × Flown next changes image

-- the file with these bytes at this place, which is within it or at its end
abbrev pub spliced : List ℕ → ℕ → List ℕ → List ℕ
spliced file place bytes = take place file ++ (bytes ++ drop (place + length bytes) file)

-- the same, and nothing is put where the file ends before
abbrev pub put_at : List ℕ → ℕ → List ℕ → List ℕ
put_at file place bytes = if nat_le place (length file) then spliced file place bytes else file

-- the file with the bytes of this write
abbrev pub put_by : Change → List ℕ → List ℕ
put_by (Range place bytes) file = put_at file place bytes
put_by (Whole place word) file = put_at file place (big_bytes 4 word)

abbrev pub at_first : List ℕ → Disk
at_first first = record { base = first; flight = []; contents = first; text = []; speaking = [] }

abbrev pub disk_behind : Disk → Call → Disk
disk_behind d (Write change) = record d { flight = d.flight ++ change ∷ []; contents = put_by change d.contents }
disk_behind d (FailedWrite change) = record d { flight = d.flight ++ change ∷ [] }
disk_behind d Sync = record d { base = d.contents; flight = [] }
disk_behind d (Saying bytes) = record d { speaking = bytes }
disk_behind d Said = record d { text = d.text ++ d.speaking; speaking = [] }

abbrev pub replay : Disk → List Call → Disk
replay d [] = d
replay d (call ∷ calls) = replay (disk_behind d call) calls

-- what a stop leaves of a disk: its writes in flight done anyhow, and a front of what is being said
abbrev pub MayLeave : Disk → List ℕ → List ℕ → Type 0
MayLeave d image said = Flown d.base d.flight image × ((k : ℕ) × (said ≡ d.text ++ take k d.speaking))

-- what a host in memory remembers: the first image, and the calls since then
pub record Memory : Type 0 where
  pub first : List ℕ
  pub calls : List Call

abbrev pub and_then : Memory → Call → Memory
and_then m call = record m { calls = m.calls ++ call ∷ [] }

abbrev pub disk_of : Memory → Disk
disk_of m = replay (at_first m.first) m.calls

-- the disk after the first k calls
abbrev pub disk_after : ℕ → Memory → Disk
disk_after k m = replay (at_first m.first) (take k m.calls)

-- a stop after k calls, at least t of them, may leave this
abbrev pub LeftSince : Memory → ℕ → List ℕ → List ℕ → Type 0
LeftSince m t image said = (k : ℕ) × (t ≤ k) × (k ≤ length m.calls) × MayLeave (disk_after k m) image said

-- nothing is being said
abbrev pub IsStill : Memory → Type 0
IsStill m = (disk_of m).speaking ≡ []

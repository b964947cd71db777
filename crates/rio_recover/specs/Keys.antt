-- Records by their keys.
use Rattle.std.specs.{Prelude.{◌≡◌, ℕ, ◌+◌, ◌^◌, ◌<◌, ◌≤◌, List, [], ◌∷◌, length, map, pos}, Int.{w32, cast_unsigned}, List.{All}}
use Rattle.rio_host.specs.{Host.{View}, Image.{Has}}
use Rattle.rio_chain.specs.Walks.{Told}
use Rattle.rio_key.specs.declared.head.KeyHead.{KeyHead}
use Rattle.rio_state.specs.KeyedRecords.{KeyedRecord}

-- a record of this key, whose bytes aren't looked at
abbrev pub keyed : KeyHead → KeyedRecord
keyed head = record { head = head; bytes = [] }

abbrev pub keyed_by : List KeyHead → List KeyedRecord
keyed_by heads = map keyed heads

-- the keys of some records
abbrev pub record_heads : List KeyedRecord → List KeyHead
record_heads records = map (λ r. r.head) records

-- the place behind the record of a key
abbrev pub record_end : KeyHead → ℕ
record_end head = head.seek + cast_unsigned w32 head.nbytes

-- the records begin one behind the other, from this place on
abbrev pub HeadsRise : ℕ → List KeyHead → Type 0
HeadsRise p [] = Unit {0}
HeadsRise p (h ∷ heads) = (p ≤ h.seek) × HeadsRise (h.seek + 1) heads

abbrev pub AreInPlace : List KeyHead → Type 0
AreInPlace heads = HeadsRise 0 heads

-- the record stands where its key says, and is as long
pub record StandsIn (file : List ℕ) (r : KeyedRecord) : Type 0 where
  pub there : Has file r.head.seek r.bytes
  pub nbytes : r.head.nbytes ≡ pos (length r.bytes)
  pub small : length r.bytes < 2 ^ 31
  pub within : r.head.seek + length r.bytes ≤ length file

-- where the host tells its bytes, the records of these keys are within them
abbrev pub AreWithin : View → List KeyHead → Type 0
AreWithin v heads = Told v (λ file. All (λ head. record_end head ≤ length file) heads)

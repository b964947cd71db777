-- What a call that reads a file answers, of the file that its host tells.
use Rattle.std.specs.Prelude.{◌≡◌, ◌⊎◌, ℕ, ◌+◌, ◌<◌, ◌≤◌, ◌^◌, List, length, take, drop, Option, Some, None, Result, Ok, Err}
use Rattle.byteorder.specs.Endian.{big_number}
use Rattle.rio_num.specs.{Reading.{◌>>=◌}, At.{At}}
use Rattle.rio_key.specs.{declared.head.KeyHead.{KeyHead}, Key.{key_at}}
use Rattle.rio_head.specs.{declared.fault.FileFault.TheVariants.{BadKeyList}, declared.fault.HeadFault.{HeadFault}, Head.{fault_at}}
use Rattle.rio_dir.specs.Closed.{heads_of, or_fault}
use Rattle.rio_host.specs.Host.{View}
use Rattle.rio_close.specs.declared.fault.ReportFault.{ReportFault, TheVariants.{BadFile, NoMemory, HostFault, SayFault}}

-- the answer is what the bytes give, unless memory ran out or the host failed
abbrev pub Opens : {X : Type 0} → Result X ReportFault → Result X HeadFault → Type 0
Opens (Ok x) read = read ≡ Ok x
Opens (Err (BadFile place kind)) read = read ≡ Err (fault_at place kind)
Opens (Err NoMemory) read = Unit {0}
Opens (Err HostFault) read = Unit {0}
Opens (Err SayFault) read = Unit {0}

-- the same, of the file that the host told before the call
abbrev pub OpensTold : {X : Type 0} → View → Result X ReportFault → (List ℕ → Result X HeadFault) → Type 0
OpensTold old result read = (file : List ℕ) → old.holds ≡ Some file → Opens result (read file)

-- what is read of the record that is all of these bytes, the first of which stands at a place
abbrev pub record_in : {A : Type 0} → HeadFault → (KeyHead → At → Result A HeadFault) → ℕ → List ℕ → Result A HeadFault
record_in fault read place bytes = do
  key ← or_fault fault (key_at (record { place = place; rest = bytes }))
  read key (record { place = place + key.keylen; rest = drop key.keylen bytes })

-- the heads of the key list that is such a record
unfoldable pub listed_in : ℕ → List ℕ → Result (List KeyHead) HeadFault
listed_in place bytes = record_in (fault_at place BadKeyList) (heads_of place) place bytes

-- The record that begins the bytes, as far as they go: none where its length isn't whole or is negative.
abbrev pub IsRecordAt : List ℕ → Option (List ℕ) → Type 0
IsRecordAt bytes None = (length bytes < 4) ⊎ ((2 ^ 31 ≤ big_number 4 bytes) × (big_number 4 bytes < 2 ^ 32))
IsRecordAt bytes (Some found) = (4 ≤ length bytes) × (big_number 4 bytes < 2 ^ 31) × (found ≡ take (big_number 4 bytes) bytes)

-- What is read of a file at a place, and why a call that reads it fails.
use Rattle.std.specs.Prelude.{◌≡◌, ℕ, ◌+◌, ◌<◌, List, length, Option, Some, None, Result, Ok, Err}
use Rattle.byteorder.specs.Endian.{big_number}
use Rattle.rio_host.specs.{Host.{View, Rose}, Image.{Has}, declared.reading.ReadFault.{ReadFault, TheVariants.{NoMemory, HostFault}}}

-- it holds of the file, where the host tells its contents
abbrev pub Told : View → (List ℕ → Type 0) → Type 0
Told v P = (file : List ℕ) → v.holds ≡ Some file → P file

-- the four bytes at this place give this number
pub record HasWord (file : List ℕ) (place word : ℕ) : Type 0 where
  pub bytes : List ℕ
  pub four : length bytes ≡ 4
  pub there : Has file place bytes
  pub number : big_number 4 bytes ≡ word

-- the word at a place, or none where the file ends before
abbrev pub FindsWord : ℕ → Option ℕ → List ℕ → Type 0
FindsWord place (Some word) file = HasWord file place word
FindsWord place None file = length file < place + 4

-- A call that reads: the count of faults rises where a call of the host failed, and only there.
abbrev pub IsReadCause : {X : Type 0} → View → View → Result X ReadFault → Type 0
IsReadCause old new (Ok x) = new.disk_faults ≡ old.disk_faults
IsReadCause old new (Err NoMemory) = new.disk_faults ≡ old.disk_faults
IsReadCause old new (Err HostFault) = Rose old.disk_faults new.disk_faults

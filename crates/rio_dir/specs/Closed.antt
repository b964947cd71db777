-- A file by its header, directory record and key list, or its first fault.
use Rattle.std.specs.{Prelude.{ℕ, ◌+◌, ◌==◌, List, [], length, take, drop, Option, Some, None, Result, Ok, Err, nat_lt, if◌then◌else◌}, Option.{unwrap_or}}
use Rattle.std.specs.Int.{w32, cast_unsigned}
use Rattle.rio_num.specs.{At.{At}, Reading.{◌>>=◌}}
use Rattle.rio_key.specs.{declared.head.KeyHead.{KeyHead}, declared.fault.ListFault.{ListFault}, Key.{key_at}, KeyList.{key_list_at}}
use Rattle.rio_head.specs.{declared.head.FileHead.{FileHead}, declared.dir.DirRecord.{DirRecord}}
use Rattle.rio_head.specs.{declared.fault.FileFault.TheVariants.{NotClosed, BadDir, BadKeyList}, declared.fault.HeadFault.{HeadFault}, Head.{fault_at, head_at}}
use Rattle.rio_head.specs.Dir.{dir_at}
use Rattle.rio_dir.specs.declared.closed.Closed.{Closed}

-- reading at a place of a file
abbrev pub file_at : List ℕ → ℕ → At
file_at file place = record { place = place; rest = drop place file }

-- the place of the directory record: behind the first record's key, name and title
abbrev pub dir_place : FileHead → ℕ
dir_place head = 100 + head.nbytes_name

-- the header, whose END is within the file
unfoldable pub closed_head : List ℕ → Result FileHead HeadFault
closed_head file = do
  head ← head_at file
  if nat_lt (length file) head.end then Err (fault_at 12 NotClosed) else Ok head

-- what has no reading is this fault
abbrev pub or_fault : {A E : Type 0} → HeadFault → Result A E → Result A HeadFault
or_fault fault (Ok x) = Ok x
or_fault fault (Err e) = Err fault

-- the directory record, whole in the file
abbrev pub closed_dir : List ℕ → ℕ → Result DirRecord HeadFault
closed_dir file place = or_fault (fault_at place BadDir) (dir_at (file_at file place))

-- The data of the record at a place: from KeyLen on, and up to Nbytes or the end of the file.
abbrev pub data_at : List ℕ → ℕ → KeyHead → At
data_at file place key = record { place = place + key.keylen; rest = drop key.keylen (take (cast_unsigned w32 key.nbytes) (drop place file)) }

-- What is read of the record at a place: its key, or this fault, and then its data.
abbrev pub record_at : {A : Type 0} → HeadFault → (KeyHead → At → Result A HeadFault) → List ℕ → ℕ → Result A HeadFault
record_at fault read file place = do
  key ← or_fault fault (key_at (file_at file place))
  read key (data_at file place key)

-- a list that is unreadable: at its head's place, and at the place of the list's key for the count
abbrev pub or_bad_list : {A : Type 0} → ℕ → Result (List KeyHead × A) ListFault → Result (List KeyHead) HeadFault
or_bad_list place (Ok x) = Ok x.0
or_bad_list place (Err e) = Err (fault_at (unwrap_or e.head place) BadKeyList)

-- the heads in the data of the key list whose key stands at a place
abbrev pub heads_of : ℕ → KeyHead → At → Result (List KeyHead) HeadFault
heads_of place key contents = or_bad_list place (key_list_at contents)

-- the heads of the key list at a place
unfoldable pub listed_at : List ℕ → ℕ → Result (List KeyHead) HeadFault
listed_at file place = record_at (fault_at place BadKeyList) (heads_of place) file place

-- place 0 stands for no key list
abbrev pub closed_keys : List ℕ → ℕ → Result (List KeyHead) HeadFault
closed_keys file place = if place == 0 then Ok [] else listed_at file place

-- the file, or the first rule that it breaks and the place where
unfoldable pub closed_file : List ℕ → Result Closed HeadFault
closed_file file = do
  head ← closed_head file
  dir ← closed_dir file (dir_place head)
  keys ← closed_keys file dir.seek_keys
  Ok (record { head = head; dir = dir; keys = keys })

-- the fault, if there is one
abbrev pub fault_of : {A : Type 0} → Result A HeadFault → Option HeadFault
fault_of (Ok x) = None
fault_of (Err e) = Some e

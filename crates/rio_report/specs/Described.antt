-- The classes that a file describes.
use Rattle.std.specs.Prelude.{ℕ, ◌==◌, List, [], Result, Ok, Err, if◌then◌else◌}
use Rattle.rio_num.specs.{At.{At}, Reading.{◌>>=◌}}
use Rattle.rio_format.specs.{declared.class.ClassDef.{ClassDef}, ClassList.{class_list_at}}
use Rattle.rio_key.specs.{declared.head.KeyHead.{KeyHead}, Key.{is_compressed}}
use Rattle.rio_head.specs.{declared.fault.FileFault.TheVariants.{BadInfo, Compressed}, declared.fault.HeadFault.{HeadFault}, Head.{fault_at}}
use Rattle.rio_report.specs.declared.described.Described.{Described}
use Rattle.rio_dir.specs.Closed.{closed_file, or_fault, record_at}
use Rattle.rio_close.specs.Opens.{record_in}

-- The classes in the data of the class list whose key stands at a place: a compressed one isn't read. Places in the data count
-- from the key's first byte.
abbrev pub classes_in : ℕ → KeyHead → At → Result (List ClassDef) HeadFault
classes_in place key contents =
    if is_compressed key then Err (fault_at place Compressed)
    else or_fault (fault_at place BadInfo) (class_list_at key.keylen contents.rest)

-- the class list at a place
unfoldable pub info_at : List ℕ → ℕ → Result (List ClassDef) HeadFault
info_at file place = record_at (fault_at place BadInfo) (classes_in place) file place

-- place 0 stands for no class list
abbrev pub described_at : List ℕ → ℕ → Result (List ClassDef) HeadFault
described_at file place = if place == 0 then Ok [] else info_at file place

-- the file and the classes that it describes, or the first rule that it breaks and the place where
unfoldable pub described_file : List ℕ → Result Described HeadFault
described_file file = do
  closed ← closed_file file
  classes ← described_at file closed.head.seek_info
  Ok (record { closed = closed; classes = classes })

-- the classes of the list that is the record of all of these bytes, the first of which stands at a place
unfoldable pub info_in : ℕ → List ℕ → Result (List ClassDef) HeadFault
info_in place bytes = record_in (fault_at place BadInfo) (classes_in place) place bytes

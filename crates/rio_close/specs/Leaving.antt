-- What a close makes of a file, and what a stop leaves of it meanwhile.
use Rattle.std.specs.Prelude.{◌≡◌, ◌⊎◌, ◌<◌, ◌≤◌, ℕ, ◌+◌, List, ◌∷◌, length, Some, Ok, slice_get}
use Rattle.byteorder.specs.Endian.{big_bytes}
use Rattle.rio_dir.specs.Listing.{key_lines, listed_file}
use Rattle.rio_host.specs.{Host.{View}, Image.{Has}}
use Rattle.rio_chain.specs.{Chains.{HasChain}, Changes.{with_record}, Placing.{file_end}, Segments.{Link, RecordAt}, Stops.{IsSaidText}}
use Rattle.rio_chain.specs.declared.segment.Segment.{Segment}
use Rattle.rio_machine.specs.State.{State}
use Rattle.rio_state.specs.{DirectoryKeys.{AreKeysOf}, KeyedRecords.{first_place, info_key, keyed_records}, Left.{HasOpenHead, IsLeftAs, info_head}}
use Rattle.rio_state.specs.Reads.{AreRecordsOf, ReadsAsState, ReadsClosed}
use Rattle.rio_close.specs.{Written.{AreCloseRecords, OpenFile, free_place, list_place, record_size, with_both}, declared.parts.CloseRecords.{CloseRecords}}

-- The host holds an open file that reads as the state by the walk, and this is kept beside it.
pub record HoldsOpen (v : View) (f : OpenFile) (m : State) : Type 0 where
  pub file : List ℕ
  pub holds : v.holds ≡ Some file
  pub links : List Link
  pub chain : HasChain links f.segments file
  pub head : HasOpenHead file f.nbytes_name
  pub records : AreRecordsOf (keyed_records links) m
  pub keys : AreKeysOf (keyed_records links) f.heads
  pub info : f.info ≡ info_head (info_key (keyed_records links))

-- and these are the records of its close
pub record IsReadyToClose (v : View) (segments : List Segment) (records : CloseRecords) (f : OpenFile) (m : State) : Type 0 where
  pub held : HoldsOpen v f m
  pub same : f.segments ≡ segments
  pub made : AreCloseRecords f records

-- an image that reads as the state, with the text of before
pub record StaysAs (v : View) (m : State) (image said : List ℕ) : Type 0 where
  pub left : IsLeftAs m image
  pub text : IsSaidText v said

-- the host holds a closed file that reads as the state, by the walk and by its key list
pub record HoldsClosed (v : View) (m : State) : Type 0 where
  pub file : List ℕ
  pub holds : v.holds ≡ Some file
  pub reads : ReadsAsState file m
  pub closed : ReadsClosed file m

-- a byte of the header that a close doesn't write
abbrev pub IsKeptByte : ℕ → Type 0
IsKeptByte i = (i < 12) ⊎ ((28 ≤ i) × (i < 37)) ⊎ ((45 ≤ i) × (i < 100))

-- a byte of the first record that a close doesn't write: outside the fields of the directory record
abbrev pub IsKeptInFirst : ℕ → ℕ → Type 0
IsKeptInFirst nbytes_name i = (i < nbytes_name + 6) ⊎ (nbytes_name + 30 ≤ i)

-- A file that is closed with these records: the fields of header and directory record are theirs, all other bytes of header and first
-- record are as before, and behind it stand the records of before, the key list and the free record, and none else. END, which the
-- header says, is where the free record ends. What is listed of it are the keys of its objects and trees.
pub record IsClosedWith (f : OpenFile) (links : List Link) (records : CloseRecords) (old file : List ℕ) : Type 0 where
  pub header : (i x : ℕ) → IsKeptByte i → slice_get old i ≡ Some x → slice_get file i ≡ Some x
  pub end_there : Has file 12 (big_bytes 4 (file_end (with_both f records)))
  pub free_there : Has file 16 records.free_fields.bytes
  pub info_there : Has file 37 records.info_fields.bytes
  pub directory_there : Has file (f.nbytes_name + 106) records.dir_fields.bytes
  pub first : List ℕ
  pub now : List ℕ
  pub others : List Link
  pub before : links ≡ RecordAt first_place first ∷ others
  pub long : length now ≡ length first
  pub same : (i x : ℕ) → IsKeptInFirst f.nbytes_name i → slice_get first i ≡ Some x → slice_get now i ≡ Some x
  pub chain : HasChain (RecordAt first_place now ∷ with_record (free_place f records) records.free.bytes.bytes (with_record (list_place f records) records.list.bytes.bytes others)) (with_both f records) file
  pub end : file_end (with_both f records) ≡ free_place f records + record_size records.free
  pub lists : listed_file file ≡ Ok (key_lines f.heads)

-- the host holds such a file
pub record HoldsClosedWith (v : View) (f : OpenFile) (links : List Link) (records : CloseRecords) (old : List ℕ) : Type 0 where
  pub file : List ℕ
  pub holds : v.holds ≡ Some file
  pub written : IsClosedWith f links records old file

-- in an open file the record of the directory, which has 60 bytes, stands in front of END
abbrev pub DirectoryInFront : Type 0
DirectoryInFront = (links : List Link) (segments : List Segment) (file : List ℕ) (nbytes_name : ℕ) → HasChain links segments file → HasOpenHead file nbytes_name
    → nbytes_name + 160 ≤ file_end segments

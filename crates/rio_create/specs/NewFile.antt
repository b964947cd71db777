-- A new file: its header, its first record, which holds the directory's, and the zero word at END.
use Rattle.std.specs.Prelude.{◌≡◌, ℕ, ◌+◌, ◌<◌, ◌≤◌, ◌^◌, List, [], ◌∷◌, ◌++◌, length, codes, None}
use Rattle.byteorder.specs.Endian.{big_bytes}
use Rattle.rio_num.specs.Text.{text_bytes}
use Rattle.rio_host.specs.Image.{Has}
use Rattle.rio_head.specs.{Uuid.{uuid_of_file}, Written.{written_dir, written_head}, declared.dir.DirRecord.{DirRecord}, declared.head.FileHead.{FileHead}}
use Rattle.rio_chain.specs.{Chains.{HasChain}, Segments.{Link, RecordAt}, declared.segment.Segment.{Segment, TheVariants.{Record}}}
use Rattle.rio_chain.specs.{Record.{record_bytes}, declared.key_words.KeyWords.{KeyWords}}
use Rattle.rio_machine.specs.{Limits.{head_length}, State.{empty_state}}
use Rattle.rio_state.specs.{Closing.{held_of, kept_in, padded_length}, DirectoryKeys.{AreKeysOf}, KeyedRecords.{first_place, info_key, keyed_records}}
use Rattle.rio_state.specs.{Left.{HasOpenHead, IsLeftAs, IsMarkedOpen, open_end}, Reads.{AreRecordsOf}}

-- ---- the bytes

-- the first record's key
abbrev pub first_words : List ℕ → ℕ → KeyWords
first_words name datime = record { place = first_place; directory = 0; datime = datime; cycle = 1; class = codes "TFile"; name = name; title = [] }

-- the name and the empty title of the file, which stand before the directory record
abbrev pub file_texts : List ℕ → List ℕ
file_texts name = text_bytes name ++ text_bytes []

-- The directory record: what a close writes of it, the 24 bytes from its byte 6 on, is zero.
abbrev pub new_directory : List ℕ → ℕ → DirRecord
new_directory uuid datime = record {
  version = 5;
  created = datime;
  changed = 0;
  nbytes_keys = 0;
  nbytes_name = 0;
  seek_dir = 0;
  seek_parent = 0;
  seek_keys = 0;
  uuid = uuid;
}

abbrev pub first_data : List ℕ → List ℕ → ℕ → List ℕ
first_data name uuid datime = file_texts name ++ written_dir (new_directory uuid datime)

abbrev pub first_record : List ℕ → List ℕ → ℕ → List ℕ
first_record name uuid datime = record_bytes (first_words name datime) (first_data name uuid datime)

-- how long the first record's key and the two texts behind it are
abbrev pub nbytes_name_of : List ℕ → ℕ
nbytes_name_of name = head_length (codes "TFile") name + length (file_texts name)

-- The header: the file is open, and what else a close writes of it is zero.
abbrev pub new_head : ℕ → List ℕ → FileHead
new_head nbytes_name uuid = record {
  version = 60000;
  begin = first_place;
  end = open_end;
  seek_free = 0;
  nbytes_free = 0;
  nfree = 0;
  nbytes_name = nbytes_name;
  units = 4;
  compress = 0;
  seek_info = 0;
  nbytes_info = 0;
  uuid = uuid;
}

-- the file of this name, with this identifier
abbrev pub file_bytes : List ℕ → List ℕ → ℕ → List ℕ
file_bytes name uuid datime = written_head (new_head (nbytes_name_of name) uuid) ++ (first_record name uuid datime ++ big_bytes 4 0)

unfoldable pub new_file : List ℕ → ℕ → List ℕ
new_file name datime = file_bytes name (uuid_of_file name) datime

-- ---- its segments

-- key, texts and directory record, with the zero bytes behind them
abbrev pub first_length : List ℕ → ℕ
first_length name = padded_length (nbytes_name_of name + 60)

abbrev pub first_segments : List ℕ → List Segment
first_segments name = Record first_place (first_length name) ∷ []

-- its one record, with its bytes
abbrev pub first_links : List ℕ → ℕ → List Link
first_links name datime = RecordAt first_place (first_record name (uuid_of_file name) datime) ∷ []

-- ---- what it stands for

-- A file that was made under this name at this time: its bytes are those, whatever stands behind its END. It has one record and
-- an open header, stands for the empty state, and keeps nothing but its first record.
pub record IsNewFile (name : List ℕ) (datime : ℕ) (file : List ℕ) : Type 0 where
  pub bytes : Has file 0 (new_file name datime)
  pub links : List Link
  pub links_are : links ≡ first_links name datime
  pub chain : HasChain links (first_segments name) file
  pub head : HasOpenHead file (nbytes_name_of name)
  pub marked : IsMarkedOpen file
  pub directory : Has file (first_place + nbytes_name_of name) (written_dir (new_directory (uuid_of_file name) datime))
  pub records : AreRecordsOf (keyed_records links) empty_state
  pub keys : AreKeysOf (keyed_records links) []
  pub info : info_key (keyed_records links) ≡ None
  pub name_is : (kept_in links).name ≡ name
  pub count : (kept_in links).count ≡ 1
  pub held : held_of links ≤ 10000
  pub left : IsLeftAs empty_state file

-- bytes that begin with those of a new file are one
abbrev pub NewFilesAreRead : Type 0
NewFilesAreRead = (name : List ℕ) (datime : ℕ) (file : List ℕ) → length name ≤ 200 → datime < 2 ^ 32 → Has file 0 (new_file name datime) → IsNewFile name datime file

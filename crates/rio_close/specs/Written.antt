-- What a close writes: the key list, the free record, and fields of the header and of the directory record.
use Rattle.std.specs.{Prelude.{◌≡◌, ℕ, ◌+◌, ◌≤◌, List, [], ◌++◌, length, codes, Option, Some, None}, Int.{w32, cast_unsigned}}
use Rattle.byteorder.specs.Endian.{big_bytes}
use Rattle.rio_key.specs.declared.head.KeyHead.{KeyHead}
use Rattle.rio_free.specs.Record.{free_bytes}
use Rattle.rio_dir.specs.Table.{key_list_bytes}
use Rattle.rio_chain.specs.{Adjoining.{AreSegments}, Placing.{file_end, gaps_in, place_of, with_segment}, declared.segment.Segment.{Segment}}
use Rattle.rio_chain.specs.{Record.{FitsWords, new_key, record_bytes}, declared.record.NewRecord.{NewRecord}, declared.key_words.KeyWords.{KeyWords}}
use Rattle.rio_state.specs.{Closing.{end_limit}, KeyedRecords.{first_place}}
use Rattle.rio_close.specs.declared.parts.CloseRecords.{CloseRecords}

-- What is kept beside a file that is open, as far as its close writes of it, and the time of the close.
pub record OpenFile : Type 0 where
  pub segments : List Segment
  -- the keys of objects and trees, in the order of the key list
  pub heads : List KeyHead
  -- the key of the class list that counts
  pub info : Option KeyHead
  -- the file's name, and what its header says how long key and texts of the first record are
  pub name : List ℕ
  pub nbytes_name : ℕ
  pub datime : ℕ

-- ---- the two records

-- what the keys of key list and free record say
abbrev pub own_words : ℕ → ℕ → List ℕ → KeyWords
own_words place datime name =
    record { place = place; directory = first_place; datime = datime; cycle = 1; class = codes "TFile"; name = name; title = [] }

-- the record with these words and data, ready to be put
pub record IsOwnRecord (words : KeyWords) (contents : List ℕ) (r : NewRecord) : Type 0 where
  pub fits : FitsWords words (length contents)
  pub head : r.head ≡ new_key words (length contents)
  pub bytes : r.bytes.bytes ≡ record_bytes words contents
  pub spare : 4 ≤ r.bytes.spare

abbrev pub record_size : NewRecord → ℕ
record_size r = length r.bytes.bytes

-- the key list is put where the rule says, and the free record to END behind it
abbrev pub list_place : OpenFile → CloseRecords → ℕ
list_place f records = place_of f.segments (record_size records.list)

abbrev pub with_list : OpenFile → CloseRecords → List Segment
with_list f records = with_segment (list_place f records) (record_size records.list) f.segments

abbrev pub free_place : OpenFile → CloseRecords → ℕ
free_place f records = file_end (with_list f records)

abbrev pub with_both : OpenFile → CloseRecords → List Segment
with_both f records = with_segment (free_place f records) (record_size records.free) (with_list f records)

-- segments with the two records where their keys say
abbrev pub with_records : CloseRecords → List Segment → List Segment
with_records records segments =
    with_segment records.free.head.seek (record_size records.free) (with_segment records.list.head.seek (record_size records.list) segments)

-- ---- the fields

-- place and length of the free record, and how many entries it has
abbrev pub free_field_bytes : ℕ → ℕ → ℕ → List ℕ
free_field_bytes place n count = big_bytes 4 place ++ (big_bytes 4 n ++ big_bytes 4 count)

-- place and length of the class list, and 0 where there is none
abbrev pub info_field_bytes : Option KeyHead → List ℕ
info_field_bytes None = big_bytes 4 0 ++ big_bytes 4 0
info_field_bytes (Some head) = big_bytes 4 head.seek ++ big_bytes 4 (cast_unsigned w32 head.nbytes)

-- when the directory was changed, the length of its key list, what the header says of its record's front, the place of its
-- record, that of the directory that it is in, of which there is none, and the place of the key list
abbrev pub dir_field_bytes : ℕ → ℕ → ℕ → ℕ → List ℕ
dir_field_bytes changed n nbytes_name place =
    big_bytes 4 changed ++ (big_bytes 4 n ++ (big_bytes 4 nbytes_name ++ (big_bytes 4 first_place ++ (big_bytes 4 0 ++ big_bytes 4 place))))

-- ---- all of it

-- These are the records and fields of a close: the key list has the heads, the free record tells gaps and END as they are behind
-- both, and the fields say where the two and the class list are. END stays within its limit.
pub record AreCloseRecords (f : OpenFile) (records : CloseRecords) : Type 0 where
  pub shape : AreSegments f.segments
  pub list : IsOwnRecord (own_words (list_place f records) f.datime f.name) (key_list_bytes f.heads) records.list
  pub free : IsOwnRecord (own_words (free_place f records) f.datime f.name) (free_bytes (gaps_in (with_both f records)) (file_end (with_both f records))) records.free
  pub low : file_end (with_both f records) ≤ end_limit
  pub free_fields : records.free_fields.bytes ≡ free_field_bytes (free_place f records) (record_size records.free) (length (gaps_in (with_both f records)) + 1)
  pub info_fields : records.info_fields.bytes ≡ info_field_bytes f.info
  pub dir_fields : records.dir_fields.bytes ≡ dir_field_bytes f.datime (record_size records.list) f.nbytes_name (list_place f records)
  pub nbytes_name : records.nbytes_name ≡ f.nbytes_name

-- the same, of these segments and of anything else
abbrev pub AreForSegments : List Segment → CloseRecords → Type 0
AreForSegments segments records = (f : OpenFile) × (f.segments ≡ segments) × AreCloseRecords f records

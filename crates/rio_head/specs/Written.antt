-- The one way in which a header and a directory record are written.
use Rattle.std.specs.Prelude.{◌≡◌, ℕ, ◌^◌, ◌<◌, List, ◌++◌, replicate, codes, Ok, if◌then◌else◌}
use Rattle.byteorder.specs.Endian.{big_bytes}
use Rattle.rio_head.specs.{Form.{place_len, is_large_head, is_large_dir}, Head.{head_at, head_bytes, IsHead}, Dir.{dir_at, dir_bytes, IsDir}}
use Rattle.rio_head.specs.{declared.head.FileHead.{FileHead}, declared.dir.DirRecord.{DirRecord}}

-- the fields of a header before its units, and those from there on
abbrev pub front_bytes : FileHead → List ℕ
front_bytes h =
    let n = place_len (is_large_head h.version) in
    codes "root" ++ (big_bytes 4 h.version ++ (big_bytes 4 h.begin ++ (big_bytes n h.end ++ (big_bytes n h.seek_free ++ (big_bytes 4 h.nbytes_free ++ (big_bytes 4 h.nfree ++ big_bytes 4 h.nbytes_name))))))

abbrev pub back_bytes : FileHead → List ℕ
back_bytes h = big_bytes 1 h.units ++ (big_bytes 4 h.compress ++ (big_bytes (place_len (is_large_head h.version)) h.seek_info ++ (big_bytes 4 h.nbytes_info ++ h.uuid)))

-- a header, and zero bytes up to 100, where the first record begins
abbrev pub written_head : FileHead → List ℕ
written_head h = head_bytes h ++ replicate (if is_large_head h.version then 25 else 37) 0

-- a directory record, and in the small form twelve reserved bytes
abbrev pub written_dir : DirRecord → List ℕ
written_dir d = dir_bytes d ++ replicate (if is_large_dir d.version then 0 else 12) 0

-- the places fit the form of the header
pub record FitsHead (h : FileHead) : Type 0 where
  pub end : h.end < 256 ^ place_len (is_large_head h.version)
  pub seek_free : h.seek_free < 256 ^ place_len (is_large_head h.version)
  pub seek_info : h.seek_info < 256 ^ place_len (is_large_head h.version)

-- the places fit the form of the directory record
pub record FitsDir (d : DirRecord) : Type 0 where
  pub seek_dir : d.seek_dir < 256 ^ place_len (is_large_dir d.version)
  pub seek_parent : d.seek_parent < 256 ^ place_len (is_large_dir d.version)
  pub seek_keys : d.seek_keys < 256 ^ place_len (is_large_dir d.version)

-- what is written of a header is read as it, whatever follows
abbrev pub WrittenHeadIsRead : Type 0
WrittenHeadIsRead = (h : FileHead) (rest : List ℕ) → IsHead h → head_at (written_head h ++ rest) ≡ Ok h

-- what is written of a directory record is read as it, whatever follows
abbrev pub WrittenDirIsRead : Type 0
WrittenDirIsRead = (d : DirRecord) (place : ℕ) (rest : List ℕ) → IsDir d → dir_at (record { place = place; rest = written_dir d ++ rest }) ≡ Ok d

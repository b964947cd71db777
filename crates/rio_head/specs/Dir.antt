-- The record of a directory. Its layout stands here once; the meanings of descriptions say how it is read and broken.
use Rattle.std.specs.Prelude.{◌≡◌, ℕ, ◌^◌, ◌<◌, List, ◌++◌, length, Result}
use Rattle.byteorder.specs.Endian.{big_bytes}
use Rattle.rio_num.specs.{At.{At}, Layout.{done, number, bytes, ◌>>=◌}, Meanings.{read, Breaks}, Plain.{Plain, plain, value_of}, Reading.{short}}
use Rattle.rio_num.specs.declared.cursor.Short.{Short}
use Rattle.rio_head.specs.{Form.{place_len, is_large_dir}, declared.dir.DirRecord.{DirRecord}}

-- the fields, up to the UUID
unfoldable pub dir_layout : Plain Short DirRecord
dir_layout = do
  version ← number short 2
  created ← number short 4
  changed ← number short 4
  nbytes_keys ← number short 4
  nbytes_name ← number short 4
  seek_dir ← number short (place_len (is_large_dir version))
  seek_parent ← number short (place_len (is_large_dir version))
  seek_keys ← number short (place_len (is_large_dir version))
  uuid ← bytes short 18
  done (record { version = version; created = created; changed = changed; nbytes_keys = nbytes_keys; nbytes_name = nbytes_name; seek_dir = seek_dir; seek_parent = seek_parent; seek_keys = seek_keys; uuid = uuid })

-- the directory record there, or the first field that isn't whole
abbrev pub dir_at : At → Result DirRecord Short
dir_at s = value_of (read dir_layout (plain s))

-- the bytes there begin with no directory record: this field is the first that isn't whole
unfoldable pub BreaksDir : At → Short → Type 0
BreaksDir s fault = Breaks dir_layout s.place tt s.rest fault

-- the bytes of a directory record, up to its UUID
abbrev pub dir_bytes : DirRecord → List ℕ
dir_bytes d =
    let n = place_len (is_large_dir d.version) in
    big_bytes 2 d.version ++ (big_bytes 4 d.created ++ (big_bytes 4 d.changed ++ (big_bytes 4 d.nbytes_keys ++ (big_bytes 4 d.nbytes_name ++ (big_bytes n d.seek_dir ++ (big_bytes n d.seek_parent ++ (big_bytes n d.seek_keys ++ d.uuid)))))))

-- each value within its field
pub record IsDir (d : DirRecord) : Type 0 where
  pub version : d.version < 2 ^ 16
  pub created : d.created < 2 ^ 32
  pub changed : d.changed < 2 ^ 32
  pub nbytes_keys : d.nbytes_keys < 2 ^ 32
  pub nbytes_name : d.nbytes_name < 2 ^ 32
  pub seek_dir : d.seek_dir < 256 ^ place_len (is_large_dir d.version)
  pub seek_parent : d.seek_parent < 256 ^ place_len (is_large_dir d.version)
  pub seek_keys : d.seek_keys < 256 ^ place_len (is_large_dir d.version)
  pub uuid : length d.uuid ≡ 18

-- the bytes begin with those of the directory record
pub record BeginsAsDir (d : DirRecord) (bytes : List ℕ) : Type 0 where
  pub is_dir : IsDir d
  pub rest : List ℕ
  pub spelled : bytes ≡ dir_bytes d ++ rest

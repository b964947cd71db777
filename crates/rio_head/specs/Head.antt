-- The header of a file. Each rule stands here once; the meanings of descriptions say how it is read and broken.
use Rattle.std.specs.Prelude.{◌≡◌, ◌==◌, ℕ, ◌^◌, ◌<◌, Bool, List, ◌++◌, length, codes, Result, if◌then◌else◌}
use Rattle.byteorder.specs.Endian.{big_bytes}
use Rattle.rio_num.specs.{At.{At}, Layout.{done, number, bytes, must, ◌>>=◌}, Meanings.{read, Breaks}, Plain.{Plain, plain, value_of}}
use Rattle.rio_head.specs.{Form.{place_len, is_large_head}, declared.head.FileHead.{FileHead}, declared.fault.HeadFault.{HeadFault}}
use Rattle.rio_head.specs.declared.fault.FileFault.{FileFault, TheVariants.{NotRoot, Short, BadBegin, BadUnits, NotClosed, BadDir, BadKeyList, Compressed, BadInfo}}

abbrev pub fault_at : ℕ → FileFault → HeadFault
fault_at place kind = record { place = place; kind = kind }

-- the kinds of fault that a header can have
abbrev pub IsHeaderKind : FileFault → Type 0
IsHeaderKind NotRoot = Unit {0}
IsHeaderKind Short = Unit {0}
IsHeaderKind BadBegin = Unit {0}
IsHeaderKind BadUnits = Unit {0}
IsHeaderKind NotClosed = ⊥
IsHeaderKind BadDir = ⊥
IsHeaderKind BadKeyList = ⊥
IsHeaderKind Compressed = ⊥
IsHeaderKind BadInfo = ⊥

-- a field that isn't whole
abbrev pub short_head : ℕ → ℕ → HeadFault
short_head place wanted = fault_at place Short

-- the four bytes `root`, as a number
abbrev pub root_number : ℕ
root_number = 0x726F_6F74

-- where the field stands that says how long places are
abbrev pub units_place_of : Bool → ℕ
units_place_of is_large = if is_large then 40 else 32

-- the fields behind the place of the first record: the header of this version
unfoldable pub behind_layout : ℕ → Plain HeadFault FileHead
behind_layout version = do
  end ← number short_head (place_len (is_large_head version))
  seek_free ← number short_head (place_len (is_large_head version))
  nbytes_free ← number short_head 4
  nfree ← number short_head 4
  nbytes_name ← number short_head 4
  units ← number short_head 1
  _ ← must (units == place_len (is_large_head version)) (fault_at (units_place_of (is_large_head version)) BadUnits)
  compress ← number short_head 4
  seek_info ← number short_head (place_len (is_large_head version))
  nbytes_info ← number short_head 4
  uuid ← bytes short_head 18
  done (record { version = version; begin = 100; end = end; seek_free = seek_free; nbytes_free = nbytes_free; nfree = nfree; nbytes_name = nbytes_name; units = units; compress = compress; seek_info = seek_info; nbytes_info = nbytes_info; uuid = uuid })

unfoldable pub header_layout : Plain HeadFault FileHead
header_layout = do
  root ← number short_head 4
  _ ← must (root == root_number) (fault_at 0 NotRoot)
  version ← number short_head 4
  begin ← number short_head 4
  _ ← must (begin == 100) (fault_at 8 BadBegin)
  behind_layout version

-- the header there, or the first fault
abbrev pub header_at : At → Result FileHead HeadFault
header_at s = value_of (read header_layout (plain s))

-- the header of a file of these bytes
abbrev pub head_at : List ℕ → Result FileHead HeadFault
head_at file = header_at (record { place = 0; rest = file })

-- the bytes begin with no header: what stands before is right, and this is the first fault
unfoldable pub BreaksHead : List ℕ → HeadFault → Type 0
BreaksHead file fault = Breaks header_layout 0 tt file fault

-- the bytes of a header, up to its UUID
abbrev pub head_bytes : FileHead → List ℕ
head_bytes h =
    let n = place_len (is_large_head h.version) in
    codes "root" ++ (big_bytes 4 h.version ++ (big_bytes 4 h.begin ++ (big_bytes n h.end ++ (big_bytes n h.seek_free ++ (big_bytes 4 h.nbytes_free ++ (big_bytes 4 h.nfree ++ (big_bytes 4 h.nbytes_name ++ (big_bytes 1 h.units ++ (big_bytes 4 h.compress ++ (big_bytes n h.seek_info ++ (big_bytes 4 h.nbytes_info ++ h.uuid)))))))))))

-- the values that a header may have, each within its field
pub record IsHead (h : FileHead) : Type 0 where
  pub version : h.version < 2 ^ 32
  pub begin : h.begin ≡ 100
  pub end : h.end < 256 ^ place_len (is_large_head h.version)
  pub seek_free : h.seek_free < 256 ^ place_len (is_large_head h.version)
  pub nbytes_free : h.nbytes_free < 2 ^ 32
  pub nfree : h.nfree < 2 ^ 32
  pub nbytes_name : h.nbytes_name < 2 ^ 32
  pub units : h.units ≡ place_len (is_large_head h.version)
  pub compress : h.compress < 2 ^ 32
  pub seek_info : h.seek_info < 256 ^ place_len (is_large_head h.version)
  pub nbytes_info : h.nbytes_info < 2 ^ 32
  pub uuid : length h.uuid ≡ 18

-- the bytes begin with those of the header
pub record BeginsAsHead (h : FileHead) (bytes : List ℕ) : Type 0 where
  pub is_head : IsHead h
  pub rest : List ℕ
  pub spelled : bytes ≡ head_bytes h ++ rest

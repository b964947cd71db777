-- What holds of every header and every directory record.
use Rattle.std.specs.Prelude.{◌≡◌, ℕ, List, take}
use Rattle.rio_head.specs.{Head.{head_at, BeginsAsHead}, Dir.{dir_at, BeginsAsDir}, declared.head.FileHead.{FileHead}, declared.dir.DirRecord.{DirRecord}}

-- the first 100 bytes give the header, or its first fault, that all give
abbrev pub HeadInFront : Type 0
HeadInFront = (bytes : List ℕ) → head_at (take 100 bytes) ≡ head_at bytes

-- the first 60 bytes give the directory record, or its first fault, that all give
abbrev pub DirInFront : Type 0
DirInFront = (place : ℕ) (bytes : List ℕ) → dir_at (record { place = place; rest = take 60 bytes }) ≡ dir_at (record { place = place; rest = bytes })

-- some bytes begin with one header
abbrev pub OneHead : Type 0
OneHead = (a b : FileHead) (bytes : List ℕ) → BeginsAsHead a bytes → BeginsAsHead b bytes → a ≡ b

-- some bytes begin with one directory record
abbrev pub OneDir : Type 0
OneDir = (a b : DirRecord) (bytes : List ℕ) → BeginsAsDir a bytes → BeginsAsDir b bytes → a ≡ b

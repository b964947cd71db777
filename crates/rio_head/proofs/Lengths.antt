-- How long headers and directory records are.
use Rattle.std.proofs.Common.{◌≡◌, ℕ, ◌+◌, ◌≤◌, Bool, true, false, List, ◌++◌, length, replicate, codes, if◌then◌else◌, refl, sym, append_assoc, arith}
use Rattle.std.proofs.lemmas.List.{length-append}
use Rattle.byteorder.specs.Endian.{big_bytes}
use Rattle.rio_head.specs.{Form.{place_len, is_large_head, is_large_dir}, Written.{front_bytes, back_bytes, written_dir, written_head}}
use Rattle.rio_head.specs.{declared.head.FileHead.{FileHead}, declared.dir.DirRecord.{DirRecord}}

abbrev front : Bool → FileHead → List ℕ
front is_large h = codes "root" ++ (big_bytes 4 h.version ++ (big_bytes 4 h.begin ++ (big_bytes (place_len is_large) h.end ++ (big_bytes (place_len is_large) h.seek_free ++ (big_bytes 4 h.nbytes_free ++ (big_bytes 4 h.nfree ++ big_bytes 4 h.nbytes_name))))))

abbrev back : Bool → FileHead → List ℕ
back is_large h = big_bytes 1 h.units ++ (big_bytes 4 h.compress ++ (big_bytes (place_len is_large) h.seek_info ++ (big_bytes 4 h.nbytes_info ++ h.uuid)))

front_long : (is_large : Bool) (h : FileHead) → length (front is_large h) ≡ 24 + (place_len is_large + place_len is_large)
front_long true h = refl
front_long false h = refl

back_long : (is_large : Bool) (h : FileHead) → length h.uuid ≡ 18 → length (back is_large h) ≡ 27 + place_len is_large
back_long true h long = omega (arith, long)
back_long false h long = omega (arith, long)

abbrev all : Bool → DirRecord → List ℕ
all is_large d = big_bytes 2 d.version ++ (big_bytes 4 d.created ++ (big_bytes 4 d.changed ++ (big_bytes 4 d.nbytes_keys ++ (big_bytes 4 d.nbytes_name ++ (big_bytes (place_len is_large) d.seek_dir ++ (big_bytes (place_len is_large) d.seek_parent ++ (big_bytes (place_len is_large) d.seek_keys ++ (d.uuid ++ replicate (if is_large then 0 else 12) 0))))))))

abbrev pub dir_bytes_all : DirRecord → List ℕ
dir_bytes_all d = all (is_large_dir d.version) d

fields_long : (is_large : Bool) (d : DirRecord) → length d.uuid ≡ 18 → length (all is_large d) ≡ 60
fields_long true d long = omega (arith, long, length-append d.uuid (replicate 0 0))
fields_long false d long = omega (arith, long, length-append d.uuid (replicate 12 0))

head_long : (is_large : Bool) (h : FileHead) → length h.uuid ≡ 18 → length (front is_large h ++ (back is_large h ++ replicate (if is_large then 25 else 37) 0)) ≡ 100
head_long true h long = omega (arith, long, length-append h.uuid (replicate 25 0))
head_long false h long = omega (arith, long, length-append h.uuid (replicate 37 0))

pub place_len-le : (is_large : Bool) → place_len is_large ≤ 8
place_len-le true = omega arith
place_len-le false = omega arith

pub length-front : (h : FileHead) → length (front_bytes h) ≤ 40
length-front h = omega (arith, front_long (is_large_head h.version) h, place_len-le (is_large_head h.version))

pub length-back : (h : FileHead) → length h.uuid ≡ 18 → length (back_bytes h) ≤ 35
length-back h long = omega (arith, back_long (is_large_head h.version) h long, place_len-le (is_large_head h.version))

pub length-dir : (d : DirRecord) → length d.uuid ≡ 18 → 60 ≡ length (dir_bytes_all d)
length-dir d long = sym (fields_long (is_large_dir d.version) d long)

pub length-head : (h : FileHead) → length h.uuid ≡ 18 → 100 ≡ length (front_bytes h ++ (back_bytes h ++ replicate (if is_large_head h.version then 25 else 37) 0))
length-head h long = sym (head_long (is_large_head h.version) h long)

pub head_parts : (h : FileHead) → written_head h ≡ front_bytes h ++ (back_bytes h ++ replicate (if is_large_head h.version then 25 else 37) 0)
head_parts h = simp append_assoc

pub dir_parts : (d : DirRecord) → written_dir d ≡ dir_bytes_all d
dir_parts d = simp append_assoc

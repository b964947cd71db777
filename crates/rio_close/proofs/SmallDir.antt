-- A directory record of the small form is read from its numbers.
use Rattle.std.proofs.Common.{◌≡◌, ℕ, ◌+◌, ◌≤◌, false, List, length, take, drop, Result, Ok, refl, ap, ◌∙◌, arith}
use Rattle.rio_num.specs.{At.{At}, Meanings.{Reading}, Plain.{plain, value_of}, Reading.{number_at, skip}, declared.cursor.Short.{Short}}
use Rattle.rio_num.proofs.{InOrder.{Reads, reads_bytes, reads_done, reads_number}, Plain.{standing}}
use Rattle.rio_head.specs.{Dir.{dir_at, dir_layout}, Form.{is_large_dir, place_len}, declared.dir.DirRecord.{DirRecord}}
use Rattle.rio_close.proofs.Numbers.{HasNumber, bytes_read, number_read}

-- the record's numbers in the file
pub record SmallDir (b : List ℕ) (p : ℕ) (d : DirRecord) : Type 0 where
  pub version : HasNumber 2 b p d.version
  pub created : HasNumber 4 b (p + 2) d.created
  pub changed : HasNumber 4 b (p + 6) d.changed
  pub nbytes_keys : HasNumber 4 b (p + 10) d.nbytes_keys
  pub nbytes_name : HasNumber 4 b (p + 14) d.nbytes_name
  pub seek_dir : HasNumber 4 b (p + 18) d.seek_dir
  pub seek_parent : HasNumber 4 b (p + 22) d.seek_parent
  pub seek_keys : HasNumber 4 b (p + 26) d.seek_keys
  pub long : p + 48 ≤ length b
  pub uuid : take 18 (drop (p + 30) b) ≡ d.uuid
  pub small : is_large_dir d.version ≡ false

module _ (b : List ℕ) (p : ℕ) (d : DirRecord) (s : SmallDir b p d) where
  abbrev spot : ℕ → At
  spot k = standing k (drop k b)

  there : (n m k k' w : ℕ) → n ≡ m → k' ≡ k + m → HasNumber m b k w → number_at n (spot k) ≡ Ok (w, spot k')
  there n m k k' w is next a = number_read n m k k' k k' w b is next next a

  pub dir_read : dir_at (standing p (drop p b)) ≡ Ok d
  unfolding dir_layout
  dir_read =
      let n = place_len (is_large_dir d.version) in
      let four : n ≡ 4 = ap place_len s.small in
      let own = take 18 (drop (p + 30) b) in
      let all : Reads dir_layout (plain (spot p)) (record d { uuid = own }) (plain (skip 18 (spot (p + 30)))) =
      reads_number d.version (spot (p + 2)) (there 2 2 p (p + 2) d.version refl (omega arith) s.version)
      (reads_number d.created (spot (p + 6)) (there 4 4 (p + 2) (p + 6) d.created refl (omega arith) s.created)
      (reads_number d.changed (spot (p + 10)) (there 4 4 (p + 6) (p + 10) d.changed refl (omega arith) s.changed)
      (reads_number d.nbytes_keys (spot (p + 14)) (there 4 4 (p + 10) (p + 14) d.nbytes_keys refl (omega arith) s.nbytes_keys)
      (reads_number d.nbytes_name (spot (p + 18)) (there 4 4 (p + 14) (p + 18) d.nbytes_name refl (omega arith) s.nbytes_name)
      (reads_number d.seek_dir (spot (p + 22)) (there n 4 (p + 18) (p + 22) d.seek_dir four (omega arith) s.seek_dir)
      (reads_number d.seek_parent (spot (p + 26)) (there n 4 (p + 22) (p + 26) d.seek_parent four (omega arith) s.seek_parent)
      (reads_number d.seek_keys (spot (p + 30)) (there n 4 (p + 26) (p + 30) d.seek_keys four (omega arith) s.seek_keys)
      (reads_bytes own (skip 18 (spot (p + 30))) (bytes_read 18 (p + 30) (p + 30) b (omega (arith, s.long))) (reads_done _ _))))))))) in
      ap (λ (r : Reading (Unit {0}) Short DirRecord). value_of r) all.so ∙ ap (λ (u : List ℕ). let r : Result DirRecord Short = Ok (record d { uuid = u }) in r) s.uuid

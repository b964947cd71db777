-- What spells a directory record is read as it, and what is read as a directory record spells it.
use Rattle.std.proofs.{Common.{◌≡◌, ℕ, ◌+◌, List, ◌++◌, length, Result, Ok, Err, refl, sym, ap, subst, ◌∙◌}, lemmas.List.{append-nil}}
use Rattle.std.specs.Prelude.{IfErr, IfOk}
use Rattle.rio_num.specs.{At.{At, AreBytes, end_place}, Meanings.{Reading}, Plain.{value_of}, declared.cursor.Short.{Short}}
use Rattle.rio_num.proofs.{Apart.{bytes_of, number_of}, Intro.{IsSo, bytes_then, done_is, number_then, so_by}}
use Rattle.rio_num.proofs.Plain.{spelled_again, standing, value_broken, value_found}
use Rattle.rio_head.specs.{Dir.{BeginsAsDir, BreaksDir, IsDir, dir_at, dir_bytes, dir_layout}, declared.dir.DirRecord.{DirRecord}}

dir_spelled : (end p : ℕ) (d : DirRecord) → IsDir d → IsSo dir_layout end p tt d (dir_bytes d) tt
unfolding dir_layout
dir_spelled end p d is =
    so_by
    (number_then d.version is.version (number_then d.created is.created (number_then d.changed is.changed
    (number_then d.nbytes_keys is.nbytes_keys (number_then d.nbytes_name is.nbytes_name
    (number_then d.seek_dir is.seek_dir (number_then d.seek_parent is.seek_parent (number_then d.seek_keys is.seek_keys
    (bytes_then d.uuid is.uuid done_is)))))))))
    refl
    (simp append-nil)
    refl

-- a directory record, and its bytes
record IsWritten (d : DirRecord) (bytes : List ℕ) : Type 0 where
  is_dir : IsDir d
  own : bytes ≡ dir_bytes d

dir_apart : (end p : ℕ) (d : DirRecord) (bytes : List ℕ) → IsSo dir_layout end p tt d bytes tt → IsWritten d bytes
unfolding dir_layout
dir_apart end p d bytes c =
    number_of c (λ version r1 f1 e1 c1.
    number_of c1 (λ created r2 f2 e2 c2.
    number_of c2 (λ changed r3 f3 e3 c3.
    number_of c3 (λ nbytes_keys r4 f4 e4 c4.
    number_of c4 (λ nbytes_name r5 f5 e5 c5.
    number_of c5 (λ seek_dir r6 f6 e6 c6.
    number_of c6 (λ seek_parent r7 f7 e7 c7.
    number_of c7 (λ seek_keys r8 f8 e8 c8.
    bytes_of c8 (λ uuid r9 long e9 c9.
    let made : DirRecord = record { version = version; created = created; changed = changed; nbytes_keys = nbytes_keys; nbytes_name = nbytes_name; seek_dir = seek_dir; seek_parent = seek_parent; seek_keys = seek_keys; uuid = uuid } in
    let written : IsWritten made bytes = record {
      is_dir = record { version = f1; created = f2; changed = f3; nbytes_keys = f4; nbytes_name = f5; seek_dir = f6; seek_parent = f7; seek_keys = f8; uuid = long };
      own = rw (e1, e2, e3, e4, e5, e6, e7, e8, e9, c9.so.1) (simp append-nil);
    } in
    subst (λ (k : DirRecord). IsWritten k bytes) (sym c9.so.0) written)))))))))

pub dir_found : (s : At) (y : DirRecord) → AreBytes s.rest → dir_at s ≡ Ok y → BeginsAsDir y s.rest
dir_found s y fits e =
    let f = value_found dir_layout s y fits e in
    let a = dir_apart (end_place s) s.place y f.front f.spelled in
    record { is_dir = a.is_dir; rest = f.rest; spelled = f.parts ∙ ap (λ (b : List ℕ). b ++ f.rest) a.own }

pub dir_only : (d : DirRecord) (p : ℕ) (bytes : List ℕ) → BeginsAsDir d bytes → dir_at (standing p bytes) ≡ Ok d
dir_only d p bytes c =
    let again = spelled_again dir_layout d (dir_bytes d) p c.rest (λ q. (dir_spelled (q + length (dir_bytes d)) q d c.is_dir).so) in
    ap (λ (b : List ℕ). dir_at (standing p b)) c.spelled ∙ ap (λ (r : Reading (Unit {0}) Short DirRecord). value_of r) again

-- ---- what a reader returned

pub dir_is_found : (place : ℕ) (bytes : List ℕ) (r : Result DirRecord Short) → AreBytes bytes → r ≡ dir_at (standing place bytes) → IfOk r (λ d. BeginsAsDir d bytes)
dir_is_found place bytes (Ok d) fits e = dir_found (standing place bytes) d fits (sym e)
dir_is_found place bytes (Err d) fits e = tt

pub dir_is_broken : (place : ℕ) (bytes : List ℕ) (r : Result DirRecord Short) → AreBytes bytes → r ≡ dir_at (standing place bytes) → IfErr r (λ d. BreaksDir (standing place bytes) d)
unfolding BreaksDir
dir_is_broken place bytes (Ok d) fits e = tt
dir_is_broken place bytes (Err d) fits e = value_broken dir_layout (standing place bytes) d fits (sym e)

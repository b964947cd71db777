-- What is read of the front of a file's header, or of its directory record, is read of the file.
use Rattle.std.proofs.Common.{◌≡◌, ℕ, ◌<◌, ◌≤◌, true, false, cond, ltb, List, length, take, drop, Result, Ok, Err, refl, sym, ap, ◌∙◌}
use Rattle.std.proofs.lemmas.Bool.{le-ltb, lt-ltb}
use Rattle.rio_num.specs.{Reading.{◌>>=◌}, declared.cursor.Short.{Short}}
use Rattle.rio_num.proofs.Plain.{standing}
use Rattle.rio_head.specs.{declared.head.FileHead.{FileHead}, declared.dir.DirRecord.{DirRecord}, declared.fault.FileFault.TheVariants.{NotClosed, BadDir}}
use Rattle.rio_head.specs.{declared.fault.HeadFault.{HeadFault}, Head.{fault_at, head_at}, Dir.{dir_at}}
use Rattle.rio_head.proofs.{HeadCut.{head_in_front}, DirCut.{dir_in_front_lem}}
use Rattle.rio_dir.specs.Closed.{closed_head, closed_dir, or_fault}

abbrev Headed : Type 0
Headed = Result FileHead HeadFault

abbrev tested : List ℕ → Headed → Headed
tested file read = read >>= λ head. cond (ltb (length file) head.end) (Err (fault_at 12 NotClosed)) (Ok head)

module _ (file front : List ℕ) (is : front ≡ take 100 file) where
  whole_head : (read : Headed) → read ≡ head_at front → head_at file ≡ read
  whole_head read e = sym (head_in_front file) ∙ ap head_at (sym is) ∙ sym e

  pub head_fails : (e : HeadFault) → Err e ≡ head_at front → closed_head file ≡ Err e
  unfolding closed_head
  head_fails e read = ap (tested file) (whole_head (Err e) read)

  pub head_late : (h : FileHead) → Ok h ≡ head_at front → length file < h.end → closed_head file ≡ Err (fault_at 12 NotClosed)
  unfolding closed_head
  head_late h read lt = let late : ltb (length file) h.end ≡ true = lt-ltb _ _ lt in ap (tested file) (whole_head (Ok h) read) ∙ rw late refl

  pub head_whole : (h : FileHead) → Ok h ≡ head_at front → h.end ≤ length file → closed_head file ≡ Ok h
  unfolding closed_head
  head_whole h read le = let within : ltb (length file) h.end ≡ false = le-ltb _ _ le in ap (tested file) (whole_head (Ok h) read) ∙ rw within refl

module _ (file : List ℕ) (place : ℕ) (front : List ℕ) (is : front ≡ take 60 (drop place file)) where
  pub dir_same : (read : Result DirRecord Short) → read ≡ dir_at (record { place = place; rest = front }) → closed_dir file place ≡ or_fault (fault_at place BadDir) read
  dir_same read e = ap (or_fault (fault_at place BadDir)) (sym (dir_in_front_lem place (drop place file)) ∙ ap (λ (b : List ℕ). dir_at (standing place b)) (sym is) ∙ sym e)

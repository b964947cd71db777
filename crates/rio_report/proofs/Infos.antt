-- The class list in the bytes of its record.
use Rattle.std.proofs.Common.{◌≡◌, ℕ, ◌+◌, false, Bool, cond, List, drop, Ok, Err, sym, ap, ◌∙◌}
use Rattle.rio_num.specs.Reading.{◌>>=◌}
use Rattle.rio_num.proofs.Plain.{standing}
use Rattle.rio_key.specs.{declared.head.KeyHead.{KeyHead}, Key.{is_compressed, key_at}}
use Rattle.rio_head.specs.{declared.fault.FileFault.TheVariants.{BadInfo, Compressed}, Head.{fault_at}}
use Rattle.rio_format.specs.ClassList.{class_list_at}
use Rattle.rio_dir.specs.Closed.{or_fault}
use Rattle.rio_report.specs.Described.{classes_in}
use Rattle.rio_close.proofs.Records.{Keyed}
use Rattle.rio_report.specs.Described.{info_in}

-- where its key is read and says that it isn't compressed
pub info_read : (place : ℕ) (bytes : List ℕ) (h : KeyHead) → key_at (standing place bytes) ≡ Ok h → is_compressed h ≡ false → info_in place bytes ≡ or_fault (fault_at place BadInfo) (class_list_at h.keylen (drop h.keylen bytes))
unfolding info_in
info_read place bytes h is plain =
    ap (λ (k : Keyed). or_fault (fault_at place BadInfo) k >>= λ key. classes_in place key (standing (place + key.keylen) (drop key.keylen bytes))) is
    ∙ ap (λ (b : Bool). cond b (Err (fault_at place Compressed)) (or_fault (fault_at place BadInfo) (class_list_at h.keylen (drop h.keylen bytes)))) plain

-- read at the same place of the same bytes
pub same_list : (k l : ℕ) (a b : List ℕ) → l ≡ k → b ≡ a → class_list_at k a ≡ class_list_at l b
same_list k l a b place bytes = ap (λ (n : ℕ). class_list_at n a) (sym place) ∙ ap (λ (r : List ℕ). class_list_at l r) (sym bytes)

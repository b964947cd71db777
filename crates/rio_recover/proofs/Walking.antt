-- A file that is walked: its header, and the keys of its records.
use Rattle.std.proofs.Common.{◌≡◌, ◌∙◌, ◌↔◌, Bool, true, false, ℕ, ◌<◌, ◌≤◌, min, List, [], ◌∷◌, length, length-take, take, Some, Ok, Err, sym, ap, arith}
use Rattle.std.proofs.{lemmas.Bool.{le-leb, lt-leb}, lemmas.List.Elements.{All-cons, All-nil, All-head, All-tail}}
use Rattle.std.specs.{Prelude.{IsTrue}, List.{All}}
use Rattle.rio_host.specs.{Host.{View}, Image.{Has}}
use Rattle.rio_head.proofs.HeadCut.{head_in_front}
use Rattle.rio_head.specs.{Head.{head_at}, declared.head.FileHead.{FileHead}, declared.reason.Reason.TheVariants.{LargeForm}}
use Rattle.rio_chain.specs.{Walks.{TellsFirstBreak}}
use Rattle.rio_chain.specs.declared.fault.WalkFault.{WalkFault, TheVariants.{NoChain, NoMemory as WalkMemory, HostFault as WalkDisk}}
use Rattle.rio_chain.proofs.Words.{has_own, has_same}
use Rattle.rio_state.specs.{KeyedRecords.{KeyedRecord}, Reasons.{IsReasonOfMade, reason_at}}
use Rattle.rio_recover.specs.{Causes.{fault_of_walk}, Keys.{StandsIn, record_end, record_heads}, Walked.{IsSmallHead, JudgesWalk}}
use Rattle.rio_recover.proofs.{Answering.{reason_broken, reason_large}, LinkRecords.{end_of_record}}

-- ---- the header

-- it is read from the front of a file
pub head_of_front : (file front : List ℕ) → length front ≡ min (length file) 100 → Has file 0 front → head_at front ≡ head_at file
head_of_front file front long has =
    let same : front ≡ take 100 file = has_same file 0 front (take 100 file) (omega (arith, long, length-take 100 file)) has (has_own file 0 100) in
    ap head_at same ∙ head_in_front file

-- by what the reader saw
pub head_by_front : (file front seen : List ℕ) → length front ≡ min (length file) 100 → Has file 0 front → seen ≡ front → head_at seen ≡ head_at file
head_by_front file front seen long has is = ap head_at is ∙ head_of_front file front long has

pub large_by_front : (file seen : List ℕ) (head : FileHead) → head_at seen ≡ head_at file → Ok head ≡ head_at seen → 1000000 ≤ head.version → IsReasonOfMade file (Some (reason_at 4 LargeForm))
large_by_front file seen head same is large = reason_large file head (sym same ∙ sym is) (le-leb 1000000 head.version large)

pub small_by_front : (file seen : List ℕ) (head : FileHead) → head_at seen ≡ head_at file → Ok head ≡ head_at seen → head.version < 1000000 → IsSmallHead file head
small_by_front file seen head same is small = record { head_is = sym same ∙ sym is; small = lt-leb 1000000 head.version small }

-- ---- the walk

pub walk_judged : (v : View) (e : WalkFault) (file : List ℕ) (head : FileHead) → v.holds ≡ Some file → IsSmallHead file head → TellsFirstBreak v e → JudgesWalk (Err (fault_of_walk e)) file
walk_judged v (NoChain place) file head told small breaks = reason_broken file head place small (breaks file told)
walk_judged v WalkMemory file head told small breaks = tt
walk_judged v WalkDisk file head told small breaks = tt

-- a test that fails
pub not_so : {P : Type 0} (b : Bool) → IsTrue b ↔ P → b ≡ false → P → ⊥
not_so b is fails p = let t : IsTrue b = is.1 p in let f : true ≡ false = sym t ∙ fails in cc

-- the records of these keys are within the file
pub heads_within : (file : List ℕ) (records : List KeyedRecord) → All (StandsIn file) records → All (λ head. record_end head ≤ length file) (record_heads records)
heads_within file [] all = All-nil (λ head. record_end head ≤ length file)
heads_within file (r ∷ records) all =
    All-cons (λ head. record_end head ≤ length file) r.head (record_heads records) (end_of_record file r (All-head (StandsIn file) r records all))
    (heads_within file records (All-tail (StandsIn file) r records all))
